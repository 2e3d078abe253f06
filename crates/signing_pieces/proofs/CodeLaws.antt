-- What the calls hand back and leave, by the way that the code takes.
-- Assumes nothing.
use mathlib.Core.Path.{◌≡◌, refl, sym, ap, ap₂, ◌∙◌}
use mathlib.Core.Bool.{Bool, true, false, cond, not, ◌&&◌, ◌||◌}
use mathlib.Core.List.{List}
use Prim.Native.Nat.{ℕ, ◌+◌, ◌-◌, ◌≤◌, ◌<◌}
use native.Mathlib.Omega.{arith}
use borrow.Author.Tests.{eq-eqb, ne_eqb, lt-ltb, le-ltb, leb-true, not-true, not-false}
use lib.Dec.{eqb, ltb, leb}
use lib.ListN.{length, take, drop}
use lib.Seq.{paste}
use Rattle.octets.specs.Numbers.{bytes_at}
use Rattle.octets.specs.Same.{same_bytes}
use Rattle.octets.proofs.BoolLaws.{and_true}
use Rattle.aes.specs.BlockCipher.{block_cipher, expanded_key}
use Rattle.cmac.specs.declared.Mac.{Mac}
use Rattle.cmac.specs.Running.{nothing_taken, updated}
use Rattle.protocol.specs.Bytes.{Bytes}
use Rattle.protocol.specs.Connection.{longest_message}
use Rattle.protocol.specs.InnerHeader.{is_inner_header}
use Rattle.protocol.specs.Signing.{is_signed, signature_field}
use Rattle.signing_pieces.specs.declared.SignState.{SignState}
use Rattle.signing_pieces.specs.declared.SignStep.{SignStep}
use Rattle.signing_pieces.specs.Running.{takes, covered, no_message, begun_under, after, into_header, filling_header, behind_header, in_header, joined_by}
use Rattle.signing_pieces.specs.Running.{joined_else, signature_from, compared_number, step_with}
use Rattle.signing_pieces.specs.Clauses.{begin_step, piece_step, sign_number, sign_place, verify_number}

-- ---- a begin

module _ (key : Bytes) where
  abbrev begun_if : Bool → SignStep
  begun_if fits = cond fits (step_with (begun_under key) 0) (step_with no_message 40)

  pub begin_refused : {s : SignState} {r : SignStep} → (length key ≡ 16 → ⊥) → s ≡ no_message → r ≡ step_with s 40 → r ≡ begin_step key
  unfolding begin_step
  begin_refused h es er = er ∙ ap (λ (x : SignState). step_with x 40) es ∙ sym (ap begun_if (ne_eqb (length key) 16 h))

  abbrev fresh : List ℕ → SignState → SignState
  fresh own s = record { key = own; header = s.header; code = s.code; length = s.length; begun = 1 }

  pub begin_done : {own : List ℕ} {none : SignState} {r : SignStep} → length key ≡ 16 → own ≡ key → none ≡ no_message → r ≡ step_with (fresh own none) 0
      → r ≡ begin_step key
  unfolding begin_step begun_under no_message
  begin_done l eo en er = er ∙ ap₂ (λ (own : List ℕ) (s : SignState). step_with (fresh own s) 0) eo en ∙ sym (ap begun_if (eq-eqb (length key) 16 l))

-- ---- a piece

same_code : {keys keys' : List (List ℕ)} {m m' : Mac} {x x' : List ℕ} → keys ≡ keys' → m ≡ m' → x ≡ x'
    → updated (block_cipher keys) m x ≡ updated (block_cipher keys') m' x'
same_code ek em ex = λ i. updated (block_cipher (ek i)) (em i) (ex i)

module _ (s : SignState) (p : Bytes) where
  abbrev in_header_if : Bool → SignState
  in_header_if b = cond b (into_header s p) (filling_header s p)

  pub into_short : {header : List ℕ} → length p < 64 - s.length → header ≡ paste s.header s.length p (length p)
      → after s p header s.code ≡ in_header s p
  unfolding into_header
  into_short l e = ap (λ (h : List ℕ). after s p h s.code) e ∙ sym (ap in_header_if (lt-ltb (length p) (64 - s.length) l))

  pub into_whole : {header signed rest : List ℕ} {keys : List (List ℕ)} {m₀ m₁ m₂ : Mac} → 64 - s.length ≤ length p
      → header ≡ paste s.header s.length (take (64 - s.length) p) (length (take (64 - s.length) p))
      → keys ≡ expanded_key s.key → signed ≡ covered header → rest ≡ drop (64 - s.length) p
      → m₀ ≡ nothing_taken → m₁ ≡ updated (block_cipher keys) m₀ signed → m₂ ≡ updated (block_cipher keys) m₁ rest
      → after s p header m₂ ≡ in_header s p
  unfolding filling_header
  into_whole l eh ek es er e₀ e₁ e₂ =
      let c₁ = e₁ ∙ same_code ek e₀ (es ∙ ap covered eh) in
      let c₂ = e₂ ∙ same_code ek c₁ er in
      ap₂ (after s p) eh c₂ ∙ sym (ap in_header_if (le-ltb (length p) (64 - s.length) l))

  pub behind_is : {keys : List (List ℕ)} {mac : Mac} → keys ≡ expanded_key s.key → mac ≡ updated (block_cipher keys) s.code p
      → after s p s.header mac ≡ behind_header s p
  unfolding behind_header
  behind_is ek em = ap (after s p s.header) (em ∙ same_code ek refl refl)

  abbrev joined_if : Bool → SignState
  joined_if b = cond b (in_header s p) (behind_header s p)

  abbrev taken_if : Bool → SignStep
  taken_if b = cond b (step_with (joined_by s p) 0) (step_with s 3)

  -- what the code tests
  module _ (fits : Bool) (e : fits ≡ leb (s.length + length p) longest_message) where
    tested : (b : Bool) → (not (eqb s.begun 0) && fits) ≡ b → takes s (length p) ≡ b
    tested b t = ap (λ (x : Bool). not (eqb s.begun 0) && x) (sym e) ∙ t

    pub refuses : {r : SignStep} → not (not (eqb s.begun 0) && fits) ≡ true → r ≡ step_with s 3 → r ≡ piece_step s p
    unfolding piece_step
    refuses t er = er ∙ sym (ap taken_if (tested false (not-true (not (eqb s.begun 0) && fits) t)))

    module _ (t : not (not (eqb s.begun 0) && fits) ≡ false) where
      goes_in : takes s (length p) ≡ true
      goes_in = tested true (not-false (not (eqb s.begun 0) && fits) t)

      pub inside : s.length + length p ≤ longest_message
      inside = leb-true (s.length + length p) longest_message (and_true (not (eqb s.begun 0)) (leb (s.length + length p) longest_message) goes_in).1

      taken : {x : SignState} {r : SignStep} → x ≡ joined_by s p → r ≡ step_with x 0 → r ≡ piece_step s p
      unfolding piece_step
      taken ex er = er ∙ ap (λ (y : SignState). step_with y 0) ex ∙ sym (ap taken_if goes_in)

      pub taken_in : {x : SignState} {r : SignStep} → s.length < 64 → x ≡ in_header s p → r ≡ step_with x 0 → r ≡ piece_step s p
      unfolding joined_by
      taken_in l ex er = taken (ex ∙ sym (ap joined_if (lt-ltb s.length 64 l))) er

      pub taken_behind : {x : SignState} {r : SignStep} → 64 ≤ s.length → x ≡ behind_header s p → r ≡ step_with x 0 → r ≡ piece_step s p
      unfolding joined_by
      taken_behind l ex er = taken (ex ∙ sym (ap joined_if (le-ltb s.length 64 l))) er

-- ---- a finish

module _ (s : SignState) (place : Bytes) where
  abbrev place_if : Bool → Bytes
  place_if b = cond b (signature_from s) place

  pub place_bad : not (eqb (length place) 16) ≡ true → 40 ≡ sign_number s place
  unfolding sign_number
  place_bad e = sym (ap (λ (b : Bool). cond b 40 (joined_else s 0)) e)

  pub number_is : {n : ℕ} → not (eqb (length place) 16) ≡ false → n ≡ joined_else s 0 → n ≡ sign_number s place
  unfolding sign_number
  number_is e en = en ∙ sym (ap (λ (b : Bool). cond b 40 (joined_else s 0)) e)

  pub place_stays : {n : ℕ} → n ≡ sign_number s place → (n ≡ 0 → ⊥) → place ≡ sign_place s place
  unfolding sign_place
  place_stays e d = sym (ap place_if (ne_eqb (sign_number s place) 0 (λ z. d (e ∙ z))))

  pub place_filled : {place' : Bytes} → 0 ≡ sign_number s place → place' ≡ signature_from s → place' ≡ sign_place s place
  unfolding sign_place
  place_filled e ep = ep ∙ sym (ap place_if (eq-eqb (sign_number s place) 0 (sym e)))

-- 11 and 12 were answered, or not
else_stays : (a b : Bool) (n k : ℕ) → n ≡ cond a 11 (cond b 12 0) → (n ≡ 0 → ⊥) → n ≡ cond a 11 (cond b 12 k)
else_stays true b n k e d = e
else_stays false true n k e d = e
else_stays false false n k e d = absurd (d e)

else_passes : (a b : Bool) (n k : ℕ) → n ≡ cond a 11 (cond b 12 0) → n ≡ 0 → k ≡ cond a 11 (cond b 12 k)
else_passes true b n k e z = absurd (omega (arith, e, z))
else_passes false true n k e z = absurd (omega (arith, e, z))
else_passes false false n k e z = refl

module _ (s : SignState) where
  pub verify_stays : {n : ℕ} → n ≡ joined_else s 0 → (n ≡ 0 → ⊥) → n ≡ verify_number s
  unfolding verify_number
  verify_stays {n} e d = else_stays (eqb s.begun 0 || ltb s.length 64) (not (is_inner_header s.header 0)) n (compared_number s) e d

  pub verify_goes-on : {n r : ℕ} → n ≡ joined_else s 0 → n ≡ 0 → r ≡ compared_number s → r ≡ verify_number s
  unfolding verify_number
  verify_goes-on {n} e z er = er ∙ else_passes (eqb s.begun 0 || ltb s.length 64) (not (is_inner_header s.header 0)) n (compared_number s) e z

  abbrev compared_if : Bool → ℕ
  compared_if b = cond (not b) 24 (cond (not (same_bytes (signature_field s.header) (signature_from s))) 25 0)

  pub flag_missing : is_signed s.header ≡ false → 24 ≡ compared_number s
  unfolding compared_number
  flag_missing e = sym (ap compared_if e)

  pub compared_by : {field code : Bytes} {same : Bool} {r : ℕ} → is_signed s.header ≡ true → field ≡ bytes_at 48 16 s.header → code ≡ signature_from s
      → same ≡ same_bytes field code → r ≡ cond (not same) 25 0 → r ≡ compared_number s
  unfolding compared_number
  compared_by e ef ec es er = er ∙ ap (λ (b : Bool). cond (not b) 25 0) (es ∙ ap₂ same_bytes ef ec) ∙ sym (ap compared_if e)
