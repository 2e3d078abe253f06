-- What signing and verifying answer, and what the message holds then.
-- Assumes nothing.
use mathlib.Core.Path.{◌≡◌, refl, sym, ap, ap₂, ◌∙◌}
use mathlib.Core.Bool.{Bool, true, false, cond, not}
use mathlib.Core.List.{List, [], ◌∷◌, ◌++◌, append_assoc}
use Prim.Native.Nat.{ℕ, ◌≤◌}
use borrow.Author.Tests.{eqb-true, not-false, ltb-false}
use lib.Dec.{eqb, ltb}
use lib.ListN.{length, take, drop, replicate}
use lib.Seq.{paste, take_all}
use native.Mathlib.Nat.{le_of_eq}
use Rattle.octets.specs.Numbers.{bytes_at}
use Rattle.octets.specs.Same.{same_bytes}
use Rattle.protocol.specs.Bytes.{Bytes}
use Rattle.protocol.specs.Answer.{Answer, done, refused, when_done, Test, first_else, first_of}
use Rattle.protocol.specs.Connection.{longest_message}
use Rattle.protocol.specs.InnerHeader.{is_inner_header}
use Rattle.protocol.specs.Refusals.{not_signed, bad_signature}
use Rattle.protocol.specs.Signing.{is_signed, with_signed_flag, with_signature, signature_under, signed_under}
use Rattle.protocol.specs.Calls.{signing_under, verifying_under, only_message, signing_key_tests, sign_tests, verify_tests, tests, effect, answer}
use Rattle.protocol.specs.Contract.{Returns}
use Rattle.protocol.specs.Suite.{suite, cmac}
use Rattle.protocol.proofs.CallLaws.{lines_return, lines_return_done, number-lines}
use Rattle.protocol.proofs.SignedBytes.{stored_is}
use Rattle.protocol.proofs.FirstOf.{first_stays, first-goes-on}
use Rattle.protocol.proofs.Judging.{NoneApplies, passes, line}

-- the copy of the header that the code takes in before the rest: zeros, of which the first 48 were replaced
pub taken_in : (m header rest : Bytes) → length (take 48 m) ≡ 48 → header ≡ paste (replicate 64 0) 0 (take 48 m) (length (take 48 m))
    → rest ≡ drop 64 m → header ++ rest ≡ with_signature (replicate 16 0) m
unfolding with_signature
taken_in m header rest l e er =
    let filled : header ≡ take 48 m ++ replicate 16 0 =
    e ∙ ap (paste (replicate 64 0) 0 (take 48 m)) l ∙ ap (λ (x : Bytes). x ++ replicate 16 0) (take_all 48 (take 48 m) (le_of_eq l)) in
    ap₂ ◌++◌ filled er ∙ append_assoc (take 48 m) (replicate 16 0) (drop 64 m)

-- the lines, from the last
pub first_is : (key m : Bytes) (begins : Bool) (limit n12 n11 n3 n40 : ℕ) → begins ≡ is_inner_header m 0 → limit ≡ longest_message
    → n12 ≡ cond (not begins) 12 0
    → n11 ≡ cond (ltb (length m) 64) 11 n12
    → n3 ≡ cond (ltb limit (length m)) 3 n11
    → n40 ≡ first_else (signing_key_tests key) n3
    → n40 ≡ first_of (sign_tests key m)
first_is key m begins limit n12 n11 n3 n40 eb el e12 e11 e3 e40 =
    let line12 : n12 ≡ cond (not (is_inner_header m 0)) 12 0 = e12 ∙ ap (λ (b : Bool). cond (not b) 12 0) eb in
    let line11 = e11 ∙ ap (cond (ltb (length m) 64) 11) line12 in
    let line3 = e3 ∙ ap₂ (λ (l n : ℕ). cond (ltb l (length m)) 3 n) el line11 in
    e40 ∙ ap (first_else (signing_key_tests key)) line3

-- once the first tests have passed
pub record Passed (key m : Bytes) : Type 0 where
  pub key_fits : length key ≡ 16
  pub long : 64 ≤ length m
  pub none : NoneApplies (sign_tests key m)

module _ (key m : Bytes) (n : ℕ) (says : n ≡ first_of (sign_tests key m)) where
  pub passed : n ≡ 0 → Passed key m
  passed z =
      let none = passes (sign_tests key m) n refl says z in
      record {
        key_fits = eqb-true (length key) 16 (not-false (eqb (length key) 16) (line (sign_tests key m) none 40));
        long = ltb-false (length m) 64 (line (sign_tests key m) none 11);
        none = none;
      }

  -- ---- signing

  pub left_alone : (n ≡ 0 → ⊥) → Returns (signing_under key) (only_message m) n (only_message m)
  unfolding tests
  left_alone h = lines_return (signing_under key) (only_message m) (sign_tests key m) 0 n refl says h

  pub signed : (flagged s after : Bytes) → n ≡ 0 → flagged ≡ with_signed_flag m → s ≡ signature_under cmac key flagged → length s ≡ 16
      → after ≡ paste flagged 48 s (length s)
      → Returns (signing_under key) (only_message m) 0 (only_message after)
  unfolding tests effect signed_under
  signed flagged s after z ef es l ea =
      let stored : after ≡ signed_under cmac key m =
      ea ∙ stored_is s flagged l ∙ ap (λ (x : Bytes). with_signature x flagged) es ∙ ap (λ (f : Bytes). with_signature (signature_under cmac key f) f) ef in
      lines_return_done (signing_under key) (only_message m) (sign_tests key m) 0 0 refl (sym z ∙ says) refl refl (only_message after)
      (ap only_message stored)

  -- ---- verifying

  abbrev right : Bytes
  right = signature_under cmac key m

  -- 24 and 25
  abbrev more : List Test
  more = not_signed m ∷ bad_signature right m ∷ []

  returned : (r : ℕ) → r ≡ first_of (verify_tests key m right) → Returns (verifying_under key) (only_message m) r (only_message m)
  unfolding tests effect
  returned r e =
      record {
        number = e ∙ sym (number-lines (verify_tests key m right) 0);
        leaves = sym (unchanged (answer suite (verifying_under key) (only_message m)));
      }
    where
      unchanged : (a : Answer) → when_done a (λ k. only_message m) (only_message m) ≡ only_message m
      unchanged (done k) = refl
      unchanged (refused k) = refl

  pub refused-first : (n ≡ 0 → ⊥) → Returns (verifying_under key) (only_message m) n (only_message m)
  refused-first h = returned n (first_stays (sign_tests key m) more n says h)

  after_first : (r : ℕ) → n ≡ 0 → (b : Bool) → is_signed m ≡ b → r ≡ cond (not b) 24 (cond (not (same_bytes (bytes_at 48 16 m) right)) 25 0)
      → Returns (verifying_under key) (only_message m) r (only_message m)
  after_first r z b eb e =
      returned r
      (e ∙ ap (λ (x : Bool). cond (not x) 24 (cond (not (same_bytes (bytes_at 48 16 m) right)) 25 0)) (sym eb)
      ∙ sym (first-goes-on (sign_tests key m) more (passed z).none))

  pub not_signed_lem : n ≡ 0 → is_signed m ≡ false → Returns (verifying_under key) (only_message m) 24 (only_message m)
  not_signed_lem z e = after_first 24 z false e refl

  pub compared : (field s : Bytes) (same : Bool) (r : ℕ) → n ≡ 0 → is_signed m ≡ true → field ≡ bytes_at 48 16 m → s ≡ right
      → same ≡ same_bytes field s → r ≡ cond (not same) 25 0
      → Returns (verifying_under key) (only_message m) r (only_message m)
  compared field s same r z e ef es ea er =
      after_first r z true e
      (er ∙ ap (λ (b : Bool). cond (not b) 25 0) (ea ∙ ap₂ same_bytes ef es))
