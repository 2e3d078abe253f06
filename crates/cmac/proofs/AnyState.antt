-- What the code does to a state is `updated` and `finished`; and from a state that holds m they make one that holds the joined bytes, and the code.
use mathlib.Core.Path.{◌≡◌, refl, sym, ap, ap₂, subst, ◌∙◌}
use mathlib.Core.Bool.{Bool, true, false, cond}
use mathlib.Core.List.{List, ◌++◌}
use Prim.Native.Nat.{ℕ, ◌+◌, ◌-◌, ◌*◌, ◌/◌, ◌≤◌, ◌<◌}
use native.Mathlib.Nat.{le_refl}
use native.Mathlib.Omega.{arith}
use borrow.Author.Tests.{leb-true, leb-false, le-leb, lt-leb}
use lib.Dec.{leb}
use lib.ListN.{length, take, drop, length-drop, take-append-drop}
use lib.Seq.{paste, length-paste, length-take-le}
use Rattle.octets.specs.Blocks.{block_count}
use Rattle.octets.proofs.Paste.{part_all}
use Rattle.cbc_mac.specs.CbcMac.{cbc_mac}
use Rattle.cmac.specs.Cmac.{blocks_before, last_block, cmac}
use Rattle.cmac.specs.declared.Mac.{Mac}
use Rattle.cmac.specs.Running.{waiting, room, within, beyond, updated, finished, Holds}
use Rattle.cmac.proofs.Streaming.{chain-front, recounted, running_within, running_beyond, running_end}

same_state : {c c' b b' : List ℕ} {f f' : ℕ} → c ≡ c' → b ≡ b' → f ≡ f'
    → ◌≡◌ {A = Mac} (record { chain = c; buffer = b; filled = f }) (record { chain = c'; buffer = b'; filled = f' })
same_state ec eb ef = λ i. record { chain = ec i; buffer = eb i; filled = ef i }

module _ (E : List ℕ → List ℕ) (s : Mac) where
  -- ---- by the way that the code takes, where n bytes wait

  module _ (x : List ℕ) where
    abbrev updated_if : Bool → Mac
    updated_if b = cond b (within s x) (beyond E s x)

    abbrev Within : ℕ → Type 0
    Within n = (buffer' : List ℕ) → length x ≤ 16 - n → buffer' ≡ paste s.buffer n x (length x)
        → ◌≡◌ {A = Mac} (record { chain = s.chain; buffer = buffer'; filled = n + length x }) (updated E s x)

    within_now : Within (waiting s)
    unfolding updated within
    within_now buffer' fits eb = same_state refl eb refl ∙ sym (ap updated_if (le-leb (length x) (room s) fits))

    pub updated-within : (n : ℕ) → n ≡ waiting s → Within n
    updated-within n e = subst Within (sym e) within_now

    -- the code lends a part from n on as `take (length x - n) (drop n x)`
    abbrev Beyond : ℕ → Type 0
    Beyond n =
        let x₁ : List ℕ = take (16 - n) x in
        let x₂ : List ℕ = take (length x - (16 - n)) (drop (16 - n) x) in
        let w : ℕ = (length x₂ - 1) / 16 * 16 in
        let x₃ : List ℕ = take (length x₂ - w) (drop w x₂) in
        (buffer₁ buffer₂ first next : List ℕ) → 16 - n < length x → length buffer₁ ≡ 16
        → buffer₁ ≡ paste s.buffer n x₁ (length x₁)
        → first ≡ cbc_mac E s.chain buffer₁ (block_count (length buffer₁))
        → next ≡ cbc_mac E first (take w x₂) (block_count (length (take w x₂)))
        → buffer₂ ≡ paste buffer₁ 0 x₃ (length x₃)
        → ◌≡◌ {A = Mac} (record { chain = next; buffer = buffer₂; filled = length x₂ - w }) (updated E s x)

    -- whole blocks
    blocks-of : (k q : ℕ) → k ≡ q * 16 → block_count k ≡ q
    blocks-of k q e = omega arith

    before : (k : ℕ) → (k - 1) / 16 * 16 ≤ k
    before k = omega arith

    beyond_now : Beyond (waiting s)
    unfolding updated beyond
    beyond_now buffer₁ buffer₂ first next passes size e₁ ef en e₂ =
        let x₁ : List ℕ = take (room s) x in
        let block : List ℕ = paste s.buffer (waiting s) x₁ (length x₁) in
        let x₂ : List ℕ = take (length x - room s) (drop (room s) x) in
        let rest : List ℕ = drop (room s) x in
        let q : ℕ = blocks_before (length x₂) in
        let w : ℕ = q * 16 in
        let y : List ℕ = take w x₂ in
        let d₂ : x₂ ≡ rest = part_all x (room s) in
        let ly : length y ≡ w = length-take-le w x₂ (before (length x₂)) in
        let ly' : length y ≡ 16 * q = omega (arith, ly) in
        let d₃ : take (length x₂ - w) (drop w x₂) ≡ drop (blocks_before (length rest) * 16) rest =
        part_all x₂ w ∙ ap (λ (l : List ℕ). drop (blocks_before (length l) * 16) l) d₂ in
        let c₁ : first ≡ cbc_mac E s.chain block 1 =
        ef ∙ ap (λ (k : ℕ). cbc_mac E s.chain buffer₁ (block_count k)) size ∙ ap (λ (l : List ℕ). cbc_mac E s.chain l 1) e₁ in
        let c₂ : next ≡ cbc_mac E (cbc_mac E s.chain block 1) rest (blocks_before (length rest)) =
        en
        ∙ ap₂ (λ (v : List ℕ) (k : ℕ). cbc_mac E v y k) c₁ (blocks-of (length y) q ly)
        ∙ sym (chain-front E (cbc_mac E s.chain block 1) y (drop w x₂) q ly')
        ∙ ap (λ (l : List ℕ). cbc_mac E (cbc_mac E s.chain block 1) l q) (take-append-drop w x₂)
        ∙ ap (λ (l : List ℕ). cbc_mac E (cbc_mac E s.chain block 1) l (blocks_before (length l))) d₂ in
        let b₂ = e₂ ∙ ap₂ (λ (b l : List ℕ). paste b 0 l (length l)) e₁ d₃ in
        let f₂ : length x₂ - w ≡ length (drop (blocks_before (length rest) * 16) rest) = sym (length-drop w x₂) ∙ ap length (sym (part_all x₂ w) ∙ d₃) in
        same_state c₂ b₂ f₂ ∙ sym (ap updated_if (lt-leb (length x) (room s) passes))

    pub updated-beyond : (n : ℕ) → n ≡ waiting s → Beyond n
    updated-beyond n e = subst Beyond (sym e) beyond_now

  pub finished_by : (n : ℕ) → n ≡ waiting s → {last r : List ℕ} → last ≡ last_block E (take n s.buffer) → length last ≡ 16
      → r ≡ cbc_mac E s.chain last (block_count (length last)) → r ≡ finished E s
  unfolding finished
  finished_by n e {last} {r} el size er =
      er
      ∙ ap (λ (k : ℕ). cbc_mac E s.chain last (block_count k)) size
      ∙ ap (λ (l : List ℕ). cbc_mac E s.chain l 1) (el ∙ ap (λ (k : ℕ). last_block E (take k s.buffer)) e)

-- ---- of a state that holds a message

module _ (E : List ℕ → List ℕ) (s : Mac) (m x : List ℕ) (h : Holds s E m) where
  held : (b : Bool) → leb (length x) (room s) ≡ b → Holds (updated E s x) E (m ++ x)
  held true e =
      let fits = leb-true (length x) (room s) e in
      subst (λ (t : Mac). Holds t E (m ++ x)) (updated-within E s x (waiting s) refl _ fits refl)
      (running_within E (recounted E (waiting s) refl h) x (omega (arith, fits)) _ refl)
  held false e =
      let passes = leb-false (length x) (room s) e in
      let x₁ : List ℕ = take (room s) x in
      let h' = recounted E (waiting s) refl h in
      let l₁ : length x₁ ≡ room s = length-take-le (room s) x (omega (arith, passes)) in
      let size : length (paste s.buffer (waiting s) x₁ (length x₁)) ≡ 16 =
      length-paste s.buffer (waiting s) x₁ (length x₁) (omega (arith, h.room, l₁)) (le_refl (length x₁)) ∙ h.room in
      subst (λ (t : Mac). Holds t E (m ++ x)) (updated-beyond E s x (waiting s) refl _ _ _ _ passes size refl refl refl refl)
      (running_beyond E h' x (omega (arith, passes)) refl refl refl refl)

  -- it takes in a piece
  pub updated_holds : Holds (updated E s x) E (m ++ x)
  updated_holds = held (leb (length x) (room s)) refl

-- the same of what the code hands back
pub takes_in : {E : List ℕ → List ℕ} (s : Mac) (x : List ℕ) {s' : Mac} {m : List ℕ} → s' ≡ updated E s x → Holds s E m → Holds s' E (m ++ x)
takes_in {E} s x {s'} {m} e h = subst (λ (t : Mac). Holds t E (m ++ x)) (sym e) (updated_holds E s m x h)

-- and it ends
pub finished_is : (E : List ℕ → List ℕ) (s : Mac) (m : List ℕ) → Holds s E m → finished E s ≡ cmac E m
unfolding finished
finished_is E s m h = running_end E (recounted E (waiting s) refl h) _ refl

pub ends_with : {E : List ℕ → List ℕ} (s : Mac) {m r : List ℕ} → r ≡ finished E s → Holds s E m → r ≡ cmac E m
ends_with {E} s {m} e h = e ∙ finished_is E s m h
