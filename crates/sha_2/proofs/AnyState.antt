-- What the code does to a state is `updated` and `finished`; and from a state that holds m they make one that holds the joined bytes, and the hash.
-- Assumes nothing.
use Rattle.std.proofs.Common.{◌≡◌, ℕ, ◌+◌, ◌-◌, ◌*◌, ◌/◌, ◌%◌, ◌^◌, ◌<◌, ◌≤◌, Bool, true, false, cond, ltb, List, [], ◌++◌, length, take, drop}
use Rattle.std.proofs.Common.{sym, refl, ap, ◌∙◌, subst, ap₂, le_refl, mod-eq_of_lt, arith, length-drop, length-take-le, ltb-false, ltb-true, le-ltb, lt-ltb}
use Rattle.std.proofs.Math.Nat.{mod-lt, mod-add-mod, add-mod_right, div-add-mod', div_self}
use Rattle.std.proofs.lemmas.List.{length-replicate}
use lib.Seq.{paste, take-length, length-paste}
use Rattle.octets.proofs.Paste.{part_all}
use Rattle.sha_2.specs.Sha2.{Sha2, block_size, hash_blocks, padding, hash}
use Rattle.sha_2.specs.Running.{State, Holds, nothing_taken, waiting, room, within, beyond, updated, ended, finished}
use Rattle.sha_2.proofs.Padding.{last_whole}
use Rattle.sha_2.proofs.Streaming.{length_part, holds_start, holds_within, holds_beyond, holds_end}

-- ---- by the way that the code takes

same_state : {h h' b b' : List ℕ} {c c' : ℕ} → h ≡ h' → b ≡ b' → c ≡ c'
    → ◌≡◌ {A = State} (record { hash = h; buffer = b; count = c }) (record { hash = h'; buffer = b'; count = c' })
same_state eh eb ec = λ i. record { hash = eh i; buffer = eb i; count = ec i }

module _ (p : Sha2) where
  abbrev B : ℕ
  B = block_size p

  module _ (s : State) (x : List ℕ) {count' : ℕ} (ec : count' ≡ (s.count + length x) % 2 ^ 64) where
    pub updated-within : {buffer' hs' : List ℕ} → length x < room p s → hs' ≡ s.hash → buffer' ≡ paste s.buffer (waiting p s) x (length x)
        → ◌≡◌ {A = State} (record { hash = hs'; buffer = buffer'; count = count' }) (updated p s x)
    unfolding updated within
    updated-within short eh eb =
        same_state eh eb ec ∙ sym (ap (λ (b : Bool). cond b (within p s x) (beyond p s x)) (lt-ltb (length x) (room p s) short))

    -- the code lends a part from n on as `take (length x - n) (drop n x)`
    pub updated-beyond : {buffer₁ buffer₂ hs₁ hs₂ : List ℕ}
        → let x₁ : List ℕ = take (room p s) x in
        let x₂ : List ℕ = take (length x - room p s) (drop (room p s) x) in
        let x₃ : List ℕ = take (length x₂ - length x₂ / B * B) (drop (length x₂ / B * B) x₂) in
        0 < B → length s.buffer ≡ B → room p s ≤ length x
        → buffer₁ ≡ paste s.buffer (waiting p s) x₁ (length x₁)
        → hs₁ ≡ hash_blocks p s.hash (length buffer₁ / B) buffer₁ → hs₂ ≡ hash_blocks p hs₁ (length x₂ / B) x₂
        → buffer₂ ≡ paste buffer₁ 0 x₃ (length x₃)
        → ◌≡◌ {A = State} (record { hash = hs₂; buffer = buffer₂; count = count' }) (updated p s x)
    unfolding updated beyond
    updated-beyond {buffer₁} {buffer₂} {hs₁} {hs₂} pos size fills eb₁ eh₁ eh₂ eb₂ =
        let x₁ : List ℕ = take (room p s) x in
        let r = mod-lt s.count pos in
        let l₁ : length x₁ ≡ room p s = length-take-le (room p s) x fills in
        let lb₁ : length buffer₁ ≡ B =
        ap length eb₁ ∙ length-paste s.buffer (waiting p s) x₁ (length x₁) (omega (arith, size, l₁, r)) (le_refl (length x₁)) ∙ size in
        let x₂ : List ℕ = take (length x - room p s) (drop (room p s) x) in
        let rest : List ℕ = drop (room p s) x in
        let block : List ℕ = paste s.buffer (waiting p s) (take (room p s) x) (length (take (room p s) x)) in
        let d₂ : x₂ ≡ rest = part_all x (room p s) in
        let d₃ = part_all x₂ (length x₂ / B * B) ∙ ap (λ (l : List ℕ). drop (length l / B * B) l) d₂ in
        let h₁ : hs₁ ≡ hash_blocks p s.hash 1 block =
        eh₁ ∙ ap₂ (λ (k : ℕ) (l : List ℕ). hash_blocks p s.hash k l) (ap (λ (k : ℕ). k / B) lb₁ ∙ div_self pos) eb₁ in
        let h₂ = eh₂ ∙ ap₂ (λ (v l : List ℕ). hash_blocks p v (length l / B) l) h₁ d₂ in
        let b₂ = eb₂ ∙ ap₂ (λ (b l : List ℕ). paste b 0 l (length l)) eb₁ d₃ in
        same_state h₂ b₂ ec ∙ sym (ap (λ (b : Bool). cond b (within p s x) (beyond p s x)) (le-ltb (length x) (room p s) fills))

  -- ---- of a state that holds a message

  -- it holds the bytes m
  abbrev pub StateHolds : State → List ℕ → Type 0
  StateHolds s m = Holds p s.count s.buffer s.hash m

  pub nothing_holds : StateHolds (nothing_taken p) []
  unfolding nothing_taken
  nothing_holds = holds_start p _ p.initial (length-replicate (block_size p) 0) refl

  module _ (pos : 0 < B) (wraps : (c : ℕ) → c % 2 ^ 64 % B ≡ c % B) where
    -- the count goes on within the block, or beyond it
    counts_within : (count k : ℕ) → k < B - count % B → (count + k) % 2 ^ 64 % B ≡ count % B + k
    counts_within count k h = wraps (count + k) ∙ sym (mod-add-mod count B k) ∙ mod-eq_of_lt (omega arith)

    counts_beyond : (count k : ℕ) → B - count % B ≤ k → (count + k) % 2 ^ 64 % B ≡ (k - (B - count % B)) % B
    counts_beyond count k h =
        let r = mod-lt count pos in
        let e : count % B + k ≡ (k - (B - count % B)) + B = omega arith in
        wraps (count + k) ∙ sym (mod-add-mod count B k) ∙ ap (λ (i : ℕ). i % B) e ∙ add-mod_right (k - (B - count % B)) B

    -- what x leaves of itself fits into the buffer
    left_over : (k : ℕ) → 0 + (k - k / B * B) ≤ B
    left_over k = let d = div-add-mod' k B in let l = mod-lt k pos in omega arith

    module _ (s : State) (m x : List ℕ) (h : StateHolds s m) where
      held : (b : Bool) → ltb (length x) (room p s) ≡ b → StateHolds (updated p s x) (m ++ x)
      held true e =
          let short = ltb-true (length x) (room p s) e in
          let n = waiting p s in
          let size : length (paste s.buffer n x (length x)) ≡ B =
          length-paste s.buffer n x (length x) (omega (arith, h.room, short)) (le_refl (length x)) ∙ h.room in
          subst (λ (t : State). StateHolds t (m ++ x)) (updated-within s x refl short refl refl)
          (holds_within p x refl (counts_within s.count (length x) short) (omega (arith, short)) refl size h)
      held false e =
          let fills = ltb-false (length x) (room p s) e in
          let n = waiting p s in
          let x₁ : List ℕ = take (room p s) x in
          let x₂ : List ℕ = take (length x - room p s) (drop (room p s) x) in
          let w : ℕ = length x₂ / B * B in
          let x₃ : List ℕ = take (length x₂ - w) (drop w x₂) in
          let b₁ : List ℕ = paste s.buffer n x₁ (length x₁) in
          let l₁ : length x₁ ≡ room p s = length-take-le (room p s) x fills in
          let l₃ : length x₃ ≡ length x₂ - w = ap length (part_all x₂ w) ∙ length-drop w x₂ in
          let lt : n < B = mod-lt s.count pos in
          let size₁ : length b₁ ≡ B = length-paste s.buffer n x₁ (length x₁) (omega (arith, h.room, l₁)) (le_refl (length x₁)) ∙ h.room in
          let size₂ : length (paste b₁ 0 x₃ (length x₃)) ≡ B =
          length-paste b₁ 0 x₃ (length x₃) (omega (arith, size₁, l₃, left_over (length x₂))) (le_refl (length x₃)) ∙ size₁ in
          subst (λ (t : State). StateHolds t (m ++ x)) (updated-beyond s x refl pos h.room fills refl refl refl refl)
          (holds_beyond p x pos refl (counts_beyond s.count (length x) fills) fills refl size₁ refl refl refl size₂ h)

      -- it takes in a piece
      pub updated_holds : StateHolds (updated p s x) (m ++ x)
      updated_holds = held (ltb (length x) (room p s)) refl

    -- and it ends
    pub finished_is : (s : State) (m : List ℕ) → StateHolds s m → padding p s.count ≡ padding p (length m) → finished p s ≡ hash p m
    unfolding finished ended
    finished_is s m h e =
        let part : List ℕ = take (waiting p s) s.buffer in
        let end : List ℕ = part ++ padding p s.count in
        holds_end p end (length end) pos e (take-length end) (le_refl (length end))
        (last_whole p part s.count pos (length_part p s.count s.buffer pos h.room))
        (ap (λ (y : List ℕ). hash_blocks p s.hash (length y / B) y) (sym (take-length end))) refl h
