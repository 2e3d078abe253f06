-- What the code stores behind the last bytes of a message is the padding.
-- Assumes nothing.
use mathlib.Core.Path.{◌≡◌, refl, sym, ap, ap₂, ◌∙◌}
use mathlib.Core.Logic.{◌⊎◌, inl, inr}
use Rattle.std.proofs.Common.{Bool, true, false, ltb, ltb-true, ltb-false}
use mathlib.Core.List.{List, ◌∷◌, ◌++◌, append_assoc}
use Prim.Native.Nat.{ℕ, suc, ◌+◌, ◌-◌, ◌*◌, ◌%◌, ◌≤◌, ◌<◌}
use native.Mathlib.Nat.{le_refl, le_of_eq, zero-add, add_assoc, mod-lt, mod_self, mod-add-mod, add-mod_right, mod-eq_of_lt, eq-or-lt_of_le}
use native.Mathlib.Omega.{arith}
use lib.ListN.{length, take, drop, set, replicate, length-append, length-replicate, replicate-append-replicate}
use lib.Seq.{set_at, paste, take-paste, take-length, take_all, take-append-add}
use Rattle.octets.specs.Numbers.{to_big_endian}
use Rattle.octets.proofs.NumberLaws.{length-to_big_endian}
use Rattle.octets.proofs.Paste.{take-replicate, drop-replicate, paste_all}
use Rattle.sha_2.specs.Sha2.{Sha2, block_size, zeros, padding}

-- zeros, of which the first were replaced by all of part
zeros-after : (part : List ℕ) (k : ℕ) → paste (replicate (length part + k) 0) 0 part (length part) ≡ part ++ replicate k 0
zeros-after part k =
    ap₂ (λ (x y : List ℕ). x ++ y) (take-length part)
    (ap (λ (i : ℕ). drop i (replicate (length part + k) 0)) (zero-add (length part)) ∙ drop-replicate (length part) k 0)

module _ (p : Sha2) where
  -- part, then the byte 128, then at the end of the last block the length
  pub padded : {t₁ t₂ t₃ field : List ℕ} {end : ℕ} (part : List ℕ) (size n : ℕ) → end ≡ length part + (1 + zeros p n + 2 * p.bytes) → end ≤ size
      → t₁ ≡ paste (replicate size 0) 0 part (length part)
      → t₂ ≡ set t₁ (length part) 128
      → field ≡ to_big_endian (2 * p.bytes) (8 * n)
      → t₃ ≡ paste t₂ (end - 2 * p.bytes) field (length field)
      → take end t₃ ≡ part ++ padding p n
  unfolding padding
  padded {t₁} {t₂} {t₃} {field} {end} part size n ee he e₁ e₂ ef e₃ =
      let k = length part in
      let z = zeros p n in
      let f = 2 * p.bytes in
      let r = size - k - 1 - z in
      let lf : length field ≡ f = ap length ef ∙ length-to_big_endian f (8 * n) in
      let q₁ : size ≡ k + suc (z + r) = omega arith in
      let q₂ : end - f ≡ k + suc z = omega arith in
      let q₃ : end ≡ end - f + length field = omega arith in
      let g₁ : t₁ ≡ part ++ (0 ∷ replicate (z + r) 0) =
      e₁ ∙ ap (λ (i : ℕ). paste (replicate i 0) 0 part k) q₁ ∙ zeros-after part (suc (z + r)) in
      let g₂ : t₂ ≡ part ++ (128 ∷ replicate (z + r) 0) =
      e₂ ∙ ap (λ (l : List ℕ). set l k 128) g₁ ∙ set_at part 0 (replicate (z + r) 0) 128 k refl in
      let g₃ : take (end - f) t₂ ≡ part ++ (128 ∷ replicate z 0) =
      ap₂ (λ (i : ℕ) (l : List ℕ). take i l) q₂ g₂
      ∙ take-append-add part (128 ∷ replicate (z + r) 0) (suc z)
      ∙ ap (λ (l : List ℕ). part ++ (128 ∷ l)) (take-replicate z r 0) in
      let l₂ : length t₂ ≡ k + suc (z + r) =
      ap length g₂ ∙ length-append part (128 ∷ replicate (z + r) 0) ∙ ap (λ (i : ℕ). k + suc i) (length-replicate (z + r) 0) in
      ap₂ (λ (i : ℕ) (l : List ℕ). take i l) q₃ e₃
      ∙ take-paste t₂ (end - f) field (length field) (omega arith) (le_refl (length field))
      ∙ ap₂ (λ (x y : List ℕ). x ++ y) g₃ (take-length field ∙ ef)
      ∙ append_assoc part (128 ∷ replicate z 0) (to_big_endian f (8 * n))

  -- ---- how many zeros: with the byte 128 and the length, the bytes past the whole blocks fill one block or two

  abbrev B : ℕ
  B = block_size p

  abbrev F : ℕ
  F = 2 * p.bytes

  module _ (n : ℕ) (pos : 0 < B) where
    past : (n + 1 + F) % B ≡ (n % B + 1 + F) % B
    past =
        ap (λ (k : ℕ). k % B) (add_assoc n 1 F) ∙ sym (mod-add-mod n B (1 + F)) ∙ ap (λ (k : ℕ). k % B) (sym (add_assoc (n % B) 1 F))

    pub zeros_one : n % B + 1 + F ≤ B → n % B + (1 + zeros p n + F) ≡ B
    unfolding zeros
    zeros_one h = go (eq-or-lt_of_le h)
      where
        go : (n % B + 1 + F ≡ B) ⊎ (n % B + 1 + F < B) → n % B + (1 + (B - (n + 1 + F) % B) % B + F) ≡ B
        go (inl e) =
            let m : (n + 1 + F) % B ≡ 0 = past ∙ ap (λ (k : ℕ). k % B) e ∙ mod_self B in
            let z : (B - (n + 1 + F) % B) % B ≡ 0 = ap (λ (k : ℕ). (B - k) % B) m ∙ ap (λ (k : ℕ). k % B) (omega arith) ∙ mod_self B in
            omega arith
        go (inr l) =
            let m : (n + 1 + F) % B ≡ n % B + 1 + F = past ∙ mod-eq_of_lt l in
            let z : (B - (n + 1 + F) % B) % B ≡ B - (n % B + 1 + F) =
            ap (λ (k : ℕ). (B - k) % B) m ∙ mod-eq_of_lt (omega arith) in
            omega arith

    pub zeros_two : B < n % B + 1 + F → n % B + (1 + zeros p n + F) ≡ B + B
    unfolding zeros
    zeros_two h =
        let r = mod-lt n pos in
        let e : n % B + 1 + F ≡ (n % B + 1 + F - B) + B = omega arith in
        let m : (n + 1 + F) % B ≡ n % B + 1 + F - B =
        past ∙ ap (λ (k : ℕ). k % B) e ∙ add-mod_right (n % B + 1 + F - B) B ∙ mod-eq_of_lt (omega arith) in
        let z : (B - (n + 1 + F) % B) % B ≡ B - (n % B + 1 + F - B) = ap (λ (k : ℕ). (B - k) % B) m ∙ mod-eq_of_lt (omega arith) in
        omega arith

  length-padding : (n : ℕ) → length (padding p n) ≡ 1 + zeros p n + F
  unfolding padding
  length-padding n =
      let a : List ℕ = 128 ∷ replicate (zeros p n) 0 in
      let b : List ℕ = to_big_endian F (8 * n) in
      let z = length-replicate {A = ℕ} (zeros p n) 0 in
      let sum : length a + length b ≡ 1 + zeros p n + F = omega (arith, z, length-to_big_endian F (8 * n)) in
      length-append a b ∙ sum

  -- so the last blocks are whole
  pub last_whole : (part : List ℕ) (n : ℕ) → 0 < B → length part ≡ n % B → length (part ++ padding p n) % B ≡ 0
  last_whole part n pos e = ap (λ (k : ℕ). k % B) size ∙ go (ltb B (n % B + 1 + F)) refl
    where
      size : length (part ++ padding p n) ≡ n % B + (1 + zeros p n + F)
      size = length-append part (padding p n) ∙ ap₂ ◌+◌ e (length-padding n)

      go : (b : Bool) → ltb B (n % B + 1 + F) ≡ b → (n % B + (1 + zeros p n + F)) % B ≡ 0
      go true h = ap (λ (k : ℕ). k % B) (zeros_two n pos (ltb-true B (n % B + 1 + F) h)) ∙ add-mod_right B B ∙ mod_self B
      go false h = ap (λ (k : ℕ). k % B) (zeros_one n pos (ltb-false B (n % B + 1 + F) h)) ∙ mod_self B

  -- ---- the last blocks, as the code lays them out

  module _ (n : ℕ) (part : List ℕ) (pos : 0 < B) (k : length part ≡ n % B) where
    -- the length fits behind the byte 128
    pub one_block : {t₁ t₂ t₃ field : List ℕ} → n % B + 1 + F ≤ B → t₁ ≡ paste (replicate B 0) 0 part (length part) → t₂ ≡ set t₁ (length part) 128
        → field ≡ to_big_endian F (8 * n) → t₃ ≡ paste t₂ (B - F) field (length field) → length t₃ ≡ B → t₃ ≡ part ++ padding p n
    one_block {t₃ = t₃} h e₁ e₂ ef e₃ l =
        let z = zeros_one n pos h in
        sym (take_all B t₃ (le_of_eq l)) ∙ padded {end = B} part B n (omega (arith, k, z)) (le_refl B) e₁ e₂ ef e₃

    -- it does not, and stands at the end of a second block
    pub two_blocks : {t b₁ b₂ field : List ℕ} → B < n % B + 1 + F → t ≡ paste (replicate B 0) 0 part (length part) → b₁ ≡ set t (length part) 128
        → field ≡ to_big_endian F (8 * n) → b₂ ≡ paste (replicate B 0) (B - F) field (length field) → b₁ ++ b₂ ≡ part ++ padding p n
    unfolding padding
    two_blocks {t} {b₁} {b₂} {field} h e₁ e₂ ef e₃ =
        let room = mod-lt n pos in
        let r = B - length part - 1 in
        let q : B ≡ length part + suc r = omega (arith, k, room) in
        let lf : length field ≡ F = ap length ef ∙ length-to_big_endian F (8 * n) in
        let g₁ : t ≡ part ++ (0 ∷ replicate r 0) = e₁ ∙ ap (λ (i : ℕ). paste (replicate i 0) 0 part (length part)) q ∙ zeros-after part (suc r) in
        let g₂ : b₁ ≡ part ++ (128 ∷ replicate r 0) =
        e₂ ∙ ap (λ (l : List ℕ). set l (length part) 128) g₁ ∙ set_at part 0 (replicate r 0) 128 (length part) refl in
        let s : B ≡ B - F + F = omega arith in
        let g₃ : b₂ ≡ replicate (B - F) 0 ++ field =
        e₃
        ∙ paste_all (replicate B 0) (B - F) field (omega (arith, length-replicate {A = ℕ} B 0, lf))
        ∙ ap (λ (l : List ℕ). l ++ field) (ap (λ (i : ℕ). take (B - F) (replicate i 0)) s ∙ take-replicate (B - F) F 0) in
        let z : r + (B - F) ≡ zeros p n = omega (arith, k, room, zeros_two n pos h) in
        ap₂ (λ (x y : List ℕ). x ++ y) g₂ g₃
        ∙ append_assoc part (128 ∷ replicate r 0) (replicate (B - F) 0 ++ field)
        ∙ ap (λ (l : List ℕ). part ++ l)
        (sym (append_assoc (128 ∷ replicate r 0) (replicate (B - F) 0) field)
        ∙ ap₂ (λ (l f : List ℕ). (128 ∷ l) ++ f) (replicate-append-replicate r (B - F) 0 ∙ ap (λ (i : ℕ). replicate i 0) z) ef)
