-- The first twelve bytes of a message, kept as its pieces arrive: head holds those of the j bytes m, and then of m and the piece p.
-- Assumes nothing.
use mathlib.Core.Path.{◌≡◌, refl, sym, ap, ap₂, ◌∙◌}
use mathlib.Core.Bool.{Bool, true, false}
use mathlib.Core.List.{List, [], ◌∷◌, ◌++◌}
use Prim.Native.Nat.{ℕ, zero, suc, ◌+◌, ◌-◌, ◌≤◌, min}
use native.Mathlib.Nat.{le_refl}
use native.Mathlib.Omega.{arith}
use borrow.Author.Tests.{leb-true, leb-false}
use lib.Dec.{leb}
use lib.ListN.{length, take, length-append, length-take}
use lib.Seq.{paste, paste-zero, take_all, take-length, take-paste, length-paste, take-append-le, take-append-add, length-take-le, take-take}
use Rattle.octets.specs.Numbers.{bytes_at, little_endian}
use Rattle.protocol.specs.Bytes.{number_at}
use Rattle.fold_pieces.specs.State.{head_with}

-- the front of p that fits copied behind the first i bytes
abbrev front_at : List ℕ → List ℕ → ℕ → List ℕ
front_at head p i = paste head i (take (12 - i) p) (length (take (12 - i) p))

module _ (head m p : List ℕ) (j : ℕ) (room : length head ≡ 12) (counted : j ≡ length m) (kept : take j head ≡ take 12 m) where
  -- they are there already
  keep_whole : 12 ≤ j → take (j + length p) head ≡ take 12 (m ++ p)
  keep_whole h =
      take_all (j + length p) head (omega arith) ∙ sym (take_all j head (omega arith)) ∙ kept ∙ sym (take-append-le 12 m p (omega arith))

  -- what m and the copied bytes q make of them
  front : (q after : List ℕ) → j + length q ≤ 12 → after ≡ paste head j q (length q) → take (j + length q) after ≡ m ++ q
  front q after h e =
      ap (take (j + length q)) e
      ∙ take-paste head j q (length q) (omega arith) (le_refl (length q))
      ∙ ap₂ (λ (x y : List ℕ). x ++ y) (kept ∙ take_all 12 m (omega arith)) (take-length q)

  -- all of the piece is among them
  keep_less : (after : List ℕ) → j + length p ≤ 12 → after ≡ paste head j p (length p) → take (j + length p) after ≡ take 12 (m ++ p)
  keep_less after h e =
      let l : length (m ++ p) ≡ length m + length p = length-append m p in
      front p after h e ∙ sym (take_all 12 (m ++ p) (omega arith))

  -- only its start is
  keep_part : (q after : List ℕ) → j ≤ 12 → 12 - j ≤ length p → q ≡ take (12 - j) p → after ≡ paste head j q (length q)
      → take (j + length p) after ≡ take 12 (m ++ p)
  keep_part q after h n eq e =
      let lq : length q ≡ 12 - j = ap length eq ∙ length-take-le (12 - j) p n in
      let la : length after ≡ 12 = ap length e ∙ length-paste head j q (length q) (omega arith) (le_refl (length q)) ∙ room in
      let whole : length m + (12 - j) ≡ 12 = omega arith in
      take_all (j + length p) after (omega arith)
      ∙ sym (take_all (j + length q) after (omega arith))
      ∙ front q after (omega arith) e
      ∙ ap (λ (x : List ℕ). m ++ x) eq
      ∙ sym (take-append-add m p (12 - j))
      ∙ ap (λ (k : ℕ). take k (m ++ p)) whole

  -- what of the piece is among them is copied behind those that are there
  pub kept_with : take (j + length p) (head_with head j p) ≡ take 12 (m ++ p)
  unfolding head_with
  kept_with = go (leb j 12) (leb (length p) (12 - j)) refl refl
    where
      go : (a b : Bool) → leb j 12 ≡ a → leb (length p) (12 - j) ≡ b → take (j + length p) (front_at head p (min j 12)) ≡ take 12 (m ++ p)
      go true true ha hb =
          let hj = leb-true j 12 ha in
          let hp = leb-true (length p) (12 - j) hb in
          let ej : min j 12 ≡ j = omega (arith, hj) in
          keep_less _ (omega (arith, hj, hp)) (ap (front_at head p) ej ∙ ap (λ (x : List ℕ). paste head j x (length x)) (take_all (12 - j) p hp))
      go true false ha hb =
          let hj = leb-true j 12 ha in
          let hp = leb-false (length p) (12 - j) hb in
          let ej : min j 12 ≡ j = omega (arith, hj) in
          keep_part (take (12 - j) p) _ hj (omega (arith, hp)) refl (ap (front_at head p) ej)
      go false b ha hb =
          let hj = leb-false j 12 ha in
          let ej : min j 12 ≡ 12 = omega (arith, hj) in
          ap (take (j + length p)) (ap (front_at head p) ej ∙ sym (paste-zero head 12 [])) ∙ keep_whole (omega (arith, hj))

-- they stay twelve
pub head-length : (head p : List ℕ) (j : ℕ) → length head ≡ 12 → length (head_with head j p) ≡ 12
unfolding head_with
head-length head p j l =
    let q : List ℕ = take (12 - min j 12) p in
    let n = length-take (12 - min j 12) p in
    length-paste head (min j 12) q (length q) (omega (arith, l, n)) (le_refl (length q)) ∙ l

-- the code counts first what of the piece fits
fitting : (k : ℕ) (p : List ℕ) → take (min (length p) k) p ≡ take k p
fitting k p = go (leb (length p) k) refl
  where
    go : (b : Bool) → leb (length p) k ≡ b → take (min (length p) k) p ≡ take k p
    go true e =
        let h = leb-true (length p) k e in
        let n : min (length p) k ≡ length p = omega (arith, h) in
        ap (λ (i : ℕ). take i p) n ∙ take-length p ∙ sym (take_all k p h)
    go false e =
        let h = leb-false (length p) k e in
        let n : min (length p) k ≡ k = omega (arith, h) in
        ap (λ (i : ℕ). take i p) n

pub head_is : (head p : List ℕ) (j : ℕ) {after : List ℕ} {at n : ℕ} → at ≡ min j 12 → n ≡ min (length p) (12 - at)
    → after ≡ paste head at (take n p) (length (take n p)) → after ≡ head_with head j p
unfolding head_with
head_is head p j {after} {at} {n} ea en e =
    e
    ∙ ap (λ (x : List ℕ). paste head at x (length x)) (ap (λ (i : ℕ). take i p) en ∙ fitting (12 - at) p)
    ∙ ap (front_at head p) ea

-- a part that lies in the first k bytes
part_kept : (k p n : ℕ) (m : List ℕ) → p + n ≤ k → bytes_at p n (take k m) ≡ bytes_at p n m
part_kept k zero n m h = take-take n k m (omega arith)
part_kept zero (suc p) n m h = absurd (omega arith)
part_kept (suc k) (suc p) n [] h = refl
part_kept (suc k) (suc p) n (x ∷ m) h = part_kept k p n m (omega arith)

-- the status is among them
pub status_kept : (m : List ℕ) → number_at 8 4 (take 12 m) ≡ number_at 8 4 m
status_kept m = ap little_endian (part_kept 12 8 4 m (omega arith))
