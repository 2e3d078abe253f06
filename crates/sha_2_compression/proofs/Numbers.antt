-- The laws of the family, which speak of numbers, at lists of words of any type, each by its number.
-- Assumes nothing.
use Rattle.std.proofs.Common.{◌≡◌, ℕ, ◌+◌, ◌*◌, ◌^◌, ◌<◌, List, length, map, ◌∙◌, sym, refl, lt_of_le_of_lt, mul-le-mul_right, arith}
use Rattle.std.proofs.Math.ListN.{get_or, set}
use Rattle.std.proofs.lemmas.List.{get_or-map, map-set, length-map, length-set}
use Rattle.sha_2.specs.Sha2.{Sha2, Working, round, schedule_word}
use Rattle.sha_2.specs.Running.{Goes}
use Rattle.sha_2.proofs.Rounds.{goes_one}

module _ {X : Type 0} (value : X → ℕ) where
  -- the word that an index reads: past the end it would be the default
  number_at : (w : List X) (i : ℕ) (x : X) → i < length w → value (get_or w i x) ≡ get_or (map value w) i 0
  number_at w i x h = sym (get_or-map value w i x 0 h)

  module _ (p : Sha2) where
    -- a round on the constant and the word at j
    pub round_at : (w : List X) (j : ℕ) (k x : X) (v : Working) {v' : Working} → j < length w → value k ≡ get_or p.constants j 0
        → v' ≡ round p (value k) (value (get_or w j x)) v → v' ≡ round p (get_or p.constants j 0) (get_or (map value w) j 0) v
    round_at w j k x v h ek e = e ∙ (λ i. round p (ek i) (number_at w j x h i) v)

    -- round j, and the word of the schedule sixteen places on
    pub scheduled : (w : List X) (j : ℕ) (v : Working) (a b c d f k : X) {y : X} {v' : Working} → j < p.further → length w ≡ 16 + p.further
        → value y ≡ schedule_word p (value (get_or w j a)) (value (get_or w (j + 1) b)) (value (get_or w (j + 9) c)) (value (get_or w (j + 14) d))
        → value k ≡ get_or p.constants j 0 → v' ≡ round p (value k) (value (get_or (set w (j + 16) y) j f)) v
        → Goes p 1 j (map value w) v (map value (set w (j + 16) y)) v'
    scheduled w j v a b c d f k {y} h lw ey ek ev =
        let s : length (set w (j + 16) y) ≡ 16 + p.further = length-set w (j + 16) y ∙ lw in
        let word = ey
        ∙ (λ i. schedule_word p (number_at w j a (omega arith) i) (number_at w (j + 1) b (omega arith) i)
        (number_at w (j + 9) c (omega arith) i) (number_at w (j + 14) d (omega arith) i)) in
        let m = map-set value w (j + 16) y in
        rw m
        (goes_one p h (length-map w value ∙ lw) refl word
        (round_at (set w (j + 16) y) j k f v (omega arith) ek ev ∙ (λ i. round p (get_or p.constants j 0) (get_or (m i) j 0) v)))

-- where an array of a word for each round has its place in memory, the hash value has
pub eight_fit : (rounds further size : ℕ) → rounds ≡ 16 + further → rounds * size < 2 ^ 63 → 8 * size < 2 ^ 63
eight_fit rounds further size e h = lt_of_le_of_lt (mul-le-mul_right size (omega (arith, e))) h
