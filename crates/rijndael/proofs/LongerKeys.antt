-- The cipher reads the round keys 0 to nr and no other: what follows them in a longer list changes nothing.
use mathlib.Core.Path.{◌≡◌, refl, ◌∙◌, ap, ap₂}
use mathlib.Core.List.{List, [], ◌++◌}
use Prim.Native.Nat.{ℕ, zero, suc, ◌-◌, ◌<◌}
use native.Mathlib.Omega.{arith}
use lib.ListN.{length, get_or, get_or-append}
use Rattle.rijndael.specs.Cipher.{cipher, rounds, add_round_key, mix_columns, shift_rows, sub_bytes}

module _ (w more : List (List ℕ)) where
  rounds_longer : (n : ℕ) (s : List ℕ) → n < length w → rounds n (w ++ more) s ≡ rounds n w s
  unfolding rounds
  rounds_longer zero s h = refl
  rounds_longer (suc n) s h =
      ap₂ (λ (x k : List ℕ). add_round_key (mix_columns (shift_rows (sub_bytes x))) k) (rounds_longer n s (omega arith)) (get_or-append w more [] (suc n) h)

  cipher-at : (nr : ℕ) (s : List ℕ) → nr < length w → cipher nr (w ++ more) s ≡ cipher nr w s
  unfolding cipher
  cipher-at nr s h =
      let first : get_or (w ++ more) 0 [] ≡ get_or w 0 [] = get_or-append w more [] 0 (omega arith) in
      let start : rounds (nr - 1) (w ++ more) (add_round_key s (get_or (w ++ more) 0 [])) ≡ rounds (nr - 1) w (add_round_key s (get_or w 0 [])) =
      ap (λ (k : List ℕ). rounds (nr - 1) (w ++ more) (add_round_key s k)) first ∙ rounds_longer (nr - 1) _ (omega arith) in
      ap₂ (λ (x k : List ℕ). add_round_key (shift_rows (sub_bytes x)) k) start (get_or-append w more [] nr h)

  pub cipher_longer : (nr : ℕ) → nr < length w → cipher nr (w ++ more) ≡ cipher nr w
  cipher_longer nr h = λ i s. cipher-at nr s h i
