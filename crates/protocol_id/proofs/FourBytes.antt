-- The library's comparison of two lists is the rules'.
-- Assumes nothing.
use Rattle.std.proofs.Common.{◌≡◌, refl, sym, ap, ap₂, ◌∙◌, Bool, List, [], ◌∷◌, ℕ, ◌&&◌, nat_eq, eq-eqb, eqb-true, arith}
use lib.Pointwise.{pointwise}
use Rattle.octets.specs.Same.{same_bytes}
use Rattle.octets.proofs.SameLaws.{decided}

swapped : (x y : ℕ) → nat_eq x y ≡ nat_eq y x
swapped x y = decided (nat_eq x y) (nat_eq y x) (λ e. eq-eqb y x (sym (eqb-true x y e))) (λ e. eq-eqb x y (sym (eqb-true y x e)))

pub same_list : (xs ys : List ℕ) → pointwise nat_eq ys xs ≡ same_bytes xs ys
unfolding same_bytes
same_list [] [] = refl
same_list [] (y ∷ ys) = refl
same_list (x ∷ xs) [] = refl
same_list (x ∷ xs) (y ∷ ys) = ap₂ (λ a b. a && b) (swapped y x) (same_list xs ys)
