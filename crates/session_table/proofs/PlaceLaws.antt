-- The place that a search of the library finds is the place of the rules.
-- Assumes nothing.
use Rattle.std.proofs.Common.{◌≡◌, refl, ap, ◌∙◌, Bool, true, false, cond, List, ℕ, suc, ◌+◌, ◌≤◌, nat_lt, length, get_or, arith}
use borrow.Author.Tests.{ltb-false}
use Rattle.std.specs.Prelude.{Some, None, position}
use Rattle.std.specs.List.{position_or_len}
use Rattle.std.specs.Option.{is_some}
use Rattle.std.proofs.lemmas.List.Recursion.{is_position_or_len}
use Rattle.std.proofs.lemmas.List.Sums.{prefix_len-le-length}
use Rattle.std.proofs.lemmas.List.Quantifiers.{position-Some}
use Rattle.session_record.specs.declared.Session.{Session}
use Rattle.session_record.specs.Reading.{free}
use Rattle.session_table.specs.Place.{first, place_in}

one_more : (n : ℕ) → suc n ≡ 1 + n
one_more n = omega arith

module _ (p : Session → Bool) (ys : List Session) where
  first_is : first p ys ≡ position_or_len p ys
  unfolding first
  first_is = is_position_or_len (first p) p refl (λ x xs. ap (cond (p x) 0) (one_more (first p xs))) ys

  within : first p ys ≤ length ys
  within = rw first_is (prefix_len-le-length _ ys)

  pub position_is : position p ys ≡ cond (nat_lt (first p ys) (length ys)) (Some (first p ys)) None
  position_is = rw first_is refl

  -- and whether there is one
  pub found : is_some (position p ys) ≡ nat_lt (first p ys) (length ys)
  found = ap is_some position_is ∙ go (nat_lt (first p ys) (length ys))
    where
      go : (b : Bool) → is_some (cond b (Some (first p ys)) None) ≡ b
      go true = refl
      go false = refl

  pub place_is : place_in ys (position p ys) ≡ first p ys
  place_is = ap (place_in ys) position_is ∙ go (nat_lt (first p ys) (length ys)) refl
    where
      go : (b : Bool) → nat_lt (first p ys) (length ys) ≡ b → place_in ys (cond b (Some (first p ys)) None) ≡ first p ys
      go true e = refl
      go false e = let w = within in omega (arith, ltb-false (first p ys) (length ys) e)

  pub wanted-there : (i : ℕ) → position p ys ≡ Some i → p (get_or ys i free) ≡ true
  wanted-there i e = (position-Some p ys i free e).1
