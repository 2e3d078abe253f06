-- Words that are compared, and the folder of a path.
-- Assumes nothing.
use mathlib.Core.Path.{◌≡◌, refl, sym, ap, subst, ◌∙◌}
use mathlib.Core.Bool.{Bool, true, false, cond, ◌&&◌}
use mathlib.Core.List.{[], ◌∷◌, ◌++◌}
use Prim.Native.Nat.{ℕ, ◌+◌, ◌-◌, ◌<◌, ◌≤◌}
use native.Mathlib.Numerals.{add-one}
use native.Mathlib.Omega.{arith}
use borrow.Author.Tests.{le-leb, eq-eqb, ne_eqb}
use lib.Dec.{eqb}
use lib.ListN.{length, take, drop, get_or, drop_of_length-le}
use lib.Seq.{drop-cons}
use Rattle.std.specs.Str.{bytes_eq}
use Rattle.octets.specs.Same.{same_bytes}
use Rattle.program_text.specs.Lines.{Bytes}
use Rattle.program_text.specs.Words.{last_slash, folder_in, template, beside}
use Rattle.program_text.specs.Puts.{Put, PutName}

equal_is : (a b : Bytes) → bytes_eq a b ≡ same_bytes a b
unfolding same_bytes
equal_is [] [] = refl
equal_is [] (y ∷ b) = refl
equal_is (x ∷ a) [] = refl
equal_is (x ∷ a) (y ∷ b) = ap (λ (t : Bool). eqb x y && t) (equal_is a b)

pub compared : {r : Bool} {b' : Bytes} (a b : Bytes) → r ≡ bytes_eq a b' → b' ≡ b → r ≡ same_bytes a b
compared {r} {b'} a b e h = e ∙ equal_is a b' ∙ ap (same_bytes a) h

-- ---- the last slash

from : (a : Bytes) (i : ℕ) → i < length a → drop i a ≡ get_or a i 0 ∷ drop (i + 1) a
from a i h = drop-cons a i 0 h ∙ ap (λ (k : ℕ). get_or a i 0 ∷ drop k a) (sym (add-one i))

module _ (path : Bytes) (found i : ℕ) where
  slash_turn : i < length path → last_slash (cond (eqb (get_or path i 0) 47) (i + 1) found) (i + 1) (drop (i + 1) path) ≡ last_slash found i (drop i path)
  unfolding last_slash
  slash_turn h = sym (ap (last_slash found i) (from path i h))

  pub slash_there : i < length path → get_or path i 0 ≡ 47 → last_slash (i + 1) (i + 1) (drop (i + 1) path) ≡ last_slash found i (drop i path)
  slash_there h e = ap (λ (b : Bool). last_slash (cond b (i + 1) found) (i + 1) (drop (i + 1) path)) (sym (eq-eqb (get_or path i 0) 47 e)) ∙ slash_turn h

  pub slash_not : i < length path → (get_or path i 0 ≡ 47 → ⊥) → last_slash found (i + 1) (drop (i + 1) path) ≡ last_slash found i (drop i path)
  slash_not h e = ap (λ (b : Bool). last_slash (cond b (i + 1) found) (i + 1) (drop (i + 1) path)) (sym (ne_eqb (get_or path i 0) 47 e)) ∙ slash_turn h

  pub slash_end : length path ≤ i → last_slash found i (drop i path) ≡ found
  unfolding last_slash
  slash_end h = ap (last_slash found i) (drop_of_length-le path h)

slash_most : (xs : Bytes) (found i : ℕ) → found ≤ i → last_slash found i xs ≤ i + length xs
unfolding last_slash
slash_most [] found i h = omega arith
slash_most (x ∷ xs) found i h = go (eqb x 47) (slash_most xs (i + 1) (i + 1) (omega arith)) (slash_most xs found (i + 1) (omega arith))
  where
    go : (t : Bool) → last_slash (i + 1) (i + 1) xs ≤ i + 1 + length xs → last_slash found (i + 1) xs ≤ i + 1 + length xs
        → last_slash (cond t (i + 1) found) (i + 1) xs ≤ i + length (x ∷ xs)
    go true a b = omega arith
    go false a b = omega arith

pub folder_le : (path : Bytes) → folder_in path ≤ length path
folder_le path = let h = slash_most path 0 0 (omega arith) in omega arith

-- ---- the name

module _ {path room : Bytes} {n : ℕ} (e : n ≡ folder_in path) where
  pub name_put : {room' : Bytes} {r : ℕ} → 15 ≤ length room → n ≤ length room - 15 → Put (take n path ++ template) room 0 r room' → PutName path room r room'
  unfolding beside
  name_put {room'} {r} h i p =
      let f = le-leb (folder_in path + 15) (length room) (omega arith) in
      let q : Put (take (folder_in path) path ++ template) room 0 r room' = subst (λ (k : ℕ). Put (take k path ++ template) room 0 r room') e p in
      record { place = rw f (q.place ∙ omega arith); bytes = rw f q.bytes }
