-- The table of a hash key is determined by the key: an element is the two halves of its number.
use Rattle.std.specs.Prelude.{◌≡◌, ℕ, ◌/◌, ◌%◌, ◌^◌, ◌<◌, List, length, map, slice_index_or}
use Rattle.std.specs.List.{range_with_len}
use Rattle.std.proofs.Common.{sym, ap, ◌∙◌}
use Rattle.std.proofs.lemmas.List.FromFn.{fill_by_all}
use lib.Pow.{high, low}
use Rattle.ghash_field.specs.declared.Element.{Element}
use Rattle.ghash_field.specs.Field.{mul}
use Rattle.ghash_field.specs.Elements.{element_of, four_bits, subkey, Products}

-- element number n of a table
abbrev pub at : List Element → ℕ → Element
at t n = slice_index_or t n (record { hi = 0; lo = 0 })

-- sixteen elements, whose low words are words: what the type of a table says
pub record Whole (t : List Element) : Type 0 where
  pub sixteen : length t ≡ 16
  pub words : (n : ℕ) → n < 16 → (at t n).lo < 2 ^ 64

-- the element that a number writes
abbrev pub element : ℕ → Element
element m = record { hi = m / 2 ^ 64; lo = m % 2 ^ 64 }

-- the table of h
abbrev pub table : ℕ → List Element
table h = map (λ n. element (mul (four_bits n) h)) (range_with_len 0 16)

element_is : (e : Element) (m : ℕ) → e.lo < 2 ^ 64 → element_of e ≡ m → e ≡ element m
element_is e m l s =
    λ i. record { hi = (sym (high e.hi 64 l) ∙ ap (λ (n : ℕ). n / 2 ^ 64) s) i; lo = (sym (low e.hi 64 l) ∙ ap (λ (n : ℕ). n % 2 ^ 64) s) i }

pub table_is : (t : List Element) → Products t (subkey t) → Whole t → table (subkey t) ≡ t
table_is t p w =
    sym (fill_by_all (λ n. element (mul (four_bits n) (subkey t))) t 16 (record { hi = 0; lo = 0 }) w.sixteen
    (λ k l. element_is (at t k) (mul (four_bits k) (subkey t)) (w.words k l) (p.product k l)))
