-- Right because h, h · x, h · x² and h · x³ are the products with one bit each, and a product with four is their sum.
use Rattle.std.proofs.Common.{◌≡◌, ℕ, ◌^◌, ◌<◌, length}
use Rattle.ghash_field.specs.Field.{mul}
use Rattle.ghash_field.specs.Elements.{element_of, entry, four_bits}
use Rattle.ghash_field.specs.Tables.{at}
use Rattle.ghash_field.proofs.HashKey.new.Given as goal

abbrev pub invariant-loop-n : goal.invariant-loop-n
invariant-loop-n l =
    ((m : ℕ) → m < l.n → (entry l.products m ≡ mul (four_bits m) (element_of l.h)) × ((at l.products m).lo < 2 ^ 64)) × (length l.products ≡ 16)
