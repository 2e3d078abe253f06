-- Right because the test of the rule passes at each of the 256 entries, by computation.
use mathlib.Core.Path.{refl}
use Rattle.rijndael.specs.Field.{sbox, affine, inverse, even_powers, mul, products, xtimes, rotated}
use Rattle.aes_tables.proofs.TableLaws.{sub-bytes-table}
use Rattle.aes_tables.proofs.Sbox.new.Goals as goal

pub invariant_of-result : goal.invariant_of-result
unfolding sbox affine inverse even_powers mul products xtimes rotated
invariant_of-result c = record { rule = sub-bytes-table refl tt }
