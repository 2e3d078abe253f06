-- Right because the test of the rule passes at each of the 256 entries, by computation.
use mathlib.Core.Path.{refl}
use Rattle.rijndael.specs.Field.{sbox, affine, inverse, even_powers, mul, products, xtimes, rotated}
use Rattle.aes_tables.proofs.TableLaws.{sub_mix_table}
use Rattle.aes_tables.proofs.SubMix.new.Goals as goal

pub invariant_of-result : goal.invariant_of-result
unfolding sbox affine inverse even_powers mul products xtimes rotated
invariant_of-result c = record { rule = sub_mix_table refl tt }
