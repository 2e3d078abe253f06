-- Right because the bit that leaves the high word enters the low one, and R touches the high word alone.
use Rattle.std.proofs.Common.{rules}
use Rattle.ghash_field.proofs.WordLaws.{low_fits, join-times_x}
use Rattle.ghash_field.proofs.terms.times_x.Goals as goal

pub overflow_add-result : goal.overflow_add-result
overflow_add-result c = record { fits = low_fits _ _ (search rules) }

pub returns : goal.returns
returns c = join-times_x _ _ _ (search rules) (search rules)
