-- Right because zero less a bit is a mask of 64 bits that are all that bit.
use Rattle.std.proofs.Common.{rules}
use Rattle.ghash_field.proofs.WordLaws.{masked}
use Rattle.ghash_field.proofs.terms.bit_times.Goals as goal

pub returns : goal.returns
returns c =
    masked c.args.b c.wrapping_neg.result c.args.x (search rules) (search rules) (search rules) (search rules)
