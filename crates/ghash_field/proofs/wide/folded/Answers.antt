-- Right because it keeps exclusive or, as 64 steps do, and is what they are at each of the 64 bits.
use Rattle.std.proofs.Common.{rules}
use Rattle.ghash_field.proofs.WideLaws.{join-folded}
use Rattle.ghash_field.proofs.wide.folded.Goals as goal

pub returns : goal.returns
returns c =
    let a = c.args in
    join-folded a.e.hi a.e.lo a.d (search rules) (search rules)
