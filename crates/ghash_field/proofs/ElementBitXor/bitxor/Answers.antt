-- Right because exclusive or goes word by word.
use Rattle.std.proofs.Common.{rules}
use Rattle.ghash_field.proofs.WordLaws.{join-xor}
use Rattle.ghash_field.proofs.ElementBitXor.bitxor.Goals as goal

pub returns : goal.returns
returns c =
    let args = c.args in
    join-xor args.self.hi args.self.lo args.b.hi args.b.lo (search rules) (search rules)
