-- Right because the block is one number of 128 bits.
use Rattle.std.proofs.Common.{rules}
use Rattle.cmac.proofs.Doubling.{shifted_is}
use Rattle.cmac.proofs.last.shifted.Goals as goal

pub returns : goal.returns
returns c = shifted_is c.args.x (search rules) c.from_be_bytes.ensures c.to_be_bytes.ensures
