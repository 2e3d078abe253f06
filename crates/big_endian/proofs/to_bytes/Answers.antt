-- Right because the last N of the eight bytes that the library makes of x are those of `to_big_endian` (high_part).
-- Assumes nothing.
use Rattle.std.proofs.Common.{◌∙◌}
use Rattle.octets.proofs.LibraryNumbers.{high_part}
use Rattle.big_endian.proofs.to_bytes.Goals as goal

pub returns : goal.returns
returns g c = c.bytes_at.ensures ∙ rw c.to_be_bytes.ensures (high_part g.row.N c.args.x c.requires)
