-- Right because the first N of the eight bytes that the library makes of x are those of `to_little_endian` (low_part).
-- Assumes nothing.
use Rattle.std.proofs.Common.{◌∙◌}
use Rattle.octets.proofs.LibraryNumbers.{low_part}
use Rattle.little_endian.proofs.to_bytes.Goals as goal

pub returns : goal.returns
returns g c = c.bytes_at.ensures ∙ rw c.to_le_bytes.ensures (low_part g.row.N c.args.x c.requires)
