-- Right because the three fields of the number do not overlap.
-- Assumes nothing.
use Rattle.std.proofs.Common.{ap, ◌∙◌}
use Rattle.octets.specs.Numbers.{to_big_endian}
use Rattle.trace_format.specs.Records.{record_head}
use Rattle.trace_writer.proofs.head_bytes.Goals as goal

pub returns : goal.returns
unfolding record_head
returns c = c.to_bytes.ensures ∙ ap (to_big_endian 4) (c.from.ensures ∙ c.head_number.ensures)
