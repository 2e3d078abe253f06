-- Each line computes.
-- Assumes nothing.
use mathlib.Core.Path.{refl}
use Rattle.octets.specs.Numbers.{little_endian, to_little_endian}
use Rattle.octets.specs.Same.{same_bytes}
use Rattle.protocol.specs.Compound.{walk}
use Rattle.protocol.specs.BreakNotices.{BreakNotices}

pub break_notices : BreakNotices
unfolding walk little_endian to_little_endian same_bytes
break_notices =
    record {
      from_server_is = refl;
      from_client = refl;
      other-command = refl;
      other-message = refl;
      other-session = refl;
      later = refl;
      later_from_client = refl;
      later_related = refl;
      before = refl;
      related_first = refl;
      outside_next = refl;
      unaligned_next = refl;
      next_no_header = refl;
    }
