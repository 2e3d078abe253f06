-- The struct of the code, read as the header of the rules.
-- Assumes nothing.
use Rattle.std.specs.Prelude.{◌≡◌, ◌<◌, ◌≤◌, false, cond, ltb, length, replicate, Option, Some, None}
use Rattle.protocol.specs.Bytes.{Bytes}
use Rattle.protocol.specs.TransformHeader as rules
use Rattle.transform_header.specs.declared.TransformHeader.{TransformHeader}

abbrev pub header_from : TransformHeader → rules.TransformHeader
header_from h =
    record {
      begins = h.begins;
      signature = h.signature;
      nonce = h.nonce;
      nonce_end = h.nonce_end;
      authenticated_data = h.authenticated;
      size = h.size;
      flags = h.flags;
      session_id = h.session_id;
    }

-- nothing of a header
abbrev pub no_header : rules.TransformHeader
no_header =
    record { begins = false; signature = replicate 16 0; nonce = replicate 16 0; nonce_end = 0; authenticated_data = replicate 32 0; size = 0; flags = 0; session_id = 0 }

-- the header of the message m, or nothing where m has no room for one
unfoldable pub header_in : Bytes → rules.TransformHeader
header_in m = cond (ltb (length m) 52) no_header (rules.header_of m)

-- what is read of the message m: its header, where m has room for one
abbrev pub ReadFrom : Bytes → Option TransformHeader → Type 0
ReadFrom m None = length m < 52
ReadFrom m (Some h) = (52 ≤ length m) × (header_from h ≡ rules.header_of m)
