-- Signing a message in clear and verifying it: RULES 15; MS-SMB2 2.2.1.2, 3.1.4.1 and 3.1.5.1. `cmac` is a parameter here; the suite
-- puts AES-128-CMAC in its place.
-- Assumes nothing.
use Rattle.std.specs.Prelude.{Bool, ◌++◌, ◌/◌, ◌%◌, eqb, take, drop, replicate}
use Rattle.std.specs.Int.Bits.{bit_or}
use Rattle.octets.specs.Numbers.{bytes_at, to_little_endian}
use Rattle.protocol.specs.Bytes.{Bytes, number_at}

-- Flags are at 16..20: SMB2_FLAGS_SIGNED is 0x00000008
abbrev pub is_signed : Bytes → Bool
is_signed m = eqb (number_at 16 4 m / 8 % 2) 1

-- "set flag 0x00000008": the other flags stay
unfoldable pub with_signed_flag : Bytes → Bytes
with_signed_flag m = take 16 m ++ (to_little_endian 4 (bit_or (number_at 16 4 m) 8) ++ drop 20 m)

-- Signature is at 48..64
abbrev pub signature_field : Bytes → Bytes
signature_field m = bytes_at 48 16 m

unfoldable pub with_signature : Bytes → Bytes → Bytes
with_signature s m = take 48 m ++ (s ++ drop 64 m)

module _ (cmac : Bytes → Bytes → Bytes) where
  -- "zero bytes 48..64 of the header, sign the whole message"
  unfoldable pub signature_under : Bytes → Bytes → Bytes
  signature_under key m = cmac key (with_signature (replicate 16 0) m)

  -- the flag, then the signature: "store the 16 bytes there"
  unfoldable pub signed_under : Bytes → Bytes → Bytes
  signed_under key m =
      let flagged = with_signed_flag m in
      with_signature (signature_under key flagged) flagged
