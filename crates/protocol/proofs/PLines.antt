-- The P lines hold: each line computes, as no cipher is asked before its refusal.
-- Assumes nothing.
use mathlib.Core.Path.{◌≡◌, refl}
use mathlib.Core.Bool.{Bool, true, false}
use native.Mathlib.Omega.{arith}
use mathlib.Core.List.{◌++◌}
use lib.ListN.{length, length-append, replicate}
use Rattle.octets.specs.Numbers.{little_endian, to_little_endian, to_big_endian}
use Rattle.octets.specs.Same.{same_bytes}
use Rattle.protocol.specs.Bytes.{Bytes}
use Rattle.protocol.specs.Answer.{Answer, done, refused}
use Rattle.protocol.specs.Compound.{walk}
use Rattle.protocol.specs.Keys.{session_key, smb_c2_s_cipher_key, derivation_input, derived_keys}
use Rattle.protocol.specs.TransformHeader.{nonce_of}
use Rattle.protocol.specs.Calls.{tests, open_tests}
use Rattle.protocol.specs.PLines.{header, session5, PLines}
use Rattle.protocol.proofs.SuiteLaws.{kdf-of_document}

-- 21 bytes before the chain value, and 4 behind it
hashed : (chain : Bytes) → length chain ≡ 64 → length (derivation_input 16 smb_c2_s_cipher_key chain) ≡ 89
unfolding derivation_input smb_c2_s_cipher_key to_big_endian
hashed chain l = simp length-append (omega arith)

-- from a client, and from the server
both : (m : Bytes) (a : Answer) → walk m (session5 false) ≡ a → walk m (session5 true) ≡ a → (from_server : Bool) → walk m (session5 from_server) ≡ a
both m a c s false = c
both m a c s true = s

pub p_lines : PLines
unfolding walk tests open_tests nonce_of little_endian to_little_endian same_bytes derived_keys
p_lines =
    record {
      P1 = refl;
      P2 = refl;
      P3 = refl;
      P4 = refl;
      P5 = both (replicate 63 0) (refused 11) refl refl;
      P6 = both (header 0 0 5) (done 1) refl refl;
      P7 = both (header 0 64 5 ++ header 4 0 9) (done 2) refl refl;
      P8 = both (header 0 65 5 ++ header 4 0 9) (refused 15) refl refl;
      P9 = both (header 0 68 5 ++ (replicate 8 0 ++ header 4 0 9)) (refused 16) refl refl;
      P10 = both (header 0 64 5 ++ replicate 63 0) (refused 15) refl refl;
      P11 = both (header 0 4294967288 5 ++ header 4 0 9) (refused 15) refl refl;
      P12 = λ material chain l. (kdf-of_document false (session_key material) smb_c2_s_cipher_key chain, hashed chain l);
      P13 = refl;
    }
