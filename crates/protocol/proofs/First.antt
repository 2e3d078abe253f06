-- What is known once the first tests have passed.
-- Assumes nothing.
use mathlib.Core.Path.{◌≡◌, refl}
use mathlib.Core.Bool.{Bool, true, false}
use mathlib.Core.List.{◌++◌}
use Prim.Native.Nat.{ℕ, ◌+◌, ◌≤◌, ◌<◌}
use native.Mathlib.Omega.{arith}
use borrow.Author.Tests.{not-false, eqb-true, leb-false, ltb-false}
use lib.Dec.{eqb}
use lib.ListN.{length, length-drop}
use Rattle.aes.specs.KeySizes.{is_key_length}
use Rattle.aes.proofs.KeySizeLaws.{is_16, is_32}
use Rattle.protocol.specs.Bytes.{Bytes}
use Rattle.protocol.specs.Answer.{first_of}
use Rattle.protocol.specs.TransformHeader.{inner}
use Rattle.protocol.specs.Connection.{Connection, encrypts, uses_wide, cipher_key_bytes, longest_message}
use Rattle.protocol.specs.Calls.{key_tests, message_tests}
use Rattle.protocol.proofs.Judging.{NoneApplies, line, passes}

either_length : (wide : Bool) → is_key_length (cipher_key_bytes wide) ≡ true
either_length true = is_32
either_length false = is_16

pub record First (c : Connection) (key m : Bytes) : Type 0 where
  pub key_fits : length key ≡ cipher_key_bytes (uses_wide c)
  pub on : encrypts c ≡ true
  pub long : 52 < length m
  pub short : length m ≤ 52 + longest_message
  pub none : NoneApplies (key_tests c key ++ message_tests c m)

module _ (c : Connection) (key m : Bytes) where
  pub first-passed : (n : ℕ) → n ≡ first_of (key_tests c key ++ message_tests c m) → n ≡ 0 → First c key m
  first-passed n e z =
      let h = passes (key_tests c key ++ message_tests c m) n refl e z in
      let l = length-drop 52 m in
      let s = ltb-false longest_message (length (inner m)) (line (key_tests c key ++ message_tests c m) h 3) in
      record {
        key_fits = eqb-true (length key) (cipher_key_bytes (uses_wide c)) (not-false _ (line (key_tests c key ++ message_tests c m) h 40));
        on = not-false (encrypts c) (line (key_tests c key ++ message_tests c m) h 1);
        long = leb-false (length m) 52 (line (key_tests c key ++ message_tests c m) h 2);
        short = omega arith;
        none = h;
      }

  -- the ciphers take it
  pub key_length : First c key m → is_key_length (length key) ≡ true
  key_length f = rw f.key_fits (either_length (uses_wide c))
