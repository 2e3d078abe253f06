-- Demand 2, signing and verifying: every listed check, one field for one check, with the number that the rules give where it fails.
-- AES-128-CMAC is the definition of RFC 4493 and SP 800-38B in its own crate.
-- Assumes nothing.
use Rattle.std.specs.Prelude.{◌≡◌, [], ◌∷◌, ◌++◌, ◌/◌, ◌%◌, ◌≤◌, length, take, drop, replicate}
use Rattle.octets.specs.Numbers.{bytes_at}
use Rattle.cmac.specs.Cmac.{cmac}
use Rattle.protocol.specs.Bytes.{Bytes, number_at}
use Rattle.protocol.specs.Connection.{longest_message}
use Rattle.protocol.specs.Ciphers.{aes}

pub record SignChecks (key m : Bytes) : Type 0 where
  -- not 40
  pub key_fits : length key ≡ 16
  -- not 3
  pub short : length m ≤ longest_message
  -- not 11
  pub long : 64 ≤ length m
  -- not 12
  pub begins : take 4 m ≡ 0xFE ∷ 0x53 ∷ 0x4D ∷ 0x42 ∷ []

pub record Verifies (key m : Bytes) : Type 0 where
  -- not 40, 3, 11, 12
  pub checks : SignChecks key m
  -- not 24
  pub flag : number_at 16 4 m / 8 % 2 ≡ 1
  -- not 25
  pub signature : bytes_at 48 16 m ≡ cmac (aes key) (take 48 m ++ (replicate 16 0 ++ drop 64 m))
