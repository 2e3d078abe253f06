-- What the contracts of the code need and FIPS 198-1 does not have: a MAC under way.
-- Assumes nothing.
use Rattle.std.specs.Prelude.{List, ◌++◌, ℕ}
use Rattle.octets.specs.Xor.{xor}
use Rattle.sha_2.specs.Sha256.{sha256}
use Rattle.sha256.specs.Code as code
use Rattle.hmac.specs.Hmac.{ipad, opad, key_block}
use Rattle.hmac.specs.declared.Mac.{Mac}

-- s has taken in the bytes m under the key
pub record Holds (s : Mac) (key m : List ℕ) : Type 0 where
  pub inner : code.Holds s.inner (xor (key_block sha256 key) (ipad sha256) ++ m)
  pub outer : code.Holds s.outer (xor (key_block sha256 key) (opad sha256))
