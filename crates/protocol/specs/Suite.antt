-- The suite: the primitives that RULES 1, 6 and 15 name, out of their own crates' definitions.
-- Assumes nothing.
use Rattle.std.specs.Prelude.{ℕ}
use Rattle.sha_2.specs.Sha2.{hash}
use Rattle.sha_2.specs.Sha512 as sha2
use Rattle.kdf.specs.CounterMode.{derive_sha256}
use Rattle.cmac.specs.Cmac as rfc4493
use Rattle.protocol.specs.Bytes.{Bytes}
use Rattle.protocol.specs.Ciphers.{aes, cipher_of}
use Rattle.protocol.specs.Transform.{Ciphers, Primitives}

unfoldable pub suite : Primitives
suite =
    record {
      sha512 = hash sha2.sha512;
      kdf = derive_sha256;
      cmac = λ key m. rfc4493.cmac (aes key) m;
      ciphers = record { encrypt = λ n. (cipher_of n).encrypt; tag = λ n. (cipher_of n).tag; decrypt = λ n. (cipher_of n).decrypt };
    }

-- its parts, under the names that contracts cite
abbrev pub sha512 : Bytes → Bytes
sha512 = suite.sha512

abbrev pub kdf : ℕ → Bytes → Bytes → Bytes → Bytes
kdf = suite.kdf

abbrev pub cmac : Bytes → Bytes → Bytes
cmac = suite.cmac

abbrev pub ciphers : Ciphers
ciphers = suite.ciphers
