-- How the sizes of the code go with an algorithm of the family.
-- Assumes nothing.
use Rattle.std.specs.Prelude.{◌≡◌, ℕ, ◌+◌, ◌%◌, ◌<◌, refl}
use Rattle.std.proofs.Common.{lit<}
use Rattle.sha_2.specs.Sha2.{Sha2, block_size}
use Rattle.sha_2.specs.Sha256.{sha256}
use Rattle.sha_2.specs.Sha512.{sha512}

-- so many rounds, and blocks of so many bytes, are those of the algorithm. A word fits eight bytes, and rounds go by eight
pub record SizesOf (p : Sha2) (rounds size : ℕ) : Type 0 where
  pub schedule : rounds ≡ 16 + p.further
  pub eighths : p.further % 8 ≡ 0
  pub block : size ≡ block_size p
  pub some : 0 < p.bytes
  pub few : p.bytes < 9

pub sizes256 : SizesOf sha256 64 64
sizes256 = record { schedule = refl; eighths = refl; block = refl; some = lit< tt; few = lit< tt }

pub sizes512 : SizesOf sha512 80 128
sizes512 = record { schedule = refl; eighths = refl; block = refl; some = lit< tt; few = lit< tt }
