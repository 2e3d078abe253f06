-- Right because 2 + 11 is 13, and 13 + 9 is 22.
use Rattle.std.proofs.Common.{refl}
use Rattle.sha_2.proofs.Rotations.{folded}
use Rattle.sha_2_compression.proofs.sha256.U32Word.big_sigma0.Goals as goal

pub returns : goal.returns
returns c = rw (c.rotate_right-3.ensures, c.rotate_right-2.ensures, c.rotate_right.ensures) (folded 32 2 11 9 10 c.args.self refl c.ranges.self.fits)
