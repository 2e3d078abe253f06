-- Right because 6 + 5 is 11, and 11 + 14 is 25.
use Rattle.std.proofs.Common.{refl}
use Rattle.sha_2.proofs.Rotations.{folded}
use Rattle.sha_2_compression.proofs.sha256.U32Word.big_sigma1.Goals as goal

pub returns : goal.returns
returns c = rw (c.rotate_right-3.ensures, c.rotate_right-2.ensures, c.rotate_right.ensures) (folded 32 6 5 14 7 c.args.self refl c.ranges.self.fits)
