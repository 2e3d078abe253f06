-- Right because 28 + 6 is 34, and 34 + 5 is 39.
use Rattle.std.proofs.Common.{refl}
use Rattle.sha_2.proofs.Rotations.{folded}
use Rattle.sha_2_compression.proofs.sha512.U64Word.big_sigma0.Goals as goal

pub returns : goal.returns
returns c = rw (c.rotate_right-3.ensures, c.rotate_right-2.ensures, c.rotate_right.ensures) (folded 64 28 6 5 25 c.args.self refl c.ranges.self.fits)
