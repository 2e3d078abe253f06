-- Right because 14 + 4 is 18, and 18 + 23 is 41.
use Rattle.std.proofs.Common.{refl}
use Rattle.sha_2.proofs.Rotations.{folded}
use Rattle.sha_2_compression.proofs.sha512.U64Word.big_sigma1.Goals as goal

pub returns : goal.returns
returns c = rw (c.rotate_right-3.ensures, c.rotate_right-2.ensures, c.rotate_right.ensures) (folded 64 14 4 23 23 c.args.self refl c.ranges.self.fits)
