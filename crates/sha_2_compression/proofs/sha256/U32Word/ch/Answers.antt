-- Right because of a law of bits that holds in words of any size.
use Rattle.sha_2.proofs.Choice.{ch_eq}
use Rattle.sha_2_compression.proofs.sha256.U32Word.ch.Goals as goal

pub returns : goal.returns
returns c = ch_eq 32 c.args.self c.args.y c.args.z c.ranges.self.fits c.ranges.y.fits c.ranges.z.fits
