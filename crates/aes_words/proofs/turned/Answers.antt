-- Right because the shifts put the three low bytes above the top one.
use Rattle.aes_words.proofs.WordLaws.{turned}
use Rattle.aes_words.proofs.turned.Goals as goal

pub returns : goal.returns
returns c = rw c.rotate_left.ensures (turned c.args.x c.ranges.x.fits)
