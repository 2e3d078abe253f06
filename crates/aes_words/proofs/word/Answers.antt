-- Right because the shifted bytes do not overlap, so that `|` puts them side by side.
use Rattle.aes_words.proofs.WordLaws.{joined}
use Rattle.aes_words.proofs.word.Goals as goal

pub returns : goal.returns
returns c =
    rw (c.from.ensures, c.from-2.ensures, c.from-3.ensures, c.from-4.ensures)
    (joined c.args.a c.args.b c.args.c c.args.d c.ranges.a.fits c.ranges.b.fits c.ranges.c.fits c.ranges.d.fits)
