-- Right because each of the four bytes is a low byte, shifted down.
use Rattle.aes_words.proofs.WordLaws.{named}
use Rattle.aes_rounds.proofs.diagonal.Goals as goal

pub returns : goal.returns
returns c = named c.word.ensures c.low.ensures c.low-2.ensures c.low-3.ensures c.low-4.ensures
