-- Right because each column is made of its four bytes, and a list of 16 bytes is made of its elements.
use mathlib.Core.Path.{refl, ◌∙◌}
use borrow.Author.Rules.{rules}
use Rattle.octets.proofs.Elements.{whole}
use Rattle.aes_words.specs.Words.{state_of, bytes_of}
use Rattle.aes_words.proofs.WordLaws.{begins}
use Rattle.aes_words.proofs.load.Goals as goal

pub returns : goal.returns
unfolding state_of bytes_of
returns c =
    begins c.word_at.ensures (begins c.word_at-2.ensures (begins c.word_at-3.ensures (begins c.word_at-4.ensures refl)))
    ∙ whole 16 c.args.s (search rules)
