-- Right because each column is made of its four bytes: twelve of the prefix, and four of the number.
use Prim.Native.Nat.{ℕ}
use mathlib.Core.List.{List, ◌++◌}
use mathlib.Core.Path.{refl, ap, ap₂, ◌∙◌}
use borrow.Author.Rules.{rules}
use Rattle.octets.specs.Numbers.{to_big_endian}
use Rattle.octets.proofs.Elements.{whole}
use Rattle.aes_words.specs.Words.{state_of, bytes_of}
use Rattle.aes_words.proofs.WordLaws.{begins}
use Rattle.aes_words.proofs.load_counter.Goals as goal

pub returns : goal.returns
unfolding state_of bytes_of
returns c =
    begins c.word_at.ensures (begins c.word_at-2.ensures (begins c.word_at-3.ensures (begins c.word_at-4.ensures refl)))
    ∙ ap₂ (λ (x y : List ℕ). x ++ y) (whole 12 c.args.p (search rules))
    (whole 4 c.to_bytes-c.result c.to_bytes-c.type_inv.1.0.1 ∙ c.to_bytes-c.ensures ∙ ap (to_big_endian 4) c.from.ensures)
