-- Right because the two lengths are the words of their block.
use mathlib.Core.Path.{ap, sym, ◌∙◌}
use borrow.Author.Rules.{rules}
use Rattle.octets.proofs.Pairs.{block_is}
use Rattle.ghash_field.specs.Elements.{element_of}
use Rattle.ghash.specs.Ghash.{ghash_from}
use Rattle.ghash.proofs.update_lengths.Goals as goal

pub returns : goal.returns
returns c =
    let a = c.args in
    c.update.ensures ∙ ap (ghash_from a.k.now (element_of a.y.y)) (c.element_block-x.ensures ∙ sym (block_is a.a a.b (search rules)))
