-- Right because a short block is filled with zeros first, and a whole one is read where it stands.
use mathlib.Core.Path.{◌≡◌, ap, ◌∙◌}
use lib.ListN.{length}
use borrow.Author.Rules.{rules}
use Rattle.octets.specs.Numbers.{big_endian}
use Rattle.octets.specs.Blocks.{zero_padded}
use Rattle.octets.proofs.Paste.{part_all}
use Rattle.octets.proofs.BlockLaws.{zero_padded_exact}
use Rattle.ghash.proofs.load.block.Goals as goal

pub returns-then-s-at-lt16 : goal.returns-then-s-at-lt16
returns-then-s-at-lt16 c =
    let l : length c.zero_padded.result ≡ 16 = search rules in
    let padded = c.zero_padded.ensures ∙ ap (zero_padded 16) (part_all c.args.s.now c.args.at) in
    c.element.ensures ∙ ap big_endian (zero_padded_exact 16 c.zero_padded.result l ∙ padded)
