-- Right because the subkey is the element that its block writes.
use mathlib.Core.Path.{ap, ◌∙◌}
use borrow.Author.Rules.{rules}
use Rattle.octets.specs.Numbers.{big_endian}
use Rattle.octets.proofs.BlockLaws.{zero_padded_exact}
use Rattle.ghash.proofs.prepare.Goals as goal

pub returns : goal.returns
returns c = c.new.ensures ∙ c.element.ensures ∙ ap big_endian (zero_padded_exact 16 c.args.h (search rules))
