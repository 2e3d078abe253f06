-- Right because the first eight of 16 bytes are the high word.
use mathlib.Core.Path.{ap₂, ◌∙◌}
use Rattle.ghash_field.specs.Elements.{join}
use Rattle.octets.proofs.Pairs.{words-at}
use Rattle.ghash.proofs.load.element.Goals as goal

pub returns : goal.returns
returns c =
    ap₂ join c.number_at.ensures.value c.number_at-2.ensures.value ∙ words-at c.args.s.now c.args.at c.requires
