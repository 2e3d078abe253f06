-- Right because a bit's multiple goes word by word.
use Rattle.std.proofs.Common.{◌∙◌, ap₂, rules}
use Rattle.ghash_field.specs.Elements.{join}
use Rattle.ghash_field.proofs.WordLaws.{join-bit}
use Rattle.ghash_field.proofs.terms.select.Goals as goal

pub returns : goal.returns
returns c =
    let args = c.args in
    ap₂ join c.bit_times.ensures c.bit_times-2.ensures ∙ join-bit args.b args.y.hi args.y.lo (search rules)
