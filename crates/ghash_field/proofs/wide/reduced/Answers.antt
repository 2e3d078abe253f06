-- Right because 64 steps leave the highest word as it is, and 64 more take in the rest.
use Rattle.std.proofs.Common.{rules}
use Rattle.ghash_field.proofs.WideLaws.{wide_reduced}
use Rattle.ghash_field.proofs.wide.reduced.Goals as goal

pub returns : goal.returns
returns c =
    let w = c.args.w in
    let e = c.folded-e.result in
    wide_reduced w.w3 w.w2 w.w1 w.w0 e.hi e.lo _ (search rules) (search rules) (search rules) (search rules)
    c.folded-e.ensures c.folded.ensures
