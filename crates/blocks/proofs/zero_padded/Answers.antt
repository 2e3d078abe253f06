-- Right because what s has stands in the place of the first zeros, and the others fill the array (zeros_replaced).
-- Assumes nothing.
use Rattle.std.proofs.Common.{rules, ℕ, List, ◌++◌, drop, replicate, ap, ◌∙◌}
use Rattle.octets.proofs.BlockLaws.{zeros_replaced}
use Rattle.blocks.proofs.zero_padded.Goals as goal

pub returns : goal.returns
returns g c =
    let n = c.at_most-n.result in
    ap (λ (l : List ℕ). l ++ drop n (replicate g.row.N 0)) (search rules)
    ∙ zeros_replaced g.row.N c.args.s.now n c.at_most-n.ensures
