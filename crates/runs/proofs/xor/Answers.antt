use Rattle.std.proofs.Common.{rules, arith, ◌≡◌, length, length-set, ◌∙◌}
use Rattle.octets.proofs.XorWith.{xor_turn, xor_done}
use Rattle.runs.proofs.xor.Goals as goal

pub loop-i-preserved : goal.loop-i-preserved
loop-i-preserved g c =
    let l = c.loop-i in
    let n : length c.args.x ≡ g.row.N = search rules in
    (xor_turn c.args.x c.args.y l.r l.i l.invariant.0 (omega arith), simp length-set l.invariant.1)

pub returns : goal.returns
returns g c =
    let n : length c.args.x ≡ g.row.N = search rules in
    c.loop-i.invariant.0 ∙ xor_done c.args.x c.args.y c.loop-i.i (omega arith)
