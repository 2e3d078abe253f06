use Rattle.std.proofs.Common.{arith, length-set, ◌∙◌}
use Rattle.octets.proofs.XorWith.{xor_turn, xor_done}
use Rattle.runs.proofs.xor_into.Goals as goal

pub loop-i-preserved : goal.loop-i-preserved
loop-i-preserved c =
    let l = c.loop-i in
    (xor_turn c.args.text.now c.args.stream l.text l.i l.invariant.0 (omega arith), simp length-set l.invariant.1)

pub returns : goal.returns
returns c = c.loop-i.invariant.0 ∙ xor_done c.args.text.now c.args.stream c.loop-i.i (omega arith)
