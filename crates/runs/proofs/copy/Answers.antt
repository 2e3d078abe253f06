use Rattle.std.proofs.Common.{◌≡◌, ◌+◌, refl, ap, ◌∙◌, arith, length, length-set}
use Rattle.std.proofs.Math.Seq.{paste, paste-zero}
use Rattle.octets.proofs.Paste.{paste_turn}
use Rattle.runs.proofs.copy.Goals as goal

pub loop-j-init : goal.loop-j-init
loop-j-init c = let a = c.args in (paste-zero a.dst.now a.at a.src.now, refl)

pub loop-j-preserved : goal.loop-j-preserved
loop-j-preserved c =
    let l = c.loop-j in
    let a = c.args in (
      paste_turn a.dst.now a.at a.src.now l.dst l.j (a.at + l.j) _ l.invariant.0 refl (omega arith) (omega arith) refl,
      simp length-set (omega arith),
    )

pub returns : goal.returns
returns c =
    let l = c.loop-j in
    let a = c.args in
    let e : l.j ≡ length a.src.now = omega arith in
    l.invariant.0 ∙ ap (paste a.dst.now a.at a.src.now) e
