use Rattle.std.proofs.Common.{◌≡◌, ℕ, ◌+◌, ◌-◌, ◌*◌, ◌∙◌, ap, map, arith}
use Rattle.sha_2.specs.Sha2 as sha2
use Rattle.sha_2_compression.proofs.rounds.last_rounds.Goals as goal

pub loop-i-init : goal.loop-i-init
loop-i-init g c =
    let e : g.W.Word.family.further ≡ g.row.ROUNDS - 16 + 2 * 0 = omega (arith, g.met.W.Algorithm.sizes.schedule) in
    λ x h. h ∙ ap (λ (j : ℕ). sha2.rounds g.W.Word.family (map g.W.Word.value c.args.w.now) j x) e

pub loop-i-preserved : goal.loop-i-preserved
loop-i-preserved g c =
    let e : g.row.ROUNDS - 16 + 2 * c.loop-i.i + 2 ≡ g.row.ROUNDS - 16 + 2 * (c.loop-i.i + 1) = omega arith in
    λ x h.
    c.two_last_rounds-v.ensures x (c.loop-i.invariant x h)
    ∙ ap (λ (j : ℕ). sha2.rounds g.W.Word.family (map g.W.Word.value c.args.w.now) j x) e

pub returns : goal.returns
returns g c =
    let i = c.loop-i.auto.i-end in
    let n = c.loop-i-test.false in
    let e : g.row.ROUNDS - 16 + 2 * c.loop-i.i ≡ 16 + g.W.Word.family.further = omega (arith, i, n, g.met.W.Algorithm.sizes.schedule) in
    λ x h. c.loop-i.invariant x h ∙ ap (λ (j : ℕ). sha2.rounds g.W.Word.family (map g.W.Word.value c.args.w.now) j x) e
