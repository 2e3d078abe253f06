use Rattle.std.proofs.Common.{◌≡◌, ◌+◌, ◌*◌, ℕ, ◌∙◌, map, subst, refl, arith}
use Rattle.std.proofs.lemmas.List.{length-map}
use Rattle.sha_2.proofs.Loops.{First, first-start, first_turn, first-end}
use Rattle.sha_2_compression.specs.Code.{of}
use Rattle.sha_2_compression.proofs.rounds.first_rounds.Goals as goal

pub loop-i-init : goal.loop-i-init
loop-i-init g c =
    let value = g.W.Word.value in
    let a = c.args in
    first-start g.W.Word.family (map value a.w.now) g.W.Word.family.constants (of value a.s)
    (length-map a.w.now value ∙ c.told-w ∙ g.met.W.Algorithm.sizes.schedule) refl

pub loop-i-preserved : goal.loop-i-preserved
loop-i-preserved g c =
    let value = g.W.Word.value in
    let s = g.met.W.Algorithm.sizes in
    let a = c.args in
    let f = c.eight_rounds-v in
    let next : 8 * c.loop-i.i + 8 ≡ 8 * (c.loop-i.i + 1) = omega arith in
    subst (λ (j : ℕ). First g.W.Word.family (map value a.w.now) g.W.Word.family.constants (of value a.s) (map value f.new.w) (of value f.result) j) next
    (first_turn g.W.Word.family s.eighths c.loop-i.invariant (omega (arith, c.loop-i-test.true, s.schedule))
    (length-map f.new.w value ∙ f.ensures.0 ∙ s.schedule) f.ensures.1)

pub returns : goal.returns
returns g c =
    let s = g.met.W.Algorithm.sizes in
    let e = first-end g.W.Word.family c.loop-i.invariant (omega (arith, c.loop-i-test.false, s.schedule, s.eighths)) in
    (e.1, e.2)
