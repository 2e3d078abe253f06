use Rattle.std.proofs.Common.{◌≡◌, ℕ, ◌*◌, ◌/◌, ◌∙◌, length, map, replicate, ap, refl, arith, sym, mul-le-mul_right}
use Rattle.std.proofs.Math.ListN.{get_or}
use lib.Seq.{paste}
use Rattle.std.proofs.lemmas.List.{get_or-map, length-replicate}
use Rattle.octets.specs.Numbers.{to_big_endian}
use Rattle.sha_2.proofs.Loops.{digesting_start, digesting_turn, digesting_end}
use Rattle.sha_2_running.proofs.padding.digest.Goals as goal

pub loop-i-init : goal.loop-i-init
loop-i-init g c =
    digesting_start g.W.Word.family (map g.W.Word.value c.args.hs.now) (replicate g.row.DIGEST 0) (length-replicate g.row.DIGEST 0 ∙ c.requires)

pub loop-i-preserved : goal.loop-i-preserved
loop-i-preserved g c =
    let p = g.W.Word.family in
    let i = c.loop-i.i in
    let h = c.loop-i-test.true in
    let size : g.row.DIGEST / 8 ≡ p.bytes = omega (arith, c.requires) in
    let word = get_or-map g.W.Word.value c.args.hs.now i c.index-hs-i.result 0 (omega (arith, c.told-hs, h)) in
    let b = to_big_endian p.bytes (g.W.Word.value (get_or c.args.hs.now i c.index-hs-i.result)) in
    let stored = c.store.ensures b refl ∙ ap (λ (n : ℕ). paste c.loop-i.out (i * n) b (length b)) size in
    digesting_turn p c.loop-i.invariant (mul-le-mul_right p.bytes (omega (arith, h))) h (ap (to_big_endian p.bytes) (sym word)) stored c.store.auto.out

pub returns : goal.returns
returns g c = digesting_end g.W.Word.family c.loop-i.invariant c.loop-i-test.false
