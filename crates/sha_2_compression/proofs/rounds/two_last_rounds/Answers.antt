-- Right because one round and one more are two.
use Rattle.std.proofs.Common.{◌+◌, map, refl, arith}
use Rattle.sha_2.proofs.Rounds.{two_more}
use Rattle.sha_2_compression.specs.Code.{of}
use Rattle.sha_2_compression.proofs.Numbers.{round_at}
use Rattle.sha_2_compression.proofs.rounds.two_last_rounds.Goals as goal

pub returns : goal.returns
returns g c =
    let value = g.W.Word.value in
    let p = g.W.Word.family in
    let a = c.args in
    let at = round_at value p a.w.now in
    two_more p (map value a.w.now) a.j refl
    (at a.j _ _ (of value a.v) _ (omega (arith, c.told-w, c.requires)) c.round_constant.ensures c.round-half.ensures)
    (at (a.j + 1) _ _ (of value c.round-half.result) _ (omega (arith, c.told-w, c.requires)) c.round_constant-2.ensures c.round.ensures)
