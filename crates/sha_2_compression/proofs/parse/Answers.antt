use Rattle.std.proofs.Common.{◌≡◌, ℕ, ◌*◌, ◌/◌, ◌∙◌, ap, map, arith}
use Rattle.std.proofs.lemmas.List.{length-map, map-set}
use Rattle.octets.specs.Numbers.{big_endian, bytes_at}
use Rattle.sha_2.proofs.Loops.{parsing_start, parsing_turn, parsing_end}
use Rattle.sha_2_compression.proofs.parse.Goals as goal

pub loop-i-init : goal.loop-i-init
loop-i-init g c =
    let value = g.W.Word.value in
    let a = c.args in
    parsing_start g.W.Word.family a.block.now (map value a.w.now) (length-map a.w.now value ∙ c.told-w ∙ g.met.W.Algorithm.sizes.schedule)

pub loop-i-preserved : goal.loop-i-preserved
loop-i-preserved g c =
    let p = g.W.Word.family in
    let l = c.loop-i in
    let size : g.row.BLOCK / 16 ≡ p.bytes = omega (arith, g.met.W.Algorithm.sizes.block) in
    let word = c.word_at.ensures ∙ ap (λ (n : ℕ). big_endian (bytes_at (l.i * n) p.bytes c.args.block.now)) size in
    rw (map-set g.W.Word.value l.w l.i c.word_at.result) (parsing_turn p l.invariant c.loop-i-test.true word)

pub returns : goal.returns
returns g c = (parsing_end g.W.Word.family c.loop-i.invariant c.loop-i-test.false).1
