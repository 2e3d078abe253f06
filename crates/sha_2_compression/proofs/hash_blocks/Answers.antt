use Rattle.std.proofs.Common.{ℕ, ◌∙◌, refl, subst, map, ◌<◌, length}
use Rattle.sha_2.proofs.Loops.{taking_start, taking_turn, taking_end}
use Rattle.sha_2_compression.proofs.Numbers.{eight_fit}
use Rattle.sha_2_compression.proofs.hash_blocks.Goals as goal

pub loop-block-init : goal.loop-block-init
loop-block-init g c =
    let f = c.chunks_exact-block-items.ensures in
    rw (c.into_iter-block-iterator.ensures.into_iter_gives, f.rest, f.size)
    (taking_start g.W.Word.family (map g.W.Word.value c.args.hs) c.args.m.now, refl)

pub compress-h-requires : goal.compress-h-requires
compress-h-requires g c =
    let s = g.met.W.Algorithm.sizes in
    (eight_fit _ _ _ s.schedule g.met.W.Algorithm.small, c.in-Some.ensures.steps.1.1 ∙ c.loop-block.invariant.1 ∙ s.block)

pub loop-block-preserved : goal.loop-block-preserved
loop-block-preserved g c =
    let n = c.in-Some.ensures.steps in
    let size = c.loop-block.invariant.1 in (
      taking_turn g.W.Word.family c.in-Some.block.now c.loop-block.invariant.0 n.1.0 (n.1.1 ∙ size ∙ g.met.W.Algorithm.sizes.block) c.compress-h.ensures,
      n.0 ∙ size,
    )

pub returns : goal.returns
returns g c =
    let rest = c.loop-block.block-iterator.rest.now in
    let size = c.loop-block.invariant.1 ∙ g.met.W.Algorithm.sizes.block in
    taking_end g.W.Word.family c.loop-block.invariant.0 (subst (λ (n : ℕ). length rest < n) size c.in-None.ensures.steps.1.0)
