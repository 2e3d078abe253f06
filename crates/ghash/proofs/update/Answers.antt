use mathlib.Core.Path.{◌≡◌, refl, ap, ap₂, sym, ◌∙◌}
use Prim.Native.Nat.{ℕ}
use native.Mathlib.Numerals.{add-one}
use native.Mathlib.Omega.{arith}
use lib.Bits.{bit_xor}
use lib.ListN.{length}
use Rattle.octets.specs.Blocks.{block_count, over_blocks}
use Rattle.ghash_field.specs.Field.{mul}
use Rattle.ghash_field.specs.Elements.{element_of}
use Rattle.ghash.specs.Ghash.{step, ghash_from}
use Rattle.ghash.proofs.update.Goals as goal

pub loop-j-init : goal.loop-j-init
unfolding over_blocks
loop-j-init c = refl

pub loop-j-preserved : goal.loop-j-preserved
unfolding over_blocks
loop-j-preserved c =
    let a = c.args in
    let h : ℕ = a.k.now in
    let j = c.loop-j.j in
    c.times-z.ensures
    ∙ ap (λ (y : ℕ). mul y h) (c.bitxor.ensures ∙ ap₂ bit_xor c.loop-j.invariant c.block.ensures)
    ∙ ap (over_blocks (step h) (element_of a.y.y) a.s.now) (sym (add-one j))

pub returns : goal.returns
unfolding ghash_from
returns c =
    let a = c.args in
    let n = c.div_ceil-j-end.ensures in
    let count : c.loop-j.j ≡ block_count (length a.s.now) = grind (arith, n, c.loop-j-test.false, c.loop-j.auto.j-end) in
    c.loop-j.invariant ∙ ap (over_blocks (step a.k.now) (element_of a.y.y) a.s.now) count
