use mathlib.Core.Path.{◌≡◌, refl, sym, ap, ap₂, ◌∙◌}
use mathlib.Core.List.{List}
use Prim.Native.Nat.{ℕ}
use native.Mathlib.Omega.{arith}
use lib.ListN.{length, get_or}
use lib.Seq.{ext_get_or}
use borrow.Author.Count.{below_more}
use borrow.Author.Tests.{eqb-true, eq-eqb}
use lib.Bits.{bit_xor, bit_or, xor_self}
use borrow.Author.Rules.{rules}
use Rattle.octets.proofs.SameLaws.{or_zero, xor-zero, decided, same_self, same_equal}
use Rattle.octets.specs.Same.{same_bytes}
use lib.Dec.{eqb}
use Rattle.compare.proofs.same_16.Goals as goal

pub loop-i-init : goal.loop-i-init
loop-i-init c = ((λ e k l. omega arith), (λ e. refl), omega arith)

pub loop-i-preserved : goal.loop-i-preserved
loop-i-preserved c =
    let a = c.args.a in
    let b = c.args.b in
    let i = c.loop-i.i in
    let x : ℕ = bit_xor (get_or a i 0) (get_or b i 0) in (
      (λ e. let z = or_zero c.loop-i.d x e in
          below_more (λ (j : ℕ). get_or a j 0 ≡ get_or b j 0) i (c.loop-i.invariant.0 z.0) (xor-zero (get_or a i 0) (get_or b i 0) z.1)),
      (λ e. ap₂ bit_or (c.loop-i.invariant.1 e) (ap (λ (l : List ℕ). bit_xor (get_or l i 0) (get_or b i 0)) e ∙ xor_self (get_or b i 0))),
      omega arith,
    )

pub returns : goal.returns
returns c =
    let a = c.args.a in
    let b = c.args.b in
    let la : length a ≡ 16 = search rules in
    let lb : length b ≡ 16 = search rules in
    decided (eqb c.loop-i.d 0) (same_bytes a b)
    (λ e. ap (same_bytes a) (sym (ext_get_or 0 a b (la ∙ sym lb) (λ i l. c.loop-i.invariant.0 (eqb-true c.loop-i.d 0 e) i (omega arith)))) ∙ same_self a)
    (λ e. eq-eqb c.loop-i.d 0 (c.loop-i.invariant.1 (same_equal a b e)))
