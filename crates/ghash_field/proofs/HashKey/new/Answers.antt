use Rattle.std.proofs.Common.{◌≡◌, ℕ, ◌^◌, ◌<◌, refl, sym, ap, ◌∙◌, subst, arith, rules, set, length-set, get_or-set_other, get_or-set_same, below_more}
use Rattle.ghash_field.specs.declared.Element.{Element}
use Rattle.ghash_field.specs.Field.{mul}
use Rattle.ghash_field.specs.Elements.{element_of, entry, four_bits, subkey}
use Rattle.ghash_field.specs.Tables.{at}
use Rattle.ghash_field.proofs.FieldLaws.{product-terms, one}
use Rattle.ghash_field.proofs.HashKey.new.Goals as goal

pub loop-n-init : goal.loop-n-init
loop-n-init c = ((λ m l. omega arith), refl)

pub loop-n-preserved : goal.loop-n-preserved
loop-n-preserved c =
    let h : ℕ = element_of c.args.h in
    let n = c.loop-n.n in
    let t = c.loop-n.products in
    let e = c.sum.result in
    let right : element_of e ≡ mul (four_bits n) h =
    product-terms n h _ _ _ _ c.times_x-hx.ensures c.times_x-hx2.ensures c.times_x-hx3.ensures c.sum.ensures in
    let is : (x : Element) → Type 0 = λ x. (element_of x ≡ mul (four_bits n) h) × (x.lo < 2 ^ 64) in (
      below_more (λ (m : ℕ). (entry (set t n e) m ≡ mul (four_bits m) h) × ((at (set t n e) m).lo < 2 ^ 64)) n
          (λ m l.
          let same = get_or-set_other t n m e _ (omega arith) in
          let before = c.loop-n.invariant.0 m l in
          (ap element_of same ∙ before.0, subst (λ (x : Element). x.lo < 2 ^ 64) (sym same) before.1))
          (subst is (sym (get_or-set_same t n e _ (omega arith))) (right, search rules)),
      length-set t n e ∙ c.loop-n.invariant.1,
    )

pub returns : goal.returns
returns c = (c.loop-n.invariant.0 8 (omega arith)).0 ∙ one (element_of c.args.h)

pub invariant_of-result : goal.invariant_of-result
invariant_of-result c =
    let h : ℕ = element_of c.args.h in
    let i = c.loop-n.invariant in
    let is : subkey c.loop-n.products ≡ h = (i.0 8 (omega arith)).0 ∙ one h in (
      record { product = λ n l. (i.0 n (omega arith)).0 ∙ ap (mul (four_bits n)) (sym is) },
      record { sixteen = i.1; words = λ n l. (i.0 n (omega arith)).1 },
    )
