use Rattle.std.proofs.Common.{◌≡◌, ℕ, ◌*◌, ◌/◌, ◌^◌, ◌<◌, List, sym, ap, ◌∙◌, subst, mod-lt, arith, pow_pos, rules}
use Rattle.ghash_field.specs.declared.Element.{Element}
use Rattle.ghash_field.specs.Field.{mul}
use Rattle.ghash_field.specs.Elements.{element_of, entry, subkey, wide_of, four_bits, Products}
use Rattle.ghash_field.proofs.Turns.{Summed, rest, rest_all, rest_turn, summed_none, summed_turn, summed_all, next_fits, room-none, room, room_turn}
use Rattle.ghash_field.proofs.HashKey.times.Goals as goal

-- the entry that four bits choose
looked-up : {t : List Element} {p : ℕ} (k x h : ℕ) → Products t h → p ≡ rest k x → entry t (p / 2 ^ 60) ≡ mul (four_bits (rest k x / 2 ^ 60)) h
looked-up {t} {p} k x h holds e =
    holds.product (p / 2 ^ 60) (next_fits p (subst (λ (n : ℕ). n < 2 ^ 64) (sym e) (mod-lt (x * 2 ^ (4 * k)) (pow_pos 64))))
    ∙ ap (λ (m : ℕ). mul (four_bits (m / 2 ^ 60)) h) e

pub loop-k-init : goal.loop-k-init
loop-k-init c =
    let z = c.zero-w.ensures in
    let x = c.args.x in (
      summed_none x.hi x.lo _ _ z.0,
      room-none _ z.1,
      rest_all x.hi (search rules),
      rest_all x.lo (search rules),
    )

pub shifted-w-requires : goal.shifted-w-requires
shifted-w-requires c = room c.loop-k._k c.loop-k.w.w3 _ c.loop-k-test.true c.added-sum.ensures.1 c.loop-k.invariant.1

pub loop-k-preserved : goal.loop-k-preserved
loop-k-preserved c =
    let x = c.args.x in
    let i = c.loop-k.invariant in
    let n = c.loop-k._k in
    let h = subkey c.self.inside.products in (
      summed_turn n x.hi x.lo h (wide_of c.loop-k.w) _ _ _ _ c.loop-k-test.true
          (looked-up n x.hi h c.self.invariant.0 i.2)
          (looked-up n x.lo h c.self.invariant.0 i.3)
          c.added-sum.ensures.0 c.shifted-w.ensures.0 i.0,
      room_turn n c.loop-k.w.w3 _ _ c.added-sum.ensures.1 i.1 c.shifted-w.ensures.1,
      rest_turn n x.hi c.loop-k.p i.2,
      rest_turn n x.lo c.loop-k.q i.3,
    )

pub returns : goal.returns
returns c =
    let x = c.args.x in
    let h = subkey c.self.inside.products in
    let e : c.loop-k._k ≡ 16 = omega arith in
    summed_all x.hi x.lo h (wide_of c.loop-k.w) _ (search rules)
    (subst (λ (n : ℕ). Summed n x.hi x.lo h (wide_of c.loop-k.w)) e c.loop-k.invariant.0) c.reduced.ensures
    ∙ ap (mul (element_of x)) c.self.view_is
