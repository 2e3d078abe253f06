-- The walk, a header at a time: what each way out of the loop, and each turn, is by the definition.
-- Assumes nothing.
use mathlib.Core.Path.{◌≡◌, refl, ap, sym, subst, ◌∙◌}
use mathlib.Core.Bool.{true}
use mathlib.Core.List.{List}
use Prim.Native.Nat.{ℕ, suc, ◌+◌, ◌-◌, ◌*◌, ◌≤◌}
use native.Mathlib.Omega.{arith}
use borrow.Author.Tests.{eq-eqb, ne_eqb, ltb-false}
use lib.Dec.{ltb}
use lib.ListN.{length}
use Rattle.std.specs.Prelude.{Option, Some, None, Result, Ok, Err}
use Rattle.std.proofs.lemmas.Result.{IfOk-at_ok}
use Rattle.octets.proofs.BoolLaws.{or_false}
use Rattle.protocol.specs.Bytes.{Bytes}
use Rattle.protocol.specs.Answer.{done, refused, Test, first_of, judge}
use Rattle.protocol.specs.InnerHeader.{next_command, Envelope}
use Rattle.protocol.specs.Compound.{first_header_tests, next_header_tests, walk_on, walk}
use Rattle.protocol.proofs.Judging.{NoneApplies, refuses, judge-passed}
use Rattle.answer.specs.declared.refusal.Refusal.{Refusal}
use Rattle.answer.specs.Reading.{number_of}
use Rattle.answer.proofs.Results.{refusal_number, passed, refuses_with}
use Rattle.compound.specs.declared.header.InnerHeader.{InnerHeader}
use Rattle.compound.specs.Walking.{Stands, First, Ahead, Next}

-- at the header at p, the n-th, nothing was found so far
pub record Walking (m : Bytes) (e : Envelope) (p n : ℕ) : Type 0 where
  pub inside : p + 64 ≤ length m
  pub counted : 64 * n ≤ p + 64
  pub begun : 1 ≤ n
  pub so_far : walk m e ≡ walk_on (suc (length m) - n) m e p n

fuel_start : (l : ℕ) → l ≡ suc l - 1
fuel_start l = omega arith

fuel_turn : (l n : ℕ) → n ≤ l → suc l - n ≡ suc (l - n)
fuel_turn l n h = omega arith

fuel_next : (l n : ℕ) → n ≤ l → l - n ≡ suc l - (n + 1)
fuel_next l n h = omega arith

-- the first header
module _ (m : Bytes) (e : Envelope) (r : Result InnerHeader Refusal) (f : First m e r) where
  abbrev lines : List Test
  lines = first_header_tests m e

  pub first_refuses : (why : Refusal) → r ≡ Err why → walk m e ≡ refused (number_of why)
  unfolding walk
  first_refuses why o = refuses_with lines refl r why (walk_on (length m) m e 0 1) f.number o

  pub first_stands : (h : InnerHeader) → r ≡ Ok h → Stands m 0 h
  first_stands h o = IfOk-at_ok (Stands m 0) o f.found

  pub first_walks : (h : InnerHeader) → r ≡ Ok h → Walking m e h.at 1
  unfolding walk
  first_walks h o =
      let none : NoneApplies lines = passed lines refl r h f.number o in
      let long : 64 ≤ length m = ltb-false (length m) 64 none.0 in
      let w : Walking m e 0 1 =
      record {
        inside = omega arith;
        counted = omega arith;
        begun = omega arith;
        so_far = judge-passed lines (walk_on (length m) m e 0 1) none ∙ ap (λ (j : ℕ). walk_on j m e 0 1) (fuel_start (length m));
      } in
      subst (λ (p : ℕ). Walking m e p 1) (sym (first_stands h o).at_place) w

-- the header at p
module _ (m : Bytes) (e : Envelope) (p n : ℕ) (w : Walking m e p n) where
  abbrev d : ℕ
  d = next_command m p

  now_at : walk m e ≡ walk_on (suc (length m - n)) m e p n
  now_at =
      let a = w.inside in
      let b = w.counted in
      w.so_far ∙ ap (λ (j : ℕ). walk_on j m e p n) (fuel_turn (length m) n (omega arith))

  -- is the last
  pub ends : d ≡ 0 → walk m e ≡ done n
  ends z = now_at ∙ rw (eq-eqb d 0 z)

  -- or leads to the next
  module _ (more : d ≡ 0 → ⊥) where
    abbrev next_lines : List Test
    next_lines = next_header_tests m e p d

    judged : walk m e ≡ judge next_lines (walk_on (length m - n) m e (p + d) (n + 1))
    judged = now_at ∙ rw (ne_eqb d 0 more)

    pub next_refuses : (why : Refusal) → number_of why ≡ first_of next_lines → walk m e ≡ refused (number_of why)
    next_refuses why says =
        judged ∙ refuses next_lines (walk_on (length m - n) m e (p + d) (n + 1)) (number_of why) says (refusal_number why)

    pub next_walks : (h : InnerHeader) → Ahead m e p d (Ok h) → Walking m e h.at (n + 1)
    next_walks h a =
        let none : NoneApplies next_lines = passed next_lines refl (Ok h) h a.number refl in
        let within = or_false (ltb d 64) (ltb (length m) (p + d + 64)) none.0 in
        let far : 64 ≤ d = ltb-false d 64 within.0 in
        let near : p + d + 64 ≤ length m = ltb-false (length m) (p + d + 64) within.1 in
        let b = w.inside in
        let c = w.counted in
        let w' : Walking m e (p + d) (n + 1) =
        record {
          inside = near;
          counted = omega arith;
          begun = omega arith;
          so_far =
              judged
              ∙ judge-passed next_lines (walk_on (length m - n) m e (p + d) (n + 1)) none
              ∙ ap (λ (j : ℕ). walk_on j m e (p + d) (n + 1)) (fuel_next (length m) n (omega arith));
        } in
        subst (λ (q : ℕ). Walking m e q (n + 1)) (sym a.found.at_place) w'
