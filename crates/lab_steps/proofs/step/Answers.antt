-- Right because each return is its kind's line (StepLaws).
-- Assumes nothing.
use mathlib.Core.Path.{refl}
use Rattle.lab_state.specs.Reading.{state_of}
use Rattle.lab_rules.proofs.StepLaws.{step_0, step_1, step_2, step_3, three}
use Rattle.lab_steps.proofs.step.Goals as goal

pub returns-then-kind-eq0-clause-steps : goal.returns-then-kind-eq0-clause-steps
returns-then-kind-eq0-clause-steps c = λ h.
    let a = c.args in
    step_0 a.kind a.from_server a.payload.now _ (state_of a.lab.now) _ _ c.if-kind-eq0.true c.negotiate.ensures refl

pub returns-then-kind-eq1-clause-steps : goal.returns-then-kind-eq1-clause-steps
returns-then-kind-eq1-clause-steps c = λ h.
    let a = c.args in
    step_1 a.kind a.from_server a.payload.now _ (state_of a.lab.now) _ _ c.if-kind-eq0.false c.if-kind-eq1.true
    c.setup.ensures refl

pub returns-then-kind-eq2-clause-steps : goal.returns-then-kind-eq2-clause-steps
returns-then-kind-eq2-clause-steps c = λ h.
    let a = c.args in
    step_2 a.kind a.from_server a.payload.now _ (state_of a.lab.now) _ _ c.if-kind-eq0.false c.if-kind-eq1.false c.if-kind-eq2.true
    c.opened.ensures refl

pub returns-clause-steps : goal.returns-clause-steps
returns-clause-steps c = λ h.
    let a = c.args in
    let n0 = c.if-kind-eq0.false in
    let n1 = c.if-kind-eq1.false in
    let n2 = c.if-kind-eq2.false in
    step_3 a.kind a.from_server a.payload.now _ (state_of a.lab.now) _ _ n0 n1 n2 (c.added.ensures.joins (h (three a.kind n0 n1 n2))) refl
