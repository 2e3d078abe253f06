-- Right because the id is the number in the first eight bytes, and the key the sixteen behind it.
-- Assumes nothing.
use mathlib.Core.Bool.{false}
use mathlib.Core.Path.{ap, ◌∙◌}
use Prim.Native.Nat.{ℕ}
use native.Mathlib.Omega.{arith}
use Rattle.octets.specs.Numbers.{bytes_at}
use Rattle.protocol.specs.Answer.{answer_number}
use Rattle.protocol.specs.Calls.{Call, Lent, adding, only_table, answer, left}
use Rattle.protocol.specs.Suite.{suite}
use Rattle.lab_rules.specs.Steps.{State, joined}
use Rattle.lab_state.specs.Reading.{state_of}
use Rattle.lab_steps.proofs.added.Goals as goal

pub returns-then-payload-lt24-clause-joins : goal.returns-then-payload-lt24-clause-joins
returns-then-payload-lt24-clause-joins c = λ h. absurd (omega arith)

pub returns-clause-joins : goal.returns-clause-joins
returns-clause-joins c = λ h.
    let a = c.args in
    let s = state_of a.lab.now in
    let m = a.payload.now in
    let call : ℕ → Call = λ (x : ℕ).
    adding (record { dialect = s.dialect; cipher = s.cipher; chain = s.session; id = x; material = bytes_at 8 16 m; guest = false; anonymous = false }) in
    let w = only_table s.table in
    let r = c.add-added.ensures.0 in
    let id = c.number_at.ensures.value in (
      c.number.ensures ∙ r.number ∙ ap (λ (x : ℕ). answer_number (answer suite (call x) w)) id,
      ap {B = State} (λ (x : Lent). joined x.table s) r.leaves ∙ ap {B = State} (λ (x : ℕ). joined (left suite (call x) w).table s) id,
    )
