-- Right because the counter moves only where what is left below the last is enough.
use Prim.Native.Nat.{◌+◌, ◌≤◌, ◌<◌}
use native.Mathlib.Omega.{arith}
use borrow.Author.Tests.{le-leb, lt-leb}
use Rattle.protocol.specs.Connection.{last_counter}
use Rattle.session_record.specs.Reading.{stepped}
use Rattle.session_record.proofs.Session.stepped.Goals as goal

pub returns-then-last_counter-self : goal.returns-then-last_counter-self
unfolding stepped
returns-then-last_counter-self c =
    let a = c.args in
    let last = c.last_counter.ensures in
    let past : last_counter < a.self.counter + a.by = omega (arith, c.if-last_counter-self.true) in
    simp (lt-leb _ _ past)

pub returns : goal.returns
unfolding stepped
returns c =
    let a = c.args in
    let last = c.last_counter.ensures in
    let within : a.self.counter + a.by ≤ last_counter = omega arith in
    simp (le-leb _ _ within)
