-- The counter step of a record, by nothing and by one, and as the rules have it.
-- Assumes nothing.
use mathlib.Core.Path.{◌≡◌, refl, ap}
use mathlib.Core.Bool.{Bool, true, false, cond}
use Prim.Native.Nat.{ℕ, ◌+◌, ◌<◌, ◌≤◌, ◌^◌}
use native.Mathlib.Omega.{arith}
use borrow.Author.Tests.{le-leb, eqb-false}
use lib.Dec.{eqb, leb}
use Rattle.protocol.specs.Connection.{last_counter}
use Rattle.protocol.specs.SessionTable as protocol
use Rattle.session_record.specs.declared.Session.{Session}
use Rattle.session_record.specs.Reading.{session_of, with_counter, stepped}
use Rattle.session_table.specs.Exactly.{counted_up}

pub step-none : (s : Session) → stepped 0 s ≡ s
unfolding stepped
step-none s = go (leb (s.counter + 0) last_counter)
  where
    go : (b : Bool) → cond b (with_counter (s.counter + 0) s) s ≡ s
    go true = let z : s.counter + 0 ≡ s.counter = omega arith in ap (λ (k : ℕ). with_counter k s) z
    go false = refl

pub step-one : (s : Session) → s.counter < 2 ^ 64 → eqb s.counter last_counter ≡ false → stepped 1 s ≡ counted_up s
unfolding stepped
step-one s fits e =
    let d = eqb-false s.counter last_counter e in
    let within : s.counter + 1 ≤ last_counter = omega (arith, fits, d) in
    ap (λ (b : Bool). cond b (with_counter (s.counter + 1) s) s) (le-leb (s.counter + 1) last_counter within)

pub steps_alike : (by : ℕ) (s : Session) → session_of (stepped by s) ≡ protocol.counter_step by (session_of s)
unfolding stepped protocol.counter_step
steps_alike by s = go (leb (s.counter + by) last_counter)
  where
    go : (b : Bool) → session_of (cond b (with_counter (s.counter + by) s) s) ≡ cond b (protocol.with_counter (s.counter + by) (session_of s)) (session_of s)
    go true = refl
    go false = refl
