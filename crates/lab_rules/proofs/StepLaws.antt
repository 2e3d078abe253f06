-- What a step is, kind by kind.
-- Assumes nothing.
use mathlib.Core.Path.{◌≡◌}
use mathlib.Core.Bool.{Bool}
use Prim.Native.Nat.{ℕ, ◌≤◌}
use native.Mathlib.Omega.{arith}
use borrow.Author.Tests.{eq-eqb, ne_eqb}
use Rattle.protocol.specs.Bytes.{Bytes}
use Rattle.protocol.specs.Answer.{answer_number}
use Rattle.protocol.specs.Preauth.{negotiate_message}
use Rattle.protocol.specs.Calls.{Call, folding, opening, adding, Lent, only_chain, only_table, message_and_table, answer, left}
use Rattle.protocol.specs.Suite.{suite}
use Rattle.lab_rules.specs.Steps.{State, Steps, call_of, lent_to, step_state, step_payload, setup_kind, receiving, lab_session, with_session, negotiated, joined}

-- the number that a call gives, and what it leaves
abbrev pub number : Call → Lent → ℕ
number c w = answer_number (answer suite c w)

abbrev pub after : Call → Lent → Lent
after c w = left suite c w

module _ (k : ℕ) (d : Bool) (m m' : Bytes) (s : State) (n : ℕ) (t : State) where
  pub step_0 : k ≡ 0
      → (n ≡ number (folding negotiate_message m) (only_chain s.connection))
      × (t ≡ negotiated (after (folding negotiate_message m) (only_chain s.connection)).chain s)
      → m' ≡ m → Steps k d m m' s n t
  unfolding call_of lent_to step_state step_payload
  step_0 q e em = record { answers = rw (eq-eqb k 0 q) e.0; leaves = rw (eq-eqb k 0 q) e.1; bytes = rw (ne_eqb k 2 (λ z. omega arith)) em }

  module _ (n0 : k ≡ 0 → ⊥) where
    pub step_1 : k ≡ 1
        → (n ≡ number (folding (setup_kind d) m) (only_chain s.session))
        × (t ≡ with_session (after (folding (setup_kind d) m) (only_chain s.session)).chain s)
        → m' ≡ m → Steps k d m m' s n t
    unfolding call_of lent_to step_state step_payload
    step_1 q e em =
        record {
          answers = rw (ne_eqb k 0 n0, eq-eqb k 1 q) e.0;
          leaves = rw (ne_eqb k 0 n0, eq-eqb k 1 q) e.1;
          bytes = rw (ne_eqb k 2 (λ z. omega arith)) em;
        }

    module _ (n1 : k ≡ 1 → ⊥) where
      pub step_2 : k ≡ 2
          → (n ≡ number (opening (receiving d s)) (message_and_table m s.table))
          × (m' ≡ (after (opening (receiving d s)) (message_and_table m s.table)).message)
          → t ≡ s → Steps k d m m' s n t
      unfolding call_of lent_to step_state step_payload
      step_2 q e et =
          record {
            answers = rw (ne_eqb k 0 n0, ne_eqb k 1 n1, eq-eqb k 2 q) e.0;
            leaves = rw (ne_eqb k 0 n0, ne_eqb k 1 n1, eq-eqb k 2 q) et;
            bytes = rw (ne_eqb k 0 n0, ne_eqb k 1 n1, eq-eqb k 2 q) e.1;
          }

      pub step_3 : (k ≡ 2 → ⊥)
          → (n ≡ number (adding (lab_session m s)) (only_table s.table))
          × (t ≡ joined (after (adding (lab_session m s)) (only_table s.table)).table s)
          → m' ≡ m → Steps k d m m' s n t
      unfolding call_of lent_to step_state step_payload
      step_3 n2 e em =
          record {
            answers = rw (ne_eqb k 0 n0, ne_eqb k 1 n1, ne_eqb k 2 n2) e.0;
            leaves = rw (ne_eqb k 0 n0, ne_eqb k 1 n1, ne_eqb k 2 n2) e.1;
            bytes = rw (ne_eqb k 2 n2) em;
          }

-- the kinds that are left
pub three : (k : ℕ) → (k ≡ 0 → ⊥) → (k ≡ 1 → ⊥) → (k ≡ 2 → ⊥) → 3 ≤ k
three k n0 n1 n2 = omega arith
