-- What a turn leaves, reading by reading.
-- Assumes nothing.
use mathlib.Core.Path.{◌≡◌, sym, ap, subst, ◌∙◌}
use mathlib.Core.Bool.{Bool, cond}
use mathlib.Core.List.{◌++◌}
use Prim.Native.Nat.{ℕ, ◌+◌, ◌-◌, ◌≤◌}
use native.Mathlib.Omega.{arith}
use borrow.Author.Tests.{le-ltb}
use lib.ListN.{length, take, drop, length-take, length-drop}
use lib.Seq.{drop-drop}
use Rattle.octets.specs.Numbers.{bytes_at}
use Rattle.protocol.specs.Bytes.{Bytes}
use Rattle.trace_format.specs.Format.{Edition, Reading, found}
use Rattle.trace_format.proofs.FormatLaws.{Was, admitted_24}
use Rattle.lab_rules.specs.Steps.{State, Steps, step_number, step_state, step_payload}
use Rattle.lab_rules.specs.Replay.{held, answered, long, outcome, state_after, file_after, place_after}
use Rattle.lab_state.specs.Reading.{state_of}
use Rattle.lab_state.specs.declared.Lab.{Lab}
use Rattle.lab.specs.Reading.{Turns}
use Rattle.lab.specs.declared.Line.TheVariants.{Number}

module _ (r : Reading) (l : Lab) (f : Bytes) (p : ℕ) where
  abbrev s : State
  s = state_of l

  module _ (k : ℕ) (d : Bool) (q n next : ℕ) (e : found k d q n next ≡ r) where
    abbrev m : Bytes
    m = bytes_at q n f

    abbrev put : Bytes → Bytes
    put x = take q f ++ (x ++ drop next f)

    pub stepped : n ≤ held → (m' f' : Bytes) (number : ℕ) (l' : Lab) → Steps k d m m' s number (state_of l') → f' ≡ put m'
        → Turns r s f f' p (record { line = Number number; next = next; lab = l' })
    stepped h m' f' number l' y ef =
        let t = sym (le-ltb held n h) in
        record {
          line =
              ap answered y.answers ∙ ap (λ (b : Bool). cond b long (answered (step_number k d m s))) t
              ∙ ap (λ (x : Reading). outcome x s f p) e;
          lab = y.leaves ∙ ap (λ (b : Bool). cond b s (step_state k d m s)) t ∙ ap (λ (x : Reading). state_after x s f) e;
          place = ap (λ (x : Reading). place_after x p) e;
          file =
              ef ∙ ap put y.bytes
              ∙ ap (λ (b : Bool). cond b f (put (step_payload k d m s))) t
              ∙ ap (λ (x : Reading). file_after x s f) e;
        }

-- the payload as it is lent, and what is put back
module _ (e : Edition) (f : Bytes) (p k q n next : ℕ) (w : Was e f p k q n next) where
  size : next - q ≡ n
  size = let a = w.from in let b = w.next in omega arith

  pub lent-steps : (d : Bool) (m' : Bytes) (s s' : State) (number : ℕ)
      → ((3 ≤ k → 24 ≤ length (take (next - q) (drop q f))) → Steps k d (take (next - q) (drop q f)) m' s number s') → Steps k d (bytes_at q n f) m' s number s'
  lent-steps d m' s s' number h =
      let a = w.from in
      let i = w.inside in
      let l : length (bytes_at q n f) ≡ n = simp (length-take, length-drop) (omega arith) in
      subst (λ (x : ℕ). (3 ≤ k → 24 ≤ length (take x (drop q f))) → Steps k d (take x (drop q f)) m' s number s') size h
      (λ t. let z = admitted_24 e k n w.admits t in omega arith)

  pub lent_back : (m' : Bytes) → take q f ++ (m' ++ drop (next - q) (drop q f)) ≡ take q f ++ (m' ++ drop next f)
  lent_back m' =
      let a = w.from in
      let b = w.next in
      let j : q + (next - q) ≡ next = omega arith in
      ap (λ (x : Bytes). take q f ++ (m' ++ x)) (drop-drop (next - q) q f ∙ ap (λ (i : ℕ). drop i f) j)
