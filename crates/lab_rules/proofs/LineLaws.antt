-- The lines of a file do not depend on how many records are allowed for, from the number of bytes left on.
-- Assumes nothing.
use mathlib.Core.Path.{◌≡◌, refl, sym, ap}
use mathlib.Core.List.{List, []}
use Prim.Native.Nat.{ℕ, zero, suc, ◌+◌, ◌<◌, ◌≤◌}
use native.Mathlib.Omega.{arith}
use lib.ListN.{length}
use Rattle.protocol.specs.Bytes.{Bytes}
use Rattle.trace_format.specs.Format.{Edition, Reading, found, end, unreadable, read_at}
use Rattle.trace_format.proofs.FormatLaws.{at-end, was}
use Rattle.lab_rules.specs.Steps.{State}
use Rattle.lab_rules.specs.Replay.{Line, outcome, state_after, place_after, line_then, lines_from}

-- one record: what comes after it is asked for at a later place alone
turn : (e : Edition) (f : Bytes) (p : ℕ) (r : Reading) → r ≡ read_at e f p → (g h : State → ℕ → List Line)
    → ((s : State) (q : ℕ) → p < q → g s q ≡ h s q) → (s : State) (i : ℕ)
    → line_then (outcome r s f p) i (g (state_after r s f) (place_after r p)) ≡ line_then (outcome r s f p) i (h (state_after r s f) (place_after r p))
turn e f p (found k d q n next) t g h same s i =
    let w = was e f p k d q n next t in
    let later : p < next = let a = w.next in omega arith in
    ap (line_then (outcome (found k d q n next) s f p) i) (same (state_after (found k d q n next) s f) next later)
turn e f p end t g h same s i = refl
turn e f p unreadable t g h same s i = refl

none_left : (n : ℕ) (e : Edition) (s : State) (f : Bytes) (p i : ℕ) → length f ≤ p → lines_from n e s f p i ≡ []
unfolding lines_from
none_left zero e s f p i h = refl
none_left (suc n) e s f p i h =
    ap (λ (r : Reading). line_then (outcome r s f p) i (lines_from n e (state_after r s f) f (place_after r p) (i + 1))) (sym (at-end e f p h))

pub enough : (n m : ℕ) (e : Edition) (s : State) (f : Bytes) (p i : ℕ) → length f ≤ p + n → length f ≤ p + m → lines_from n e s f p i ≡ lines_from m e s f p i
unfolding lines_from
enough zero m e s f p i hn hm = sym (none_left m e s f p i (omega arith))
enough (suc n) zero e s f p i hn hm = none_left (suc n) e s f p i (omega arith)
enough (suc n) (suc m) e s f p i hn hm =
    turn e f p (read_at e f p) refl (λ t q. lines_from n e t f q (i + 1)) (λ t q. lines_from m e t f q (i + 1))
    (λ t q h. enough n m e t f q (i + 1) (omega arith) (omega arith)) s i
