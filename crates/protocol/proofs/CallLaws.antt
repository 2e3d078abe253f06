-- How a function makes a call: refused, it has changed nothing; done, it has done the call's effect.
-- Assumes nothing.
use mathlib.Core.Path.{◌≡◌, refl, sym, ap, ◌∙◌}
use mathlib.Core.Bool.{true, false}
use mathlib.Core.List.{List, [], ◌∷◌}
use Prim.Native.Nat.{ℕ}
use Rattle.protocol.specs.Bytes.{Bytes}
use Rattle.protocol.specs.Answer.{Answer, done, refused, answer_number, is_refused, when_done, Test, refuse◌when◌, first_of, judge}
use Rattle.protocol.specs.InnerHeader.{Envelope}
use Rattle.protocol.specs.Compound.{walk}
use Rattle.protocol.specs.SessionTable.{Session, change_record, counter_step}
use Rattle.protocol.specs.Calls.{Call, stepping, Lent, only_table, Tests, carries, over, verdict, tests, effect, answer, left}
use Rattle.protocol.specs.Suite.{suite}
use Rattle.protocol.specs.Contract.{Makes, Returns}
use Rattle.protocol.proofs.AnswerLaws.{when_done_lem, when_refused, after_nothing}
use Rattle.protocol.proofs.Judging.{positive, refuses, passes, judge-passed}

-- tests with a walk and no line behind it
pub verdict-walk : (t : Tests) (m : Bytes) (e : Envelope) → t.walked ≡ over m e → t.later ≡ [] → verdict t ≡ judge t.before (walk m e)
verdict-walk t m e w l = rw (w, l) (ap (judge t.before) (after_nothing (walk m e)))

module _ (c : Call) (w : Lent) (a : Answer) (e : a ≡ answer suite c w) where
  pub makes_when : (w' : Lent) → w' ≡ when_done a (λ n. effect suite c w) w → Makes c w a w'
  makes_when w' b = record { answers = e; leaves = b ∙ ap (λ (x : Answer). when_done x (λ n. effect suite c w) w) e }

  pub makes_refused : is_refused a ≡ true → Makes c w a w
  makes_refused r = makes_when w (sym (when_refused a (effect suite c w) w r))

  pub makes_done : is_refused a ≡ false → (w' : Lent) → w' ≡ effect suite c w → Makes c w a w'
  makes_done r w' b = makes_when w' (b ∙ sym (when_done_lem a (effect suite c w) w r))

-- the number of the answer
pub returns_of : {c : Call} {w w' : Lent} {a : Answer} → Makes c w a w' → Returns c w (answer_number a) w'
returns_of m = record { number = ap answer_number m.answers; leaves = m.leaves }

-- the number of lines alone
pub number-lines : (ts : List Test) (k : ℕ) → answer_number (judge ts (done k)) ≡ first_of ts
number-lines [] k = refl
number-lines ((refuse n when true) ∷ ts) k = refl
number-lines ((refuse n when false) ∷ ts) k = number-lines ts k

-- ---- what is left, once the answer is known

module _ (c : Call) (w : Lent) where
  pub left-refused : (n : ℕ) → answer suite c w ≡ refused n → left suite c w ≡ w
  left-refused n e = ap (λ (x : Answer). when_done x (λ k. effect suite c w) w) e

  pub left-done : (n : ℕ) → answer suite c w ≡ done n → left suite c w ≡ effect suite c w
  left-done n e = ap (λ (x : Answer). when_done x (λ k. effect suite c w) w) e

  -- a call that tests nothing but lines, and carries k where it is done; n is the number of the first line that applies, or 0
  module _ (ts : List Test) (k n : ℕ) (alone : tests suite c w ≡ record { before = ts; walked = carries k; later = [] }) (s : n ≡ first_of ts) where
    pub lines-refused : (n ≡ 0 → ⊥) → answer suite c w ≡ refused n
    lines-refused h = ap verdict alone ∙ refuses ts (done k) n s h

    pub lines-done : positive ts ≡ true → n ≡ 0 → answer suite c w ≡ done k
    lines-done p z = ap verdict alone ∙ judge-passed ts (done k) (passes ts n p s z)

    pub lines_return : (n ≡ 0 → ⊥) → Returns c w n w
    lines_return h = record { number = sym (ap answer_number (lines-refused h)); leaves = sym (left-refused n (lines-refused h)) }

    pub lines_return_done : positive ts ≡ true → n ≡ 0 → (w' : Lent) → w' ≡ effect suite c w → Returns c w n w'
    lines_return_done p z w' e = record { number = z ∙ sym (ap answer_number (lines-done p z)); leaves = e ∙ sym (left-done k (lines-done p z)) }

-- the counter step by itself, as the function over the table says it
pub step_left : (i by : ℕ) (t : List Session) → left suite (stepping i by) (only_table t) ≡ only_table (change_record (counter_step by) i t)
unfolding tests effect
step_left i by t = refl
