-- Results of tests and of calls, read as numbers and answers.
-- Assumes nothing.
use Rattle.std.proofs.Common.{arith, ◌≡◌, refl, sym, ap, ◌∙◌, ℕ, Bool, true, false, cond, List, ◌++◌}
use Rattle.std.specs.Prelude.{Result, Ok, Err}
use Rattle.std.specs.Result.{is_err}
use Rattle.protocol.specs.Answer as rules
use Rattle.protocol.specs.Answer.{Test, first_of, judge, when_done, answer_number, is_refused}
use Rattle.protocol.proofs.FirstOf.{first_stays, first-goes-on}
use Rattle.protocol.proofs.Judging.{NoneApplies, positive, refuses, passes}
use Rattle.answer.specs.declared.refusal.Refusal.{Refusal}
use Rattle.answer.specs.declared.refusal.Refusal.TheVariants.{NotEncrypting, TooShort, TooLong, NotTransform, BadFlags, OtherSession, Constrained}
use Rattle.answer.specs.declared.refusal.Refusal.TheVariants.{Guest, BadTag, BadSize, InnerTooShort, NotHeader, FirstRelated, InnerSession, NextOutside}
use Rattle.answer.specs.declared.refusal.Refusal.TheVariants.{NextUnaligned, CounterUsedUp, UnknownDialect, BadKeyMaterial, IdZero, IdTaken, TableFull}
use Rattle.answer.specs.declared.refusal.Refusal.TheVariants.{FoldLength, NotSigned, BadSignature, DirtyNonce, OtherKeySize, BadLength}
use Rattle.answer.specs.Reading.{number_of, number_in, answer_of, fold_answer_of}

-- a refusal's number is never 0
pub refusal_number : (why : Refusal) → number_of why ≡ 0 → ⊥
refusal_number NotEncrypting e = omega arith
refusal_number TooShort e = omega arith
refusal_number TooLong e = omega arith
refusal_number NotTransform e = omega arith
refusal_number BadFlags e = omega arith
refusal_number OtherSession e = omega arith
refusal_number Constrained e = omega arith
refusal_number Guest e = omega arith
refusal_number BadTag e = omega arith
refusal_number BadSize e = omega arith
refusal_number InnerTooShort e = omega arith
refusal_number NotHeader e = omega arith
refusal_number FirstRelated e = omega arith
refusal_number InnerSession e = omega arith
refusal_number NextOutside e = omega arith
refusal_number NextUnaligned e = omega arith
refusal_number CounterUsedUp e = omega arith
refusal_number UnknownDialect e = omega arith
refusal_number BadKeyMaterial e = omega arith
refusal_number IdZero e = omega arith
refusal_number IdTaken e = omega arith
refusal_number TableFull e = omega arith
refusal_number FoldLength e = omega arith
refusal_number NotSigned e = omega arith
refusal_number BadSignature e = omega arith
refusal_number DirtyNonce e = omega arith
refusal_number OtherKeySize e = omega arith
refusal_number BadLength e = omega arith

pub numbered : (r : Result ℕ Refusal) → number_in r ≡ answer_number (answer_of r)
numbered (Ok n) = refl
numbered (Err why) = refl

pub refused-is : (r : Result ℕ Refusal) → is_refused (answer_of r) ≡ is_err r
refused-is (Ok n) = refl
refused-is (Err why) = refl

pub fold-numbered : (r : Result Bool Refusal) → number_in r ≡ answer_number (fold_answer_of r)
fold-numbered (Ok b) = refl
fold-numbered (Err why) = refl

-- tests that let pass, and tests that refuse
module _ {T : Type 0} (ts : List Test) (p : positive ts ≡ true) where
  pub passed : (r : Result T Refusal) (x : T) → number_in r ≡ first_of ts → r ≡ Ok x → NoneApplies ts
  passed r x e o = passes ts 0 p (sym (ap number_in o) ∙ e) refl

  pub refuses_with : (r : Result T Refusal) (why : Refusal) (a : rules.Answer) → number_in r ≡ first_of ts → r ≡ Err why → judge ts a ≡ rules.refused (number_of why)
  refuses_with r why a e o = refuses ts a (number_of why) (sym (ap number_in o) ∙ e) (refusal_number why)

-- one test
module _ (b : Bool) (why : Refusal) (r : Result (Unit {0}) Refusal) (says : r ≡ cond b (Err why) (Ok (tt {0}))) where
  pub applies : (w : Refusal) → r ≡ Err w → (b ≡ true) × (w ≡ why)
  applies w o = go b (sym says ∙ o)
    where
      go : (t : Bool) → cond t (Err why) (Ok (tt {0})) ≡ Err w → (t ≡ true) × (w ≡ why)
      go true e = (refl, cc)
      go false e = absurd (let z : ◌≡◌ {A = ℕ} 0 1 = cc in omega arith)

  pub applies-not : (x : Unit {0}) → r ≡ Ok x → b ≡ false
  applies-not x o = go b (sym says ∙ o)
    where
      go : (t : Bool) → cond t (Err why) (Ok (tt {0})) ≡ Ok x → t ≡ false
      go true e = absurd (let z : ◌≡◌ {A = ℕ} 0 1 = cc in omega arith)
      go false e = refl

-- lists of tests, one after the other
module _ {T : Type 0} (ts us : List Test) (r : Result T Refusal) (says : number_in r ≡ first_of ts) where
  pub stays : (why : Refusal) → r ≡ Err why → number_of why ≡ first_of (ts ++ us)
  stays why o = first_stays ts us (number_of why) (sym (ap number_in o) ∙ says) (refusal_number why)

  pub goes_on : (x : T) → positive ts ≡ true → r ≡ Ok x → first_of (ts ++ us) ≡ first_of us
  goes_on x p o = first-goes-on ts us (passed ts p r x says o)

-- what a result says as a number
module _ {T : Type 0} (r : Result T Refusal) (n : ℕ) (says : number_in r ≡ n) where
  pub err_says : (why : Refusal) → r ≡ Err why → number_of why ≡ n
  err_says why o = sym (ap number_in o) ∙ says

  pub ok_says : (x : T) → r ≡ Ok x → 0 ≡ n
  ok_says x o = sym (ap number_in o) ∙ says

-- and what one test does
pub test_says : (b : Bool) (why : Refusal) (r : Result (Unit {0}) Refusal) → r ≡ cond b (Err why) (Ok (tt {0})) → number_in r ≡ cond b (number_of why) 0
test_says true why r e = ap number_in e
test_says false why r e = ap number_in e
