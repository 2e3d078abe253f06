-- The results of the code, read as the answers of the rules.
-- Assumes nothing.
use Rattle.std.specs.Prelude.{Bool, cond, ℕ, eqb, Result, Ok, Err}
use Rattle.protocol.specs.Answer as rules
use Rattle.answer.specs.declared.refusal.Refusal.{Refusal}
use Rattle.answer.specs.declared.refusal.Refusal.TheVariants.{NotEncrypting, TooShort, TooLong, NotTransform, BadFlags, OtherSession, Constrained}
use Rattle.answer.specs.declared.refusal.Refusal.TheVariants.{Guest, BadTag, BadSize, InnerTooShort, NotHeader, FirstRelated, InnerSession, NextOutside}
use Rattle.answer.specs.declared.refusal.Refusal.TheVariants.{NextUnaligned, CounterUsedUp, UnknownDialect, BadKeyMaterial, IdZero, IdTaken, TableFull}
use Rattle.answer.specs.declared.refusal.Refusal.TheVariants.{FoldLength, NotSigned, BadSignature, DirtyNonce, OtherKeySize, BadLength}

-- the number of the line of the table
abbrev pub number_of : Refusal → ℕ
number_of NotEncrypting = 1
number_of TooShort = 2
number_of TooLong = 3
number_of NotTransform = 4
number_of BadFlags = 5
number_of OtherSession = 6
number_of Constrained = 7
number_of Guest = 8
number_of BadTag = 9
number_of BadSize = 10
number_of InnerTooShort = 11
number_of NotHeader = 12
number_of FirstRelated = 13
number_of InnerSession = 14
number_of NextOutside = 15
number_of NextUnaligned = 16
number_of CounterUsedUp = 17
number_of UnknownDialect = 18
number_of BadKeyMaterial = 19
number_of IdZero = 20
number_of IdTaken = 21
number_of TableFull = 22
number_of FoldLength = 23
number_of NotSigned = 24
number_of BadSignature = 25
number_of DirtyNonce = 29
number_of OtherKeySize = 35
number_of BadLength = 40

-- a result as the number that a caller gets, where number reads a reason to refuse: 0 where nothing was refused
abbrev pub number_by : {T E : Type 0} → (E → ℕ) → Result T E → ℕ
number_by number (Ok x) = 0
number_by number (Err why) = number why

-- by the table of numbers
abbrev pub number_in : {T : Type 0} → Result T Refusal → ℕ
number_in r = number_by number_of r

-- a result as an answer of the rules, where value reads what a done answer carries and number a reason to refuse
abbrev pub answer_by : {T E : Type 0} → (T → ℕ) → (E → ℕ) → Result T E → rules.Answer
answer_by value number (Ok x) = rules.done (value x)
answer_by value number (Err why) = rules.refused (number why)

-- a result: done with what it carries, or refused with its number
abbrev pub answer_of : Result ℕ Refusal → rules.Answer
answer_of r = answer_by (λ n. n) number_of r

-- the same of a fold, whose done answer says whether the message was folded in
abbrev pub fold_answer_of : Result Bool Refusal → rules.Answer
fold_answer_of r = answer_by (λ b. cond b 1 0) number_of r

-- what the place for a mark holds afterwards, where it held h: whether what a done answer carries is not 0, as 1 or 0
abbrev pub marked : rules.Answer → ℕ → ℕ
marked a h = rules.when_done a (λ n. cond (eqb n 0) 0 1) h
