-- Answers: what a lent place holds afterwards, and what is judged after them.
-- Assumes nothing.
use mathlib.Core.Path.{◌≡◌, refl}
use mathlib.Core.Bool.{true, false}
use mathlib.Core.List.{List, []}
use Prim.Native.Nat.{ℕ}
use native.Mathlib.Omega.{arith}
use Rattle.protocol.specs.Answer.{Answer, done, refused, is_refused, when_done, Test, judge, judge_after}
use Rattle.protocol.proofs.Judging.{judge-done}

-- a value that does not depend on what the answer carries
pub when_done_lem : {A : Type 0} (a : Answer) (x y : A) → is_refused a ≡ false → when_done a (λ n. x) y ≡ x
when_done_lem (done n) x y e = refl
when_done_lem (refused n) x y e = absurd (let z : ◌≡◌ {A = ℕ} 0 1 = cc in omega arith)

pub when_refused : {A : Type 0} (a : Answer) (x y : A) → is_refused a ≡ true → when_done a (λ n. x) y ≡ y
when_refused (done n) x y e = absurd (let z : ◌≡◌ {A = ℕ} 0 1 = cc in omega arith)
when_refused (refused n) x y e = refl

-- a part of what is held afterwards
pub when_part : {A B : Type 0} (f : A → B) (a : Answer) (x y : A) → f (when_done a (λ n. x) y) ≡ when_done a (λ n. f x) (f y)
when_part f (done n) x y = refl
when_part f (refused n) x y = refl

pub when_two : {A B C : Type 0} (g : A → B → C) (a : Answer) (x y : A) (x' y' : B)
    → g (when_done a (λ n. x) y) (when_done a (λ n. x') y') ≡ when_done a (λ n. g x x') (g y y')
when_two g (done n) x y x' y' = refl
when_two g (refused n) x y x' y' = refl

-- with nothing behind it an answer stays as it is
pub after_nothing : (a : Answer) → judge_after a [] ≡ a
after_nothing (done n) = refl
after_nothing (refused n) = refl

-- a walk that is done is judged on, and one that is refused is not
pub after-done : (a : Answer) (ts : List Test) → is_refused a ≡ false → judge_after a ts ≡ judge ts a
after-done (done n) ts e = refl
after-done (refused n) ts e = absurd (let z : ◌≡◌ {A = ℕ} 0 1 = cc in omega arith)

pub after-refused : (a : Answer) (ts : List Test) → is_refused a ≡ true → judge_after a ts ≡ a
after-refused (done n) ts e = absurd (let z : ◌≡◌ {A = ℕ} 0 1 = cc in omega arith)
after-refused (refused n) ts e = refl

pub judge-after-done : (a : Answer) (ts : List Test) (n : ℕ) → judge_after a ts ≡ done n → a ≡ done n
judge-after-done (done k) ts n e = (judge-done ts (done k) n e).1
judge-after-done (refused k) ts n e = absurd (let z : ◌≡◌ {A = ℕ} 0 1 = cc in omega arith)
