-- What the code does to a state is `updated` and `finished`; and from a state that holds m they make one that holds the joined bytes, and the hash.
-- Assumes nothing.
use Rattle.std.proofs.Common.{◌≡◌, ℕ, ◌%◌, ◌^◌, ◌<◌, List, ◌++◌, length, sym, ap, ◌∙◌, subst, mod-eq_of_lt, lit<, arith}
use Rattle.sha_2.specs.Sha2.{padding, hash}
use Rattle.sha_2.specs.Sha512.{sha512}
use Rattle.sha_2.proofs.AnyState as any
use Rattle.sha512.specs.declared.Sha512.{Sha512}
use Rattle.sha512.specs.Code.{Holds, state, updated, finished}

-- ---- of a state that holds a message

wraps : (c : ℕ) → c % 2 ^ 64 % 128 ≡ c % 128
wraps c = omega arith

-- it takes in a piece
pub updated_holds : (s : Sha512) (m x : List ℕ) → Holds s m → Holds (updated s x) (m ++ x)
unfolding updated
updated_holds s m x h = any.updated_holds sha512 (lit< tt) wraps (state s) m x h

-- the same of what the code hands back
pub takes_in : (s : Sha512) (x : List ℕ) {s' : Sha512} {m : List ℕ} → s' ≡ updated s x → Holds s m → Holds s' (m ++ x)
takes_in s x {s'} {m} e h = subst (λ (t : Sha512). Holds t (m ++ x)) (sym e) (updated_holds s m x h)

-- and it ends
pub finished_is : (s : Sha512) (m : List ℕ) → Holds s m → length m < 2 ^ 64 → finished s ≡ hash sha512 m
unfolding finished
finished_is s m h l = any.finished_is sha512 (lit< tt) wraps (state s) m h (ap (padding sha512) (h.counted ∙ mod-eq_of_lt l))

pub ends_with : (s : Sha512) {m r : List ℕ} → r ≡ finished s → Holds s m → length m < 2 ^ 64 → r ≡ hash sha512 m
ends_with s {m} e h l = e ∙ finished_is s m h l
