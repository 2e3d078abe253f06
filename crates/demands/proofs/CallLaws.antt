-- What any call leaves: its effect where it is done, and what it was lent where it is refused.
-- Assumes nothing.
use mathlib.Core.Path.{◌≡◌, refl, ap}
use Prim.Native.Nat.{ℕ}
use Rattle.protocol.specs.Answer.{Answer, done, refused, when_done}
use Rattle.protocol.specs.Transform.{Primitives}
use Rattle.protocol.specs.Calls.{Call, Lent, effect, answer, left}

module _ (P : Primitives) (c : Call) (w : Lent) where
  abbrev after : Answer → Lent
  after a = when_done a (λ n. effect P c w) w

  pub left-done : (n : ℕ) → answer P c w ≡ done n → left P c w ≡ effect P c w
  left-done n e = ap after e

  pub left-refused : (n : ℕ) → answer P c w ≡ refused n → left P c w ≡ w
  left-refused n e = ap after e

  -- what the effect leaves alone, the call leaves alone
  pub left_alone : {A : Type 0} (f : Lent → A) → f (effect P c w) ≡ f w → f (left P c w) ≡ f w
  left_alone f e = go (answer P c w)
    where
      go : (a : Answer) → f (after a) ≡ f w
      go (done n) = e
      go (refused n) = refl
