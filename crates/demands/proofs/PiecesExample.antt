-- A list with no message in pieces is in order. And demand 3's first half speaks of messages in pieces: a client folds a message in two
-- pieces, while another that is begun meanwhile is abandoned, and the server folds it at once. Over any primitives both lists are in
-- order and fold in the same message, by computation.
-- Assumes nothing.
use mathlib.Core.Path.{◌≡◌, refl, ap}
use mathlib.Core.Bool.{Bool, true, false}
use mathlib.Core.List.{List, [], ◌∷◌, ◌++◌}
use Prim.Native.Nat.{ℕ}
use native.Mathlib.Omega.{arith}
use lib.Dec.{eqb}
use lib.ListN.{length, replicate}
use Rattle.protocol.specs.Bytes.{Bytes}
use Rattle.protocol.specs.Preauth.{fresh_chain, negotiate_message}
use Rattle.protocol.specs.Pieces.{with_piece}
use Rattle.protocol.specs.Transform.{Primitives}
use Rattle.protocol.specs.Calls.{Call, folding, tests, effect}
use Rattle.demands.specs.Chains.{ChainStep, ChainSteps, starting, chain_left, chain_after, calling, beginning_at, piece_at, finishing_at, abandoning_at}
use Rattle.demands.specs.Chains.{InOrder, end_messages, EndInOrder}

-- ---- calls alone

abbrev calls_alone : List Call → List ChainStep
calls_alone [] = []
calls_alone (c ∷ cs) = calling c ∷ calls_alone cs

pub calls_in_order : (P : Primitives) (cs : List Call) (v : Bytes) → InOrder P (starting v) (calls_alone cs)
calls_in_order P [] v = tt
calls_in_order P (c ∷ cs) v = (λ m e k. refl, calls_in_order P cs _)

-- ---- a message in pieces

abbrev before_finish : List ChainStep
before_finish = beginning_at 0 ∷ piece_at 0 (replicate 30 7) ∷ beginning_at 1 ∷ piece_at 0 (replicate 34 7) ∷ abandoning_at 1 ∷ []

abbrev in_pieces : ChainSteps
in_pieces = record { connection = before_finish ++ (finishing_at 0 negotiate_message ∷ []); session = [] }

abbrev at_once : ChainSteps
at_once = record { connection = calling (folding negotiate_message (replicate 64 7)) ∷ []; session = [] }

-- a step that folds nothing in
nothing_in : {A : Type 0} (m : Bytes) → ◌≡◌ {A = List Bytes} [] (m ∷ []) → A
nothing_in m e = let z : ◌≡◌ {A = ℕ} 0 1 = ap length e in absurd (omega arith)

module _ (P : Primitives) where
  same_message : end_messages P in_pieces ≡ end_messages P at_once
  unfolding tests effect with_piece
  same_message = refl

  -- neither place has a message after the finish
  none_left : (k : ℕ) (a : Bool) → eqb k 0 ≡ a → (b : Bool) → eqb k 1 ≡ b
      → ((chain_left P (chain_after P (starting fresh_chain) before_finish) (finishing_at 0 negotiate_message)).states k).begun ≡ false
  none_left k true e b f = rw e
  none_left k false e true f = rw (e, f)
  none_left k false e false f = rw (e, f)

  in_order : EndInOrder P in_pieces
  in_order = (
    (
      λ m e k. nothing_in m e,
      (
        λ m e k. nothing_in m e,
        (
          λ m e k. nothing_in m e,
          (λ m e k. nothing_in m e, (λ m e k. nothing_in m e, (λ m e k. none_left k (eqb k 0) refl (eqb k 1) refl, tt))),
        ),
      ),
    ),
    tt,
  )

  at_once_in_order : EndInOrder P at_once
  at_once_in_order = ((λ m e k. refl, tt), tt)
