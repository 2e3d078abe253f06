-- A message that is folded as it arrives is folded as one, wherever the cuts fall: RULES 8.
-- Over any primitives; the theorem is about the suite.
-- Assumes nothing.
use Rattle.std.specs.Prelude.{◌≡◌, true, List, [], ◌∷◌, ◌++◌, ◌≤◌, length}
use Rattle.protocol.specs.Bytes.{Bytes}
use Rattle.protocol.specs.Answer.{when_done}
use Rattle.protocol.specs.Connection.{longest_message}
use Rattle.protocol.specs.Preauth.{FoldKind}
use Rattle.protocol.specs.Pieces.{Underway, not_begun}
use Rattle.protocol.specs.Transform.{Primitives}
use Rattle.protocol.specs.Calls.{folding, fold_beginning, fold_piece, fold_finishing, Lent, only_chain, only_underway, chain_and_underway, answer, left}
use Rattle.demands.specs.Chains.{goes_in}

-- pieces, one behind the other
abbrev pub joined_bytes : List Bytes → Bytes
joined_bytes [] = []
joined_bytes (p ∷ ps) = p ++ joined_bytes ps

module _ (P : Primitives) where
  abbrev pub begun_on : Bytes → Underway
  begun_on v = (left P (fold_beginning v) (only_underway not_begun)).underway

  -- "with the hash state handed on from piece to piece"
  abbrev pub handed_on : Underway → Bytes → Underway
  handed_on u p = (left P (fold_piece p) (only_underway u)).underway

  abbrev pub after_pieces : Underway → List Bytes → Underway
  after_pieces u [] = u
  after_pieces u (p ∷ ps) = after_pieces (handed_on u p) ps

  -- "the pieces not refused"
  abbrev pub not_refused : Underway → List Bytes → List Bytes
  not_refused u [] = []
  not_refused u (p ∷ ps) = when_done (answer P (fold_piece p) (only_underway u)) (λ n. p ∷ []) [] ++ not_refused (handed_on u p) ps

  -- "the joined bytes of the pieces not refused", of a message begun on v
  abbrev pub message_joined : Bytes → List Bytes → Bytes
  message_joined v ps = joined_bytes (not_refused (begun_on v) ps)

  -- what a finish is lent: the chain value x, and the state that the pieces left
  abbrev pub at_finish : Bytes → Bytes → List Bytes → Lent
  at_finish x v ps = chain_and_underway x (after_pieces (begun_on v) ps)

  pub record InPieces : Type 0 where
    -- "The result equals one fold of the joined bytes of the pieces not refused into the value the message began from, wherever the cuts fall."
    pub same_answer : (kind : FoldKind) (v : Bytes) (ps : List Bytes) → length v ≡ 64
        → answer P (fold_finishing kind) (at_finish v v ps) ≡ answer P (folding kind (message_joined v ps)) (only_chain v)
    pub same_value : (kind : FoldKind) (v : Bytes) (ps : List Bytes) → length v ≡ 64
        → (left P (fold_finishing kind) (at_finish v v ps)).chain ≡ (left P (folding kind (message_joined v ps)) (only_chain v)).chain
    -- "into the value the message began from", whatever the value x is that the finish is lent
    pub from_start : (kind : FoldKind) (v x : Bytes) (ps : List Bytes) → length v ≡ 64 → length x ≡ 64 → goes_in kind (message_joined v ps) ≡ true
        → (left P (fold_finishing kind) (at_finish x v ps)).chain ≡ (left P (folding kind (message_joined v ps)) (only_chain v)).chain
    -- no piece is refused where all of them fit together
    pub all_taken : (v : Bytes) (ps : List Bytes) → length v ≡ 64 → length (joined_bytes ps) ≤ longest_message → not_refused (begun_on v) ps ≡ ps
    -- "An abandoned message leaves the chain value"
    pub begin_leaves : (v : Bytes) (w : Lent) → (left P (fold_beginning v) w).chain ≡ w.chain
    pub piece_leaves : (p : Bytes) (w : Lent) → (left P (fold_piece p) w).chain ≡ w.chain
