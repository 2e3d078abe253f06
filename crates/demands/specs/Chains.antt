-- Demand 3, first half: chain values that end equal. RULES 8 and 12.
-- Over any primitives.
-- Assumes nothing.
use Rattle.std.specs.Prelude.{◌≡◌, ◌≢◌, ◌⊎◌, Bool, false, cond, ◌&&◌, ℕ, eqb}
use mathlib.Core.List.{List, [], ◌∷◌, ◌++◌, Memᴰ}
use Rattle.protocol.specs.Bytes.{Bytes}
use Rattle.protocol.specs.Preauth.{fresh_chain, FoldKind, admitted, status_allows}
use Rattle.protocol.specs.Pieces.{Underway, not_begun, message_of}
use Rattle.protocol.specs.Transform.{Primitives}
use Rattle.protocol.specs.Calls.{Call, derivation, folding, fold_beginning, fold_piece, fold_finishing, sealing_under, opening_under, signing_under}
use Rattle.protocol.specs.Calls.{verifying_under, adding, removing, stepping, sealing, opening, only_chain, chain_and_underway, left}
use Rattle.protocol.specs.Calls.{sign_beginning, sign_piece, sign_finishing, verify_finishing}

-- ---- a chain, and the messages under way into it

-- a program keeps each hash state at a place of its own
pub record Chain : Type 0 where
  pub value : Bytes
  pub states : ℕ → Underway

-- a chain with no message under way: "A list of folds starts from the fresh chain", and "a session's chain starts as a copy of that value"
abbrev pub starting : Bytes → Chain
starting v = record { value = v; states = λ k. not_begun }

abbrev pub put : ℕ → Underway → (ℕ → Underway) → ℕ → Underway
put k u states j = cond (eqb j k) u (states j)

-- the state at the place is not handed in again
abbrev pub ended_at : ℕ → Chain → Chain
ended_at k s = record { value = s.value; states = put k not_begun s.states }

-- a step of a list: "Its lists then hold these calls too, refused ones included". "only the library makes the hash states, .. each is handed on
-- once": a call gets the state at its place, and the one that it hands on takes the place
pub data ChainStep : Type 0 where
  -- a call that is handed no hash state: a fold at once, or one that folds nothing
  calling : Call → ChainStep
  -- on the chain's value
  beginning_at : ℕ → ChainStep
  piece_at : ℕ → Bytes → ChainStep
  -- into the chain
  finishing_at : ℕ → FoldKind → ChainStep
  abandoning_at : ℕ → ChainStep

-- ---- what a step folds in

-- "the messages of a length that 23 admits, without the setup responses whose Status is not 0xC0000016"
abbrev pub goes_in : FoldKind → Bytes → Bool
goes_in kind m = admitted m && status_allows kind m

abbrev pub if_goes_in : FoldKind → Bytes → List Bytes
if_goes_in kind m = cond (goes_in kind m) (m ∷ []) []

-- the message that a call folds in, or none
abbrev pub folded_in_by : Call → List Bytes
folded_in_by (folding kind m) = if_goes_in kind m
folded_in_by (fold_beginning v) = []
folded_in_by (fold_piece p) = []
-- it is handed no message
folded_in_by (fold_finishing kind) = []
folded_in_by (derivation dialect cipher chain material) = []
folded_in_by (sealing_under c key id) = []
folded_in_by (opening_under c key id) = []
folded_in_by (signing_under key) = []
folded_in_by (verifying_under key) = []
folded_in_by (sign_beginning key) = []
folded_in_by (sign_piece p) = []
folded_in_by (sign_finishing u) = []
folded_in_by (verify_finishing u) = []
folded_in_by (adding a) = []
folded_in_by (removing i) = []
folded_in_by (stepping i by) = []
folded_in_by (sealing c id) = []
folded_in_by (opening c) = []

-- "a finish counts as that one fold": of the joined bytes
abbrev pub folded_in_at : Chain → ChainStep → List Bytes
folded_in_at s (calling c) = folded_in_by c
folded_in_at s (beginning_at k) = []
folded_in_at s (piece_at k p) = []
folded_in_at s (finishing_at k kind) = if_goes_in kind (message_of (s.states k))
folded_in_at s (abandoning_at k) = []

-- "The string hashed for each is the value before it, then the message."
abbrev pub hashed_with : Bytes → List Bytes → List Bytes
hashed_with v [] = []
hashed_with v (m ∷ ms) = (v ++ m) ∷ hashed_with v ms

-- ---- a list of steps

module _ (P : Primitives) where
  -- a call with the chain and the state at the place k, which the one handed back takes
  abbrev pub handed : ℕ → Call → Chain → Chain
  handed k c s =
      let w = left P c (chain_and_underway s.value (s.states k)) in
      record { value = w.chain; states = put k w.underway s.states }

  abbrev pub chain_left : Chain → ChainStep → Chain
  chain_left s (calling c) = record { value = (left P c (only_chain s.value)).chain; states = s.states }
  chain_left s (beginning_at k) = handed k (fold_beginning s.value) s
  chain_left s (piece_at k p) = handed k (fold_piece p) s
  -- "any refused finish ends the message", and so does one that is done
  chain_left s (finishing_at k kind) = ended_at k (handed k (fold_finishing kind) s)
  -- "An abandoned message leaves the chain value"
  chain_left s (abandoning_at k) = ended_at k s

  -- "Each fold gets the value that the one before left, also where that was 23 or not folded; nobody else writes it meanwhile."
  abbrev pub chain_after : Chain → List ChainStep → Chain
  chain_after s [] = s
  chain_after s (x ∷ xs) = chain_after (chain_left s x) xs

  -- "Folded in are, in list order"
  abbrev pub messages_folded_in : Chain → List ChainStep → List Bytes
  messages_folded_in s [] = []
  messages_folded_in s (x ∷ xs) = folded_in_at s x ++ messages_folded_in (chain_left s x) xs

  abbrev pub strings_hashed : Chain → List ChainStep → List Bytes
  strings_hashed s [] = []
  strings_hashed s (x ∷ xs) = hashed_with s.value (folded_in_at s x) ++ strings_hashed (chain_left s x) xs

  -- "a message is finished, into the chain it began from, or abandoned for good before another goes into the same chain": where a step folds a
  -- message in, none is under way afterwards
  abbrev pub Alone : Chain → ChainStep → Type 0
  Alone s x = (m : Bytes) → folded_in_at s x ≡ m ∷ [] → (k : ℕ) → ((chain_left s x).states k).begun ≡ false

  abbrev pub InOrder : Chain → List ChainStep → Type 0
  InOrder s [] = Unit
  InOrder s (x ∷ xs) = Alone s x × InOrder (chain_left s x) xs

-- ---- one end: "A session's list is the connection's up to the copy, then its own."

pub record ChainSteps : Type 0 where
  -- those on the connection's chain, up to the copy
  pub connection : List ChainStep
  -- those on the session's own
  pub session : List ChainStep

module _ (P : Primitives) (x : ChainSteps) where
  abbrev pub connection_chain : Bytes
  connection_chain = (chain_after P (starting fresh_chain) x.connection).value

  -- no message that is under way into the connection's chain goes into the copy
  abbrev pub session_chain : Bytes
  session_chain = (chain_after P (starting connection_chain) x.session).value

  abbrev pub end_messages : List Bytes
  end_messages = messages_folded_in P (starting fresh_chain) x.connection ++ messages_folded_in P (starting connection_chain) x.session

  abbrev pub end_strings : List Bytes
  end_strings = strings_hashed P (starting fresh_chain) x.connection ++ strings_hashed P (starting connection_chain) x.session

  abbrev pub EndInOrder : Type 0
  EndInOrder = InOrder P (starting fresh_chain) x.connection × InOrder P (starting connection_chain) x.session

-- ---- the two ends

-- x stands in the list, at some place
abbrev pub Among : {A : Type 0} → A → List A → Type 0
Among x l = Memᴰ x l

-- among the strings are two different ones with the same SHA-512
pub record Collision (sha512 : Bytes → Bytes) (strings : List Bytes) : Type 0 where
  pub one : Bytes
  pub other : Bytes
  pub one-hashed : Among one strings
  pub other-hashed : Among other strings
  pub different : one ≢ other
  pub same_hash : sha512 one ≡ sha512 other

-- among the strings is one whose SHA-512 is 64 zero bytes
pub record ZeroHash (sha512 : Bytes → Bytes) (strings : List Bytes) : Type 0 where
  pub string : Bytes
  pub hashed : Among string strings
  pub zero-hash : sha512 string ≡ fresh_chain

module _ (P : Primitives) where
  -- "Both ends' strings count together."
  abbrev pub ChainsAgree : Type 0
  ChainsAgree =
      (client server : ChainSteps) → EndInOrder P client → EndInOrder P server → session_chain P client ≡ session_chain P server
      → (end_messages P client ≡ end_messages P server)
      ⊎ Collision P.sha512 (end_strings P client ++ end_strings P server)
      ⊎ ZeroHash P.sha512 (end_strings P client ++ end_strings P server)
