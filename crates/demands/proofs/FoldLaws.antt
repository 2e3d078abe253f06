-- Of a list of steps the chain sees the messages folded in and nothing else; so demand 3's first half, for every hash of 64 bytes.
-- Assumes nothing.
use mathlib.Core.Path.{◌≡◌, refl, sym, ap, ◌∙◌}
use mathlib.Core.Bool.{Bool, true, false, cond, not, ◌&&◌, true≢false}
use mathlib.Core.List.{List, [], ◌∷◌, ◌++◌}
use Prim.Native.Nat.{ℕ}
use lib.Dec.{eqb}
use borrow.Author.Tests.{eq-eqb}
use lib.ListN.{length, length-replicate}
use Rattle.protocol.specs.Bytes.{Bytes}
use Rattle.protocol.specs.Answer.{Answer, refused, done, when_done}
use Rattle.protocol.specs.Preauth.{fresh_chain, FoldKind, admitted, status_allows}
use Rattle.protocol.specs.Pieces.{Underway, not_begun, message_of, with_piece, finished_value}
use Rattle.protocol.specs.Transform.{Primitives}
use Rattle.protocol.specs.Calls.{Call, derivation, folding, fold_beginning, fold_piece, fold_finishing, sealing_under, opening_under, signing_under}
use Rattle.protocol.specs.Calls.{verifying_under, adding, removing, stepping, sealing, opening, Lent, only_chain, chain_and_underway, with_chain}
use Rattle.protocol.specs.Calls.{tests, effect, answer, left}
use Rattle.demands.specs.Chains.{Chain, starting, put, ChainStep, calling, beginning_at, piece_at, finishing_at, abandoning_at, goes_in, if_goes_in, folded_in_by}
use Rattle.demands.specs.Chains.{folded_in_at, messages_folded_in, chain_left, chain_after, hashed_with, strings_hashed, Alone, InOrder, ChainSteps}
use Rattle.demands.specs.Chains.{connection_chain, session_chain, end_messages, end_strings, EndInOrder, ChainsAgree}
use Rattle.protocol.specs.Calls.{sign_beginning, sign_piece, sign_finishing, verify_finishing}
use Rattle.demands.proofs.CallLaws.{left_alone}
use Rattle.demands.proofs.ChainLaws.{over, strings_over, over_then, strings_then, over-length, over_agree}

-- a fold that would leave x, by what its tests say
fold_by : (a b c : Bool) (x : Bytes) (w : Lent) → a ≡ true
    → (when_done (cond (not a) (refused 40) (cond (not b) (refused 23) (done (cond c 1 0)))) (λ n. with_chain (cond c x w.chain) w) w).chain
    ≡ cond (b && c) x w.chain
fold_by a true true x w e = rw e
fold_by a true false x w e = rw e
fold_by a false c x w e = rw e

module _ (P : Primitives) where
  pub fold_left : (v : Bytes) (kind : FoldKind) (m : Bytes) → length v ≡ 64
      → (left P (folding kind m) (only_chain v)).chain ≡ cond (goes_in kind m) (P.sha512 (v ++ m)) v
  unfolding tests effect
  fold_left v kind m l = fold_by (eqb (length v) 64) (admitted m) (status_allows kind m) (P.sha512 (v ++ m)) (only_chain v) (eq-eqb (length v) 64 l)

  -- ---- a finish is that one fold, where the message began from the value

  abbrev FromValue : Bytes → Underway → Type 0
  FromValue v u = u.begun ≡ true → u.start ≡ v

  from_value : (v : Bytes) (kind : FoldKind) (u : Underway) → FromValue v u
      → cond (goes_in kind (message_of u)) (P.sha512 (u.start ++ message_of u)) v ≡ cond (goes_in kind (message_of u)) (P.sha512 (v ++ message_of u)) v
  from_value v kind u h = go u.begun h
    where
      go : (b : Bool) → (b ≡ true → u.start ≡ v)
          → cond (goes_in kind (cond b u.joined [])) (P.sha512 (u.start ++ cond b u.joined [])) v
          ≡ cond (goes_in kind (cond b u.joined [])) (P.sha512 (v ++ cond b u.joined [])) v
      go true f = ap (λ (s : Bytes). cond (goes_in kind u.joined) (P.sha512 (s ++ u.joined)) v) (f refl)
      go false f = refl

  pub finish_any : (x : Bytes) (kind : FoldKind) (u : Underway) → length x ≡ 64
      → (left P (fold_finishing kind) (chain_and_underway x u)).chain ≡ cond (goes_in kind (message_of u)) (P.sha512 (u.start ++ message_of u)) x
  unfolding tests effect finished_value
  finish_any x kind u l =
      fold_by (eqb (length x) 64) (admitted (message_of u)) (status_allows kind (message_of u)) (P.sha512 (u.start ++ message_of u)) (chain_and_underway x u)
      (eq-eqb (length x) 64 l)

  finish_left : (v : Bytes) (kind : FoldKind) (u : Underway) → length v ≡ 64 → FromValue v u
      → (left P (fold_finishing kind) (chain_and_underway v u)).chain ≡ cond (goes_in kind (message_of u)) (P.sha512 (v ++ message_of u)) v
  finish_left v kind u l h = finish_any v kind u l ∙ from_value v kind u h

  -- ---- a message under way keeps the value that it began from

  begun_from : (v : Bytes) (w : Lent) → FromValue v w.underway → FromValue v (left P (fold_beginning v) w).underway
  unfolding effect
  begun_from v w h = go (answer P (fold_beginning v) w)
    where
      go : (a : Answer) → FromValue v (when_done a (λ n. effect P (fold_beginning v) w) w).underway
      go (done n) = λ e. refl
      go (refused n) = h

  piece_from : (v p : Bytes) (w : Lent) → FromValue v w.underway → FromValue v (left P (fold_piece p) w).underway
  unfolding effect with_piece
  piece_from v p w h = go (answer P (fold_piece p) w)
    where
      go : (a : Answer) → FromValue v (when_done a (λ n. effect P (fold_piece p) w) w).underway
      go (done n) = h
      go (refused n) = h

  -- ---- a step folds one message in, or leaves the value

  data Folds (s : Chain) (x : ChainStep) : Type 0 where
    one : (m : Bytes) → folded_in_at s x ≡ m ∷ [] → (chain_left P s x).value ≡ P.sha512 (s.value ++ m) → Folds s x
    none : folded_in_at s x ≡ [] → (chain_left P s x).value ≡ s.value → Folds s x

  -- by whether the message goes in
  folds_if : (s : Chain) (x : ChainStep) (kind : FoldKind) (m : Bytes) → folded_in_at s x ≡ if_goes_in kind m
      → (chain_left P s x).value ≡ cond (goes_in kind m) (P.sha512 (s.value ++ m)) s.value → Folds s x
  folds_if s x kind m f e = go (goes_in kind m) f e
    where
      go : (b : Bool) → folded_in_at s x ≡ cond b (m ∷ []) [] → (chain_left P s x).value ≡ cond b (P.sha512 (s.value ++ m)) s.value → Folds s x
      go true f e = one m f e
      go false f e = none f e

  -- no call but a fold changes the chain, if it is handed no message under way
  leaves : (s : Chain) (c : Call) → folded_in_by c ≡ [] → (effect P c (only_chain s.value)).chain ≡ s.value → Folds s (calling c)
  leaves s c n e = none n (left_alone P c (only_chain s.value) (λ (w : Lent). w.chain) e)

  called : (s : Chain) (c : Call) → length s.value ≡ 64 → Folds s (calling c)
  unfolding effect
  called s (folding kind m) l = folds_if s (calling (folding kind m)) kind m refl (fold_left s.value kind m l)
  called s (fold_beginning v) l = leaves s _ refl refl
  called s (fold_piece p) l = leaves s _ refl refl
  called s (fold_finishing kind) l = none refl (finish_left s.value kind not_begun l (λ e. absurd (true≢false (sym e))))
  called s (derivation dialect cipher chain material) l = leaves s _ refl refl
  called s (sealing_under c key id) l = leaves s _ refl refl
  called s (opening_under c key id) l = leaves s _ refl refl
  called s (signing_under key) l = leaves s _ refl refl
  called s (verifying_under key) l = leaves s _ refl refl
  called s (sign_beginning key) l = leaves s _ refl refl
  called s (sign_piece p) l = leaves s _ refl refl
  called s (sign_finishing u) l = leaves s _ refl refl
  called s (verify_finishing u) l = leaves s _ refl refl
  called s (adding a) l = leaves s _ refl refl
  called s (removing i) l = leaves s _ refl refl
  called s (stepping i by) l = leaves s _ refl refl
  called s (sealing c id) l = leaves s _ refl refl
  called s (opening c) l = leaves s _ refl refl

  -- every message under way began from the chain's value
  abbrev Began : Chain → Type 0
  Began s = (k : ℕ) → FromValue s.value (s.states k)

  -- the value and the states after a step, where no message was folded in
  began_put : (s : Chain) (k : ℕ) (u : Underway) (v : Bytes) → v ≡ s.value → Began s → FromValue s.value u
      → Began (record { value = v; states = put k u s.states })
  began_put s k u v e b h j = go (eqb j k)
    where
      go : (x : Bool) → (cond x u (s.states j)).begun ≡ true → (cond x u (s.states j)).start ≡ v
      go true f = h f ∙ sym e
      go false f = b j f ∙ sym e

  -- nor is any under way where one was
  began_alone : (s : Chain) → ((k : ℕ) → (s.states k).begun ≡ false) → Began s
  began_alone s h k e = absurd (true≢false (sym e ∙ h k))

  record Steps (s : Chain) (x : ChainStep) : Type 0 where
    folds : Folds s x
    began : Alone P s x → Began (chain_left P s x)

  -- by what the step folds in: either none is under way, or the value is as it was
  step_by : (s : Chain) (x : ChainStep) → ((chain_left P s x).value ≡ s.value → Began (chain_left P s x)) → Folds s x → Steps s x
  step_by s x b (one m f e) = record { folds = one m f e; began = λ alone. began_alone (chain_left P s x) (alone m f) }
  step_by s x b (none f e) = record { folds = none f e; began = λ alone. b e }

  -- a call that is handed the state at the place k, and leaves the chain
  same_chain : (s : Chain) (k : ℕ) (c : Call) → (effect P c (chain_and_underway s.value (s.states k))).chain ≡ s.value
      → (left P c (chain_and_underway s.value (s.states k))).chain ≡ s.value
  same_chain s k c e = left_alone P c (chain_and_underway s.value (s.states k)) (λ (w : Lent). w.chain) e

  steps : (s : Chain) (x : ChainStep) → length s.value ≡ 64 → Began s → Steps s x
  unfolding effect
  steps s (calling c) l b = step_by s (calling c) (λ e k f. b k f ∙ sym e) (called s c l)
  steps s (beginning_at k) l b =
      let w = chain_and_underway s.value (s.states k) in
      step_by s (beginning_at k) (λ e. began_put s k _ _ e b (begun_from s.value w (b k))) (none refl (same_chain s k (fold_beginning s.value) refl))
  steps s (piece_at k p) l b =
      let w = chain_and_underway s.value (s.states k) in
      step_by s (piece_at k p) (λ e. began_put s k _ _ e b (piece_from s.value p w (b k))) (none refl (same_chain s k (fold_piece p) refl))
  steps s (finishing_at k kind) l b =
      step_by s (finishing_at k kind) (λ e j. ended e j (eqb j k) refl)
      (folds_if s (finishing_at k kind) kind (message_of (s.states k)) refl (finish_left s.value kind (s.states k) l (b k)))
    where
      ended : (chain_left P s (finishing_at k kind)).value ≡ s.value → (j : ℕ) (x : Bool) → eqb j k ≡ x
          → FromValue (chain_left P s (finishing_at k kind)).value ((chain_left P s (finishing_at k kind)).states j)
      ended e j true q = rw q (λ f. absurd (true≢false (sym f)))
      ended e j false q = rw q (λ f. b j f ∙ sym e)
  steps s (abandoning_at k) l b =
      step_by s (abandoning_at k) (λ e. began_put s k not_begun _ e b (λ f. absurd (true≢false (sym f)))) (none refl refl)

  module _ (size : (s : Bytes) → length (P.sha512 s) ≡ 64) where
    fold_length : {s : Chain} {x : ChainStep} → Folds s x → length s.value ≡ 64 → length (chain_left P s x).value ≡ 64
    fold_length {s} (one m f e) l = ap length e ∙ size (s.value ++ m)
    fold_length (none f e) l = ap length e ∙ l

    -- with the messages ms folded in after it
    fold_value : {s : Chain} {x : ChainStep} → Folds s x → (ms : List Bytes)
        → over P.sha512 (chain_left P s x).value ms ≡ over P.sha512 s.value (folded_in_at s x ++ ms)
    unfolding over
    fold_value {s} (one m f e) ms = (λ i. over P.sha512 (e i) ms) ∙ sym (λ i. over P.sha512 s.value (f i ++ ms))
    fold_value {s} (none f e) ms = (λ i. over P.sha512 (e i) ms) ∙ sym (λ i. over P.sha512 s.value (f i ++ ms))

    fold_strings : {s : Chain} {x : ChainStep} → Folds s x → (ms : List Bytes)
        → hashed_with s.value (folded_in_at s x) ++ strings_over P.sha512 (chain_left P s x).value ms
        ≡ strings_over P.sha512 s.value (folded_in_at s x ++ ms)
    unfolding strings_over
    fold_strings {s} (one m f e) ms =
        (λ i. hashed_with s.value (f i) ++ strings_over P.sha512 (e i) ms) ∙ sym (λ i. strings_over P.sha512 s.value (f i ++ ms))
    fold_strings {s} (none f e) ms =
        (λ i. hashed_with s.value (f i) ++ strings_over P.sha512 (e i) ms) ∙ sym (λ i. strings_over P.sha512 s.value (f i ++ ms))

    after_is : (xs : List ChainStep) (s : Chain) → length s.value ≡ 64 → Began s → InOrder P s xs
        → (chain_after P s xs).value ≡ over P.sha512 s.value (messages_folded_in P s xs)
    unfolding over
    after_is [] s l b o = refl
    after_is (x ∷ xs) s l b o =
        let t = steps s x l b in
        after_is xs (chain_left P s x) (fold_length t.folds l) (t.began o.0) o.1 ∙ fold_value t.folds (messages_folded_in P (chain_left P s x) xs)

    strings_are : (xs : List ChainStep) (s : Chain) → length s.value ≡ 64 → Began s → InOrder P s xs
        → strings_hashed P s xs ≡ strings_over P.sha512 s.value (messages_folded_in P s xs)
    unfolding strings_over
    strings_are [] s l b o = refl
    strings_are (x ∷ xs) s l b o =
        let t = steps s x l b in
        ap (λ (ss : List Bytes). hashed_with s.value (folded_in_at s x) ++ ss)
        (strings_are xs (chain_left P s x) (fold_length t.folds l) (t.began o.0) o.1)
        ∙ fold_strings t.folds (messages_folded_in P (chain_left P s x) xs)

    -- ---- one end: the connection's steps up to the copy, then the session's own

    fresh_length : length fresh_chain ≡ 64
    fresh_length = length-replicate {A = ℕ} 64 0

    -- nothing is under way at the start
    starting_began : (v : Bytes) → Began (starting v)
    starting_began v k e = absurd (true≢false (sym e))

    module _ (x : ChainSteps) (o : EndInOrder P x) where
      abbrev connection_messages : List Bytes
      connection_messages = messages_folded_in P (starting fresh_chain) x.connection

      abbrev own_messages : List Bytes
      own_messages = messages_folded_in P (starting (connection_chain P x)) x.session

      connection_is : connection_chain P x ≡ over P.sha512 fresh_chain connection_messages
      connection_is = after_is x.connection (starting fresh_chain) fresh_length (starting_began fresh_chain) o.0

      connection-length : length (connection_chain P x) ≡ 64
      connection-length = ap length connection_is ∙ over-length P.sha512 size fresh_chain connection_messages fresh_length

      session_is : session_chain P x ≡ over P.sha512 fresh_chain (end_messages P x)
      session_is =
          after_is x.session (starting (connection_chain P x)) connection-length (starting_began (connection_chain P x)) o.1
          ∙ ap (λ (v : Bytes). over P.sha512 v own_messages) connection_is
          ∙ sym (over_then P.sha512 fresh_chain connection_messages own_messages)

      end_strings_lem : strings_over P.sha512 fresh_chain (end_messages P x) ≡ end_strings P x
      end_strings_lem =
          strings_then P.sha512 fresh_chain connection_messages own_messages
          ∙ ap (λ (v : Bytes). strings_over P.sha512 fresh_chain connection_messages ++ strings_over P.sha512 v own_messages) (sym connection_is)
          ∙ sym (λ i.
          strings_are x.connection (starting fresh_chain) fresh_length (starting_began fresh_chain) o.0 i
          ++ strings_are x.session (starting (connection_chain P x)) connection-length (starting_began (connection_chain P x)) o.1 i)

      -- a value that the library made always has its 64 bytes
      pub session-length : length (session_chain P x) ≡ 64
      session-length = ap length session_is ∙ over-length P.sha512 size fresh_chain (end_messages P x) fresh_length

    pub chains_agree : ChainsAgree P
    chains_agree client server oc os e =
        rw (← end_strings_lem client oc, ← end_strings_lem server os)
        (over_agree P.sha512 size (end_messages P client) (end_messages P server) (sym (session_is client oc) ∙ e ∙ session_is server os))

    -- the same messages folded in, the same value: what the second half starts from
    pub same_value : (client server : ChainSteps) → EndInOrder P client → EndInOrder P server → end_messages P client ≡ end_messages P server
        → session_chain P client ≡ session_chain P server
    same_value client server oc os e = session_is client oc ∙ ap (over P.sha512 fresh_chain) e ∙ sym (session_is server os)
