-- What the calls leave of the record of one id: every call but its removal keeps what it holds, and moves its counter only up.
-- Assumes nothing.
use mathlib.Core.Path.{◌≡◌, refl, sym, ap, ◌∙◌}
use mathlib.Core.Logic.{◌≢◌, ◌⊎◌, inl, inr}
use mathlib.Core.Bool.{Bool, true, false, cond, ◌&&◌, true≢false}
use mathlib.Core.List.Memᴰ
use mathlib.Core.List.{List, [], ◌∷◌}
use Prim.Native.Nat.{ℕ, ◌+◌, ◌≤◌}
use native.Mathlib.Omega.{arith}
use native.Mathlib.Decide.{ℕ_discrete}
use borrow.Author.Tests.{eqb-false, eq-eqb, not-false, leb-true}
use lib.Dec.{eqb, leb}
use Rattle.protocol.specs.Bytes.{Bytes}
use Rattle.protocol.specs.Answer.{Answer, done, refused, when_done}
use Rattle.protocol.specs.Connection.{Connection, last_counter}
use Rattle.protocol.specs.SessionTable.{Session, free_record, with_counter, is_session, record_of, change_record, has_free, fill_free, Adding, new_record, count_up}
use Rattle.protocol.specs.SessionTable.{counter_step}
use Rattle.protocol.specs.Transform.{Primitives}
use Rattle.protocol.specs.Calls.{Call, derivation, folding, fold_beginning, fold_piece, fold_finishing, sealing_under, opening_under, signing_under}
use Rattle.protocol.specs.Calls.{verifying_under, adding, removing, stepping}
use Rattle.protocol.specs.Calls.{sealing, opening, Lent, with_table, seal_tests, tests, effect, answer, left}
use Rattle.protocol.specs.Calls.{sign_beginning, sign_piece, sign_finishing, verify_finishing}
use Rattle.demands.specs.Chains.{Among}
use Rattle.demands.specs.Steps.{Step, on_table, table_left, made}
use Rattle.demands.proofs.Answering.{line-of, later-line-of}
use Rattle.demands.proofs.CallLaws.{left-done, left_alone}
use Rattle.demands.proofs.TableLaws.{not_this, is_used, is_id, change_other, fill_other, change_same, fill_same}

-- what sealing and opening take from a record, besides its counter; any later field may change
pub record Held : Type 0 where
  pub used : Bool
  pub id : ℕ
  pub guest : Bool
  pub anonymous : Bool
  pub wide : Bool
  pub client_to_server : Bytes
  pub server_to_client : Bytes

abbrev pub held : Session → Held
held s =
    record {
      used = s.used;
      id = s.id;
      guest = s.guest;
      anonymous = s.anonymous;
      wide = s.wide;
      client_to_server = s.keys.client_to_server;
      server_to_client = s.keys.server_to_client;
    }

abbrev is_held : ℕ → Held → Bool
is_held i h = h.used && eqb h.id i

-- y is what calls left of the record x: it holds the same, and its counter has only gone up, and not past the last
pub record Follows (x y : Session) : Type 0 where
  pub same : held y ≡ held x
  pub up : x.counter ≤ y.counter
  pub fits : x.counter ≤ last_counter → y.counter ≤ last_counter

pub follows_self : {x y : Session} → y ≡ x → Follows x y
follows_self {x} {y} e = record { same = ap held e; up = go; fits = λ h. rw e h }
  where
    go : x.counter ≤ y.counter
    go = rw e (omega arith)

pub follows_then : {x y z : Session} → Follows x y → Follows y z → Follows x z
follows_then f g =
    let a = f.up in
    let b = g.up in
    record { same = g.same ∙ f.same; up = omega arith; fits = λ h. g.fits (f.fits h) }

stepped_follows : (by : ℕ) (x : Session) → Follows x (counter_step by x)
unfolding counter_step
stepped_follows by x = go (leb (x.counter + by) last_counter) refl
  where
    go : (b : Bool) → leb (x.counter + by) last_counter ≡ b → Follows x (cond b (with_counter (x.counter + by) x) x)
    go true e = record { same = refl; up = omega arith; fits = λ h. leb-true (x.counter + by) last_counter e }
    go false e = follows_self refl

-- the session i has a record in the table
abbrev pub Present : ℕ → List Session → Type 0
Present i t = is_session i (record_of i t) ≡ true

present_after : (i : ℕ) {x y : Session} → is_session i x ≡ true → Follows x y → is_session i y ≡ true
present_after i p f = ap (is_held i) f.same ∙ p

-- a change of any one record that leaves it what it holds
pub change_follows : (i : ℕ) (f : Session → Session) → ((x : Session) → held (f x) ≡ held x) → (j : ℕ) (t : List Session)
    → Follows (record_of j t) (f (record_of j t)) → Present i t → Follows (record_of i t) (record_of i (change_record f j t))
change_follows i f same j t h k = go (ℕ_discrete j i)
  where
    itself : j ≡ i → record_of i (change_record f i t) ≡ f (record_of i t)
    itself p = change_same i f (λ x e. ap (is_held i) (same x) ∙ e) t (is_used i (record_of i t) k)

    not_mine : j ≢ i → (x : Session) → is_session j x ≡ true → is_session i (f x) ≡ false
    not_mine d x e = ap (is_held i) (same x) ∙ not_this i x (λ q. d (sym (is_id j x e) ∙ q))

    go : Dec (j ≡ i) → Follows (record_of i t) (record_of i (change_record f j t))
    go (yes p) = rw (p, itself p) (rw p at h)
    go (no d) = follows_self (change_other i j (λ q. d (sym q)) f (not_mine d) t)

module _ (P : Primitives) where
  -- ---- adding with success

  record Added (a : Adding) (t : List Session) : Type 0 where
    new_id : (record_of a.id t).used ≡ false
    room : has_free t ≡ true

  add_says : (a : Adding) (w : Lent) (n : ℕ) → answer P (adding a) w ≡ done n → Added a w.table
  unfolding tests
  add_says a w n e =
      let at = line-of (tests P (adding a) w) n e in
      record { new_id = at 21; room = not-false (has_free w.table) (at 22) }

  -- right after it lookup takes the record made
  pub added_record : (a : Adding) (w : Lent) (n : ℕ) → answer P (adding a) w ≡ done n
      → record_of a.id (left P (adding a) w).table ≡ new_record P.kdf a
  unfolding effect
  added_record a w n e =
      let s = add_says a w n e in
      ap (λ (x : Lent). record_of a.id x.table) (left-done P (adding a) w n e)
      ∙ fill_same a.id (new_record P.kdf a) (eq-eqb a.id a.id refl) w.table s.new_id s.room

  pub added_present : (a : Adding) (w : Lent) (n : ℕ) → answer P (adding a) w ≡ done n → Present a.id (left P (adding a) w).table
  added_present a w n e = ap (is_session a.id) (added_record a w n e) ∙ eq-eqb a.id a.id refl

  -- ---- every call but the removal of the session

  module _ (i : ℕ) where
    -- what a call leaves of the session's record
    abbrev Kept : Call → Lent → Type 0
    Kept c w = Follows (record_of i w.table) (record_of i (left P c w).table)

    -- a call that changes no table
    alone : (c : Call) (w : Lent) → (effect P c w).table ≡ w.table → Kept c w
    alone c w e = follows_self (ap (record_of i) (left_alone P c w (λ (x : Lent). x.table) e))

    -- one that does, where it is done
    if_done : (c : Call) (w : Lent) → ((n : ℕ) → answer P c w ≡ done n → Follows (record_of i w.table) (record_of i (effect P c w).table)) → Kept c w
    if_done c w f = go (answer P c w) refl
      where
        go : (a : Answer) → answer P c w ≡ a → Follows (record_of i w.table) (record_of i (when_done a (λ n. effect P c w) w).table)
        go (done n) e = f n e
        go (refused n) e = follows_self refl

    adding_follows : (a : Adding) (w : Lent) → Present i w.table → (n : ℕ) → answer P (adding a) w ≡ done n
        → Follows (record_of i w.table) (record_of i (fill_free (new_record P.kdf a) w.table))
    adding_follows a w k n e = go (ℕ_discrete a.id i)
      where
        go : Dec (a.id ≡ i) → Follows (record_of i w.table) (record_of i (fill_free (new_record P.kdf a) w.table))
        go (yes p) =
            let u : (record_of a.id w.table).used ≡ true = rw p (is_used i (record_of i w.table) k) in
            absurd (true≢false (sym u ∙ (add_says a w n e).new_id))
        go (no d) = follows_self (fill_other i a.id (λ q. d (sym q)) (new_record P.kdf a) refl w.table)

    -- a seal with success did not find the last counter value
    sealing_follows : (c : Connection) (j : ℕ) (w : Lent) → Present i w.table → (n : ℕ) → answer P (sealing c j) w ≡ done n
        → Follows (record_of i w.table) (record_of i (change_record count_up j w.table))
    unfolding tests seal_tests
    sealing_follows c j w k n e =
        let s = record_of j w.table in
        let d = eqb-false s.counter last_counter (later-line-of (tests P (sealing c j) w) n e 17) in
        change_follows i count_up (λ x. refl) j w.table (record { same = refl; up = omega arith; fits = λ h. omega arith }) k

    -- one clause for one call
    pub follows : (c : Call) (w : Lent) → c ≢ removing i → Present i w.table → Kept c w
    unfolding effect
    follows (derivation dialect cipher chain material) w h k = alone _ w refl
    follows (folding kind m) w h k = alone _ w refl
    follows (fold_beginning v) w h k = alone _ w refl
    follows (fold_piece p) w h k = alone _ w refl
    follows (fold_finishing kind) w h k = alone _ w refl
    follows (sealing_under c key id) w h k = alone _ w refl
    follows (opening_under c key id) w h k = alone _ w refl
    follows (signing_under key) w h k = alone _ w refl
    follows (verifying_under key) w h k = alone _ w refl
    follows (sign_beginning key) w h k = alone _ w refl
    follows (sign_piece p) w h k = alone _ w refl
    follows (sign_finishing u) w h k = alone _ w refl
    follows (verify_finishing u) w h k = alone _ w refl
    follows (adding a) w h k = if_done (adding a) w (adding_follows a w k)
    follows (removing j) w h k =
        if_done (removing j) w (λ n e. follows_self (change_other i j (λ q. h (ap removing (sym q))) (λ x. free_record) (λ x u. refl) w.table))
    follows (stepping j by) w h k =
        let f = stepped_follows by in
        if_done (stepping j by) w (λ n e. change_follows i (counter_step by) (λ x. (f x).same) j w.table (f (record_of j w.table)) k)
    follows (sealing c j) w h k = if_done (sealing c j) w (sealing_follows c j w k)
    follows (opening c) w h k = alone _ w refl

    -- every step of a list that does not remove the session gets a table with its record
    pub follows_all : (ss : List Step) (t : List Session) → ((s : Step) → Among s ss → s.call ≢ removing i) → Present i t
        → (x : Step) → Among x (made P t ss) → Follows (record_of i t) (record_of i x.lent.table)
    follows_all [] t h k x x-in = elim x-in [ ]
    follows_all (s ∷ ss) t h k x x-in = go (follows_all ss next (λ r r-in. h r (Memᴰ.tail r-in))) (Memᴰ.cases_cons x-in)
      where
        next : List Session
        next = table_left P (on_table t s)

        f : Follows (record_of i t) (record_of i next)
        f = follows s.call (with_table t s.lent) (h s (Memᴰ.head refl)) k

        go : (Present i next → (y : Step) → Among y (made P next ss) → Follows (record_of i next) (record_of i y.lent.table))
            → (x ≡ on_table t s) ⊎ Among x (made P next ss) → Follows (record_of i t) (record_of i x.lent.table)
        go below (inl e) = rw e (follows_self refl)
        go below (inr r) = follows_then f (below (present_after i k f) x r)
