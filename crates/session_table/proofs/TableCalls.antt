-- What each call with the table says, from what its parts say: the mathematics of the walks. `Exactly` is shown first, every byte of the
-- table; the table of the rules follows from it (leaves_table).
-- Assumes nothing.
use mathlib.Core.Path.{◌≡◌, refl, sym, ap, subst, ◌∙◌}
use mathlib.Core.Bool.{Bool, true, false, cond, not}
use mathlib.Core.List.{List, [], ◌∷◌, ◌++◌}
use Prim.Native.Nat.{ℕ, ◌<◌, ◌^◌}
use native.Mathlib.Omega.{arith}
use borrow.Author.Tests.{leb-false}
use lib.Dec.{eqb, leb}
use lib.ListN.{length, get_or, set}
use Rattle.std.specs.Prelude.{Some, None, Result, position}
use Rattle.std.specs.Option.{is_some}
use Rattle.protocol.specs.Bytes.{Bytes}
use Rattle.protocol.specs.Answer.{Answer, done, refused, answer_number, when_done, refuse◌when◌, judge_after}
use Rattle.protocol.specs.Connection.{Connection, encrypts, last_counter}
use Rattle.protocol.specs.TransformHeader.{inner, session_id_of, TransformHeader}
use Rattle.protocol.specs.Compound.{walk}
use Rattle.protocol.specs.Refusals.{other_session, counter_used_up}
use Rattle.protocol.specs.SessionTable as protocol
use Rattle.protocol.specs.Transform.{opened_to}
use Rattle.protocol.specs.Calls.{Call, derivation, folding, fold_beginning, fold_piece, fold_finishing, sealing_under, opening_under, signing_under, verifying_under}
use Rattle.protocol.specs.Calls.{adding, removing, stepping, sealing, opening}
use Rattle.protocol.specs.Calls.{sign_beginning, sign_piece, sign_finishing, verify_finishing}
use Rattle.protocol.specs.Calls.{lines}
use Rattle.protocol.specs.Calls.{sent_by, only_table, message_and_table, message_tests, record_tests, add_tests, seal_tests, sealed_with, open_tests, plaintext, verdict}
use Rattle.protocol.specs.Calls.{tests, effect, answer, left}
use Rattle.protocol.specs.Contract.{Makes, Returns}
use Rattle.protocol.specs.Suite.{suite, kdf}
use Rattle.protocol.proofs.AnswerLaws.{when_part, when_two}
use Rattle.protocol.proofs.CallLaws.{makes_when}
use Rattle.protocol.proofs.Judging.{judge-done}
use Rattle.transform_header.proofs.HeaderIn.{header-there}
use Rattle.answer.specs.declared.refusal.Refusal.{Refusal}
use Rattle.answer.specs.Reading.{number_in}
use Rattle.session_record.specs.declared.Session.{Session}
use Rattle.session_record.specs.declared.Adding.{Adding}
use Rattle.session_record.specs.Reading.{free, is_wanted, session_of, stored, stepped}
use Rattle.session_record.proofs.StoredLaws.{free_read, new_read}
use Rattle.session_record.specs.Adds.{adding_of, made_or, AddsWith}
use Rattle.session_record.specs.Clauses.{SealsWith, counter_moves, OpensWith, named_id}
use Rattle.session_table.specs.Place.{place_in, place_of, free_place}
use Rattle.session_table.specs.Reading.{table_of}
use Rattle.session_table.specs.Exactly.{counted_up, changed, Exactly}
use Rattle.session_table.proofs.TableLink.{reads, changes, fills, has_session, has_free_lem, keeps}
use Rattle.session_table.proofs.PlaceLaws.{found, place_is}
use Rattle.session_table.proofs.StepLaws.{step-none, step-one, steps_alike}

-- ---- the table of the rules, from the table of the code

reads_changed : (c : Call) (m : Bytes) (t : List Session) → table_of (changed c t) ≡ (effect suite c (message_and_table m (table_of t))).table
unfolding changed effect
reads_changed (adding a) m t =
    sym (fills (stored (protocol.new_record kdf a)) t)
    ∙ ap (λ (s : protocol.Session). protocol.fill_free s (table_of t)) (new_read a)
reads_changed (removing id) m t = sym (changes (λ s. protocol.free_record) id t free free_read)
reads_changed (stepping id by) m t = sym (changes (protocol.counter_step by) id t _ (steps_alike by _))
reads_changed (sealing c id) m t = sym (changes protocol.count_up id t _ refl)
reads_changed (opening c) m t = refl
reads_changed (derivation dialect cipher chain material) m t = refl
reads_changed (folding kind v) m t = refl
reads_changed (fold_beginning v) m t = refl
reads_changed (fold_piece p) m t = refl
reads_changed (fold_finishing kind) m t = refl
reads_changed (sealing_under c key id) m t = refl
reads_changed (opening_under c key id) m t = refl
reads_changed (signing_under key) m t = refl
reads_changed (verifying_under key) m t = refl
reads_changed (sign_beginning key) m t = refl
reads_changed (sign_piece p) m t = refl
reads_changed (sign_finishing u) m t = refl
reads_changed (verify_finishing u) m t = refl

leaves_table : (c : Call) (m : Bytes) (t t' : List Session) → Exactly c (message_and_table m (table_of t)) t t'
    → table_of t' ≡ when_done (answer suite c (message_and_table m (table_of t))) (λ n. (effect suite c (message_and_table m (table_of t))).table) (table_of t)
leaves_table c m t t' e =
    let a = answer suite c (message_and_table m (table_of t)) in
    ap table_of e ∙ when_part table_of a (changed c t) t ∙ ap (λ (x : List protocol.Session). when_done a (λ n. x) (table_of t)) (reads_changed c m t)

-- a record that stands there only where the call is done, put at its place
put : (v : Answer) (ys zs : List Session) (i : ℕ) (new : Session) → zs ≡ set ys i (when_done v (λ n. new) (get_or ys i free))
    → zs ≡ when_done v (λ n. set ys i new) ys
put v ys zs i new e =
    e ∙ when_part (set ys i) v new (get_or ys i free) ∙ ap (λ (x : List Session). when_done v (λ n. set ys i new) x) (keeps ys i)

-- what lookup took
pub taken : (ys : List Session) (id i : ℕ) (s : Session) → i ≡ place_of id ys → s ≡ get_or ys i free → session_of s ≡ protocol.record_of id (table_of ys)
taken ys id i s e e' = ap session_of (e' ∙ ap (λ (k : ℕ). get_or ys k free) e) ∙ sym (reads id ys)

-- ---- removing

module _ (ys zs : List Session) (id : ℕ) where
  abbrev is_there : Bool
  is_there = (protocol.record_of id (table_of ys)).used

  abbrev answer_if : Bool → Answer
  answer_if b = verdict (lines (other_session b ∷ []))

  abbrev call : Call
  call = removing id

  -- where the search says b
  removed_if : (b : Bool) → is_some (position (is_wanted true id) ys) ≡ b → zs ≡ cond b (set ys (place_of id ys) free) ys
      → Returns call (only_table (table_of ys)) (cond b 0 6) (only_table (table_of zs)) × Exactly call (only_table (table_of ys)) ys zs
  unfolding tests effect changed
  removed_if b u ez = (record { number = number b ∙ sym (ap answer_number answered); leaves = leaves }, exactly)
    where
      answered : answer_if is_there ≡ answer_if b
      answered = ap answer_if (has_session id ys ∙ sym (found (is_wanted true id) ys) ∙ u)

      number : (d : Bool) → cond d 0 6 ≡ answer_number (answer_if d)
      number true = refl
      number false = refl

      placed : (d : Bool) → cond d (set ys (place_of id ys) free) ys ≡ when_done (answer_if d) (λ k. set ys (place_of id ys) free) ys
      placed true = refl
      placed false = refl

      exactly : Exactly call (only_table (table_of ys)) ys zs
      exactly = ez ∙ placed b ∙ sym (ap (λ (v : Answer). when_done v (λ k. set ys (place_of id ys) free) ys) answered)

      leaves : only_table (table_of zs) ≡ left suite call (only_table (table_of ys))
      leaves =
          ap only_table (leaves_table call [] ys zs exactly)
          ∙ when_part only_table (answer_if is_there) (protocol.remove_record id (table_of ys)) (table_of ys)

  pub removed-none : position (is_wanted true id) ys ≡ None → zs ≡ ys
      → Returns call (only_table (table_of ys)) 6 (only_table (table_of zs)) × Exactly call (only_table (table_of ys)) ys zs
  removed-none e ez = removed_if false (ap is_some e) ez

  pub removed_there : (i : ℕ) → position (is_wanted true id) ys ≡ Some i → zs ≡ set ys i free
      → Returns call (only_table (table_of ys)) 0 (only_table (table_of zs)) × Exactly call (only_table (table_of ys)) ys zs
  removed_there i e ez =
      let at : i ≡ place_of id ys = sym (ap (place_in ys) e) ∙ place_is (is_wanted true id) ys in
      removed_if true (ap is_some e) (ez ∙ ap (λ (k : ℕ). set ys k free) at)

-- ---- adding

module _ (ys : List Session) (x : Adding) (material chain : Bytes) (has room : Bool) (r : Result Session Refusal) where
  abbrev asked : protocol.Adding
  asked = adding_of x chain material

  abbrev added : Bool → Bool → Answer
  added t free = verdict (lines (add_tests asked t free))

  abbrev place : ℕ
  place = free_place ys

  pub added_says : (zs : List Session) → has ≡ is_some (position (is_wanted true x.id) ys) → room ≡ is_some (position (is_wanted false 0) ys)
      → ((old : Session) → AddsWith asked has room old (number_in r) (made_or old r)) → zs ≡ set ys place (made_or (get_or ys place free) r)
      → Returns (adding asked) (only_table (table_of ys)) (number_in r) (only_table (table_of zs)) × Exactly (adding asked) (only_table (table_of ys)) ys zs
  unfolding tests effect changed
  added_says zs eh er adds ez = (record { number = o.number ∙ ap answer_number same; leaves = leaves }, exactly)
    where
      o : AddsWith asked has room (get_or ys place free) (number_in r) (made_or (get_or ys place free) r)
      o = adds (get_or ys place free)

      used : has ≡ (protocol.record_of x.id (table_of ys)).used
      used = eh ∙ found (is_wanted true x.id) ys ∙ sym (has_session x.id ys)

      roomy : room ≡ protocol.has_free (table_of ys)
      roomy = er ∙ found (is_wanted false 0) ys ∙ sym (has_free_lem ys)

      answered : Answer
      answered = added (protocol.record_of x.id (table_of ys)).used (protocol.has_free (table_of ys))

      same : added has room ≡ answered
      same = λ j. added (used j) (roomy j)

      new : made_or (get_or ys place free) r ≡ when_done answered (λ k. stored (protocol.new_record kdf asked)) (get_or ys place free)
      new = o.session ∙ ap (λ (v : Answer). when_done v (λ k. stored (protocol.new_record kdf asked)) (get_or ys place free)) same

      exactly : Exactly (adding asked) (only_table (table_of ys)) ys zs
      exactly = put answered ys zs place (stored (protocol.new_record kdf asked)) (ez ∙ ap (set ys place) new)

      leaves : only_table (table_of zs) ≡ left suite (adding asked) (only_table (table_of ys))
      leaves =
          ap only_table (leaves_table (adding asked) [] ys zs exactly)
          ∙ when_part only_table answered (protocol.fill_free (protocol.new_record kdf asked) (table_of ys)) (table_of ys)

-- ---- sealing

module _ (c : Connection) (id : ℕ) (m : Bytes) (ys : List Session) where
  abbrev record_of : protocol.Session
  record_of = protocol.record_of id (table_of ys)

  abbrev sealed : Answer
  sealed = verdict (seal_tests suite c m record_of id)

  -- a seal that is done has a counter that can go up
  not_last : (n : ℕ) → sealed ≡ done n → eqb record_of.counter last_counter ≡ false
  unfolding seal_tests
  not_last n e =
      let walked = walk (inner m) (sent_by c.role id) in
      go walked (eqb record_of.counter last_counter)
      (judge-done (message_tests c m ++ record_tests c record_of) (judge_after walked (counter_used_up record_of.counter ∷ [])) n e).1
    where
      go : (w : Answer) (b : Bool) → judge_after w ((refuse 17 when b) ∷ []) ≡ done n → b ≡ false
      go (done k) true q = absurd (let z : ◌≡◌ {A = ℕ} 0 1 = cc in omega arith)
      go (done k) false q = refl
      go (refused k) b q = absurd (let z : ◌≡◌ {A = ℕ} 0 1 = cc in omega arith)

  moved : (s : Session) → s.counter < 2 ^ 64 → session_of s ≡ record_of → (a : Answer) → a ≡ sealed
      → stepped (counter_moves a) s ≡ when_done a (λ n. counted_up s) s
  moved s fits e (done n) q = step-one s fits (ap (λ (x : protocol.Session). eqb x.counter last_counter) e ∙ not_last n (sym q))
  moved s fits e (refused n) q = step-none s

  pub sealed_says : (zs : List Session) (m' : Bytes) (i by : ℕ) (s : Session) (a : Answer) → i ≡ place_of id ys → s ≡ get_or ys i free
      → s.counter < 2 ^ 64 → SealsWith (session_of s) c id m m' a → by ≡ counter_moves a → zs ≡ set ys i (stepped by s)
      → Makes (sealing c id) (message_and_table m (table_of ys)) a (message_and_table m' (table_of zs))
      × Exactly (sealing c id) (message_and_table m (table_of ys)) ys zs
  unfolding tests effect changed
  sealed_says zs m' i by s a e e' fits o eb ez = (made, exactly)
    where
      there : session_of s ≡ record_of
      there = taken ys id i s e e'

      o' : SealsWith record_of c id m m' a
      o' = subst (λ (x : protocol.Session). SealsWith x c id m m' a) there o

      q : a ≡ sealed
      q = o'.answer

      exactly : Exactly (sealing c id) (message_and_table m (table_of ys)) ys zs
      exactly =
          put sealed ys zs i (counted_up (get_or ys i free))
          (ez ∙ ap (set ys i) (ap (λ (k : ℕ). stepped k s) eb ∙ moved s fits there a q ∙ (λ j. when_done (q j) (λ n. counted_up (e' j)) (e' j))))
          ∙ ap (λ (k : ℕ). when_done sealed (λ n. set ys k (counted_up (get_or ys k free))) ys) e

      message : m' ≡ when_done sealed (λ n. sealed_with suite c m record_of id) m
      message = o'.bytes

      table : table_of zs ≡ when_done sealed (λ n. protocol.change_record protocol.count_up id (table_of ys)) (table_of ys)
      table = leaves_table (sealing c id) m ys zs exactly

      made : Makes (sealing c id) (message_and_table m (table_of ys)) a (message_and_table m' (table_of zs))
      made =
          record {
            answers = q;
            leaves =
                (λ j. message_and_table (message j) (table j))
                ∙ when_two message_and_table sealed (sealed_with suite c m record_of id) m (protocol.change_record protocol.count_up id (table_of ys)) (table_of ys);
          }

-- ---- opening

module _ (c : Connection) (m : Bytes) where
  abbrev opened : protocol.Session → Answer
  opened s = verdict (open_tests suite c m s)

  -- a message too short for a header is refused whatever the record
  too_short : leb (length m) 52 ≡ true → (s : protocol.Session) → opened s ≡ refused (cond (not (encrypts c)) 1 2)
  unfolding open_tests
  too_short e s = go (not (encrypts c)) (leb (length m) 52) _ e
    where
      go : (b d : Bool) (x : Answer) → d ≡ true → cond b (refused 1) (cond d (refused 2) x) ≡ refused (cond b 1 2)
      go true d x q = refl
      go false true x q = refl
      go false false x q = absurd (let z : ◌≡◌ {A = ℕ} 0 1 = cc in omega arith)

  opens : (t : List protocol.Session) (m' : Bytes) (a : Answer) → OpensWith (protocol.record_of (session_id_of m) t) c m m' a
      → Makes (opening c) (message_and_table m t) a (message_and_table m' t)
  unfolding tests effect
  opens t m' a o =
      let s = protocol.record_of (session_id_of m) t in
      makes_when (opening c) (message_and_table m t) a o.answer (message_and_table m' t)
      (ap (λ (x : Bytes). message_and_table x t) (o.bytes ∙ ap (λ (x : Answer). when_done x (λ n. opened_to m (plaintext suite c m s)) m) (sym o.answer))
      ∙ when_part (λ (x : Bytes). message_and_table x t) a (opened_to m (plaintext suite c m s)) m)

  pub opened_says : (ys : List Session) (id i : ℕ) (m' : Bytes) (s : Session) (a : Answer) → id ≡ named_id m → i ≡ place_of id ys → s ≡ get_or ys i free
      → OpensWith (session_of s) c m m' a → Makes (opening c) (message_and_table m (table_of ys)) a (message_and_table m' (table_of ys))
  opened_says ys id i m' s a e₀ e e' o = opens (table_of ys) m' a (go (leb (length m) 52) refl)
    where
      t : List protocol.Session
      t = table_of ys

      there : protocol.Session
      there = protocol.record_of (session_id_of m) t

      go : (b : Bool) → leb (length m) 52 ≡ b → OpensWith there c m m' a
      go true q =
          let r = too_short q (session_of s) in
          let r' = too_short q there in
          record {
            answer = o.answer ∙ r ∙ sym r';
            bytes =
                o.bytes
                ∙ ap (λ (x : Answer). when_done x (λ n. opened_to m (plaintext suite c m (session_of s))) m) r
                ∙ sym (ap (λ (x : Answer). when_done x (λ n. opened_to m (plaintext suite c m there)) m) r');
          }
      go false q =
          let named : named_id m ≡ session_id_of m = ap (λ (h : TransformHeader). h.session_id) (header-there m (leb-false (length m) 52 q)) in
          subst (λ (x : protocol.Session). OpensWith x c m m' a) (taken ys id i s e e' ∙ ap (λ (k : ℕ). protocol.record_of k t) (e₀ ∙ named)) o
