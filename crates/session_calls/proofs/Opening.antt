-- Opening with one record, a way out at a time: c is the connection, s the record.
-- Assumes nothing.
use mathlib.Core.Path.{◌≡◌, refl, sym, ap, ◌∙◌}
use mathlib.Core.List.{List, [], ◌++◌}
use mathlib.Core.Option.{get_or}
use Prim.Native.Nat.{ℕ}
use Rattle.std.specs.Prelude.{Result, Ok, Err}
use borrow.Author.Tests.{eqb-true, not-false}
use lib.ListN.{length}
use Rattle.protocol.specs.Bytes.{Bytes}
use Rattle.protocol.specs.Answer.{Answer, refused, when_done, Test, first_of, judge, judge_after}
use Rattle.protocol.specs.Connection.{other, Connection, uses_wide, cipher_key_bytes}
use Rattle.protocol.specs.TransformHeader.{header_of, session_id_of}
use Rattle.protocol.specs.Compound.{walk}
use Rattle.protocol.specs.SessionTable.{Session, opening_key}
use Rattle.protocol.specs.Transform.{opened_to}
use Rattle.protocol.specs.Calls.{sent_by, opening_under, Lent, only_message, message_tests, header_tests, record_tests, text_tests, open_tests, plaintext, effect}
use Rattle.protocol.specs.Calls.{answer}
use Rattle.protocol.specs.Contract.{Makes}
use Rattle.protocol.specs.Suite.{suite}
use Rattle.protocol.proofs.AnswerLaws.{when_part}
use Rattle.protocol.proofs.Judging.{line, lines_after, judge-append}
use Rattle.answer.specs.declared.refusal.Refusal.{Refusal}
use Rattle.answer.specs.Reading.{number_of, number_in}
use Rattle.answer.proofs.Results.{passed, refuses_with}
use Rattle.protocol.proofs.RecordLaws.{open_by_key}
use Rattle.session_record.specs.Clauses.{OpensWith}

module _ (c : Connection) (s : Session) (m : Bytes) where
  abbrev front : List Test
  front = message_tests c m ++ header_tests c (header_of m)

  abbrev lines : List Test
  lines = front ++ record_tests c s

  abbrev last : List Test
  last = text_tests m (plaintext suite c m s)

  abbrev after : Answer
  after = judge_after (walk (get_or (plaintext suite c m s) []) (sent_by (other c.role) (session_id_of m))) []

  -- r is what the lines say, and the header names the session id
  module _ (r : Result ℕ Refusal) (says : number_in r ≡ first_of lines) where
    pub open_refused : (why : Refusal) → r ≡ Err why → OpensWith s c m m (refused (number_of why))
    unfolding open_tests
    open_refused why o =
        let q = judge-append lines last after ∙ refuses_with lines refl r why (judge last after) says o in
        record { answer = sym q; bytes = sym (ap (λ (x : Answer). when_done x (λ k. opened_to m (plaintext suite c m s)) m) q) }

    -- the opening under the record's key for the id that the header names
    pub open_done : (id : ℕ) → r ≡ Ok id → id ≡ session_id_of m → (key : Bytes) → key ≡ opening_key c.role s.keys
        → length (opening_key c.role s.keys) ≡ cipher_key_bytes s.wide → (m' : Bytes) (a : Answer)
        → Makes (opening_under c key id) (only_message m) a (only_message m') → OpensWith s c m m' a
    unfolding effect
    open_done id o named key ek l m' a x =
        let rest = lines_after front (record_tests c s) (passed lines refl r id says o) in
        let known = not-false s.used (line (record_tests c s) rest 6) in
        let size = eqb-true (cipher_key_bytes s.wide) (cipher_key_bytes (uses_wide c)) (not-false _ (line (record_tests c s) rest 35)) in
        let call = opening_under c (opening_key c.role s.keys) (session_id_of m) in
        let x' : Makes call (only_message m) a (only_message m') = rw (ek, named) at x in
        let same = open_by_key suite c s known (line (record_tests c s) rest 7) (line (record_tests c s) rest 8) size m l in
        record {
          answer = x'.answers ∙ sym same;
          bytes =
              ap (λ (w : Lent). w.message) x'.leaves
              ∙ when_part (λ (w : Lent). w.message) (answer suite call (only_message m)) (effect suite call (only_message m)) (only_message m)
              ∙ ap (λ (v : Answer). when_done v (λ k. opened_to m (plaintext suite c m s)) m) (sym same);
        }
