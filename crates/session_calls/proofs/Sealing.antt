-- Sealing with one record, a way out at a time: c is the connection, s the record.
-- Assumes nothing.
use mathlib.Core.Path.{◌≡◌, refl, sym, ap, ◌∙◌}
use mathlib.Core.List.{List, [], ◌∷◌, ◌++◌}
use Prim.Native.Nat.{ℕ}
use Rattle.std.specs.Prelude.{Result, Ok, Err}
use borrow.Author.Tests.{eqb-true, not-false}
use lib.ListN.{length}
use Rattle.protocol.specs.Bytes.{Bytes}
use Rattle.protocol.specs.Answer.{Answer, refused, when_done, Test, first_of, judge_after}
use Rattle.protocol.specs.Connection.{Connection, uses_wide, cipher_key_bytes}
use Rattle.protocol.specs.TransformHeader.{inner}
use Rattle.protocol.specs.Compound.{walk}
use Rattle.protocol.specs.Refusals.{counter_used_up}
use Rattle.protocol.specs.SessionTable.{Session, sealing_key}
use Rattle.protocol.specs.Calls.{sent_by, sealing_under, Lent, message_and_counter, message_tests, record_tests, seal_tests, sealed_with, effect, answer}
use Rattle.protocol.specs.Contract.{Makes}
use Rattle.protocol.specs.Suite.{suite}
use Rattle.protocol.proofs.AnswerLaws.{when_part}
use Rattle.protocol.proofs.Judging.{line, lines_after}
use Rattle.answer.specs.declared.refusal.Refusal.{Refusal}
use Rattle.answer.specs.Reading.{number_of, number_in}
use Rattle.answer.proofs.Results.{passed, refuses_with}
use Rattle.protocol.proofs.RecordLaws.{seal_by_key}
use Rattle.session_record.specs.Clauses.{SealsWith}

module _ (c : Connection) (s : Session) (id : ℕ) (m : Bytes) where
  abbrev lines : List Test
  lines = message_tests c m ++ record_tests c s

  abbrev after : Answer
  after = judge_after (walk (inner m) (sent_by c.role id)) (counter_used_up s.counter ∷ [])

  -- r is what the lines say
  module _ (r : Result (Unit {0}) Refusal) (says : number_in r ≡ first_of lines) where
    pub seal_refused : (why : Refusal) → r ≡ Err why → SealsWith s c id m m (refused (number_of why))
    unfolding seal_tests
    seal_refused why o =
        let q = refuses_with lines refl r why after says o in
        record { answer = sym q; bytes = sym (ap (λ (x : Answer). when_done x (λ k. sealed_with suite c m s id) m) q) }

    -- the seal under the record's key
    pub seal_done : (y : Unit {0}) → r ≡ Ok y → (key : Bytes) → key ≡ sealing_key c.role s.keys → length (sealing_key c.role s.keys) ≡ cipher_key_bytes s.wide → (m' : Bytes) (k : ℕ) (a : Answer)
        → Makes (sealing_under c key id) (message_and_counter m s.counter) a (message_and_counter m' k) → SealsWith s c id m m' a
    unfolding effect
    seal_done y o key ek l m' k a x =
        let none = lines_after (message_tests c m) (record_tests c s) (passed lines refl r y says o) in
        let known = not-false s.used (line (record_tests c s) none 6) in
        let size = eqb-true (cipher_key_bytes s.wide) (cipher_key_bytes (uses_wide c)) (not-false _ (line (record_tests c s) none 35)) in
        let x' : Makes (sealing_under c (sealing_key c.role s.keys) id) (message_and_counter m s.counter) a (message_and_counter m' k) = rw ek at x in
        let same = seal_by_key suite c s known (line (record_tests c s) none 7) (line (record_tests c s) none 8) size id m l in
        let call = sealing_under c (sealing_key c.role s.keys) id in
        record {
          answer = x'.answers ∙ sym same;
          bytes =
              ap (λ (w : Lent). w.message) x'.leaves
              ∙ when_part (λ (w : Lent). w.message) (answer suite call (message_and_counter m s.counter))
              (effect suite call (message_and_counter m s.counter)) (message_and_counter m s.counter)
              ∙ ap (λ (v : Answer). when_done v (λ j. sealed_with suite c m s id) m) (sym same);
        }
