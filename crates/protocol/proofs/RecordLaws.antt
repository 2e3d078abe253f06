-- The table's calls are the calls under the record's key.
-- Assumes nothing.
use mathlib.Core.Path.{◌≡◌, refl, sym, ap, ◌∙◌}
use mathlib.Core.Bool.{true, false, not, ◌||◌}
use mathlib.Core.List.{List, [], ◌∷◌, ◌++◌}
use mathlib.Core.Option.{Option, get_or}
use Prim.Native.Nat.{ℕ}
use borrow.Author.Tests.{eq-eqb}
use lib.Dec.{eqb}
use lib.ListN.{length}
use Rattle.protocol.specs.Bytes.{Bytes}
use Rattle.protocol.specs.Answer.{Answer, Test, judge, judge_after}
use Rattle.protocol.specs.Connection.{other, Connection, cipher_used, uses_wide, cipher_key_bytes}
use Rattle.protocol.specs.TransformHeader.{inner, session_id_of, header_of}
use Rattle.protocol.specs.Compound.{walk}
use Rattle.protocol.specs.Refusals.{other_session, counter_used_up}
use Rattle.protocol.specs.SessionTable.{Session, sealing_key, opening_key}
use Rattle.protocol.specs.Transform.{Primitives, plaintext_under}
use Rattle.protocol.specs.Calls.{sealing_under, opening_under, only_message, message_and_counter, key_tests, message_tests, header_tests, record_tests}
use Rattle.protocol.specs.Calls.{sent_by, text_tests, seal_tests, open_tests, verdict, tests, answer}
use Rattle.protocol.proofs.Judging.{judge-passed, judge-append}

module _ (P : Primitives) (c : Connection) (s : Session) (known : s.used ≡ true) (free : c.constrained ≡ false)
    (plain : (s.guest || s.anonymous) ≡ false) (size : cipher_key_bytes s.wide ≡ cipher_key_bytes (uses_wide c)) where
  record_passes : (x : Answer) → judge (record_tests c s) x ≡ x
  record_passes x = judge-passed (record_tests c s) x (ap not known, (free, (plain, (ap not (eq-eqb _ _ size), tt))))

  key_passes : (key : Bytes) → length key ≡ cipher_key_bytes s.wide → (x : Answer) → judge (key_tests c key) x ≡ x
  key_passes key l x = judge-passed (key_tests c key) x (ap not (eq-eqb (length key) _ (l ∙ size)), tt)

  -- a seal with the table is a seal under the record's key and counter
  pub seal_by_key : (id : ℕ) (m : Bytes) → length (sealing_key c.role s.keys) ≡ cipher_key_bytes s.wide
      → verdict (seal_tests P c m s id) ≡ answer P (sealing_under c (sealing_key c.role s.keys) id) (message_and_counter m s.counter)
  unfolding seal_tests tests
  seal_by_key id m l =
      judge-append (message_tests c m) (record_tests c s) after
      ∙ ap (judge (message_tests c m)) (record_passes after)
      ∙ sym (judge-append (key_tests c key) (message_tests c m) after ∙ key_passes key l (judge (message_tests c m) after))
    where
      key : Bytes
      key = sealing_key c.role s.keys

      after : Answer
      after = judge_after (walk (inner m) (sent_by c.role id)) (counter_used_up s.counter ∷ [])

  -- an opening with the table is an opening under the record's key for the id that the header names
  pub open_by_key : (m : Bytes) → length (opening_key c.role s.keys) ≡ cipher_key_bytes s.wide
      → verdict (open_tests P c m s) ≡ answer P (opening_under c (opening_key c.role s.keys) (session_id_of m)) (only_message m)
  unfolding open_tests tests
  open_by_key m l =
      judge-append front (record_tests c s ++ last) w
      ∙ ap (judge front) (judge-append (record_tests c s) last w ∙ record_passes (judge last w))
      ∙ sym (
      judge-append (key_tests c key) (front ++ (named ++ last)) w
      ∙ key_passes key l _
      ∙ judge-append front (named ++ last) w
      ∙ ap (judge front) (judge-append named last w ∙ judge-passed named (judge last w) (ap not (eq-eqb (session_id_of m) (session_id_of m) refl), tt)))
    where
      key : Bytes
      key = opening_key c.role s.keys

      text : Option Bytes
      text = plaintext_under P.ciphers (cipher_used c) key m

      front : List Test
      front = message_tests c m ++ header_tests c (header_of m)

      named : List Test
      named = other_session (eqb (session_id_of m) (session_id_of m)) ∷ []

      last : List Test
      last = text_tests m text

      w : Answer
      w = judge_after (walk (get_or text []) (sent_by (other c.role) (session_id_of m))) []
