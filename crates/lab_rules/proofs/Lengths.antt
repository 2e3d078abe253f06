-- A step leaves as many bytes of its payload as it was lent: what was decrypted is as long as what was received.
-- Assumes nothing.
use mathlib.Core.Path.{◌≡◌, refl, sym, ap, ◌∙◌}
use mathlib.Core.Bool.{Bool, true, false, cond}
use mathlib.Core.List.{List, []}
use mathlib.Core.Option.{Option, none, some, get_or}
use Prim.Native.Nat.{ℕ, ◌<◌}
use native.Mathlib.Omega.{arith}
use borrow.Author.Tests.{leb-false, eqb-true, not-false}
use lib.Dec.{eqb}
use lib.ListN.{length, take, length-append, length-take, length-drop}
use Rattle.octets.specs.Maybe.{is_some}
use Rattle.protocol.specs.Bytes.{Bytes}
use Rattle.protocol.specs.Answer.{Answer, done, refused, when_done, judge_after}
use Rattle.protocol.specs.Connection.{Connection, cipher_used}
use Rattle.protocol.specs.TransformHeader.{inner, signature_of, nonce_field, authenticated_of, session_id_of}
use Rattle.protocol.specs.SessionTable.{Session, opening_key, record_of}
use Rattle.protocol.specs.Transform.{plaintext_under, opened_to}
use Rattle.protocol.specs.Calls.{opening, Lent, message_and_table, Tests, walk_over, open_tests, plaintext, tests, effect, answer, left}
use Rattle.protocol.specs.Suite.{suite}
use Rattle.protocol.proofs.SuiteLaws.{suite_sound}
use Rattle.protocol.proofs.Judging.{line, judge-done}
use Rattle.lab_rules.specs.Steps.{State, receiving, call_of, lent_to, left_by, step_payload}

there_is : (o : Option Bytes) → is_some o ≡ true → o ≡ some (get_or o [])
there_is none e = absurd (let z : ◌≡◌ {A = ℕ} 0 1 = cc in omega arith)
there_is (some p) e = refl

module _ (c : Connection) (m : Bytes) (t : List Session) where
  abbrev s : Session
  s = record_of (session_id_of m) t

  abbrev text : Option Bytes
  text = plaintext suite c m s

  text-length : (p : Bytes) → text ≡ some p → length p ≡ length (inner m)
  unfolding plaintext_under
  text-length p e =
      let key = opening_key c.role s.keys in
      let n = cipher_used c in
      sym (suite_sound.encrypt-length n key (nonce_field m) (authenticated_of m) p)
      ∙ ap length (suite_sound.encrypts-again n key (nonce_field m) (authenticated_of m) (signature_of m) (inner m) p e)

  opened-length : 52 < length m → text ≡ some (get_or text []) → length (opened_to m text) ≡ length m
  opened-length long e =
      let p : Bytes = get_or text [] in
      let l = text-length p e in
      let d = length-drop 52 m in
      let h : length (take 52 m) ≡ 52 = simp length-take (omega arith) in
      let a = length-append (take 52 m) p in
      omega arith

  pub open_length : length (left suite (opening c) (message_and_table m t)).message ≡ length m
  unfolding tests open_tests effect
  open_length = by (answer suite (opening c) (message_and_table m t)) refl
    where
      by : (a : Answer) → answer suite (opening c) (message_and_table m t) ≡ a
          → length (when_done a (λ n. effect suite (opening c) (message_and_table m t)) (message_and_table m t)).message ≡ length m
      by (refused n) e = refl
      by (done n) e =
          let ts : Tests = open_tests suite c m s in
          let h = (judge-done ts.before (judge_after (walk_over ts.walked) ts.later) n e).0 in
          opened-length (leb-false (length m) 52 (line ts.before h 2)) (there_is text (not-false (is_some text) (line ts.before h 9)))

pub payload-length : (k : ℕ) (d : Bool) (m : Bytes) (s : State) → length (step_payload k d m s) ≡ length m
unfolding step_payload call_of lent_to
payload-length k d m s = by (eqb k 2) refl
  where
    by : (b : Bool) → eqb k 2 ≡ b → length (cond b (left_by k d m s).message m) ≡ length m
    by true q = ap (λ (x : ℕ). length (left_by x d m s).message) (eqb-true k 2 q) ∙ open_length (receiving d s) m s.table
    by false q = refl
