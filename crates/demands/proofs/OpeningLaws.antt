-- Opening what was sealed: the fields that sealing wrote are those that opening reads.
-- Assumes nothing.
use mathlib.Core.Path.{◌≡◌, sym, ap, ◌∙◌}
use mathlib.Core.List.{[], ◌++◌}
use mathlib.Core.Bool.{true, false, ◌||◌}
use mathlib.Core.Option.{Option, some, get_or}
use Prim.Native.Nat.{ℕ, ◌^◌, ◌≤◌, ◌<◌}
use native.Mathlib.Omega.{arith}
use lib.ListN.{length, take, drop, length-drop}
use lib.Seq.{drop_at, length-take-le}
use borrow.Author.Tests.{leb-false, ltb-false, not-false}
use Rattle.protocol.specs.Bytes.{Bytes}
use Rattle.protocol.specs.Answer.{done}
use Rattle.protocol.specs.Connection.{Role, other, Connection, encrypts, cipher_used, uses_wide, cipher_key_bytes, longest_message}
use Rattle.protocol.specs.TransformHeader.{nonce_of, authenticated, inner, original_message_size, session_id_of, signature_of, nonce_field, authenticated_of}
use Rattle.protocol.specs.SessionTable.{Session, sealing_key, opening_key, record_of}
use Rattle.protocol.specs.Transform.{Primitives, sealed_under, plaintext_under, opened_to}
use Rattle.protocol.specs.Calls.{sent_by, sealing, opening, Lent, seal_tests, open_tests, plaintext, tests, effect, answer, left}
use Rattle.protocol.specs.Sound.{Sound}
use Rattle.protocol.proofs.HeaderLaws.{written, field_start, field_signature, field_authenticated, field_nonce, field_size, field_flags, field_id, field_body}
use Rattle.protocol.proofs.HeaderLaws.{field_nonce-end, written-length}
use Rattle.demands.specs.Lines.{None, no_line}
use Rattle.demands.specs.Walk.{Walked}
use Rattle.demands.specs.Opening.{HeaderChecks}
use Rattle.demands.proofs.Answering.{passes_of, done-of, line-of}
use Rattle.demands.proofs.CallLaws.{left-done}
use Rattle.demands.proofs.Checks.{encrypts_says, open_passes}

-- m was sealed with success by the sender, which left b: by whatever call, under this cipher and key, for this id
pub record SealedAs (P : Primitives) (sender : Role) (cipher : ℕ) (key : Bytes) (id : ℕ) (m b : Bytes) (n : ℕ) : Type 0 where
  pub counter : ℕ
  pub long : 52 < length m
  pub short : length (inner m) ≤ longest_message
  pub walked : Walked (inner m) (sent_by sender id) n
  pub bytes : b ≡ sealed_under P.ciphers cipher key counter id (inner m)

-- ---- a seal of the table

module _ (P : Primitives) (c : Connection) (id : ℕ) (w : Lent) (n : ℕ) (e : answer P (sealing c id) w ≡ done n) where
  -- its connection encrypts
  pub seal_on : encrypts c ≡ true
  unfolding tests seal_tests
  seal_on = not-false (encrypts c) (line-of (tests P (sealing c id) w) n e 1)

  pub seal_as : SealedAs P c.role (cipher_used c) (sealing_key c.role (record_of id w.table).keys) id w.message (left P (sealing c id) w).message n
  unfolding tests seal_tests effect
  seal_as =
      let at = line-of (tests P (sealing c id) w) n e in
      record {
        counter = (record_of id w.table).counter;
        long = leb-false (length w.message) 52 (at 2);
        short = ltb-false longest_message (length (inner w.message)) (at 3);
        walked = (passes_of (tests P (sealing c id) w) n e).visits;
        bytes = ap (λ (x : Lent). x.message) (left-done P (sealing c id) w n e);
      }

-- ---- an opening of the table

-- the plaintext from the message's fields
plaintext_is : (P : Primitives) (d : Connection) (b : Bytes) (s : Session) {key nonce auth sig body : Bytes}
    → opening_key d.role s.keys ≡ key → nonce_field b ≡ nonce → authenticated_of b ≡ auth → signature_of b ≡ sig → inner b ≡ body
    → plaintext P d b s ≡ P.ciphers.decrypt (cipher_used d) key nonce auth sig body
unfolding plaintext_under
plaintext_is P d b s e1 e2 e3 e4 e5 = λ i. P.ciphers.decrypt (cipher_used d) (e1 i) (e2 i) (e3 i) (e4 i) (e5 i)

-- what an opening leaves from byte 52 on
opened-inner : (b p : Bytes) (o : Option Bytes) → o ≡ some p → 52 < length b → inner (opened_to b o) ≡ p
opened-inner b p o e long =
    ap (λ (o : Option Bytes). drop 52 (take 52 b ++ get_or o [])) e ∙ drop_at (take 52 b) p 52 (length-take-le 52 b (omega arith))

-- what opening finds of a sealed message b of the inner message p
record Finds (P : Primitives) (d : Connection) (id : ℕ) (p b : Bytes) (s : Session) : Type 0 where
  checks : HeaderChecks d b
  size : original_message_size b ≡ length (inner b)
  named : session_id_of b ≡ id
  text : plaintext P d b s ≡ some p

-- d opens under the record s, with the key that m was sealed with
finds : (P : Primitives) (sound : Sound P) (d : Connection) (sender : Role) (key : Bytes) (id : ℕ) (m b : Bytes) (s : Session) (n : ℕ)
    → id < 2 ^ 64 → SealedAs P sender (cipher_used d) key id m b n → encrypts d ≡ true → opening_key d.role s.keys ≡ key → Finds P d id (inner m) b s
unfolding sealed_under
finds P sound d sender key id m b s n fits says on opening-key = rw says.bytes found
  where
    p : Bytes
    p = inner m

    k : ℕ
    k = says.counter

    auth : Bytes
    auth = authenticated k (length p) id

    sig : Bytes
    sig = P.ciphers.tag (cipher_used d) key (nonce_of k) auth p

    body : Bytes
    body = P.ciphers.encrypt (cipher_used d) key (nonce_of k) auth p

    sealed : Bytes
    sealed = written sig body k (length p) id

    l : length sig ≡ 16
    l = sound.tag-length (cipher_used d) key (nonce_of k) auth p

    same_length : length body ≡ length p
    same_length = sound.encrypt-length (cipher_used d) key (nonce_of k) auth p

    inner-length : length (inner sealed) ≡ length p
    inner-length = ap length (field_body sig body k (length p) id l) ∙ same_length

    some_bytes : 0 < length p
    some_bytes = omega (arith, length-drop 52 m, says.long)

    found : Finds P d id p sealed s
    found =
        record {
          checks = record {
            encrypts = encrypts_says d on;
            long = rw (written-length sig body k (length p) id l) (omega (arith, same_length, some_bytes));
            short = rw inner-length says.short;
            begins = field_start sig body k (length p) id l;
            flags = field_flags sig body k (length p) id l;
            clean-nonce = λ g. field_nonce-end sig body k (length p) id l;
          };
          size = field_size sig body k (length p) id l (omega (arith, says.short)) ∙ sym inner-length;
          named = field_id sig body k (length p) id l fits;
          text =
              plaintext_is P d sealed s opening-key
              (field_nonce sig body k (length p) id l)
              (field_authenticated sig body k (length p) id l)
              (field_signature sig body k (length p) id l)
              (field_body sig body k (length p) id l)
              ∙ sound.decrypts (cipher_used d) key (nonce_of k) auth p;
        }

-- One seal and one opening, which is lent what the seal left
pub opens : (P : Primitives) (sound : Sound P) (d : Connection) (sender : Role) (key : Bytes) (id : ℕ) (m : Bytes) (w : Lent) (n : ℕ)
    → other d.role ≡ sender → id < 2 ^ 64 → SealedAs P sender (cipher_used d) key id m w.message n → encrypts d ≡ true → d.constrained ≡ false
    → let s = record_of id w.table in
    s.used ≡ true → (s.guest || s.anonymous) ≡ false → cipher_key_bytes s.wide ≡ cipher_key_bytes (uses_wide d) → opening_key d.role s.keys ≡ key
    → (answer P (opening d) w ≡ done n) × (inner (left P (opening d) w).message ≡ inner m)
unfolding tests open_tests effect
opens P sound d sender key id m w n from fits says on free known plain alike opening-key =
    (answered, ap (λ (x : Lent). inner x.message) (left-done P (opening d) w n answered) ∙ opened-inner b (inner m) _ text f.checks.long)
  where
    b : Bytes
    b = w.message

    s : Session
    s = record_of id w.table

    f : Finds P d id (inner m) b s
    f = finds P sound d sender key id m b s n fits says on opening-key

    -- the record that the header names
    taken : record_of (session_id_of b) w.table ≡ s
    taken = ap (λ (i : ℕ). record_of i w.table) f.named

    text : plaintext P d b (record_of (session_id_of b) w.table) ≡ some (inner m)
    text = ap (plaintext P d b) taken ∙ f.text

    passed : None (open_tests P d b (record_of (session_id_of b) w.table)).before
    passed = rw taken (open_passes P d b s (inner m) f.checks known free plain alike f.text f.size)

    visited : Walked (get_or (plaintext P d b (record_of (session_id_of b) w.table)) []) (sent_by (other d.role) (session_id_of b)) n
    visited = rw (text, f.named, from) says.walked

    answered : answer P (opening d) w ≡ done n
    answered = done-of (tests P (opening d) w) n (record { lines = passed; visits = visited; later-lines = no_line })
