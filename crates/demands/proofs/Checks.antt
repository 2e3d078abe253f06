-- The checks of an opening, one by one, are the lines that do not apply.
-- Assumes nothing.
use mathlib.Core.Path.{◌≡◌, refl, ap, ◌∙◌}
use mathlib.Core.Logic.{◌⊎◌, inl, inr}
use mathlib.Core.Bool.{Bool, true, false, not, ◌&&◌, ◌||◌}
use mathlib.Core.List.{List, [], ◌++◌}
use mathlib.Core.Option.{Option, none, some, get_or}
use Prim.Native.Nat.{ℕ, ◌≤◌}
use native.Mathlib.Omega.{arith}
use borrow.Author.Tests.{leb-true, le-leb, leb-false, lt-leb, ltb-false, le-ltb, eqb-true, eq-eqb, eqb-false, ne_eqb, not-true, not-false}
use lib.Dec.{eqb, leb, ltb}
use lib.ListN.{length, take}
use Rattle.octets.specs.Maybe.{is_some}
use Rattle.octets.specs.Same.{same_bytes}
use Rattle.octets.proofs.SameLaws.{same_self, same_equal}
use Rattle.protocol.specs.Bytes.{Bytes}
use Rattle.protocol.specs.Answer.{Test}
use Rattle.protocol.specs.Connection.{is_gcm, uses_gcm, other, Connection, known_dialect, encrypts, cipher_used, uses_wide, cipher_key_bytes, longest_message}
use Rattle.protocol.specs.TransformHeader.{nonce_end, header_of, protocol_id, inner, original_message_size, flags_of, session_id_of}
use Rattle.protocol.specs.SessionTable.{Session, opening_key}
use Rattle.protocol.specs.Transform.{Primitives, plaintext_under}
use Rattle.protocol.specs.Calls.{sent_by, opening_under, Lent, key_tests, message_tests, header_tests, record_tests, text_tests, open_tests, plaintext, tests}
use Rattle.protocol.specs.Suite.{suite, ciphers}
use Rattle.protocol.proofs.Judging.{line}
use Rattle.demands.specs.Lines.{None, no_line}
use Rattle.demands.specs.Walk.{Walked}
use Rattle.demands.specs.Opening.{Encrypts, HeaderChecks, Carries, OpensUnderKey, OpensWithRecord}
use Rattle.octets.proofs.BoolLaws.{and_true, both, or_true, or_left, or_right, or_false, neither}
use Rattle.demands.proofs.LineLaws.{none_applies, past_line, past_part}
use Rattle.demands.proofs.Carrying.{text-tag, text-ciphertext, plaintext-of}

-- ---- number 1

module _ (c : Connection) where
  abbrev dialect : ℕ
  dialect = c.dialect

  abbrev cipher : ℕ
  cipher = c.cipher

  abbrev Known : Type 0
  Known = (dialect ≡ 0x0300) ⊎ ((dialect ≡ 0x0302) ⊎ (dialect ≡ 0x0311))

  known_says : known_dialect dialect ≡ true → Known
  known_says e = go (or_true (eqb dialect 0x0300 || eqb dialect 0x0302) (eqb dialect 0x0311) e)
    where
      front : (eqb dialect 0x0300 ≡ true) ⊎ (eqb dialect 0x0302 ≡ true) → Known
      front (inl p) = inl (eqb-true dialect 0x0300 p)
      front (inr p) = inr (inl (eqb-true dialect 0x0302 p))

      go : ((eqb dialect 0x0300 || eqb dialect 0x0302) ≡ true) ⊎ (eqb dialect 0x0311 ≡ true) → Known
      go (inl p) = front (or_true (eqb dialect 0x0300) (eqb dialect 0x0302) p)
      go (inr p) = inr (inr (eqb-true dialect 0x0311 p))

  says_known : Known → known_dialect dialect ≡ true
  says_known (inl p) = or_left _ (eqb dialect 0x0311) (or_left _ (eqb dialect 0x0302) (eq-eqb dialect 0x0300 p))
  says_known (inr (inl p)) = or_left _ (eqb dialect 0x0311) (or_right (eqb dialect 0x0300) _ (eq-eqb dialect 0x0302 p))
  says_known (inr (inr p)) = or_right (eqb dialect 0x0300 || eqb dialect 0x0302) _ (eq-eqb dialect 0x0311 p)

  fits_says : (not (eqb dialect 0x0311) || leb cipher 4) ≡ true → dialect ≡ 0x0311 → cipher ≤ 4
  fits_says e d = leb-true cipher 4 (rw (eq-eqb dialect 0x0311 d) at e)

  says_fits : (dialect ≡ 0x0311 → cipher ≤ 4) → (not (eqb dialect 0x0311) || leb cipher 4) ≡ true
  says_fits h = go (eqb dialect 0x0311) refl
    where
      go : (b : Bool) → eqb dialect 0x0311 ≡ b → (not b || leb cipher 4) ≡ true
      go true e = le-leb cipher 4 (h (eqb-true dialect 0x0311 e))
      go false e = refl

  pub encrypts_says : encrypts c ≡ true → Encrypts c
  encrypts_says e =
      let a = and_true (known_dialect dialect && c.encryption && not (eqb cipher 0)) (not (eqb dialect 0x0311) || leb cipher 4) e in
      let b = and_true (known_dialect dialect && c.encryption) (not (eqb cipher 0)) a.0 in
      let d = and_true (known_dialect dialect) c.encryption b.0 in
      record {
        dialect-known = known_says d.0;
        on = d.1;
        some-cipher = eqb-false cipher 0 (not-true (eqb cipher 0) b.1);
        cipher-known = fits_says a.1;
      }

  says_encrypts : Encrypts c → encrypts c ≡ true
  says_encrypts h =
      both _ _
      (both _ _ (both (known_dialect dialect) c.encryption (says_known h.dialect-known) h.on) (ap not (ne_eqb cipher 0 h.some-cipher)))
      (says_fits h.cipher-known)

-- ---- the parts of the lists

key_passes : (c : Connection) (key : Bytes) → length key ≡ cipher_key_bytes (uses_wide c) → None (key_tests c key)
key_passes c key l = past_line _ (ap not (eq-eqb (length key) (cipher_key_bytes (uses_wide c)) l)) no_line

-- "a GCM cipher"
gcm_says : (cipher : ℕ) → is_gcm cipher ≡ true → (cipher ≡ 2) ⊎ (cipher ≡ 4)
gcm_says cipher e = go (or_true (eqb cipher 2) (eqb cipher 4) e)
  where
    go : (eqb cipher 2 ≡ true) ⊎ (eqb cipher 4 ≡ true) → (cipher ≡ 2) ⊎ (cipher ≡ 4)
    go (inl p) = inl (eqb-true cipher 2 p)
    go (inr p) = inr (eqb-true cipher 4 p)

says_gcm : (cipher : ℕ) → (cipher ≡ 2) ⊎ (cipher ≡ 4) → is_gcm cipher ≡ true
says_gcm cipher (inl p) = or_left (eqb cipher 2) (eqb cipher 4) (eq-eqb cipher 2 p)
says_gcm cipher (inr p) = or_right (eqb cipher 2) (eqb cipher 4) (eq-eqb cipher 4 p)

-- a line that applies only where a holds
guarded : (a b : Bool) → (a ≡ true → b ≡ true) → (a && not b) ≡ false
guarded true b h = ap not (h refl)
guarded false b h = refl

guards : (a b : Bool) → (a && not b) ≡ false → a ≡ true → b ≡ true
guards true b e p = not-false b e
guards false b e p = absurd (let z : ◌≡◌ {A = ℕ} 0 1 = cc in omega arith)

module _ (c : Connection) (m : Bytes) where
  -- 1 to 5, and 29
  header-passes : HeaderChecks c m → None (message_tests c m ++ header_tests c (header_of m))
  header-passes h =
      past_line _ (ap not (says_encrypts c h.encrypts))
      (past_line _ (lt-leb (length m) 52 h.long)
      (past_line _ (le-ltb longest_message (length (inner m)) h.short)
      (past_line _ (ap not (ap (λ (x : Bytes). same_bytes x protocol_id) h.begins ∙ same_self protocol_id))
      (past_line _ (ap not (eq-eqb (flags_of m) 1 h.flags))
      (past_line _ (guarded (uses_gcm c) (eqb (nonce_end m) 0) (λ g. eq-eqb (nonce_end m) 0 (h.clean-nonce (gcm_says (cipher_used c) g)))) no_line)))))

  header_says : not (encrypts c) ≡ false → leb (length m) 52 ≡ false → ltb longest_message (length (inner m)) ≡ false
      → not (same_bytes (take 4 m) protocol_id) ≡ false → not (eqb (flags_of m) 1) ≡ false
      → (uses_gcm c && not (eqb (nonce_end m) 0)) ≡ false → HeaderChecks c m
  header_says at1 at2 at3 at4 at5 at29 =
      record {
        encrypts = encrypts_says c (not-false (encrypts c) at1);
        long = leb-false (length m) 52 at2;
        short = ltb-false longest_message (length (inner m)) at3;
        begins = same_equal (take 4 m) protocol_id (not-false (same_bytes (take 4 m) protocol_id) at4);
        flags = eqb-true (flags_of m) 1 (not-false (eqb (flags_of m) 1) at5);
        clean-nonce = λ g. eqb-true (nonce_end m) 0 (guards (uses_gcm c) (eqb (nonce_end m) 0) at29 (says_gcm (cipher_used c) g));
      }

-- 6 to 8, and 35
record_passes : (c : Connection) (s : Session) → s.used ≡ true → c.constrained ≡ false → (s.guest || s.anonymous) ≡ false
    → cipher_key_bytes s.wide ≡ cipher_key_bytes (uses_wide c) → None (record_tests c s)
record_passes c s known free plain size =
    past_line _ (ap not known) (past_line _ free (past_line _ plain (past_line _ (ap not (eq-eqb _ _ size)) no_line)))

-- 9 and 10
text-passes : (m : Bytes) (text : Option Bytes) (p : Bytes) → text ≡ some p → original_message_size m ≡ length (inner m) → None (text_tests m text)
text-passes m text p e size =
    past_line _ (ap (λ (o : Option Bytes). not (is_some o)) e)
    (past_line _ (ap not (eq-eqb (original_message_size m) (length (inner m)) size)) no_line)

-- an opening with the table that passes every line: of any primitives
pub open_passes : (P : Primitives) (c : Connection) (m : Bytes) (s : Session) (p : Bytes) → HeaderChecks c m
    → s.used ≡ true → c.constrained ≡ false → (s.guest || s.anonymous) ≡ false → cipher_key_bytes s.wide ≡ cipher_key_bytes (uses_wide c)
    → plaintext P c m s ≡ some p → original_message_size m ≡ length (inner m) → None (open_tests P c m s).before
unfolding open_tests
open_passes P c m s p h known free plain alike e size =
    past_part (header-passes c m h) (past_part (record_passes c s known free plain alike) (text-passes m (plaintext P c m s) p e size))

-- ---- 9 and 10, for the plaintext under a key

is_some_lem : (o : Option Bytes) → is_some o ≡ true → o ≡ some (get_or o [])
is_some_lem none e = absurd (let z : ◌≡◌ {A = ℕ} 0 1 = cc in omega arith)
is_some_lem (some p) e = refl

module _ (cipher : ℕ) (key m : Bytes) where
  abbrev text : Option Bytes
  text = plaintext_under ciphers cipher key m

  carried_says : not (is_some text) ≡ false → not (eqb (original_message_size m) (length (inner m))) ≡ false → Carries cipher key m (get_or text [])
  carried_says tag size =
      let there = is_some_lem text (not-false (is_some text) tag) in
      record {
        ciphertext = text-ciphertext cipher key m (get_or text []) there;
        tag = text-tag cipher key m (get_or text []) there;
        size = eqb-true (original_message_size m) (length (inner m)) (not-false (eqb (original_message_size m) (length (inner m))) size);
      }

  pub carried-text : (p : Bytes) → Carries cipher key m p → text ≡ some p
  carried-text p h = plaintext-of cipher key m p h.ciphertext h.tag

-- ---- under one key

module _ (c : Connection) (key : Bytes) (id : ℕ) (w : Lent) (n : ℕ) where
  abbrev m : Bytes
  m = w.message

  abbrev under : Option Bytes
  under = plaintext_under ciphers (cipher_used c) key m

  abbrev under_lines : List Test
  under_lines = (tests suite (opening_under c key id) w).before

  pub under_key_says : None under_lines → Walked (get_or under []) (sent_by (other c.role) id) n → OpensUnderKey c key id m n
  unfolding tests
  under_key_says passed walked =
      let at = line under_lines (none_applies under_lines passed) in
      record {
        key_fits = eqb-true (length key) (cipher_key_bytes (uses_wide c)) (not-false _ (at 40));
        header = header_says c m (at 1) (at 2) (at 3) (at 4) (at 5) (at 29);
        same_id = eqb-true (session_id_of m) id (not-false (eqb (session_id_of m) id) (at 6));
        text = get_or under [];
        carried = carried_says (cipher_used c) key m (at 9) (at 10);
        walked = walked;
      }

  pub says_under_key : OpensUnderKey c key id m n → None under_lines
  unfolding tests
  says_under_key o =
      past_part (key_passes c key o.key_fits)
      (past_part (header-passes c m o.header)
      (past_line _ (ap not (eq-eqb (session_id_of m) id o.same_id))
      (text-passes m under o.text (carried-text (cipher_used c) key m o.text o.carried) o.carried.size)))

-- ---- with the table

module _ (c : Connection) (m : Bytes) (s : Session) (n : ℕ) where
  abbrev record_lines : List Test
  record_lines = (open_tests suite c m s).before

  pub record_says : None record_lines → Walked (get_or (plaintext suite c m s) []) (sent_by (other c.role) (session_id_of m)) n → OpensWithRecord c m s n
  unfolding open_tests
  record_says passed walked =
      let at = line record_lines (none_applies record_lines passed) in
      let g = or_false s.guest s.anonymous (at 8) in
      record {
        header = header_says c m (at 1) (at 2) (at 3) (at 4) (at 5) (at 29);
        known = not-false s.used (at 6);
        unconstrained = at 7;
        not_guest = g.0;
        not_anonymous = g.1;
        same_size = eqb-true (cipher_key_bytes s.wide) (cipher_key_bytes (uses_wide c)) (not-false _ (at 35));
        text = get_or (plaintext suite c m s) [];
        carried = carried_says (cipher_used c) (opening_key c.role s.keys) m (at 9) (at 10);
        walked = walked;
      }

  pub record_text : (o : OpensWithRecord c m s n) → plaintext suite c m s ≡ some o.text
  record_text o = carried-text (cipher_used c) (opening_key c.role s.keys) m o.text o.carried

  pub says_record : OpensWithRecord c m s n → None record_lines
  says_record o =
      let plain = neither s.guest s.anonymous o.not_guest o.not_anonymous in
      open_passes suite c m s o.text o.header o.known o.unconstrained plain o.same_size (record_text o) o.carried.size
