-- Signing and verifying: the checks are the lines that do not apply, and what signing leaves passes them all.
-- Assumes nothing.
use mathlib.Core.Path.{◌≡◌, refl, sym, ap, ap₂, ◌∙◌}
use mathlib.Core.Bool.{false, not}
use mathlib.Core.List.{[], ◌∷◌, ◌++◌}
use Prim.Native.Nat.{ℕ, zero, suc, ◌+◌, ◌/◌, ◌%◌, ◌≤◌, ◌<◌}
use native.Mathlib.Omega.{arith}
use borrow.Author.Tests.{ltb-false, le-ltb, eqb-true, eq-eqb, not-false}
use lib.Bits.{bit_or, or_shr, or_mod}
use lib.Dec.{eqb, ltb}
use lib.ListN.{length, take, drop, replicate, length-append, length-drop, take-append-drop}
use lib.Seq.{take_at, drop_at, length-take-le, take-append-le, drop-append-le}
use Rattle.octets.specs.Numbers.{bytes_at, little_endian, to_little_endian}
use Rattle.octets.specs.Same.{same_bytes}
use Rattle.octets.proofs.NumberLaws.{length-to_little_endian}
use Rattle.octets.proofs.SameLaws.{same_self, same_equal}
use Rattle.cmac.specs.Cmac as rfc4493
use Rattle.protocol.specs.Bytes.{Bytes, number_at}
use Rattle.protocol.specs.Answer.{done}
use Rattle.protocol.specs.Connection.{longest_message}
use Rattle.protocol.specs.Ciphers.{aes}
use Rattle.protocol.specs.InnerHeader.{is_inner_header}
use Rattle.protocol.specs.Signing.{is_signed, with_signed_flag, with_signature, signature_under, signed_under}
use Rattle.protocol.specs.Calls.{signing_under, verifying_under, Lent, verdict, lines, sign_tests, verify_tests, tests, effect, answer, left}
use Rattle.protocol.specs.Suite.{suite, cmac}
use Rattle.protocol.proofs.Judging.{line}
use Rattle.protocol.proofs.SuiteLaws.{cmac_is, suite_sound}
use Rattle.protocol.proofs.BytesLaws.{skip}
use Rattle.protocol.proofs.SignedBytes.{flagged_length}
use Rattle.demands.specs.Lines.{None, no_line}
use Rattle.demands.specs.Verifying.{SignChecks, Verifies}
use Rattle.demands.specs.Signing.{Signing}
use Rattle.demands.proofs.Answering.{passes_of, done-of}
use Rattle.demands.proofs.CallLaws.{left-done, left_alone}
use Rattle.demands.proofs.LineLaws.{none_applies, past_line, past_part}

abbrev magic : Bytes
magic = 0xFE ∷ 0x53 ∷ 0x4D ∷ 0x42 ∷ []

-- ---- the checks

module _ (key m : Bytes) where
  sign_passes : SignChecks key m → None (sign_tests key m)
  sign_passes h =
      past_line _ (ap not (eq-eqb (length key) 16 h.key_fits))
      (past_line _ (le-ltb longest_message (length m) h.short)
      (past_line _ (le-ltb (length m) 64 h.long)
      (past_line _ (ap not (ap (λ (x : Bytes). same_bytes x magic) h.begins ∙ same_self magic)) no_line)))

  checks-of : not (eqb (length key) 16) ≡ false → ltb longest_message (length m) ≡ false → ltb (length m) 64 ≡ false → not (is_inner_header m 0) ≡ false
      → SignChecks key m
  checks-of at40 at3 at11 at12 =
      record {
        key_fits = eqb-true (length key) 16 (not-false (eqb (length key) 16) at40);
        short = ltb-false longest_message (length m) at3;
        long = ltb-false (length m) 64 at11;
        begins = same_equal (take 4 m) magic (not-false (is_inner_header m 0) at12);
      }

  says_sign : None (sign_tests key m) → SignChecks key m
  says_sign h =
      let at = line (sign_tests key m) (none_applies (sign_tests key m) h) in
      checks-of (at 40) (at 3) (at 11) (at 12)

  -- 25: the signature that the message should have, in full
  signature_is : signature_under cmac key m ≡ rfc4493.cmac (aes key) (take 48 m ++ (replicate 16 0 ++ drop 64 m))
  unfolding signature_under with_signature
  signature_is = cmac_is key (take 48 m ++ (replicate 16 0 ++ drop 64 m))

  abbrev right : Bytes
  right = signature_under cmac key m

  verify_passes : Verifies key m → None (verify_tests key m right)
  verify_passes v =
      past_part (sign_passes v.checks)
      (past_line _ (ap not (eq-eqb (number_at 16 4 m / 8 % 2) 1 v.flag))
      (past_line _ (ap not (ap (λ (x : Bytes). same_bytes x right) (v.signature ∙ sym signature_is) ∙ same_self right)) no_line))

  says_verify : None (verify_tests key m right) → Verifies key m
  says_verify h =
      let at = line (verify_tests key m right) (none_applies (verify_tests key m right) h) in
      record {
        checks = checks-of (at 40) (at 3) (at 11) (at 12);
        flag = eqb-true (number_at 16 4 m / 8 % 2) 1 (not-false (is_signed m) (at 24));
        signature = same_equal (bytes_at 48 16 m) right (not-false (same_bytes (bytes_at 48 16 m) right) (at 25)) ∙ signature_is;
      }

-- ---- the answers, both ways

module _ (key : Bytes) (w : Lent) (n : ℕ) where
  pub signs : answer suite (signing_under key) w ≡ done n → SignChecks key w.message × (n ≡ 0)
  unfolding tests
  signs e =
      let p = passes_of (tests suite (signing_under key) w) n e in
      (says_sign key w.message p.lines, sym p.visits)

  pub signs_if : SignChecks key w.message × (n ≡ 0) → answer suite (signing_under key) w ≡ done n
  unfolding tests
  signs_if h =
      done-of (tests suite (signing_under key) w) n
      (record { lines = sign_passes key w.message h.0; visits = sym h.1; later-lines = no_line })

  pub verifies : answer suite (verifying_under key) w ≡ done n → Verifies key w.message × (n ≡ 0)
  unfolding tests
  verifies e =
      let p = passes_of (tests suite (verifying_under key) w) n e in
      (says_verify key w.message p.lines, sym p.visits)

  pub verifies_if : Verifies key w.message × (n ≡ 0) → answer suite (verifying_under key) w ≡ done n
  unfolding tests
  verifies_if h =
      done-of (tests suite (verifying_under key) w) n
      (record { lines = verify_passes key w.message h.0; visits = sym h.1; later-lines = no_line })

-- ---- parts of a message behind a front that stays

module _ (a r r' : Bytes) where
  same_front : (k : ℕ) → k ≤ length a → take k (a ++ r) ≡ take k (a ++ r')
  same_front k h = take-append-le k a r h ∙ sym (take-append-le k a r' h)

  same_part : (k j : ℕ) → k + j ≤ length a → bytes_at k j (a ++ r) ≡ bytes_at k j (a ++ r')
  same_part k j h =
      let l = length-drop k a in
      ap (take j) (drop-append-le k a r (omega arith))
      ∙ take-append-le j (drop k a) r (omega arith)
      ∙ sym (ap (take j) (drop-append-le k a r' (omega arith)) ∙ take-append-le j (drop k a) r' (omega arith))

-- the flag that is set is there
bit-set : (b : ℕ) → b < 2 → bit_or b 1 ≡ 1
bit-set zero h = refl
bit-set (suc zero) h = refl
bit-set (suc (suc b)) h = omega arith

flag-set : (x : ℕ) → bit_or x 8 / 8 % 2 ≡ 1
flag-set x =
    ap (λ (n : ℕ). n % 2) (or_shr x 8 3) ∙ or_mod (x / 8) 1 1 ∙ bit-set (x / 8 % 2) (omega arith)

-- and stays in four bytes
flag-kept : (x : ℕ) → little_endian (to_little_endian 4 x) / 8 % 2 ≡ x / 8 % 2
unfolding little_endian to_little_endian
flag-kept x = omega arith

module _ (m : Bytes) (long : 64 ≤ length m) where
  abbrev flags : Bytes
  flags = to_little_endian 4 (bit_or (number_at 16 4 m) 8)

  l16 : length (take 16 m) ≡ 16
  l16 = length-take-le 16 m (omega arith)

  flags-length : length flags ≡ 4
  flags-length = length-to_little_endian 4 (bit_or (number_at 16 4 m) 8)

  flagged_front : take 4 (with_signed_flag m) ≡ take 4 m
  unfolding with_signed_flag
  flagged_front =
      same_front (take 16 m) (flags ++ drop 20 m) (drop 16 m) 4 (omega (arith, l16)) ∙ ap (take 4) (take-append-drop 16 m)

  flagged_flags : bytes_at 16 4 (with_signed_flag m) ≡ flags
  unfolding with_signed_flag
  flagged_flags = ap (take 4) (drop_at (take 16 m) (flags ++ drop 20 m) 16 l16) ∙ take_at flags (drop 20 m) 4 flags-length

module _ (s m : Bytes) (size : length s ≡ 16) (long : 64 ≤ length m) where
  l48 : length (take 48 m) ≡ 48
  l48 = length-take-le 48 m (omega arith)

  stored-length : length (with_signature s m) ≡ length m
  unfolding with_signature
  stored-length =
      let a = length-append (take 48 m) (s ++ drop 64 m) in
      let b = length-append s (drop 64 m) in
      omega (arith, l48, size, length-drop 64 m)

  stored-front : take 4 (with_signature s m) ≡ take 4 m
  unfolding with_signature
  stored-front = same_front (take 48 m) (s ++ drop 64 m) (drop 48 m) 4 (omega (arith, l48)) ∙ ap (take 4) (take-append-drop 48 m)

  stored-flags : bytes_at 16 4 (with_signature s m) ≡ bytes_at 16 4 m
  unfolding with_signature
  stored-flags = same_part (take 48 m) (s ++ drop 64 m) (drop 48 m) 16 4 (omega (arith, l48)) ∙ ap (bytes_at 16 4) (take-append-drop 48 m)

  pub stored-signature : bytes_at 48 16 (with_signature s m) ≡ s
  unfolding with_signature
  stored-signature = ap (take 16) (drop_at (take 48 m) (s ++ drop 64 m) 48 l48) ∙ take_at s (drop 64 m) 16 size

  -- another signature in its place
  stored-again : (z : Bytes) → with_signature z (with_signature s m) ≡ with_signature z m
  unfolding with_signature
  stored-again z =
      ap₂ (λ (a b : Bytes). a ++ (z ++ b)) (take_at (take 48 m) (s ++ drop 64 m) 48 l48)
      (skip (take 48 m) (s ++ drop 64 m) 48 16 l48 ∙ drop_at s (drop 64 m) 16 size)

-- ---- what signing leaves passes every check

signed-passes : (key m : Bytes) → SignChecks key m → Verifies key (signed_under cmac key m)
unfolding signed_under signature_under
signed-passes key m h =
    let f = with_signed_flag m in
    let s = signature_under cmac key f in
    let size = suite_sound.signature-length key (with_signature (replicate 16 0) f) in
    let lf = flagged_length m h.long in
    let long : 64 ≤ length f = omega (arith, lf, h.long) in
    let ls = stored-length s f size long in
    record {
      checks =
          record {
            key_fits = h.key_fits;
            short = omega (arith, ls, lf, h.short);
            long = omega (arith, ls, long);
            begins = stored-front s f size long ∙ flagged_front m h.long ∙ h.begins;
          };
      flag =
          ap (λ (b : Bytes). little_endian b / 8 % 2) (stored-flags s f size long ∙ flagged_flags m h.long)
          ∙ flag-kept (bit_or (number_at 16 4 m) 8)
          ∙ flag-set (number_at 16 4 m);
      signature =
          stored-signature s f size long
          ∙ ap (cmac key) (sym (stored-again s f size long (replicate 16 0)))
          ∙ signature_is key (with_signature s f);
    }

across : (key : Bytes) (w v : Lent) (n : ℕ) → answer suite (signing_under key) w ≡ done n → v.message ≡ (left suite (signing_under key) w).message
    → answer suite (verifying_under key) v ≡ done 0
unfolding effect
across key w v n e same =
    let copied : v.message ≡ signed_under cmac key w.message = same ∙ ap (λ (x : Lent). x.message) (left-done suite (signing_under key) w n e) in
    let p = signed-passes key w.message (signs key w n e).0 in
    verifies_if key v 0 (rw copied p, refl)

unchanged : (key : Bytes) (w : Lent) → left suite (verifying_under key) w ≡ w
unfolding effect
unchanged key w = left_alone suite (verifying_under key) w (λ x. x) refl

message_alone : (key : Bytes) (w v : Lent) → w.message ≡ v.message → answer suite (verifying_under key) w ≡ answer suite (verifying_under key) v
unfolding tests
message_alone key w v e = ap (λ (m : Bytes). verdict (lines (verify_tests key m (signature_under cmac key m)))) e

pub signing : Signing
signing = record { signed-verifies = across; unchanged = unchanged; message_alone = message_alone }
