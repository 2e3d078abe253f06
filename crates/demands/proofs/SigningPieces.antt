-- A message signed or verified in pieces is one message: the state has its key and its joined bytes, which are within the limit.
-- Assumes nothing.
use mathlib.Core.Path.{◌≡◌, refl, sym, ap, ap₂, ◌∙◌}
use mathlib.Core.Bool.{Bool, true, false, cond, not}
use mathlib.Core.List.{List, [], ◌∷◌, ◌++◌, append_assoc, append-nil}
use Prim.Native.Nat.{ℕ, ◌+◌, ◌≤◌}
use native.Mathlib.Omega.{arith}
use borrow.Author.Tests.{leb-true, le-ltb, eqb-true, eq-eqb, not-false}
use lib.Dec.{eqb, ltb}
use lib.ListN.{length, length-append, replicate}
use Rattle.protocol.specs.Bytes.{Bytes}
use Rattle.protocol.specs.Answer.{Answer, done, refused, when_done, judge}
use Rattle.protocol.specs.Connection.{longest_message}
use Rattle.protocol.specs.Signing.{with_signed_flag, with_signature, signature_under, signed_under, signature_field}
use Rattle.protocol.specs.Pieces.{Underway, not_begun, piece_fits, with_piece}
use Rattle.protocol.specs.SigningPieces.{signature_of}
use Rattle.protocol.specs.Calls.{signing_under, verifying_under, sign_beginning, sign_piece, sign_finishing, verify_finishing}
use Rattle.protocol.specs.Calls.{Lent, only_message, only_underway, only_signature, with_underway, joined_tests, verify_finish_tests, tests, effect, answer, left}
use Rattle.protocol.specs.Suite.{suite, cmac}
use Rattle.protocol.proofs.SuiteLaws.{suite_sound}
use Rattle.protocol.proofs.SignedBytes.{flagged_length}
use Rattle.demands.specs.SigningPieces.{begun, handed_on, after_pieces, joined_not_refused, InPieces, SigningPieces}
use Rattle.demands.proofs.Answering.{line-of}
use Rattle.demands.proofs.CallLaws.{left-done}
use Rattle.demands.proofs.Signing.{signs, stored-signature}

-- ---- one piece

abbrev under : Bytes → Bytes → Underway
under key m = record { begun = true; start = key; joined = m }

module _ (u : Underway) (p : Bytes) where
  abbrev by : Bool → Answer
  by b = cond (not b) (refused 3) (done 0)

  answer_is : answer suite (sign_piece p) (only_underway u) ≡ by (piece_fits u p)
  unfolding tests
  answer_is = refl

  left_is : (b : Bool) → piece_fits u p ≡ b → handed_on u p ≡ cond b (with_piece p u) u
  unfolding tests effect
  left_is b e =
      ap (λ (x : Bool). (when_done (by x) (λ n. with_underway (with_piece p u) (only_underway u)) (only_underway u)).underway) e ∙ go b
    where
      go : (x : Bool) → (when_done (by x) (λ n. with_underway (with_piece p u) (only_underway u)) (only_underway u)).underway ≡ cond x (with_piece p u) u
      go true = refl
      go false = refl

  taken_is : (b : Bool) → piece_fits u p ≡ b → when_done (answer suite (sign_piece p) (only_underway u)) (λ n. p) [] ≡ cond b p []
  taken_is b e = ap (λ (a : Answer). when_done a (λ n. p) []) (answer_is ∙ ap by e) ∙ go b
    where
      go : (x : Bool) → when_done (by x) (λ n. p) [] ≡ cond x p []
      go true = refl
      go false = refl

-- ---- every list of pieces

record Joins (key m : Bytes) (ps : List Bytes) : Type 0 where
  state : after_pieces (under key m) ps ≡ under key (m ++ joined_not_refused (under key m) ps)
  short : length (m ++ joined_not_refused (under key m) ps) ≤ longest_message

joins : (key : Bytes) (ps : List Bytes) (m : Bytes) → length m ≤ longest_message → Joins key m ps
unfolding with_piece
joins key [] m h = record { state = ap (under key) (sym (append-nil m)); short = rw (append-nil m) h }
joins key (p ∷ ps) m h = go (joins key ps) (piece_fits (under key m) p) refl
  where
    u : Underway
    u = under key m

    -- the piece went in, or not; x is what of it did
    on : (x : Bytes) → handed_on u p ≡ under key (m ++ x) → when_done (answer suite (sign_piece p) (only_underway u)) (λ n. p) [] ≡ x
        → Joins key (m ++ x) ps → Joins key m (p ∷ ps)
    on x e t j =
        let same : joined_not_refused u (p ∷ ps) ≡ x ++ joined_not_refused (under key (m ++ x)) ps =
        ap₂ (λ (a : Bytes) (s : Underway). a ++ joined_not_refused s ps) t e in
        let all : m ++ joined_not_refused u (p ∷ ps) ≡ (m ++ x) ++ joined_not_refused (under key (m ++ x)) ps =
        ap (λ (y : Bytes). m ++ y) same ∙ sym (append_assoc m x (joined_not_refused (under key (m ++ x)) ps)) in
        record {
          state = ap (λ (s : Underway). after_pieces s ps) e ∙ j.state ∙ ap (under key) (sym all);
          short = rw all j.short;
        }

    go : ((x : Bytes) → length x ≤ longest_message → Joins key x ps) → (b : Bool) → piece_fits u p ≡ b → Joins key m (p ∷ ps)
    go rest true e =
        let l = leb-true (length m + length p) longest_message e in
        let la = length-append m p in
        on p (left_is u p true e) (taken_is u p true e) (rest (m ++ p) (omega arith))
    go rest false e =
        on [] (left_is u p false e ∙ ap (under key) (sym (append-nil m))) (taken_is u p false e) (rest (m ++ []) (rw (append-nil m) h))

-- ---- the finish

module _ (key m : Bytes) (size : length key ≡ 16) (short : length m ≤ longest_message) where
  abbrev u : Underway
  u = under key m

  -- 40 and 3 do not apply to the whole message
  past : (a : Answer) → cond (not (eqb (length key) 16)) (refused 40) (cond (ltb longest_message (length m)) (refused 3) a) ≡ a
  past a =
      ap₂ (λ (b c : Bool). cond (not b) (refused 40) (cond c (refused 3) a)) (eq-eqb (length key) 16 size) (le-ltb longest_message (length m) short)

  signs_same : (place : Bytes) → length place ≡ 16 → answer suite (sign_finishing u) (only_signature place) ≡ answer suite (signing_under key) (only_message m)
  unfolding tests
  signs_same place l =
      let a = judge (joined_tests u) (done 0) in
      ap (λ (b : Bool). cond (not b) (refused 40) a) (eq-eqb (length place) 16 l) ∙ sym (past a)

  verifies_same : (w : Lent) → answer suite (verify_finishing u) w ≡ answer suite (verifying_under key) (only_message m)
  unfolding tests
  verifies_same w = sym (past (judge (verify_finish_tests u (signature_under cmac key m)) (done 0)))

  signature_same : (place : Bytes) (n : ℕ) → length place ≡ 16 → answer suite (sign_finishing u) (only_signature place) ≡ done n
      → (left suite (sign_finishing u) (only_signature place)).signature ≡ signature_field (left suite (signing_under key) (only_message m)).message
  unfolding effect signature_of signed_under signature_under
  signature_same place n l e =
      let e' : answer suite (signing_under key) (only_message m) ≡ done n = sym (signs_same place l) ∙ e in
      let long = (signs key (only_message m) n e').0.long in
      let f = with_signed_flag m in
      let lf = flagged_length m long in
      let s = signature_under cmac key f in
      ap (λ (w : Lent). w.signature) (left-done suite (sign_finishing u) (only_signature place) n e)
      ∙ sym (stored-signature s f (suite_sound.signature-length key (with_signature (replicate 16 0) f)) (omega (arith, lf, long)))
      ∙ sym (ap (λ (w : Lent). signature_field w.message) (left-done suite (signing_under key) (only_message m) n e'))

  finishes : InPieces key u m
  finishes = record { signs = signs_same; signature = signature_same; verifies = verifies_same }

module _ (key : Bytes) (ps : List Bytes) where
  from : (s : Underway) → s ≡ under key [] → length key ≡ 16 → InPieces key (after_pieces s ps) (joined_not_refused s ps)
  from s e size =
      let j = joins key ps [] (omega arith) in
      rw (e, j.state) (finishes key (joined_not_refused (under key []) ps) size j.short)

  in_pieces : (n : ℕ) → answer suite (sign_beginning key) (only_underway not_begun) ≡ done n
      → InPieces key (after_pieces (begun key) ps) (joined_not_refused (begun key) ps)
  unfolding tests effect
  in_pieces n e =
      from (begun key) (ap (λ (w : Lent). w.underway) (left-done suite (sign_beginning key) (only_underway not_begun) n e))
      (eqb-true (length key) 16 (not-false (eqb (length key) 16) (line-of (tests suite (sign_beginning key) (only_underway not_begun)) n e 40)))

-- ---- with no message

stays : (ps : List Bytes) → after_pieces not_begun ps ≡ not_begun
stays [] = refl
stays (p ∷ ps) = ap (λ (s : Underway). after_pieces s ps) (left_is not_begun p false refl) ∙ stays ps

without_message : (ps : List Bytes) (w : Lent) → answer suite (verify_finishing (after_pieces not_begun ps)) w ≡ refused 11
unfolding tests
without_message ps w = ap (λ (s : Underway). answer suite (verify_finishing s) w) (stays ps)

no_signature : (ps : List Bytes) (place : Bytes) → length place ≡ 16
    → answer suite (sign_finishing (after_pieces not_begun ps)) (only_signature place) ≡ refused 11
unfolding tests
no_signature ps place l =
    ap (λ (s : Underway). answer suite (sign_finishing s) (only_signature place)) (stays ps)
    ∙ ap (λ (b : Bool). cond (not b) (refused 40) (refused 11)) (eq-eqb (length place) 16 l)

pub signing-pieces : SigningPieces
signing-pieces = record { in_pieces = in_pieces; without_message = without_message; no_signature = no_signature }
