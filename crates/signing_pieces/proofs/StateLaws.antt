-- What the calls answer and leave of a message, by the state that stands for it.
-- Assumes nothing.
use mathlib.Core.Path.{◌≡◌, refl, sym, ap, ap₂, ◌∙◌}
use mathlib.Core.Bool.{Bool, true, false, cond, not, ◌&&◌, ◌||◌, true≢false}
use mathlib.Core.List.{List, [], ◌∷◌, ◌++◌}
use Prim.Native.Nat.{ℕ, ◌+◌, ◌/◌, ◌%◌, ◌≤◌, ◌<◌}
use native.Mathlib.Omega.{arith}
use borrow.Author.Tests.{eqb-true, eqb-false, ltb-false, not-true, not-false}
use lib.Dec.{eqb, ltb, leb}
use lib.ListN.{length, get_or, take, drop, length-drop, take-append-drop}
use lib.Seq.{take_all, take-append-le, drop-append-le, length-take-le}
use Rattle.octets.specs.Numbers.{bytes_at, little_endian}
use Rattle.octets.specs.Same.{same_bytes}
use Rattle.octets.proofs.BoolLaws.{and_true}
use Rattle.cmac.specs.Running as code
use Rattle.cmac.proofs.AnyState.{finished_is}
use Rattle.protocol.specs.Bytes.{Bytes}
use Rattle.protocol.specs.Answer.{Answer, done, refused, answer_number, when_done, Test, first_else, first_of}
use Rattle.protocol.specs.Ciphers.{aes}
use Rattle.protocol.specs.Connection.{longest_message}
use Rattle.protocol.specs.InnerHeader.{is_inner_header}
use Rattle.protocol.specs.Refusals.{too_long, not_signed, bad_signature}
use Rattle.protocol.specs.Signing.{is_signed, with_signed_flag, signature_under}
use Rattle.protocol.specs.Pieces.{Underway, begun_from, not_begun, piece_fits, with_piece}
use Rattle.protocol.specs.SigningPieces.{signature_of}
use Rattle.protocol.specs.Calls.{sign_beginning, sign_piece, sign_finishing, verify_finishing, only_underway, only_signature, with_underway}
use Rattle.protocol.specs.Calls.{signing_key_tests, joined_tests, sign_finish_tests, verify_finish_tests, tests, effect, answer, left}
use Rattle.protocol.specs.Contract.{Returns}
use Rattle.protocol.specs.Suite.{suite, cmac}
use Rattle.protocol.proofs.CallLaws.{lines_return, lines_return_done, number-lines}
use Rattle.protocol.proofs.FirstOf.{first-append}
use Rattle.protocol.proofs.Judging.{passes, line}
use Rattle.protocol.proofs.SignedBytes.{flagged_append, flag-there}
use Rattle.protocol.proofs.SuiteLaws.{cmac_is}
use Rattle.signing_pieces.specs.declared.SignState.{SignState}
use Rattle.signing_pieces.specs.Running.{takes, covered, no_message, begun_under, joined_by, joined_else, signature_from, compared_number, step_with}
use Rattle.signing_pieces.specs.Running.{UnderWay, StandsFor}
use Rattle.signing_pieces.specs.Clauses.{begin_step, piece_step, sign_number, sign_place, verify_number, HandsOn}

-- ---- the begin

begin_left : (key : Bytes) (b : Bool) → eqb (length key) 16 ≡ b
    → (left suite (sign_beginning key) (only_underway not_begun)).underway ≡ cond b (begun_from key) not_begun
unfolding tests effect
begin_left key b e =
    ap by e ∙ go b
  where
    by : Bool → Underway
    by x = (when_done (cond (not x) (refused 40) (done 0)) (λ n. with_underway (begun_from key) (only_underway not_begun)) (only_underway not_begun)).underway

    go : (x : Bool) → by x ≡ cond x (begun_from key) not_begun
    go true = refl
    go false = refl

begin_number : (key : Bytes) → answer_number (answer suite (sign_beginning key) (only_underway not_begun)) ≡ cond (not (eqb (length key) 16)) 40 0
unfolding tests
begin_number key = number-lines (signing_key_tests key) 0

pub no_message-stands : StandsFor no_message not_begun
unfolding no_message
no_message-stands =
    record {
      flag = refl;
      count = refl;
      without_message = λ f. refl;
      under_way = λ t. absurd (true≢false (sym t));
    }

begun-stands : (key : Bytes) → StandsFor (begun_under key) (begun_from key)
unfolding begun_under
begun-stands key =
    record {
      flag = refl;
      count = refl;
      without_message = λ f. absurd (true≢false f);
      under_way = λ t. record { its_key = refl; room = refl; front = refl; chained = λ k. absurd (omega arith) };
    }

pub begin_hands_on : (key : Bytes) → HandsOn (sign_beginning key) not_begun (begin_step key)
unfolding begin_step
begin_hands_on key = go (eqb (length key) 16) refl
  where
    go : (b : Bool) → eqb (length key) 16 ≡ b → HandsOn (sign_beginning key) not_begun (cond b (step_with (begun_under key) 0) (step_with no_message 40))
    go true e =
        record {
          number = sym (begin_number key ∙ ap (λ (b : Bool). cond (not b) 40 0) e);
          stands = rw (begin_left key true e) (begun-stands key);
        }
    go false e =
        record {
          number = sym (begin_number key ∙ ap (λ (b : Bool). cond (not b) 40 0) e);
          stands = rw (begin_left key false e) no_message-stands;
        }

-- ---- a piece

module _ (s : SignState) (u : Underway) (h : StandsFor s u) where
  module _ (p : Bytes) where
    takes_is : takes s (length p) ≡ piece_fits u p
    takes_is = ap₂ ◌&&◌ h.flag (ap (λ (n : ℕ). leb (n + length p) longest_message) h.count)

    piece_left : (b : Bool) → takes s (length p) ≡ b → (left suite (sign_piece p) (only_underway u)).underway ≡ cond b (with_piece p u) u
    unfolding tests effect
    piece_left b e =
        ap (λ (x : Bool). (when_done (cond (not x) (refused 3) (done 0)) (λ n. with_underway (with_piece p u) (only_underway u)) (only_underway u)).underway)
        (sym takes_is ∙ e)
        ∙ go b
      where
        go : (x : Bool)
            → (when_done (cond (not x) (refused 3) (done 0)) (λ n. with_underway (with_piece p u) (only_underway u)) (only_underway u)).underway
            ≡ cond x (with_piece p u) u
        go true = refl
        go false = refl

    piece_number : (b : Bool) → takes s (length p) ≡ b → answer_number (answer suite (sign_piece p) (only_underway u)) ≡ cond (not b) 3 0
    unfolding tests
    piece_number b e = number-lines (too_long (not (piece_fits u p)) ∷ []) 0 ∙ ap (λ (x : Bool). cond (not x) 3 0) (sym takes_is ∙ e)

    pub piece_hands_on : (u.begun ≡ true → StandsFor (joined_by s p) (with_piece p u)) → HandsOn (sign_piece p) u (piece_step s p)
    unfolding piece_step
    piece_hands_on goes_in = go (takes s (length p)) refl
      where
        go : (b : Bool) → takes s (length p) ≡ b → HandsOn (sign_piece p) u (cond b (step_with (joined_by s p) 0) (step_with s 3))
        go true e =
            let begun = sym h.flag ∙ (and_true (not (eqb s.begun 0)) (leb (s.length + length p) longest_message) e).0 in
            record { number = sym (piece_number true e); stands = rw (piece_left true e) (goes_in begun) }
        go false e = record { number = sym (piece_number false e); stands = rw (piece_left false e) h }

  -- ---- the joined bytes, once there are 64

  module _ (long : 64 ≤ length u.joined) where
    pub long-begun : u.begun ≡ true
    long-begun = go u.begun refl
      where
        go : (b : Bool) → u.begun ≡ b → b ≡ true
        go true e = refl
        go false e = let z : length u.joined ≡ 0 = ap length (h.without_message e) in absurd (omega arith)

    its : UnderWay s u.start u.joined
    its = h.under_way long-begun

    pub header_is : s.header ≡ take 64 u.joined
    header_is = let size = its.room in sym (take_all (length u.joined) s.header (omega arith)) ∙ its.front

    pub field_is : (p n : ℕ) → p + n ≤ 64 → bytes_at p n s.header ≡ bytes_at p n u.joined
    field_is p n fits =
        let m = u.joined in
        let l : length (take 64 m) ≡ 64 = length-take-le 64 m long in
        let ld = length-drop p (take 64 m) in
        ap (bytes_at p n) header_is
        ∙ sym (ap (take n) (drop-append-le p (take 64 m) (drop 64 m) (omega arith)) ∙ take-append-le n (drop p (take 64 m)) (drop 64 m) (omega arith))
        ∙ ap (bytes_at p n) (take-append-drop 64 m)

    signed_is : is_signed s.header ≡ is_signed u.joined
    signed_is = ap (λ (x : Bytes). eqb (little_endian x / 8 % 2) 1) (field_is 16 4 (omega arith))

    -- the flag is there: to set it changes nothing
    flagged_same : with_signed_flag s.header ≡ s.header → with_signed_flag u.joined ≡ u.joined
    flagged_same e =
        let m = u.joined in
        let l : length (take 64 m) ≡ 64 = length-take-le 64 m long in
        let front : with_signed_flag (take 64 m) ≡ take 64 m = ap with_signed_flag (sym header_is) ∙ e ∙ header_is in
        ap with_signed_flag (sym (take-append-drop 64 m))
        ∙ flagged_append (take 64 m) (drop 64 m) (omega arith)
        ∙ ap (λ (x : Bytes). x ++ drop 64 m) front
        ∙ take-append-drop 64 m

    -- the code has taken in the whole message as it is signed
    signature_is : signature_from s ≡ signature_of cmac u
    unfolding signature_from signature_of signature_under covered
    signature_is =
        let way = its in
        ap (λ (k : Bytes). code.finished (aes k) s.code) way.its_key
        ∙ finished_is (aes u.start) s.code (covered u.joined) (way.chained long)
        ∙ sym (cmac_is u.start (covered u.joined))

  -- ---- the finish

  short_is : (eqb s.begun 0 || ltb s.length 64) ≡ ltb (length u.joined) 64
  short_is = go u.begun refl
    where
      go : (b : Bool) → u.begun ≡ b → (eqb s.begun 0 || ltb s.length 64) ≡ ltb (length u.joined) 64
      go true e = ap₂ (λ (x : Bool) (n : ℕ). x || ltb n 64) (not-true (eqb s.begun 0) (h.flag ∙ e)) h.count
      go false e =
          ap (λ (x : Bool). x || ltb s.length 64) (not-false (eqb s.begun 0) (h.flag ∙ e))
          ∙ sym (ap (λ (m : Bytes). ltb (length m) 64) (h.without_message e))

  -- 11, 12, and else what is said of a message that is long enough
  joined_else_lem : (n k : ℕ) → (64 ≤ length u.joined → n ≡ k) → joined_else s n ≡ first_else (joined_tests u) k
  joined_else_lem n k same =
      ap (λ (b : Bool). cond b 11 (cond (not (is_inner_header s.header 0)) 12 n)) short_is ∙ go (ltb (length u.joined) 64) refl
    where
      go : (b : Bool) → ltb (length u.joined) 64 ≡ b
          → ◌≡◌ {A = ℕ} (cond b 11 (cond (not (is_inner_header s.header 0)) 12 n)) (cond b 11 (cond (not (is_inner_header u.joined 0)) 12 k))
      go true e = refl
      go false e =
          let long = ltb-false (length u.joined) 64 e in
          ap₂ (λ (x : Bytes) (i : ℕ). cond (not (same_bytes x (0xFE ∷ 0x53 ∷ 0x4D ∷ 0x42 ∷ []))) 12 i) (field_is long 0 4 (omega arith)) (same long)

  -- signing
  module _ (place : Bytes) where
    sign_says : sign_number s place ≡ first_of (sign_finish_tests u place)
    unfolding sign_number
    sign_says = ap (cond (not (eqb (length place) 16)) 40) (joined_else_lem 0 0 (λ l. refl))

    abbrev k : ℕ
    k = sign_number s place

    abbrev ts : List Test
    ts = sign_finish_tests u place

    pub sign_returns : Returns (sign_finishing u) (only_signature place) k (only_signature (sign_place s place))
    unfolding sign_place tests effect
    sign_returns = go (eqb k 0) refl
      where
        go : (b : Bool) → eqb k 0 ≡ b → Returns (sign_finishing u) (only_signature place) k (only_signature (cond b (signature_from s) place))
        go true e =
            let z = eqb-true k 0 e in
            let long = ltb-false (length u.joined) 64 (line ts (passes ts k refl sign_says z) 11) in
            lines_return_done (sign_finishing u) (only_signature place) ts 0 k refl sign_says refl z (only_signature (signature_from s))
            (ap only_signature (signature_is long))
        go false e = lines_return (sign_finishing u) (only_signature place) ts 0 k refl sign_says (eqb-false k 0 e)

  -- verifying, where the header is made of bytes
  module _ (bytes : (i : ℕ) → get_or s.header i 0 < 256) where
    abbrev right : Bytes
    right = signature_under cmac u.start u.joined

    abbrev more : List Test
    more = not_signed u.joined ∷ bad_signature right u.joined ∷ []

    -- a message with the flag is signed as it came
    right_is : 64 ≤ length u.joined → is_signed s.header ≡ true → signature_from s ≡ right
    unfolding signature_of
    right_is long e =
        let size = (its long).room in
        let kept = flag-there s.header (omega arith) (bytes 16) (bytes 17) (bytes 18) (bytes 19) e in
        signature_is long ∙ ap (signature_under cmac u.start) (flagged_same long kept)

    compared_is : 64 ≤ length u.joined → compared_number s ≡ first_of more
    unfolding compared_number
    compared_is long = go (is_signed s.header) refl
      where
        go : (b : Bool) → is_signed s.header ≡ b
            → ◌≡◌ {A = ℕ} (cond (not b) 24 (cond (not (same_bytes (bytes_at 48 16 s.header) (signature_from s))) 25 0)) (first_of more)
        go true e =
            ap₂ (λ (x y : Bytes). cond (not (same_bytes x y)) 25 0) (field_is long 48 16 (omega arith)) (right_is long e)
            ∙ sym (ap (λ (x : Bool). cond (not x) 24 (cond (not (same_bytes (bytes_at 48 16 u.joined) right)) 25 0)) (sym (signed_is long) ∙ e))
        go false e = sym (ap (λ (x : Bool). cond (not x) 24 (cond (not (same_bytes (bytes_at 48 16 u.joined) right)) 25 0)) (sym (signed_is long) ∙ e))

    pub verify_returns : Returns (verify_finishing u) (only_underway not_begun) (verify_number s) (only_underway not_begun)
    unfolding verify_number tests effect
    verify_returns =
        record {
          number =
              joined_else_lem (compared_number s) (first_of more) compared_is
              ∙ sym (first-append (joined_tests u) more 0)
              ∙ sym (number-lines (verify_finish_tests u right) 0);
          leaves = sym (unchanged (answer suite (verify_finishing u) (only_underway not_begun)));
        }
      where
        unchanged : (a : Answer) → when_done a (λ k. only_underway not_begun) (only_underway not_begun) ≡ only_underway not_begun
        unchanged (done k) = refl
        unchanged (refused k) = refl
