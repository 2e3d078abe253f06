-- What a begin and a piece hand back, by the way out that the code takes; and what the state that they hand back stands for.
-- Assumes nothing.
use mathlib.Core.Path.{◌≡◌, refl, sym, ap, ap₂, ◌∙◌}
use mathlib.Core.Logic.{◌≢◌}
use mathlib.Core.Bool.{Bool, true, false, cond, not, ◌&&◌, true≢false}
use mathlib.Core.List.{List, [], ◌++◌, append_assoc, append-nil}
use Prim.Native.Nat.{ℕ, ◌+◌}
use borrow.Author.Tests.{eq-eqb, ne_eqb, eqb-true}
use lib.Dec.{eqb, leb}
use lib.ListN.{length, take, replicate, length-append}
use Rattle.sha512.specs.declared.Sha512.{Sha512}
use Rattle.sha512.specs.Code.{nothing_taken, updated}
use Rattle.sha512.proofs.Beginning.{nothing_holds}
use Rattle.sha512.proofs.AnyState.{updated_holds}
use Rattle.protocol.specs.Bytes.{Bytes}
use Rattle.protocol.specs.Answer.{done, refused, answer_number, when_done}
use Rattle.protocol.specs.Connection.{longest_message}
use Rattle.protocol.specs.Preauth.{admits_length, admitted}
use Rattle.protocol.specs.Pieces.{Underway, begun_from, not_begun, piece_fits, with_piece, message_of}
use Rattle.protocol.specs.Calls.{fold_beginning, fold_piece, Lent, only_underway, tests, effect}
use Rattle.protocol.specs.Suite.{suite}
use Rattle.connection.specs.Reading.{flag}
use Rattle.fold_pieces.specs.declared.FoldState.{FoldState}
use Rattle.fold_pieces.specs.declared.FoldStep.{FoldStep}
use Rattle.fold_pieces.specs.State.{Hashes, StandsFor, no_message, begun_on, joined_by, head_with, step_with, takes, ends}
use Rattle.fold_pieces.specs.Clauses.{begin_step, piece_step, HandsOn}
use Rattle.fold_pieces.proofs.HeadLaws.{kept_with, head-length}

-- ---- by the way out that the code takes

module _ (v : Bytes) where
  abbrev begun_if : Bool → FoldStep
  begun_if fits = cond fits (step_with (begun_on v) 0) (step_with no_message 40)

  pub begin_refused : {s : FoldState} {r : FoldStep} → length v ≢ 64 → s ≡ no_message → r ≡ step_with s 40 → r ≡ begin_step v
  unfolding begin_step
  begin_refused h es er = er ∙ ap (λ (x : FoldState). step_with x 40) es ∙ sym (ap begun_if (ne_eqb (length v) 64 h))

  abbrev fresh : Sha512 → FoldState → FoldState
  fresh h s = record { hash = h; joined = s.joined; head = s.head; underway = 1; spare = s.spare }

  pub begin_done : {h : Sha512} {none : FoldState} {r : FoldStep} → length v ≡ 64 → h ≡ updated nothing_taken v → none ≡ no_message
      → r ≡ step_with (fresh h none) 0 → r ≡ begin_step v
  unfolding begin_step begun_on no_message
  begin_done l eh en er =
      er ∙ ap₂ (λ (x : Sha512) (s : FoldState). step_with (fresh x s) 0) eh en ∙ sym (ap begun_if (eq-eqb (length v) 64 l))

module _ (s : FoldState) (p : Bytes) where
  abbrev taken_if : Bool → FoldStep
  taken_if fits = cond fits (step_with (joined_by s p) 0) (step_with s 23)

  pub piece_refused : {r : FoldStep} → takes s (length p) ≡ false → r ≡ step_with s 23 → r ≡ piece_step s p
  unfolding piece_step
  piece_refused e er = er ∙ sym (ap taken_if e)

  abbrev after : Sha512 → List ℕ → FoldState
  after h head = record { hash = h; joined = s.joined + length p; head = head; underway = s.underway; spare = s.spare }

  pub piece_taken : {h : Sha512} {head : List ℕ} {r : FoldStep} → takes s (length p) ≡ true → h ≡ updated s.hash p
      → head ≡ head_with s.head s.joined p → r ≡ step_with (after h head) 0 → r ≡ piece_step s p
  unfolding piece_step joined_by
  piece_taken e eh ed er = er ∙ ap₂ (λ (x : Sha512) (d : List ℕ). step_with (after x d) 0) eh ed ∙ sym (ap taken_if e)

-- ---- what a begin hands back stands for a message, or for none

-- what the hash holds does not count
pub without_message : StandsFor no_message not_begun
unfolding no_message
without_message = record { same_begun = refl; hashes = λ b. absurd (true≢false (sym b)) }

module _ (v : Bytes) where
  begun-stands : length v ≡ 64 → StandsFor (begun_on v) (begun_from v)
  unfolding begun_on
  begun-stands l =
      record {
        same_begun = refl;
        hashes = λ b.
            let taken = updated_holds nothing_taken [] v nothing_holds in
            record { hashed = rw (append-nil v) taken; started = l; counted = refl; room = refl; headed = refl };
      }

  abbrev lent : Lent
  lent = only_underway not_begun

  -- by whether the value has its length
  abbrev underway_if : Bool → Underway
  underway_if fits = (when_done (cond (not fits) (refused 40) (done 0)) (λ n. effect suite (fold_beginning v) lent) lent).underway

  abbrev number_if : Bool → ℕ
  number_if fits = answer_number (cond (not fits) (refused 40) (done 0))

  pub begin_hands_on : HandsOn (fold_beginning v) not_begun (begin_step v)
  unfolding begin_step tests effect
  begin_hands_on = go (eqb (length v) 64) refl
    where
      go : (b : Bool) → eqb (length v) 64 ≡ b → HandsOn (fold_beginning v) not_begun (begun_if v b)
      go true e =
          record {
            number = ap number_if (sym e);
            mark = refl;
            stands = rw (← ap underway_if (sym e)) (begun-stands (eqb-true (length v) 64 e));
          }
      go false e = record { number = ap number_if (sym e); mark = refl; stands = rw (← ap underway_if (sym e)) without_message }

-- ---- a state that stands for a message tests what the call tests

module _ (s : FoldState) (u : Underway) (h : StandsFor s u) where
  -- by whether one is under way
  test_is : (f : ℕ → Bool) → (flag s.underway && f s.joined) ≡ (u.begun && f (length u.joined))
  test_is f = go (flag s.underway) u.begun h.same_begun h.hashes
    where
      go : (a b : Bool) → a ≡ b → (b ≡ true → Hashes s u) → (a && f s.joined) ≡ (b && f (length u.joined))
      go a true e k = rw e (ap f (k refl).counted)
      go a false e k = rw e

  pub takes_is : (p : Bytes) → takes s (length p) ≡ piece_fits u p
  takes_is p = test_is (λ n. leb (n + length p) longest_message)

  pub ends_is : ends s ≡ admitted (message_of u)
  ends_is = test_is admits_length ∙ go u.begun
    where
      go : (b : Bool) → (b && admits_length (length u.joined)) ≡ admitted (cond b u.joined [])
      go true = refl
      go false = refl

  -- ---- and after a piece it stands for the message with it

  module _ (p : Bytes) where
    joined-stands : StandsFor (joined_by s p) (with_piece p u)
    unfolding joined_by with_piece
    joined-stands = record { same_begun = h.same_begun; hashes = hashes }
      where
        hashes : u.begun ≡ true → Hashes (joined_by s p) (with_piece p u)
        hashes t =
            let k = h.hashes t in
            record {
              hashed = rw (← append_assoc u.start u.joined p) (updated_holds s.hash (u.start ++ u.joined) p k.hashed);
              started = k.started;
              counted = ap (λ (n : ℕ). n + length p) k.counted ∙ sym (length-append u.joined p);
              room = head-length s.head p s.joined k.room;
              headed = kept_with s.head u.joined p s.joined k.room k.counted k.headed;
            }

    -- by whether it fits
    abbrev after_if : Bool → Underway
    after_if fits =
        (when_done (cond (not fits) (refused 23) (done 0)) (λ n. effect suite (fold_piece p) (only_underway u)) (only_underway u)).underway

    abbrev piece_number_if : Bool → ℕ
    piece_number_if fits = answer_number (cond (not fits) (refused 23) (done 0))

    pub piece_hands_on : HandsOn (fold_piece p) u (piece_step s p)
    unfolding piece_step tests effect
    piece_hands_on = go (takes s (length p)) refl
      where
        go : (b : Bool) → takes s (length p) ≡ b → HandsOn (fold_piece p) u (taken_if s p b)
        go true e =
            let b = sym e ∙ takes_is p in
            record { number = ap piece_number_if b; mark = refl; stands = rw (← ap after_if b) joined-stands }
        go false e =
            let b = sym e ∙ takes_is p in
            record { number = ap piece_number_if b; mark = refl; stands = rw (← ap after_if b) h }
