-- Pieces join to the message that a finish folds: by induction over the pieces, with what the state stands for handed on.
-- Assumes nothing.
use mathlib.Core.Path.{◌≡◌, refl, sym, ap, ◌∙◌}
use mathlib.Core.Bool.{Bool, true, cond, not}
use mathlib.Core.List.{List, [], ◌∷◌, ◌++◌, append_assoc, append-nil}
use Prim.Native.Nat.{◌+◌, ◌≤◌}
use native.Mathlib.Omega.{arith}
use borrow.Author.Tests.{eq-eqb, le-leb}
use lib.ListN.{length, length-append}
use Rattle.protocol.specs.Bytes.{Bytes}
use Rattle.protocol.specs.Answer.{Answer, done, refused, when_done}
use Rattle.protocol.specs.Connection.{longest_message}
use Rattle.protocol.specs.Preauth.{FoldKind}
use Rattle.protocol.specs.Pieces.{Underway, begun_from, not_begun, message_of, piece_fits, with_piece}
use Rattle.protocol.specs.Transform.{Primitives}
use Rattle.protocol.specs.Calls.{folding, fold_beginning, fold_piece, fold_finishing, Lent, only_chain, only_underway, chain_and_underway, tests, effect, answer, left}
use Rattle.protocol.specs.Suite.{suite}
use Rattle.demands.specs.Chains.{goes_in}
use Rattle.demands.specs.Pieces.{joined_bytes, begun_on, handed_on, after_pieces, not_refused, message_joined, InPieces}
use Rattle.demands.proofs.CallLaws.{left_alone}
use Rattle.demands.proofs.FoldLaws.{fold_left, finish_any}

joined-append : (ps qs : List Bytes) → joined_bytes (ps ++ qs) ≡ joined_bytes ps ++ joined_bytes qs
joined-append [] qs = refl
joined-append (p ∷ ps) qs = ap (λ (r : Bytes). p ++ r) (joined-append ps qs) ∙ sym (append_assoc p (joined_bytes ps) (joined_bytes qs))

module _ (P : Primitives) where
  begun_is : (v : Bytes) → length v ≡ 64 → begun_on P v ≡ begun_from v
  unfolding tests effect
  begun_is v l =
      let w = only_underway not_begun in
      ap (λ (fits : Bool). (when_done (cond (not fits) (refused 40) (done 0)) (λ n. effect P (fold_beginning v) w) w).underway) (eq-eqb (length v) 64 l)

  -- ---- one piece

  record Hands (u : Underway) (p : Bytes) : Type 0 where
    same_begun : (handed_on P u p).begun ≡ u.begun
    same_start : (handed_on P u p).start ≡ u.start
    more : (handed_on P u p).joined ≡ u.joined ++ joined_bytes (when_done (answer P (fold_piece p) (only_underway u)) (λ n. p ∷ []) [])

  -- what the state stands for afterwards, by the answer
  abbrev after : Underway → Bytes → Answer → Underway
  after u p a = (when_done a (λ n. effect P (fold_piece p) (only_underway u)) (only_underway u)).underway

  hands : (u : Underway) (p : Bytes) → Hands u p
  unfolding effect with_piece
  hands u p =
      let a = answer P (fold_piece p) (only_underway u) in
      record { same_begun = begun a; same_start = start a; more = more a }
    where
      begun : (a : Answer) → (after u p a).begun ≡ u.begun
      begun (done n) = refl
      begun (refused n) = refl

      start : (a : Answer) → (after u p a).start ≡ u.start
      start (done n) = refl
      start (refused n) = refl

      more : (a : Answer) → (after u p a).joined ≡ u.joined ++ joined_bytes (when_done a (λ n. p ∷ []) [])
      more (done n) = ap (λ (r : Bytes). u.joined ++ r) (sym (append-nil p))
      more (refused n) = sym (append-nil u.joined)

  -- ---- all pieces

  all_begun : (ps : List Bytes) (u : Underway) → (after_pieces P u ps).begun ≡ u.begun
  all_begun [] u = refl
  all_begun (p ∷ ps) u = all_begun ps (handed_on P u p) ∙ (hands u p).same_begun

  all_start : (ps : List Bytes) (u : Underway) → (after_pieces P u ps).start ≡ u.start
  all_start [] u = refl
  all_start (p ∷ ps) u = all_start ps (handed_on P u p) ∙ (hands u p).same_start

  all_joined : (ps : List Bytes) (u : Underway) → (after_pieces P u ps).joined ≡ u.joined ++ joined_bytes (not_refused P u ps)
  all_joined [] u = sym (append-nil u.joined)
  all_joined (p ∷ ps) u =
      let this = when_done (answer P (fold_piece p) (only_underway u)) (λ n. p ∷ []) [] in
      let rest = not_refused P (handed_on P u p) ps in
      all_joined ps (handed_on P u p)
      ∙ ap (λ (j : Bytes). j ++ joined_bytes rest) (hands u p).more
      ∙ append_assoc u.joined (joined_bytes this) (joined_bytes rest)
      ∙ ap (λ (r : Bytes). u.joined ++ r) (sym (joined-append this rest))

  module _ (v : Bytes) (l : length v ≡ 64) (ps : List Bytes) where
    abbrev last : Underway
    last = after_pieces P (begun_on P v) ps

    is_begun : last.begun ≡ true
    is_begun = all_begun ps (begun_on P v) ∙ ap (λ (u : Underway). u.begun) (begun_is v l)

    message_is : message_of last ≡ message_joined P v ps
    message_is =
        ap (λ (b : Bool). cond b last.joined []) is_begun
        ∙ all_joined ps (begun_on P v)
        ∙ ap (λ (u : Underway). u.joined ++ joined_bytes (not_refused P (begun_on P v) ps)) (begun_is v l)

    start_is : last.start ≡ v
    start_is = all_start ps (begun_on P v) ∙ ap (λ (u : Underway). u.start) (begun_is v l)

    answer_is : (kind : FoldKind) → answer P (fold_finishing kind) (chain_and_underway v last) ≡ answer P (folding kind (message_joined P v ps)) (only_chain v)
    unfolding tests
    answer_is kind = ap (λ (m : Bytes). answer P (folding kind m) (only_chain v)) message_is

    finished_is : (kind : FoldKind) (x : Bytes) → length x ≡ 64
        → (left P (fold_finishing kind) (chain_and_underway x last)).chain
        ≡ cond (goes_in kind (message_joined P v ps)) (P.sha512 (v ++ message_joined P v ps)) x
    finished_is kind x k = finish_any P x kind last k ∙ (λ i. cond (goes_in kind (message_is i)) (P.sha512 (start_is i ++ message_is i)) x)

  -- ---- no piece is refused

  taken : (u : Underway) (p : Bytes) → piece_fits u p ≡ true → answer P (fold_piece p) (only_underway u) ≡ done 0
  unfolding tests
  taken u p e = rw e

  none-refused : (ps : List Bytes) (u : Underway) → u.begun ≡ true → length u.joined + length (joined_bytes ps) ≤ longest_message → not_refused P u ps ≡ ps
  unfolding effect with_piece
  none-refused [] u b h = refl
  none-refused (p ∷ ps) u b h =
      let l : length (p ++ joined_bytes ps) ≡ length p + length (joined_bytes ps) = length-append p (joined_bytes ps) in
      let k : length (u.joined ++ p) ≡ length u.joined + length p = length-append u.joined p in
      let f : piece_fits u p ≡ true = rw b (le-leb (length u.joined + length p) longest_message (omega arith)) in
      let e = taken u p f in
      let next : handed_on P u p ≡ with_piece p u = ap (after u p) e in
      rw (e, next) (ap (λ (r : List Bytes). p ∷ r) (none-refused ps (with_piece p u) b (omega arith)))

  pub holds_of : InPieces P
  unfolding effect
  holds_of =
      record {
        same_answer = λ kind v ps l. answer_is v l ps kind;
        same_value = λ kind v ps l. finished_is v l ps kind v l ∙ sym (fold_left P v kind (message_joined P v ps) l);
        from_start = λ kind v x ps l k g.
            finished_is v l ps kind x k
            ∙ ap (λ (b : Bool). cond b (P.sha512 (v ++ message_joined P v ps)) x) g
            ∙ sym (fold_left P v kind (message_joined P v ps) l ∙ ap (λ (b : Bool). cond b (P.sha512 (v ++ message_joined P v ps)) v) g);
        all_taken = λ v ps l h. rw (begun_is v l) (none-refused ps (begun_from v) refl (omega (arith, h)));
        begin_leaves = λ v w. left_alone P (fold_beginning v) w (λ (x : Lent). x.chain) refl;
        piece_leaves = λ p w. left_alone P (fold_piece p) w (λ (x : Lent). x.chain) refl;
      }

pub in_pieces : InPieces suite
in_pieces = holds_of suite
