-- A finish, by the way out that the code takes; and of a state that stands for a message: one fold of what is joined into the value begun from.
-- Assumes nothing.
use mathlib.Core.Path.{◌≡◌, refl, sym, ap, ◌∙◌}
use mathlib.Core.Logic.{◌≢◌}
use mathlib.Core.Bool.{Bool, true, false, cond}
use mathlib.Core.List.{List, [], ◌∷◌, ◌++◌}
use Prim.Native.Nat.{ℕ, ◌+◌}
use native.Mathlib.Omega.{arith}
use borrow.Author.Tests.{eq-eqb, ne_eqb, eqb-true, eqb-false}
use lib.Dec.{eqb}
use lib.ListN.{length, take, length-append}
use lib.Seq.{take_all}
use Rattle.octets.proofs.BoolLaws.{and_true}
use Rattle.sha512.specs.Code.{finished}
use Rattle.sha512.proofs.AnyState.{finished_is}
use Rattle.protocol.specs.Bytes.{Bytes}
use Rattle.protocol.specs.Answer.{Answer, done, refused, answer_number, carried, when_done, judge}
use Rattle.protocol.specs.Preauth.{FoldKind, negotiate_message, setup_request, setup_response, admitted, more_processing, status_allows}
use Rattle.protocol.specs.Pieces.{Underway, message_of, finished_value}
use Rattle.protocol.specs.Refusals.{fold_length, bad_length}
use Rattle.protocol.specs.Calls.{fold_finishing, chain_and_underway, fold_tests, tests, effect}
use Rattle.protocol.specs.Contract.{Makes}
use Rattle.protocol.specs.Suite.{suite, sha512}
use Rattle.protocol.proofs.SuiteLaws.{sha512_is}
use Rattle.preauth.proofs.FoldLaws.{refused_40, refused_23, left_out, folded_in, mark-carried, limits}
use Rattle.fold_pieces.specs.declared.FoldState.{FoldState}
use Rattle.fold_pieces.specs.declared.FoldStep.{FoldStep}
use Rattle.fold_pieces.specs.State.{StandsFor, ends}
use Rattle.fold_pieces.specs.Clauses.{end_lines, end_answer, ended_with, end_step, end_value, Ends, Finishes}
use Rattle.fold_pieces.proofs.HeadLaws.{status_kept}
use Rattle.fold_pieces.proofs.StateLaws.{ends_is}

-- ---- by the way out that the code takes

module _ (s : FoldState) (allowed : Bool) (v : Bytes) where
  pub closed_40 : length v ≢ 64 → (refused 40 ≡ end_answer s allowed v) × (v ≡ end_value s allowed v)
  unfolding end_value
  closed_40 h = let e = ne_eqb (length v) 64 h in (rw e, rw e)

  module _ (l : length v ≡ 64) where
    pub closed_23 : ends s ≡ false → (refused 23 ≡ end_answer s allowed v) × (v ≡ end_value s allowed v)
    unfolding end_value
    closed_23 e = let f = eq-eqb (length v) 64 l in (rw (f, e), rw (f, e))

    module _ (e : ends s ≡ true) where
      pub closed_out : allowed ≡ false → (done 0 ≡ end_answer s allowed v) × (v ≡ end_value s allowed v)
      unfolding end_value
      closed_out a = let f = eq-eqb (length v) 64 l in (rw (f, e, a), rw (f, e, a))

      pub closed_in : {v' : Bytes} → allowed ≡ true → v' ≡ finished s.hash → (done 1 ≡ end_answer s allowed v) × (v' ≡ end_value s allowed v)
      unfolding end_value
      closed_in a ev = let f = eq-eqb (length v) 64 l in (rw (f, e, a), rw (f, e, a) ev)

  pub ended_by : {a : Answer} {r : FoldStep} {v' : Bytes} → (a ≡ end_answer s allowed v) × (v' ≡ end_value s allowed v) → r ≡ ended_with a → Ends s allowed v r v'
  unfolding end_step
  ended_by k f = record { hands_back = f ∙ ap ended_with k.0; leaves = k.1 }

-- ---- the call

finish_tests : (kind : FoldKind) (v : Bytes) (u : Underway) → tests suite (fold_finishing kind) (chain_and_underway v u) ≡ fold_tests kind v (message_of u)
unfolding tests
finish_tests kind v u = refl

finish_leaves : (kind : FoldKind) (v : Bytes) (u : Underway) → status_allows kind (message_of u) ≡ false
    → chain_and_underway v u ≡ effect suite (fold_finishing kind) (chain_and_underway v u)
unfolding effect finished_value
finish_leaves kind v u b = rw b

finish_puts : (kind : FoldKind) (v v' : Bytes) (u : Underway) → status_allows kind (message_of u) ≡ true → v' ≡ sha512 (u.start ++ message_of u)
    → chain_and_underway v' u ≡ effect suite (fold_finishing kind) (chain_and_underway v u)
unfolding effect finished_value
finish_puts kind v v' u b e = rw (b, e)

-- ---- a state that stands for a message

module _ (s : FoldState) (u : Underway) (k : StandsFor s u) where
  -- of one that 23 admits
  module _ (fits : admitted (message_of u) ≡ true) where
    begun : u.begun ≡ true
    begun = sym k.same_begun ∙ (and_true _ _ (ends_is s u k ∙ fits)).0

    joined_is : message_of u ≡ u.joined
    joined_is = ap (λ (b : Bool). cond b u.joined []) begun

    -- the status is read from the bytes that are kept
    status_is : (kind : FoldKind) → status_allows kind s.head ≡ status_allows kind (message_of u)
    status_is negotiate_message = refl
    status_is setup_request = refl
    status_is setup_response =
        let x = k.hashes begun in
        let n : length u.joined ≡ length (message_of u) = ap length (sym joined_is) in
        let c = x.counted in
        let h : s.head ≡ take 12 u.joined =
        sym (take_all s.joined s.head (omega (arith, x.room, (limits (message_of u) fits).0, n, c))) ∙ x.headed in
        ap more_processing h ∙ ap (λ (y : ℕ). eqb y 0xC0000016) (status_kept u.joined) ∙ ap more_processing (sym joined_is)

    -- the hash has taken in the value begun from, and what is joined
    value_is : finished s.hash ≡ sha512 (u.start ++ message_of u)
    value_is =
        let x = k.hashes begun in
        let most = (limits (message_of u) fits).1 in
        let n : length u.joined ≡ length (message_of u) = ap length (sym joined_is) in
        let a : length (u.start ++ u.joined) ≡ length u.start + length u.joined = length-append u.start u.joined in
        finished_is s.hash (u.start ++ u.joined) x.hashed (omega (arith, x.started, most, n, a))
        ∙ sym (sha512_is (u.start ++ u.joined))
        ∙ ap (λ (m : Bytes). sha512 (u.start ++ m)) (sym joined_is)

  module _ (kind : FoldKind) (v : Bytes) where
    abbrev allowed : Bool
    allowed = status_allows kind s.head

    -- by what is tested
    abbrev answer_if : Bool → Bool → Bool → Answer
    answer_if size fits status = judge (bad_length size ∷ fold_length fits ∷ []) (done (cond status 1 0))

    makes : (a b c : Bool) → eqb (length v) 64 ≡ a → ends s ≡ b → allowed ≡ c
        → Makes (fold_finishing kind) (chain_and_underway v u) (answer_if a b c)
        (chain_and_underway (when_done (answer_if a b c) (λ n. cond c (finished s.hash) v) v) u)
    makes false b c ea eb ec =
        refused_40 (fold_finishing kind) (chain_and_underway v u) kind (message_of u) (finish_tests kind v u) (eqb-false (length v) 64 ea)
    makes true false c ea eb ec =
        refused_23 (fold_finishing kind) (chain_and_underway v u) kind (message_of u) (finish_tests kind v u) (eqb-true (length v) 64 ea)
        (sym (ends_is s u k) ∙ eb)
    makes true true false ea eb ec =
        let fits = sym (ends_is s u k) ∙ eb in
        let out = sym (status_is fits kind) ∙ ec in
        left_out (fold_finishing kind) (chain_and_underway v u) kind (message_of u) (finish_tests kind v u) (eqb-true (length v) 64 ea) fits out
        (finish_leaves kind v u out)
    makes true true true ea eb ec =
        let fits = sym (ends_is s u k) ∙ eb in
        let in-it = sym (status_is fits kind) ∙ ec in
        folded_in (fold_finishing kind) (chain_and_underway v u) kind (message_of u) (finish_tests kind v u) (eqb-true (length v) 64 ea) fits
        (chain_and_underway (finished s.hash) u) in-it (finish_puts kind v (finished s.hash) u in-it (value_is fits))

    pub finish_is : Finishes kind u v (end_step s allowed v) (end_value s allowed v)
    unfolding end_step end_value
    finish_is =
        let made = makes (eqb (length v) 64) (ends s) allowed refl refl refl in
        record {
          number = ap answer_number made.answers;
          mark = mark-carried (end_lines s v) allowed 0 ∙ ap (λ (a : Answer). carried a 0) made.answers;
          leaves = made.leaves;
        }
