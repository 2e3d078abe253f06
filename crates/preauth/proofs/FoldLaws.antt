-- Folding, by the way out that the code takes.
-- Assumes nothing.
use mathlib.Core.Path.{◌≡◌, refl, sym, ap, ◌∙◌}
use mathlib.Core.Bool.{Bool, true, false, cond}
use mathlib.Core.List.{List, [], ◌∷◌, ◌++◌}
use Prim.Native.Nat.{ℕ, ◌≤◌}
use native.Mathlib.Omega.{arith}
use borrow.Author.Tests.{eq-eqb, ne_eqb, leb-true}
use lib.Dec.{leb}
use lib.ListN.{length}
use Rattle.octets.proofs.BoolLaws.{and_true}
use Rattle.protocol.specs.Bytes.{Bytes}
use Rattle.protocol.specs.Answer.{done, refused, carried, Test, refuse◌when◌, first_of, judge}
use Rattle.protocol.specs.Connection.{longest_message}
use Rattle.protocol.specs.Preauth.{FoldKind, admitted, status_allows, fold_mark}
use Rattle.protocol.specs.Refusals.{fold_length}
use Rattle.protocol.specs.Calls.{Call, folding, Lent, only_chain, chain_tests, fold_tests, tests, effect, answer}
use Rattle.protocol.specs.Contract.{Makes}
use Rattle.protocol.specs.Suite.{suite, sha512}
use Rattle.protocol.proofs.CallLaws.{lines-refused, lines-done, makes_refused, makes_done}
use Rattle.answer.specs.Reading.{marked}

-- a call that folds the message m into the chain value that it is lent
module _ (call : Call) (w : Lent) (kind : FoldKind) (m : Bytes) (alone : tests suite call w ≡ fold_tests kind w.chain m) where
  abbrev lines : List Test
  lines = chain_tests w.chain ++ (fold_length (admitted m) ∷ [])

  -- what is answered, once the lines have been tested
  answered : (n : ℕ) → n ≡ first_of lines → (n ≡ 0 → ⊥) → refused n ≡ answer suite call w
  answered n s h = sym (lines-refused call w lines (fold_mark kind m) n alone s h)

  pub refused_40 : (length w.chain ≡ 64 → ⊥) → Makes call w (refused 40) w
  refused_40 h = makes_refused call w (refused 40) (answered 40 (rw (ne_eqb (length w.chain) 64 h)) (λ e. absurd (omega arith))) refl

  module _ (size : length w.chain ≡ 64) where
    pub refused_23 : admitted m ≡ false → Makes call w (refused 23) w
    refused_23 a =
        makes_refused call w (refused 23) (answered 23 (rw (eq-eqb (length w.chain) 64 size, a)) (λ e. absurd (omega arith))) refl

    module _ (a : admitted m ≡ true) where
      passed : done (fold_mark kind m) ≡ answer suite call w
      passed = sym (lines-done call w lines (fold_mark kind m) 0 alone (rw (eq-eqb (length w.chain) 64 size, a)) refl refl)

      pub left_out : status_allows kind m ≡ false → w ≡ effect suite call w → Makes call w (done 0) w
      left_out b e =
          let says : done 0 ≡ answer suite call w = ap (λ (x : Bool). done (cond x 1 0)) (sym b) ∙ passed in
          makes_done call w (done 0) says refl w e

      pub folded_in : (after : Lent) → status_allows kind m ≡ true → after ≡ effect suite call w → Makes call w (done 1) after
      folded_in after b e =
          let says : done 1 ≡ answer suite call w = ap (λ (x : Bool). done (cond x 1 0)) (sym b) ∙ passed in
          makes_done call w (done 1) says refl after e

-- what a fold carries is a mark already
pub mark-carried : (ts : List Test) (b : Bool) (h : ℕ) → marked (judge ts (done (cond b 1 0))) h ≡ carried (judge ts (done (cond b 1 0))) h
mark-carried [] true h = refl
mark-carried [] false h = refl
mark-carried ((refuse n when true) ∷ ts) b h = refl
mark-carried ((refuse n when false) ∷ ts) b h = mark-carried ts b h

-- a fold of the whole message
module _ (kind : FoldKind) (v m : Bytes) where
  pub fold_tests_lem : tests suite (folding kind m) (only_chain v) ≡ fold_tests kind v m
  unfolding tests
  fold_tests_lem = refl

  pub fold_mark_lem : (h : ℕ) → marked (answer suite (folding kind m) (only_chain v)) h ≡ carried (answer suite (folding kind m) (only_chain v)) h
  unfolding tests
  fold_mark_lem h = mark-carried (chain_tests v ++ (fold_length (admitted m) ∷ [])) (status_allows kind m) h

  pub fold_leaves : status_allows kind m ≡ false → only_chain v ≡ effect suite (folding kind m) (only_chain v)
  unfolding effect
  fold_leaves b = rw b

  pub fold_puts : (after : Bytes) → status_allows kind m ≡ true → after ≡ sha512 (v ++ m) → only_chain after ≡ effect suite (folding kind m) (only_chain v)
  unfolding effect
  fold_puts after b e = rw (b, e)

-- what 23 admits
pub limits : (m : Bytes) → admitted m ≡ true → (64 ≤ length m) × (length m ≤ longest_message)
limits m a =
    let b = and_true (leb 64 (length m)) (leb (length m) longest_message) a in
    (leb-true 64 (length m) b.0, leb-true (length m) longest_message b.1)
