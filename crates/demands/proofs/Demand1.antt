-- Demand 1, of any primitives, and so of the suite: the orders by computation, the rest once for all calls.
-- Assumes nothing.
use mathlib.Core.Path.{◌≡◌, refl, ap, ◌∙◌}
use mathlib.Core.Bool.{Bool, true, false, cond}
use mathlib.Core.List.{◌++◌}
use Prim.Native.Nat.{ℕ}
use native.Mathlib.Omega.{arith}
use Rattle.protocol.specs.Bytes.{Bytes}
use Rattle.protocol.specs.Answer.{Answer, done, carried}
use Rattle.protocol.specs.Preauth.{FoldKind, status_allows}
use Rattle.protocol.specs.Transform.{Primitives}
use Rattle.protocol.specs.Calls.{Call, derivation, folding, fold_beginning, fold_piece, fold_finishing, sealing_under, opening_under, signing_under}
use Rattle.protocol.specs.Calls.{verifying_under, adding, removing, stepping}
use Rattle.protocol.specs.Calls.{sealing, opening, Lent, with_chain, seal_tests, open_tests, tests, effect, answer, left}
use Rattle.protocol.specs.Calls.{sign_beginning, sign_piece, sign_finishing, verify_finishing}
use Rattle.protocol.specs.Suite.{suite}
use Rattle.demands.specs.Lines.{None, no_line}
use Rattle.demands.specs.Demand1.{numbers_tested, order, Demand1}
use Rattle.demands.proofs.Answering.{passes_of, done-of, answers_of}
use Rattle.demands.proofs.CallLaws.{left-done, left-refused}

module _ (P : Primitives) where
  orders : (c : Call) (w : Lent) → numbers_tested (tests P c w) ≡ order c
  unfolding tests seal_tests open_tests
  orders (derivation dialect cipher chain material) w = refl
  orders (folding kind m) w = refl
  orders (fold_beginning v) w = refl
  orders (fold_piece p) w = refl
  orders (fold_finishing kind) w = refl
  orders (sealing_under c key id) w = refl
  orders (opening_under c key id) w = refl
  orders (signing_under key) w = refl
  orders (verifying_under key) w = refl
  orders (sign_beginning key) w = refl
  orders (sign_piece p) w = refl
  orders (sign_finishing u) w = refl
  orders (verify_finishing u) w = refl
  orders (adding a) w = refl
  orders (removing i) w = refl
  orders (stepping i by) w = refl
  orders (sealing c id) w = refl
  orders (opening c) w = refl

  -- ---- not folded

  mark-zero : (b : Bool) → ◌≡◌ {A = ℕ} (cond b 1 0) 0 → b ≡ false
  mark-zero true e = absurd (omega arith)
  mark-zero false e = refl

  module _ (kind : FoldKind) (m : Bytes) (w : Lent) where
    not_folded : answer P (folding kind m) w ≡ done 0 → None (tests P (folding kind m) w).before × (status_allows kind m ≡ false)
    unfolding tests
    not_folded e =
        let p = passes_of (tests P (folding kind m) w) 0 e in
        (p.lines, mark-zero (status_allows kind m) p.visits)

    folded_not : None (tests P (folding kind m) w).before → status_allows kind m ≡ false → answer P (folding kind m) w ≡ done 0
    unfolding tests
    folded_not h s = done-of (tests P (folding kind m) w) 0 (record { lines = h; visits = ap (λ (b : Bool). cond b 1 0) s; later-lines = no_line })

    not_folded-leaves : answer P (folding kind m) w ≡ done 0 → left P (folding kind m) w ≡ w
    unfolding effect
    not_folded-leaves e =
        left-done P (folding kind m) w 0 e
        ∙ ap (λ (b : Bool). with_chain (cond b (P.sha512 (w.chain ++ m)) w.chain) w) (not_folded e).1

  pub holds_of : Demand1 P
  holds_of =
      record {
        orders = orders;
        first-header = λ m e. refl;
        later-header = λ m e p d. refl;
        answers = λ c w. answers_of (tests P c w);
        unchanged = left-refused P;
        headers = λ a n h e. ap (λ (x : Answer). carried x h) e;
        not_folded = λ kind m w. (not_folded kind m w, λ h. folded_not kind m w h.0 h.1);
        not_folded-leaves = not_folded-leaves;
      }

pub demand1 : Demand1 suite
demand1 = holds_of suite
