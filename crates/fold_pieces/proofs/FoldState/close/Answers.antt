-- Right because each return is one way out of the definition, and only the last touches the chain: its 64 bytes are the hash of what was taken in.
-- Assumes nothing.
use mathlib.Core.Bool.{Bool, true, false, ◌&&◌}
use mathlib.Core.Path.{refl, sym, ap, ◌∙◌}
use borrow.Author.Tests.{not-true, not-false, eqb-true, eqb-false}
use Rattle.std.proofs.lemmas.Result.{err_from_is_err_and}
use Rattle.connection.specs.Reading.{flag}
use Rattle.answer.proofs.Results.{applies, applies-not}
use Rattle.fold_pieces.proofs.FinishLaws.{closed_40, closed_23, closed_out, closed_in}
use Rattle.fold_pieces.proofs.FoldState.close.Goals as goal

pub returns-in_err-refuse : goal.returns-in_err-refuse
returns-in_err-refuse c =
    let a = c.args in
    let told = applies _ _ _ c.refuse.ensures _ c.in_err-refuse.was in
    let p = err_from_is_err_and c.from_residual.result c.from_residual.ensures.1 in
    rw (p.1, p.2, told.1) (closed_40 a.self a.allowed a.chain.now (eqb-false _ 64 (not-true _ told.0)))

pub returns-in_err-refuse-2 : goal.returns-in_err-refuse-2
returns-in_err-refuse-2 c =
    let a = c.args in
    let size = eqb-true _ 64 (not-false _ (applies-not _ _ _ c.refuse.ensures _ c.in_ok-refuse.was)) in
    let told = applies _ _ _ c.refuse-2.ensures _ c.in_err-refuse-2.was in
    let e = ap (λ (b : Bool). flag a.self.underway && b) (sym c.admits.ensures) ∙ not-true _ told.0 in
    let p = err_from_is_err_and c.from_residual-in_err-refuse-2.result c.from_residual-in_err-refuse-2.ensures.1 in
    rw (p.1, p.2, told.1) (closed_23 a.self a.allowed a.chain.now size e)

pub returns-then-allowed : goal.returns-then-allowed
returns-then-allowed c =
    let a = c.args in
    let size = eqb-true _ 64 (not-false _ (applies-not _ _ _ c.refuse.ensures _ c.in_ok-refuse.was)) in
    let fits = not-false _ (applies-not _ _ _ c.refuse-2.ensures _ c.in_ok-refuse-2.was) in
    let e = ap (λ (b : Bool). flag a.self.underway && b) (sym c.admits.ensures) ∙ fits in
    rw c.if-allowed.true (closed_in a.self true a.chain.now size e refl (c.copy_from_slice.ensures.after ∙ c.finish.ensures))

pub returns-else-allowed : goal.returns-else-allowed
returns-else-allowed c =
    let a = c.args in
    let size = eqb-true _ 64 (not-false _ (applies-not _ _ _ c.refuse.ensures _ c.in_ok-refuse.was)) in
    let fits = not-false _ (applies-not _ _ _ c.refuse-2.ensures _ c.in_ok-refuse-2.was) in
    let e = ap (λ (b : Bool). flag a.self.underway && b) (sym c.admits.ensures) ∙ fits in
    rw c.if-allowed.false (closed_out a.self false a.chain.now size e refl)
