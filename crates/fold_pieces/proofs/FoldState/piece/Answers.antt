-- Right because the hash, the count and the first bytes take in the same piece, or none of them does.
-- Assumes nothing.
use mathlib.Core.Bool.{not}
use mathlib.Core.Path.{sym, ap, ◌∙◌}
use mathlib.Core.Bool.{Bool, ◌&&◌}
use Prim.Native.Nat.{◌+◌}
use borrow.Author.Tests.{not-true, not-false, leb-true}
use lib.ListN.{length}
use Rattle.octets.proofs.BoolLaws.{and_true}
use Rattle.protocol.specs.Connection.{longest_message}
use Rattle.connection.specs.Reading.{flag}
use Rattle.fold_pieces.proofs.StateLaws.{piece_refused, piece_taken}
use borrow.Author.Rules.{rules}
use Rattle.fold_pieces.proofs.FoldState.piece.Goals as goal

pub returns-then-not-takes : goal.returns-then-not-takes
returns-then-not-takes c =
    let a = c.args in
    let e = ap (λ (b : Bool). flag a.self.underway && b) (sym c.fits.ensures) ∙ not-true _ (ap not c.if-not-takes.true) in
    piece_refused a.self a.piece.now e c.step.ensures

pub overflow_add-state : goal.overflow_add-state
overflow_add-state c =
    let a = c.args in
    let fit = (and_true (flag a.self.underway) _ (not-false _ (ap not c.if-not-takes.false))).1 in
    let h = leb-true (a.self.joined + length a.piece.now) longest_message (sym c.fits.ensures ∙ fit) in
    search rules

pub returns : goal.returns
returns c =
    let a = c.args in
    let e = ap (λ (b : Bool). flag a.self.underway && b) (sym c.fits.ensures) ∙ not-false _ (ap not c.if-not-takes.false) in
    piece_taken a.self a.piece.now e c.update.ensures c.head_with.ensures c.step-2.ensures
