-- Right because each return is one way out of the definition, and only the last touches the chain: its 64 bytes are the new value.
-- Assumes nothing.
use mathlib.Core.Path.{sym, ap, ◌∙◌}
use borrow.Author.Tests.{not-true, not-false, eqb-true, eqb-false}
use Rattle.std.proofs.lemmas.Result.{err_from_is_err_and}
use Rattle.protocol.specs.Calls.{folding, only_chain}
use Rattle.answer.proofs.Results.{applies, applies-not}
use Rattle.preauth.proofs.FoldLaws.{refused_40, refused_23, left_out, folded_in, fold_tests_lem, fold_leaves, fold_puts, limits}
use Rattle.preauth.proofs.fold_if.Goals as goal

pub returns-in_err-refuse : goal.returns-in_err-refuse
returns-in_err-refuse c =
    let v = c.args.chain.now in
    let m = c.args.message.now in
    let told = applies _ _ _ c.refuse.ensures _ c.in_err-refuse.was in
    λ kind agrees.
    let no = refused_40 (folding kind m) (only_chain v) kind m (fold_tests_lem kind v m) (eqb-false _ 64 (not-true _ told.0)) in
    let p = err_from_is_err_and c.from_residual.result c.from_residual.ensures.1 in
    rw (p.1, p.2, told.1) no

pub returns-in_err-refuse-2 : goal.returns-in_err-refuse-2
returns-in_err-refuse-2 c =
    let v = c.args.chain.now in
    let m = c.args.message.now in
    let size = eqb-true _ 64 (not-false _ (applies-not _ _ _ c.refuse.ensures _ c.in_ok-refuse.was)) in
    let told = applies _ _ _ c.refuse-2.ensures _ c.in_err-refuse-2.was in
    λ kind agrees.
    let no = refused_23 (folding kind m) (only_chain v) kind m (fold_tests_lem kind v m) size (sym c.admits.ensures ∙ not-true _ told.0) in
    let p = err_from_is_err_and c.from_residual-in_err-refuse-2.result c.from_residual-in_err-refuse-2.ensures.1 in
    rw (p.1, p.2, told.1) no

pub next_value-value-requires : goal.next_value-value-requires
next_value-value-requires c =
    let size = eqb-true _ 64 (not-false _ (applies-not _ _ _ c.refuse.ensures _ c.in_ok-refuse.was)) in
    let fits = sym c.admits.ensures ∙ not-false _ (applies-not _ _ _ c.refuse-2.ensures _ c.in_ok-refuse-2.was) in
    (size, (limits c.args.message.now fits).1)

pub returns-then-allowed : goal.returns-then-allowed
returns-then-allowed c =
    let v = c.args.chain.now in
    let m = c.args.message.now in
    let size = eqb-true _ 64 (not-false _ (applies-not _ _ _ c.refuse.ensures _ c.in_ok-refuse.was)) in
    let fits = sym c.admits.ensures ∙ not-false _ (applies-not _ _ _ c.refuse-2.ensures _ c.in_ok-refuse-2.was) in
    λ kind agrees.
    let b = sym (agrees fits) ∙ c.if-allowed.true in
    let value = fold_puts kind v m _ b (c.copy_from_slice.ensures.after ∙ c.next_value-value.ensures) in
    let yes = folded_in (folding kind m) (only_chain v) kind m (fold_tests_lem kind v m) size fits _ b value in
    rw c.if-allowed.true yes

pub returns-else-allowed : goal.returns-else-allowed
returns-else-allowed c =
    let v = c.args.chain.now in
    let m = c.args.message.now in
    let size = eqb-true _ 64 (not-false _ (applies-not _ _ _ c.refuse.ensures _ c.in_ok-refuse.was)) in
    let fits = sym c.admits.ensures ∙ not-false _ (applies-not _ _ _ c.refuse-2.ensures _ c.in_ok-refuse-2.was) in
    λ kind agrees.
    let b = sym (agrees fits) ∙ c.if-allowed.false in
    let yes = left_out (folding kind m) (only_chain v) kind m (fold_tests_lem kind v m) size fits b (fold_leaves kind v m b) in
    rw c.if-allowed.false yes
