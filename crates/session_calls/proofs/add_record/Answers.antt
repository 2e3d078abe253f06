-- Right because nothing is stored unless every test has passed, and then the derived keys (AddingLaws).
-- Assumes nothing.
use borrow.Author.Rules.{rules}
use Rattle.std.proofs.lemmas.Result.{err_from_is_err_and}
use Rattle.session_calls.proofs.AddingLaws.{add-refused, add_done}
use Rattle.session_calls.proofs.add_record.Goals as goal

pub returns-in_err-add_tests : goal.returns-in_err-add_tests
returns-in_err-add_tests c =
    let x = c.args in
    let p = err_from_is_err_and c.from_residual.result c.from_residual.ensures.1 in
    λ old.
    let no = add-refused x.a x.chain.now x.material.now x.taken x.room _ c.add_tests.ensures old _ c.in_err-add_tests.was in
    rw (p.1, p.2) no

pub returns : goal.returns
returns c =
    let x = c.args in
    λ old.
    add_done x.a x.chain.now x.material.now x.taken x.room _ c.add_tests.ensures old _ c.in_ok-add_tests.was _ _ c.derived.ensures c.fresh.ensures
