-- Right because a refusal leaves the place alone, and else the keys written are those of the material.
-- Assumes nothing.
use mathlib.Core.Path.{ap, ◌∙◌}
use borrow.Author.Rules.{rules}
use Rattle.protocol.specs.Keys.{keys_in_order}
use Rattle.dialects.specs.Reading.{wide_in}
use Rattle.derived_keys.specs.Reading.{keys_in}
use Rattle.keys.proofs.NumberLaws.{left_alone, filled}
use Rattle.keys.proofs.derive.Goals as goal

pub returns-in_err-derivation_tests : goal.returns-in_err-derivation_tests
returns-in_err-derivation_tests c =
    let a = c.args in
    let no = left_alone a.dialect a.cipher a.chain.now a.material.now a.keys.now _ c.derivation_tests.ensures _ c.in_err-derivation_tests.was in
    search (rules, no)

pub returns : goal.returns
returns c =
    let a = c.args in
    filled a.dialect a.cipher a.chain.now a.material.now a.keys.now _ c.derivation_tests.ensures _ _ _ c.of-size.ensures
    c.in_ok-derivation_tests.was
    (c.write.ensures ∙ ap (λ k. keys_in_order (keys_in (wide_in c.of-size.result) k)) c.derived.ensures)
