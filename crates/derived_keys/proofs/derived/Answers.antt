-- Right because 3.1.1 has one column of the table and every other dialect the other.
use mathlib.Core.Path.{ap, ◌∙◌}
use Rattle.derived_keys.specs.Reading.{stored}
use Rattle.derived_keys.proofs.LabelLaws.{by_311, by_300, derived_311, derived_300}
use Rattle.derived_keys.proofs.derived.Goals as goal

pub returns-then-dialect-eq-SMB_311 : goal.returns-then-dialect-eq-SMB_311
returns-then-dialect-eq-SMB_311 c =
    let a = c.args in
    derived_311 a.dialect a.cipher a.chain.now a.material.now _ _ c.of.ensures c.if-dialect-eq-SMB_311.true
    (c.keys_for.ensures ∙ ap stored (by_311 a.material.now _ _ a.chain.now c.of_311.ensures))

pub returns-else-dialect-eq-SMB_311 : goal.returns-else-dialect-eq-SMB_311
returns-else-dialect-eq-SMB_311 c =
    let a = c.args in
    derived_300 a.dialect a.cipher a.chain.now a.material.now _ c.if-dialect-eq-SMB_311.false
    (c.keys_for-else-dialect-eq-SMB_311.ensures ∙ ap stored (by_300 a.material.now _ c.of_300.ensures))
