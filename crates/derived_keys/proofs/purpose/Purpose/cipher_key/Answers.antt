-- Right because each size of key has its derivation, and 32 bytes need no zeros.
use Rattle.derived_keys.proofs.LabelLaws.{wide_key}
use Rattle.derived_keys.proofs.purpose.Purpose.cipher_key.Goals as goal

pub returns-in-Bits256 : goal.returns-in-Bits256
returns-in-Bits256 c =
    let a = c.args in
    rw c.in-Bits256.is (wide_key a.material.now a.self.label.now a.self.context.now _ c.derive.ensures)
