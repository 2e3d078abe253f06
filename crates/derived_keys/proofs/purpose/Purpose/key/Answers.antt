-- Right because the suite's derivation is SP 800-108.
use mathlib.Core.Path.{sym, ◌∙◌}
use Rattle.protocol.proofs.SuiteLaws.{kdf_is}
use Rattle.derived_keys.proofs.purpose.Purpose.key.Goals as goal

pub returns : goal.returns
returns c =
    let a = c.args in
    c.derive.ensures ∙ sym (kdf_is 16 a.session_key a.self.label.now a.self.context.now)
