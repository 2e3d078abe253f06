-- Right because each field is put at its place in zeros, and Flags is 1 there.
-- Assumes nothing.
use mathlib.Core.Path.{refl, ap, ◌∙◌}
use Rattle.octets.specs.Numbers.{to_little_endian}
use Rattle.transform_header.proofs.Runs.{authenticated-put}
use Rattle.transform_header.proofs.authenticated_bytes.Goals as goal

pub returns : goal.returns
returns c =
    let a = c.args in
    authenticated-put a.counter a.size a.id _ _ _ _ _ _ _ c.to_bytes.ensures (c.to_bytes-2.ensures ∙ ap (to_little_endian 4) c.from.ensures) c.to_bytes-3.ensures
    c.copy.ensures c.copy-2.ensures refl c.copy-3.ensures
