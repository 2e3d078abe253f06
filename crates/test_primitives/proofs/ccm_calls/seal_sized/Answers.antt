-- Right because arrays read off slices of their length are the slices, `ccm::seal` does the rest, and its tag fills the place.
-- Assumes nothing.
use mathlib.Core.Path.{◌∙◌, sym}
use Rattle.test_primitives.proofs.Laws.{whole, filled}
use Rattle.test_primitives.proofs.ccm_calls.seal_sized.Goals as goal

pub returns : goal.returns
returns c =
    let n = whole 11 c.args.nonce.now _ c.requires.1 c.bytes_at-n.ensures in
    let a = whole 32 c.args.aad.now _ c.requires.2 c.bytes_at-a.ensures in
    let e = rw (n, a) at c.seal-t.ensures in
    (e.bytes, filled _ _ _ (c.requires.3 ∙ sym c.seal-t.type_inv.1.0.1) c.copy.ensures ∙ e.tagged)
