-- Right because the copy of the header and the rest, joined, are the message with zeros in the place of the signature.
-- Assumes nothing.
use mathlib.Core.Path.{sym, ap, ◌∙◌}
use native.Mathlib.Omega.{arith}
use lib.ListN.{length-take}
use lib.Seq.{length-take-le}
use Rattle.octets.proofs.Paste.{part_all}
use Rattle.aes.specs.BlockCipher.{block_cipher}
use Rattle.aes.proofs.KeySizeLaws.{of_length_16}
use Rattle.cmac.specs.Cmac as rfc4493
use Rattle.cmac.proofs.Beginning.{new_holds}
use Rattle.cmac.proofs.AnyState.{takes_in, ends_with}
use Rattle.protocol.specs.Signing.{signature_under}
use Rattle.protocol.proofs.SuiteLaws.{cmac_is}
use Rattle.signing.proofs.SigningLaws.{taken_in}
use Rattle.signing.proofs.signature.Goals as goal

pub slice_bounds-copy-end-2 : goal.slice_bounds-copy-end-2
slice_bounds-copy-end-2 c =
    sym (length-take-le _ c.args.m.now (omega (arith, c.requires.1)))

pub copy-requires : goal.copy-requires
copy-requires c =
    simp length-take (omega (arith, c.requires.1))

pub new-cipher-requires : goal.new-cipher-requires
new-cipher-requires c = of_length_16 _ c.requires.0

pub returns : goal.returns
unfolding signature_under
returns c =
    let key = c.args.key.now in
    let m = c.args.m.now in
    let E = block_cipher c.new-cipher.result in
    let begun = new_holds _ c.new.ensures E in
    rw (cmac_is, ← c.new-cipher.ensures)
    (ends_with _ c.finish.ensures (takes_in _ _ c.update-2.ensures (takes_in _ _ c.update.ensures begun))
    ∙ ap (rfc4493.cmac E)
    (taken_in m c.copy.new.dst _ (length-take-le 48 m (omega (arith, c.requires.1))) c.copy.ensures (part_all m 64)))
