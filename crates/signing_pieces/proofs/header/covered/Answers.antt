-- Right because the flag is set, and then the zeros replace the signature.
-- Assumes nothing.
use mathlib.Core.Path.{refl, ap, ◌∙◌}
use Prim.Native.Nat.{◌≤◌}
use borrow.Author.Rules.{rules}
use lib.ListN.{length, replicate}
use Rattle.protocol.specs.Signing.{with_signature}
use Rattle.protocol.proofs.SignedBytes.{stored_is}
use Rattle.signing_pieces.specs.Running.{covered}
use Rattle.signing_pieces.proofs.header.covered.Goals as goal

pub returns : goal.returns
unfolding covered
returns c =
    let l : 64 ≤ length c.args.header = search rules in
    c.copy.ensures ∙ stored_is (replicate 16 0) _ refl ∙ ap (with_signature (replicate 16 0)) (c.set_signed.ensures.header l)
