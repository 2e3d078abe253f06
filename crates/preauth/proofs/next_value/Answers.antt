-- Right because the running hash has taken in the old value and then the message.
-- Assumes nothing.
use Rattle.protocol.proofs.SuiteLaws.{sha512_is}
use lib.ListN.{length, length-append}
use native.Mathlib.Omega.{arith}
use Prim.Native.Nat.{◌+◌}
use mathlib.Core.List.{◌++◌}
use mathlib.Core.Path.{◌≡◌, sym, ◌∙◌}
use Rattle.sha512.proofs.Beginning.{new_holds}
use Rattle.sha512.proofs.AnyState.{takes_in, ends_with}
use Rattle.preauth.proofs.next_value.Goals as goal

pub returns : goal.returns
returns c =
    let v = c.args.old.now in
    let m = c.args.message.now in
    let joined : length (v ++ m) ≡ length v + length m = length-append v m in
    let sizes = c.requires in
    let begun = new_holds _ c.new.ensures in
    ends_with _ c.finish.ensures (takes_in _ _ c.update-2.ensures (takes_in _ _ c.update.ensures begun)) (omega arith)
    ∙ sym (sha512_is (v ++ m))
