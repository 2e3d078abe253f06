use native.Mathlib.Omega.{arith}
use Rattle.aes_key_expansion.proofs.Expanding.{start, turn, finish, within}
use Rattle.aes_key_expansion.proofs.expand_by.Goals as goal

pub loop-r-init : goal.loop-r-init
loop-r-init c = rw c.requires.own (start c.args.key.now _ c.requires.size c.own_keys-keys.ensures.short c.own_keys-keys.ensures.long)

pub round_key-requires : goal.round_key-requires
round_key-requires c = (c.loop-r.invariant.is_own, omega arith, omega arith)

pub loop-r-preserved : goal.loop-r-preserved
loop-r-preserved c =
    let x = c.loop-r.invariant in
    turn _ x (omega arith) (within x (omega arith)) c.round_key.ensures

pub returns : goal.returns
returns c = finish c.loop-r.invariant (omega arith)
