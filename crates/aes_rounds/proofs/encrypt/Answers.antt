use Prim.Native.Nat.{◌-◌}
use mathlib.Core.Path.{refl, ◌∙◌}
use native.Mathlib.Omega.{arith}
use Rattle.rijndael.specs.Cipher.{rounds}
use Rattle.aes_rounds.proofs.CipherLaws.{ciphered, one-round, first-key}
use Rattle.aes_rounds.proofs.encrypt.Goals as goal

pub loop-r-init : goal.loop-r-init
unfolding rounds
loop-r-init c = refl

pub loop-r-preserved : goal.loop-r-preserved
loop-r-preserved c =
    let l = c.loop-r in
    one-round l.r c.args.keys.now _ (omega arith) l.invariant c.load-in-loop-r.ensures c.round-s.ensures

pub returns : goal.returns
returns c =
    let l = c.loop-r in
    let a = c.args in
    ciphered a.rounds (l.r - 1) a.rounds a.keys.now _ c.load.ensures (c.bitxor-s.ensures ∙ first-key a.block _) l.invariant
    c.load-2.ensures c.last_round.ensures (omega arith) refl
