-- Right because before turn r the state has gone through the rounds 1 to r - 1, and the last round follows.
use Prim.Native.Nat.{◌-◌}
use mathlib.Core.Path.{◌≡◌}
use Rattle.rijndael.specs.Cipher.{rounds}
use Rattle.aes_words.specs.Words.{state_of}
use Rattle.aes_rounds.proofs.encrypt.Given as goal

abbrev pub invariant-loop-r : goal.invariant-loop-r
invariant-loop-r l = state_of l.s ≡ rounds (l.r - 1) l.keys (state_of l.initial.s)
