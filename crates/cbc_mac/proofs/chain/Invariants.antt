-- Right because each turn takes the next whole block into the chain, and the end the short one.
use mathlib.Core.Path.{◌≡◌}
use Rattle.aes.specs.BlockCipher.{block_cipher}
use Rattle.cbc_mac.specs.CbcMac.{cbc_mac}
use Rattle.cbc_mac.proofs.chain.Given as goal

abbrev pub invariant-loop-x : goal.invariant-loop-x
invariant-loop-x l = l.z ≡ cbc_mac (block_cipher l.cipher) l.initial.z l.s l.x-index
