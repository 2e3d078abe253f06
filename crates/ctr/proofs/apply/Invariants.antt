-- Right because each turn xors the next block of the text with the next output block, and the end what is left.
use mathlib.Core.Path.{◌≡◌}
use Prim.Native.Nat.{◌*◌}
use lib.Seq.{paste}
use Rattle.aes.specs.BlockCipher.{block_cipher}
use Rattle.ctr.specs.Ctr.{ctr, counter_blocks}
use Rattle.ctr.proofs.apply.Given as goal

abbrev pub invariant-loop-j : goal.invariant-loop-j
invariant-loop-j l =
    l.text ≡ paste l.initial.text 0 (ctr (block_cipher l.cipher) (counter_blocks l.prefix l.first) l.initial.text) (16 * l.j)
