-- Right because the counter blocks of numbers 1, 2, .. begin with the flags octet 3 and the nonce.
use mathlib.Core.List.{List}
use mathlib.Core.Path.{ap, ◌∙◌}
use Prim.Native.Nat.{ℕ}
use Rattle.aes.specs.BlockCipher.{block_cipher}
use Rattle.ctr.specs.Ctr.{ctr, counter_blocks}
use Rattle.ccm.specs.General as general
use Rattle.ccm.proofs.encrypt.Goals as goal

pub returns : goal.returns
unfolding general.encrypt
returns c =
    let a = c.args in
    c.apply.ensures
    ∙ ap (λ (x : List ℕ). ctr (block_cipher a.cipher.now) (counter_blocks x 1) a.text.now) c.flags_and_nonce-prefix.ensures
