-- Right because the block that waits is the last one.
use Rattle.aes.specs.BlockCipher.{block_cipher}
use Rattle.cmac.proofs.AnyState.{finished_by}
use Rattle.cmac.proofs.Mac.finish.Goals as goal

pub returns : goal.returns
returns c =
    let last = c.last_block-last in
    finished_by (block_cipher c.args.cipher.now) c.args.self _ c.min-n.ensures last.ensures last.type_inv.1.0.1 c.chain.ensures
