-- Right because so few bytes are the beginning of one block.
use Rattle.kdf.proofs.CounterModeLaws.{of-bytes-at}
use Rattle.kdf.proofs.derive.Goals as goal

pub returns : goal.returns
returns g c =
    let a = c.args in
    of-bytes-at g.row.N c.requires a.key.now a.label.now a.context.now c.first_block-k.ensures c.bytes_at.ensures
