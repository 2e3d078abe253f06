-- Right because the pieces, joined, are the counter and the fixed input.
-- Assumes nothing.
use mathlib.Core.List.{[]}
use Rattle.kdf.proofs.CounterModeLaws.{of-pieces}
use Rattle.kdf.proofs.first_block.Goals as goal

pub returns : goal.returns
returns c =
    let a = c.args in
    let key = a.key.now in
    let h₁ = c.update.ensures key [] c.new.ensures in
    let h₃ = c.update-3.ensures key _ (c.update-2.ensures key _ h₁) in
    let h₅ = c.update-5.ensures key _ (c.update-4.ensures key _ h₃) in
    of-pieces key a.label.now a.context.now a.bits c.to_bytes-counter.ensures c.to_bytes-length.ensures
    (c.finish.ensures key _ h₅)
