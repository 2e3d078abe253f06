-- Right because each of the four is taken where its bit is one.
use Rattle.std.proofs.Common.{◌∙◌, ap₂}
use lib.Bits.{bit_xor}
use Rattle.ghash_field.proofs.terms.sum.Goals as goal

pub returns : goal.returns
returns c =
    c.bitxor-3.ensures
    ∙ ap₂ bit_xor
    (c.bitxor.ensures ∙ ap₂ bit_xor c.select.ensures c.select-2.ensures)
    (c.bitxor-2.ensures ∙ ap₂ bit_xor c.select-3.ensures c.select-4.ensures)
