-- Right because the four bits that leave a word enter the one at its left, and the highest has room.
use Rattle.std.proofs.Common.{rules}
use Rattle.ghash_field.proofs.WideLaws.{wide_shifted, carry_fits, highest_grows}
use Rattle.ghash_field.proofs.wide.shifted.Goals as goal

pub overflow_add-result-2 : goal.overflow_add-result-2
overflow_add-result-2 c = record { fits = carry_fits _ _ (search rules) }

pub overflow_add-result-3 : goal.overflow_add-result-3
overflow_add-result-3 c = record { fits = carry_fits _ _ (search rules) }

pub returns : goal.returns
returns c =
    let w = c.args.w in
    (wide_shifted w.w3 w.w2 w.w1 w.w0, highest_grows w.w3 w.w2 (search rules))
