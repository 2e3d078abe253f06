-- The digits are the fewest that hold the number.
use Rattle.std.proofs.Common.{◌∙◌, ◌<◌, rules}
use Rattle.program_text.proofs.DecimalLaws.{decimal_is}
use Rattle.program_text.proofs.PutLaws.{put_as}
use Rattle.program_text.proofs.lines.put_decimal.Goals as goal

pub returns : goal.returns
returns c =
    let said = c.decimal-k.ensures in
    let small : c.args.n < 18446744073709551616 = search rules in
    put_as (said.digits ∙ decimal_is c.args.n _ small said.len) c.put.ensures
