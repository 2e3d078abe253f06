-- Right because the head's edition is the one that the record is read by (FormatLaws).
-- Assumes nothing.
use Rattle.std.proofs.lemmas.Result.{err_from_is_err_and}
use Rattle.trace_format.proofs.FormatLaws.{in_bad, in_good}
use Rattle.trace_reader.proofs.read_in.Goals as goal

pub returns-in_err-head : goal.returns-in_err-head
returns-in_err-head c =
    let p = err_from_is_err_and c.from_residual.result c.from_residual.ensures.1 in
    rw p.1 (in_bad c.args.file.now c.args.at c.in_err-head.ensures)

pub returns : goal.returns
returns c = in_good c.args.file.now c.args.at _ _ _ c.in_ok-head.ensures _ c.read_record.ensures
