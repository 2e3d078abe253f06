-- Right because the reader reads what can be read, and nothing else (CutLaws).
-- Assumes nothing.
use Rattle.trace_format.specs.Format.{edition_of}
use Rattle.trace_rescue.proofs.CutLaws.{record_there}
use Rattle.trace_rescue.proofs.cut.Trace.record_at.Goals as goal

pub returns : goal.returns
returns c =
    let t = record_there (edition_of c.args.self.now.edition) c.args.self.now.file.now c.args.at c.read_record.result c.read_record.ensures in
    rw c.unwrap_or.ensures t
