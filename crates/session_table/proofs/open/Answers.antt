-- Right because the record is that of the id which the header names (TableCalls).
-- Assumes nothing.
use Rattle.connection.specs.Reading.{connection_of}
use Rattle.session_table.proofs.TableCalls.{opened_says}
use Rattle.session_table.proofs.open.Goals as goal

pub returns : goal.returns
returns c =
    let a = c.args in
    let t = a.table.now in
    let at = c.find.ensures.place in
    opened_says (connection_of a.c) a.message.now t _ _ _ _ _ c.session_id-id.ensures at c.record-s.ensures c.open_record.ensures
