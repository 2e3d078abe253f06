-- Right because each return stands under the tests of `write_answer` (WriteLaws).
-- Assumes nothing.
use Rattle.std.proofs.Common.{true, false, sym, arith}
use Rattle.std.proofs.lemmas.Bool.Decides.{nat_tests}
use Rattle.trace_format.specs.Format.{edition_of}
use Rattle.trace_format.specs.Records.{written_edition}
use Rattle.trace_writer.proofs.WriteLaws.{second, refused, written, size, record_held}
use Rattle.trace_writer.proofs.write_record.Goals as goal

pub returns-then-not-admits : goal.returns-then-not-admits
returns-then-not-admits c =
    let a = c.args in
    let e = edition_of written_edition in
    refused (record_held e a.kind a.from_server a.payload.now a.room.now a.at false (rw (← c.if-not-admits.ensures e second)))

pub returns-then-saturating_sub-n : goal.returns-then-saturating_sub-n
returns-then-saturating_sub-n c =
    let a = c.args in
    let e = edition_of written_edition in
    refused (record_held e a.kind a.from_server a.payload.now a.room.now a.at false (rw (← c.if-not-admits.ensures e second) (grind (arith, nat_tests))))

pub head_bytes-requires : goal.head_bytes-requires
head_bytes-requires c = sym (c.if-not-admits.ensures (edition_of written_edition) second)

pub returns : goal.returns
returns c =
    let a = c.args in
    let e = edition_of written_edition in
    let n = size e a.kind a.from_server a.payload.now in
    written
    (record_held e a.kind a.from_server a.payload.now a.room.now a.at true (rw (← c.if-not-admits.ensures e second) (grind (arith, nat_tests))))
    (omega arith) (rw c.head_bytes.ensures at c.put_record.ensures)
