-- What the code answers, read as the readings of the format: RULES 16.
-- Assumes nothing.
use Rattle.std.specs.Prelude.{Option, Some, None, Result, Ok, Err}
use Rattle.trace_format.specs.Format.{FileReading, file_head, bad_file_head, HeadReading, head, bad_head, Reading, found, end, unreadable}
use Rattle.trace_format.specs.declared.Unreadable.{Unreadable}
use Rattle.trace_reader.specs.declared.FileHead.{FileHead}
use Rattle.trace_reader.specs.declared.Head.{Head}
use Rattle.trace_reader.specs.declared.Record.{Record}

abbrev pub file_reading_of : Result FileHead Unreadable → FileReading
file_reading_of (Ok h) = file_head h.edition h.dialect h.cipher
file_reading_of (Err e) = bad_file_head

abbrev pub head_reading_of : Result Head Unreadable → HeadReading
head_reading_of (Ok h) = head h.kind h.from_server h.len
head_reading_of (Err e) = bad_head

abbrev pub reading_of : Result (Option Record) Unreadable → Reading
reading_of (Ok (Some r)) = found r.kind r.from_server r.start r.len r.next
reading_of (Ok None) = end
reading_of (Err e) = unreadable
