-- The table of the code, read as the rules'.
-- Assumes nothing.
use Rattle.std.specs.Prelude.{List, map}
use Rattle.protocol.specs.SessionTable as protocol
use Rattle.session_record.specs.declared.Session.{Session}
use Rattle.session_record.specs.Reading.{session_of}

abbrev pub table_of : List Session → List protocol.Session
table_of t = map session_of t
