-- The struct of the code, read as the lab of the rules.
-- Assumes nothing.
use Rattle.session_table.specs.Reading.{table_of}
use Rattle.lab_rules.specs.Steps.{State}
use Rattle.lab_state.specs.declared.Lab.{Lab}

abbrev pub state_of : Lab → State
state_of l = record { dialect = l.dialect; cipher = l.cipher; connection = l.connection; session = l.session; table = table_of l.table.records }
