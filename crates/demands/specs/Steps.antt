-- A list of calls over a table: RULES 12.
-- Over any primitives.
-- Assumes nothing.
use Rattle.std.specs.Prelude.{List, [], ◌∷◌}
use Rattle.protocol.specs.SessionTable.{Session}
use Rattle.protocol.specs.Transform.{Primitives}
use Rattle.protocol.specs.Calls.{Call, Lent, with_table, left}

-- a call "with any arguments", and what it is lent
pub record Step : Type 0 where
  pub call : Call
  pub lent : Lent

abbrev pub on_table : List Session → Step → Step
on_table t s = record { call = s.call; lent = with_table t s.lent }

module _ (P : Primitives) where
  abbrev pub table_left : Step → List Session
  table_left s = (left P s.call s.lent).table

  -- the steps as they are made: "Each call gets the table as the one before left it, and nobody else writes it meanwhile."
  abbrev pub made : List Session → List Step → List Step
  made t [] = []
  made t (s ∷ ss) = on_table t s ∷ made (table_left (on_table t s)) ss
