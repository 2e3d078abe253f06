-- Right because each record of an empty table is `free`, which is read as a free one.
-- Assumes nothing.
use mathlib.Core.List.{List}
use mathlib.Core.Path.{◌≡◌, ap, ◌∙◌}
use Prim.Native.Nat.{ℕ}
use lib.ListN.{length, replicate}
use Rattle.protocol.specs.Preauth.{fresh_chain}
use Rattle.protocol.specs.SessionTable as protocol
use Rattle.session_record.specs.Reading.{free}
use Rattle.session_record.proofs.StoredLaws.{free_read}
use Rattle.session_table.specs.Reading.{table_of}
use Rattle.lab_rules.specs.Steps.{State}
use Rattle.lab_state.proofs.Lab.new.Goals as goal

pub returns : goal.returns
returns c =
    let a = c.args in
    let none = c.empty-none.result.records in
    let all : length none ≡ 16 = c.empty-none.type_inv.1.1.0.1.0.1 in
    ap {B = State} (λ (t : List protocol.Session). record { dialect = a.dialect; cipher = a.cipher; connection = fresh_chain; session = fresh_chain; table = t })
    (ap table_of (c.empty-none.ensures ∙ ap (λ (n : ℕ). replicate n free) all) ∙ ap (λ (s : protocol.Session). replicate 16 s) free_read)
