-- Right because two runs, one behind the other, are one (head_and_payload).
-- Assumes nothing.
use lib.ListN.{length}
use mathlib.Core.Path.{◌≡◌}
use Rattle.trace_writer.proofs.WriteLaws.{head_and_payload}
use borrow.Author.Rules.{rules}
use Rattle.trace_writer.proofs.put_record.Goals as goal

pub returns : goal.returns
returns c =
    let a = c.args in
    let inside = c.requires in
    let four : length a.head ≡ 4 = search rules in
    head_and_payload a.room.now a.at a.head a.payload.now _ _ four inside c.copy.ensures c.copy-2.ensures
