-- Right because each return stands under the tests of `write_answer` (WriteLaws).
-- Assumes nothing.
use Rattle.std.proofs.Common.{◌≡◌, true, false, arith}
use Rattle.std.proofs.lemmas.Bool.Decides.{nat_tests}
use Rattle.trace_format.specs.Records.{file_head_bytes}
use Rattle.trace_format.proofs.ByteLaws.{length-file_head_bytes}
use Rattle.trace_writer.proofs.WriteLaws.{refused, written, head_held}
use Rattle.trace_writer.proofs.write_file_head.Goals as goal

pub returns-then-other : goal.returns-then-other
returns-then-other c =
    let a = c.args in
    refused (head_held a.edition a.dialect a.cipher a.room.now false (grind (arith, nat_tests)))

pub returns : goal.returns
unfolding file_head_bytes
returns c =
    let a = c.args in
    let head : c.to_bytes-head.result ≡ file_head_bytes a.edition a.dialect a.cipher = cc in
    let four = length-file_head_bytes a.edition a.dialect a.cipher in
    written (head_held a.edition a.dialect a.cipher a.room.now true (grind (arith, nat_tests))) (omega arith) (rw head at c.copy.ensures)
