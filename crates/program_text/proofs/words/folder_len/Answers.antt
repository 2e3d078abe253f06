-- Each turn finds in the bytes so far what the definition finds.
use Rattle.std.proofs.Common.{◌∙◌, sym}
use Rattle.program_text.proofs.WordLaws.{slash_there, slash_not, slash_end}
use Rattle.program_text.proofs.words.folder_len.Goals as goal
use Rattle.program_text.proofs.words.folder_len.Goals.{then-b-eq47, else-b-eq47}

pub loop-i-preserved : goal.loop-i-preserved
loop-i-preserved c =
    let path = c.args.path.now in
    let l = c.loop-i in
    elim c.if-b-eq47.branch [
      | then-b-eq47 w ↦ rw w.found-is (slash_there path l.found l.i c.loop-i-test.true w.if-b-eq47.true ∙ l.invariant)
      | else-b-eq47 w ↦ rw w.found-is (slash_not path l.found l.i c.loop-i-test.true w.if-b-eq47.false ∙ l.invariant)
    ]

pub returns : goal.returns
returns c = sym (slash_end c.args.path.now c.loop-i.found c.loop-i.i c.loop-i-test.false) ∙ c.loop-i.invariant
