-- Each comparison is that of the definition (WordLaws).
use Rattle.std.proofs.Common.{◌∙◌, sym}
use Rattle.program_text.proofs.WordLaws.{compared}
use Rattle.program_text.proofs.words.asks_help.Goals as goal

pub returns-then-eq : goal.returns-then-eq
returns-then-eq c = let e = compared c.args.word.now _ c.eq.ensures c.as_slice.ensures in rw (sym e ∙ c.if-eq.true) c.if-eq.true

pub returns-else-eq : goal.returns-else-eq
returns-else-eq c =
    let e = compared c.args.word.now _ c.eq.ensures c.as_slice.ensures in
    rw (sym e ∙ c.if-eq.false) (compared c.args.word.now _ c.eq-else-eq.ensures c.as_slice-else-eq.ensures)
