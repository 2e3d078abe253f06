use Rattle.program_text.proofs.WordLaws.{compared}
use Rattle.program_text.proofs.words.asks_version.Goals as goal

pub returns : goal.returns
returns c = compared c.args.word.now _ c.eq.ensures c.as_slice.ensures
