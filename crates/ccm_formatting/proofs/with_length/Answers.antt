-- Right because the two octets of the length are 0 and 32, and the data stand behind them.
use Rattle.ccm_formatting.proofs.Formatted.{associated-right}
use borrow.Author.Rules.{rules}
use Rattle.ccm_formatting.proofs.with_length.Goals as goal

pub returns : goal.returns
returns c = associated-right c.args.aad _ (search rules) c.copy.ensures
