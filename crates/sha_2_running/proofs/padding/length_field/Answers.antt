-- Right because sixteen bytes are the eight high ones and the eight low ones.
use Rattle.sha_2_running.proofs.TwoWords.{two_words}
use Rattle.sha_2_running.proofs.padding.length_field.Goals as goal

pub returns : goal.returns
returns c = two_words c.args.n c.to_bytes-high.ensures c.to_bytes-low.ensures c.copy.ensures c.copy-2.ensures
