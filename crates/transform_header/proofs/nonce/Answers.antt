-- Right because the counter's eight bytes are put before eight zeros.
-- Assumes nothing.
use Rattle.transform_header.proofs.Runs.{nonce-put}
use Rattle.transform_header.proofs.nonce.Goals as goal

pub returns : goal.returns
returns c = nonce-put c.args.counter _ _ c.to_bytes.ensures c.copy.ensures
