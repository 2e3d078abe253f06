-- Right because zeros behind a zero key are zeros.
-- Assumes nothing.
use mathlib.Core.Path.{refl}
use Rattle.octets.specs.Blocks.{zero_padded}
use Rattle.session_record.proofs.Session.vacant.Goals as goal

pub returns : goal.returns
unfolding zero_padded
returns c = refl
