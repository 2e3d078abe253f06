-- Right because what is behind the header is the inner message.
-- Assumes nothing.
use mathlib.Core.Path.{ap, ◌∙◌}
use Rattle.protocol.specs.Bytes.{Bytes}
use Rattle.protocol.specs.Compound.{walk}
use Rattle.compound.specs.Reading.{envelope_of}
use Rattle.transform.proofs.Inner.{lent}
use Rattle.transform.proofs.body.walk_inner.Goals as goal

pub returns : goal.returns
returns c = let a = c.args in c.walk_headers.ensures ∙ ap (λ (t : Bytes). walk t (envelope_of a.e)) (lent a.m.now)
