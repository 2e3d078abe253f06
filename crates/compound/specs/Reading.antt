-- The struct of the code, read as the rules'.
-- Assumes nothing.
use Rattle.protocol.specs.InnerHeader as rules
use Rattle.compound.specs.declared.Envelope.{Envelope}

abbrev pub envelope_of : Envelope → rules.Envelope
envelope_of e = record { id = e.id; from_server = e.from_server }
