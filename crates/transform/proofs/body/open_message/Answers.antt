-- Right because what is behind the header is opened with the header's fields (message-opened).
use Rattle.compound.specs.Reading.{envelope_of}
use Rattle.transform_header.specs.Reading.{header_from}
use Rattle.transform.proofs.Opening.{message-opened}
use Rattle.transform.proofs.body.open_message.Goals as goal

pub returns : goal.returns
returns c =
    let a = c.args in
    message-opened a.keyed.cipher a.keyed.key.now (envelope_of a.e) a.m.now (header_from a.h) _ _ c.requires.0 c.open_body.ensures
