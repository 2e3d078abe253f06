-- Right because each field is that of the definition.
-- Assumes nothing.
use mathlib.Core.Bool.{Bool, true, false}
use mathlib.Core.Path.{◌≡◌, refl, ap, ◌∙◌}
use mir.Val.{bool_byte}
use Rattle.connection.specs.Reading.{bit_of}
use Rattle.session_record.specs.declared.Session.{Session}
use Rattle.session_record.specs.Adds.{record_with}
use Rattle.session_record.proofs.new.fresh.Goals as goal

byte_is : (b : Bool) → bool_byte b ≡ bit_of b
byte_is true = refl
byte_is false = refl

pub returns : goal.returns
unfolding record_with
returns c =
    let a = c.args.a in
    let k = c.args.k in
    let size = c.from-3.ensures ∙ byte_is _ ∙ ap bit_of (c.is_wide.ensures ∙ c.of-size.ensures) in
    let guest = c.from.ensures ∙ byte_is a.guest in
    let anonymous = c.from-2.ensures ∙ byte_is a.anonymous in
    let none = c.vacant.ensures in
    λ j. record {
      id = a.id;
      counter = (none j).counter;
      signing = k.signing;
      application = k.application;
      client_to_server = c.held.ensures j;
      server_to_client = c.held-2.ensures j;
      used = 1;
      guest = guest j;
      anonymous = anonymous j;
      wide = size j;
      spare = (none j).spare;
    }
