-- Right because a message that is long enough has the header that is read, and another one none.
use mathlib.Core.Bool.{Bool, cond}
use mathlib.Core.Path.{sym, ap, ◌∙◌}
use borrow.Author.Tests.{le-ltb, lt-ltb}
use lib.ListN.{length}
use Rattle.protocol.specs.TransformHeader.{TransformHeader, header_of}
use Rattle.transform_header.specs.Reading.{header_in, no_header}
use Rattle.session_record.proofs.session_id.Goals as goal

pub returns-in-Some : goal.returns-in-Some
unfolding header_in
returns-in-Some c =
    let h = c.in-Some.ensures in
    let m = c.args.message.now in
    ap (λ (x : TransformHeader). x.session_id) h.1
    ∙ sym (ap (λ (b : Bool). (cond b no_header (header_of m)).session_id) (le-ltb (length m) 52 h.0))

pub returns-in-None : goal.returns-in-None
unfolding header_in
returns-in-None c =
    let m = c.args.message.now in
    sym (ap (λ (b : Bool). (cond b no_header (header_of m)).session_id) (lt-ltb (length m) 52 c.in-None.ensures))
