use Rattle.std.proofs.Common.{rules, subst}
use Rattle.std.specs.Prelude.{Some, Ok, Err}
use Rattle.compound.specs.Reading.{envelope_of}
use Rattle.compound.specs.Walking.{Next}
use Rattle.compound.proofs.WalkLaws.{first_refuses, first_stands, first_walks, ends, next_refuses, next_walks}
use Rattle.compound.proofs.walk_headers.Goals as goal

pub returns-in_err-header : goal.returns-in_err-header
returns-in_err-header c =
    let a = c.args in
    let no = first_refuses a.message.now (envelope_of a.e) c.first.result c.first.ensures _ c.in_err-header.was in
    search (rules, no)

pub loop-next-init : goal.loop-next-init
loop-next-init c =
    let a = c.args in
    let was = c.in_ok-header.was in (
      (first_stands a.message.now (envelope_of a.e) c.first.result c.first.ensures _ was).of_message,
      first_walks a.message.now (envelope_of a.e) c.first.result c.first.ensures _ was,
    )

pub returns-in_err-next : goal.returns-in_err-next
returns-in_err-next c =
    let a = c.args in
    let e = envelope_of a.e in
    let w = c.loop-next.invariant in
    let p = c.loop-next.header.at in
    let why = c.in_err-next.field-0.0 in
    let told : Next a.message.now e p (Err why) = subst (λ m. Next m e p (Err why)) w.0 c.in_err-next.ensures in
    let no = next_refuses a.message.now e p _ w.1 told.0 why told.1 in
    search (rules, no)

pub loop-next-preserved : goal.loop-next-preserved
loop-next-preserved c =
    let a = c.args in
    let e = envelope_of a.e in
    let w = c.loop-next.invariant in
    let p = c.loop-next.header.at in
    let said = subst (λ m. Next m e p (Ok c.in_ok-next.field-0)) w.0 c.in_ok-next.ensures in
    let told : Next a.message.now e p (Ok (Some c.in-Some.next)) = subst (λ h. Next a.message.now e p (Ok h)) c.in-Some.is said in
    (told.1.found.of_message, next_walks a.message.now e p _ w.1 told.0 c.in-Some.next told.1)
