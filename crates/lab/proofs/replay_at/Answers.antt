-- Right because each return stands under the reading that it says (TurnLaws).
-- Assumes nothing.
use Rattle.std.proofs.Common.{arith}
use Rattle.trace_format.specs.Format.{edition_of, read_at}
use Rattle.trace_format.proofs.FormatLaws.{was}
use Rattle.lab.proofs.TurnLaws.{stepped, lent-steps, lent_back}
use Rattle.lab.proofs.replay_at.Goals as goal

pub slice_bounds-step-count : goal.slice_bounds-step-count
slice_bounds-step-count c =
    let t = rw c.in-Ok-Some.field-0-is at c.in-Ok-Some.ensures in
    let w = was (edition_of c.args.edition) c.args.file.now c.args.at _ _ _ _ _ t in
    omega arith

pub slice_bounds-step-start : goal.slice_bounds-step-start
slice_bounds-step-start c =
    let t = rw c.in-Ok-Some.field-0-is at c.in-Ok-Some.ensures in
    let w = was (edition_of c.args.edition) c.args.file.now c.args.at _ _ _ _ _ t in
    omega arith

pub slice_bounds-step-end : goal.slice_bounds-step-end
slice_bounds-step-end c =
    let t = rw c.in-Ok-Some.field-0-is at c.in-Ok-Some.ensures in
    let w = was (edition_of c.args.edition) c.args.file.now c.args.at _ _ _ _ _ t in
    omega arith

pub returns-in-Ok-Some : goal.returns-in-Ok-Some
returns-in-Ok-Some c =
    let a = c.args in
    let e = edition_of a.edition in
    let f = a.file.now in
    let t = rw c.in-Ok-Some.field-0-is at c.in-Ok-Some.ensures in
    let w = was e f a.at _ _ _ _ _ t in
    let done = c.step-number in
    let m' = done.new.payload in
    stepped (read_at e f a.at) a.lab f a.at _ _ _ _ _ t c.if-record-le-HELD.true m' _ _ _ (lent-steps e f a.at _ _ _ _ w _ m' _ _ _ done.ensures.steps)
    (lent_back e f a.at _ _ _ _ w m')
