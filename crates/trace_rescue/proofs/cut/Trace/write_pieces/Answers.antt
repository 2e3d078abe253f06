-- Right because after each turn what is left to write, written now, gives what is due (PieceLaws).
-- Assumes nothing.
use Rattle.std.proofs.Common.{true, false, refl}
use Rattle.trace_format.specs.Format.{edition_of}
use Rattle.trace_rescue.proofs.PieceLaws.{place-ends, place-copied, place-fits, place_list, place-dropped}
use Rattle.trace_rescue.proofs.cut.Trace.write_pieces.Goals as goal

pub copy-requires : goal.copy-requires
copy-requires c =
    let t = c.args.self.now in
    let l = c.loop-p in
    place-fits (edition_of t.edition) t.file.now c.args.room.now c.args.list.now l.p l.w l.k l.room l.list l.invariant c.loop-p-test.true true _
    c.in-Record.ensures refl

pub loop-p-preserved-in-Record : goal.loop-p-preserved-in-Record
loop-p-preserved-in-Record c =
    let t = c.args.self.now in
    let l = c.loop-p in
    place-copied (edition_of t.edition) t.file.now c.args.room.now c.args.list.now l.p l.w l.k l.room l.list l.invariant c.loop-p-test.true true _
    c.in-Record.ensures refl _ c.copy.ensures

pub list_gap-requires : goal.list_gap-requires
list_gap-requires c =
    let t = c.args.self.now in
    let l = c.loop-p in
    place_list (edition_of t.edition) t.file.now c.args.room.now c.args.list.now l.p l.w l.k l.room l.list l.invariant c.loop-p-test.true false _
    c.in-Gap.ensures refl

pub loop-p-preserved : goal.loop-p-preserved
loop-p-preserved c =
    let t = c.args.self.now in
    let l = c.loop-p in
    place-dropped (edition_of t.edition) t.file.now c.args.room.now c.args.list.now l.p l.w l.k l.room l.list l.invariant c.loop-p-test.true false _
    c.in-Gap.ensures refl _ c.list_gap.ensures

pub returns : goal.returns
returns c =
    let t = c.args.self.now in
    let l = c.loop-p in
    place-ends (edition_of t.edition) t.file.now c.args.room.now c.args.list.now l.p l.w l.k l.room l.list l.invariant c.loop-p-test.false
