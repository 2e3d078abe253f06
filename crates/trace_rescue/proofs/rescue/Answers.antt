-- Right because each return stands under the tests of `roomy` (RescueLaws).
-- Assumes nothing.
use Rattle.std.proofs.lemmas.Result.{err_from_is_err_and}
use Rattle.trace_rescue.proofs.RescueLaws.{head-unreadable, head-there, room_small, room-there, rescued}
use Rattle.trace_rescue.proofs.rescue.Goals as goal

pub returns-in_err-head : goal.returns-in_err-head
returns-in_err-head c =
    let a = c.args in
    let p = err_from_is_err_and c.from_residual.result c.from_residual.ensures.1 in
    rw p.1 (head-unreadable a.file.now a.room.now a.list.now c.in_err-head.ensures)

pub measure-sizes-requires : goal.measure-sizes-requires
measure-sizes-requires c = let a = c.args in head-there a.file.now a.room.now a.list.now _ _ _ c.in_ok-head.ensures

pub returns-then-not-fit : goal.returns-then-not-fit
returns-then-not-fit c =
    let a = c.args in
    room_small a.file.now a.room.now a.list.now _ _ _ c.in_ok-head.ensures _ c.measure-sizes.ensures _ c.fit.ensures c.if-not-fit.true

pub write_file-requires : goal.write_file-requires
write_file-requires c =
    let a = c.args in
    room-there a.file.now a.room.now a.list.now _ _ _ c.in_ok-head.ensures _ c.measure-sizes.ensures _ c.fit.ensures c.if-not-fit.false

pub returns : goal.returns
returns c =
    let a = c.args in
    rescued a.file.now a.room.now a.list.now _ _ _ c.in_ok-head.ensures _ c.measure-sizes.ensures _ c.fit.ensures c.if-not-fit.false _ _ c.write_file.ensures
