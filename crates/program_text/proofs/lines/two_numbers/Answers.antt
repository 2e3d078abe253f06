-- Two numbers, a space and the end, one behind the other, are the line, and there is room for all.
use Rattle.std.proofs.Common.{◌∙◌, sym, [], ◌∷◌, ◌++◌, length-append, arith}
use Rattle.program_text.specs.Lines.{decimal, two_numbers}
use Rattle.program_text.proofs.DecimalLaws.{length-decimal}
use Rattle.program_text.proofs.PutLaws.{put-done, put_then, left, room_le}
use Rattle.program_text.proofs.lines.two_numbers.Goals as goal

pub put-q-requires : goal.put-q-requires
put-q-requires c =
    let h = room_le c.args.text.now c.args.at (sym c.has_room.ensures ∙ c.if-not-has_room.false) in
    let i = left 20 22 (length-decimal c.args.a) h c.put_decimal-p.ensures in
    omega arith

pub put_decimal-e-requires : goal.put_decimal-e-requires
put_decimal-e-requires c =
    let h = room_le c.args.text.now c.args.at (sym c.has_room.ensures ∙ c.if-not-has_room.false) in
    let i = left 20 22 (length-decimal c.args.a) h c.put_decimal-p.ensures in
    let j = left 1 21 (omega arith) i c.put-q.ensures in
    omega arith

pub put-requires : goal.put-requires
put-requires c =
    let h = room_le c.args.text.now c.args.at (sym c.has_room.ensures ∙ c.if-not-has_room.false) in
    let i = left 20 22 (length-decimal c.args.a) h c.put_decimal-p.ensures in
    let j = left 1 21 (omega arith) i c.put-q.ensures in
    let l = left 20 1 (length-decimal c.args.b) j c.put_decimal-e.ensures in
    omega arith

pub returns : goal.returns
unfolding two_numbers
returns c =
    let e = sym c.has_room.ensures ∙ c.if-not-has_room.false in
    let h = room_le c.args.text.now c.args.at e in
    let x = length-decimal c.args.a in
    let y = length-decimal c.args.b in
    let s = length-append (decimal c.args.a) (32 ∷ []) in
    let t = length-append (decimal c.args.a ++ (32 ∷ [])) (decimal c.args.b) in
    let first = put_then (omega arith) c.put_decimal-p.ensures c.put-q.ensures in
    put-done e (put_then (omega arith) (put_then (omega arith) first c.put_decimal-e.ensures) c.put.ensures)
