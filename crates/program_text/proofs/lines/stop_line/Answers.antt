-- A word and a number, one behind the other, are the line, and there is room for both.
use Rattle.std.proofs.Common.{◌∙◌, sym, [], ◌∷◌, length-append, arith}
use Rattle.program_text.specs.Lines.{decimal, stop_line}
use Rattle.program_text.proofs.DecimalLaws.{length-decimal}
use Rattle.program_text.proofs.PutLaws.{put-done, put_then, left, room_le}
use Rattle.program_text.proofs.lines.stop_line.Goals as goal

pub put-requires : goal.put-requires
put-requires c =
    let h = room_le c.args.text.now c.args.at (sym c.has_room.ensures ∙ c.if-not-has_room.false) in
    let i = left 5 37 (omega arith) h c.put-p.ensures in
    let j = left 20 17 (length-decimal c.args.place) i c.put_decimal-q.ensures in
    omega arith

pub returns : goal.returns
unfolding stop_line
returns c =
    let e = sym c.has_room.ensures ∙ c.if-not-has_room.false in
    let h = room_le c.args.text.now c.args.at e in
    let l = length-decimal c.args.place in
    let s = length-append (115 ∷ 116 ∷ 111 ∷ 112 ∷ 32 ∷ []) (decimal c.args.place) in
    put-done e (put_then (omega arith) (put_then (omega arith) c.put-p.ensures c.put_decimal-q.ensures) c.put.ensures)
