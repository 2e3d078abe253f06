-- A number and a word, one behind the other, are the line, and there is room for both.
use Rattle.std.proofs.Common.{◌∙◌, sym, arith}
use Rattle.program_text.specs.Lines.{long_line}
use Rattle.program_text.proofs.DecimalLaws.{length-decimal}
use Rattle.program_text.proofs.PutLaws.{put-done, put_then, left, room_le}
use Rattle.program_text.proofs.lines.long_line.Goals as goal

pub put-requires : goal.put-requires
put-requires c =
    let h = room_le c.args.text.now c.args.at (sym c.has_room.ensures ∙ c.if-not-has_room.false) in
    let i = left 20 22 (length-decimal c.args.index) h c.put_decimal-p.ensures in
    omega arith

pub returns : goal.returns
unfolding long_line
returns c =
    let e = sym c.has_room.ensures ∙ c.if-not-has_room.false in
    let h = room_le c.args.text.now c.args.at e in
    let l = length-decimal c.args.index in
    put-done e (put_then (omega arith) c.put_decimal-p.ensures c.put.ensures)
