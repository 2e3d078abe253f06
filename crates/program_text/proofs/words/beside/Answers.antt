-- The folder and the template, one behind the other, are the name, and the room is tested for both.
use Rattle.std.proofs.Common.{◌≡◌, ◌+◌, sym, length, take, length-take-le, arith}
use Rattle.program_text.specs.Words.{template}
use Rattle.program_text.specs.Puts.{Put}
use Rattle.program_text.proofs.PutLaws.{put_then}
use Rattle.program_text.proofs.WordLaws.{folder_le, name_put}
use Rattle.program_text.proofs.words.beside.Goals as goal

pub overflow_add-len : goal.overflow_add-len
overflow_add-len c = omega (arith, folder_le c.args.path.now, c.folder_len-folder.ensures)

pub slice_bounds-copy-end : goal.slice_bounds-copy-end
slice_bounds-copy-end c = let l = folder_le c.args.path.now in sym (length-take-le _ _ (omega (arith, c.folder_len-folder.ensures)))

pub returns-clause-put_name : goal.returns-clause-put_name
returns-clause-put_name c =
    let path = c.args.path.now in
    let room = c.args.room.now in
    let n = c.folder_len-folder.result in
    let l = folder_le path in
    let e = c.folder_len-folder.ensures in
    let m : length (take n path) ≡ n = length-take-le n path (omega arith) in
    let first : Put (take n path) room 0 n c.copy.new.dst = record { place = omega arith; bytes = c.copy.ensures } in
    let second : Put template c.copy.new.dst n (n + 15) c.copy-2.new.dst = record { place = omega arith; bytes = c.copy-2.ensures } in
    name_put e (omega arith) (omega arith) (put_then (omega arith) first second)
