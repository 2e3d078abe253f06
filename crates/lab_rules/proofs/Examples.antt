-- The paper's own examples, computed on the definition.
-- Assumes nothing.
use mathlib.Core.Path.{◌≡◌, refl}
use mathlib.Core.List.{[], ◌∷◌}
use Rattle.octets.specs.Numbers.{big_endian_after}
use Rattle.trace_format.specs.Format.{good_file_head, read_file_head_by, good_head, readable, read_at}
use Rattle.lab_rules.specs.Replay.{lines_from, lines_of, stop}

-- "a good file head followed by two stray bytes prints just "stop 4""
pub stray_bytes : lines_of (1 ∷ 3 ∷ 17 ∷ 2 ∷ 0 ∷ 0 ∷ []) ≡ stop 4 ∷ []
unfolding lines_of lines_from read_file_head_by good_file_head read_at readable good_head big_endian_after
stray_bytes = refl

-- "a bad file head (short, or another edition) "stop 0""
pub short-head : lines_of (1 ∷ 3 ∷ 17 ∷ []) ≡ stop 0 ∷ []
unfolding lines_of read_file_head_by good_file_head
short-head = refl

pub other_edition : lines_of (3 ∷ 3 ∷ 17 ∷ 2 ∷ []) ≡ stop 0 ∷ []
unfolding lines_of read_file_head_by good_file_head big_endian_after
other_edition = refl

-- "No byte left is the end", in edition 2
pub head_alone : lines_of (2 ∷ 3 ∷ 17 ∷ 2 ∷ []) ≡ []
unfolding lines_of lines_from read_file_head_by good_file_head read_at big_endian_after
head_alone = refl
