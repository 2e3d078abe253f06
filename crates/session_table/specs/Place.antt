-- Places of a table: what a search finds, and the record at a place.
-- Assumes nothing.
use Rattle.std.specs.Prelude.{Bool, true, false, cond, List, [], ◌∷◌, ℕ, suc, length, get_or, set, Option, Some, None}
use Rattle.session_record.specs.declared.Session.{Session}
use Rattle.session_record.specs.Reading.{free, is_wanted}

-- the place of the first record that p holds of, or how many there are
unfoldable pub first : (Session → Bool) → List Session → ℕ
first p [] = 0
first p (x ∷ xs) = cond (p x) 0 (suc (first p xs))

-- the record at a place, or a free one past the end
abbrev pub record_at : ℕ → List Session → Session
record_at i ys = get_or ys i free

-- the table with the record at a place; past the end nothing changes
abbrev pub put_at : ℕ → Session → List Session → List Session
put_at i s ys = set ys i s

-- what a search of the code found, as a place
abbrev pub place_in : List Session → Option ℕ → ℕ
place_in ys (Some i) = i
place_in ys None = length ys

-- the place of the session of an id, and of the first free record; or how many records there are
abbrev pub place_of : ℕ → List Session → ℕ
place_of id ys = first (is_wanted true id) ys

abbrev pub free_place : List Session → ℕ
free_place ys = first (is_wanted false 0) ys
