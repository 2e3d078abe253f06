-- A program that calls `lab::replay_at` again and again over one lent file, over what each call promises (`Turns`): RULES 16.
-- Assumes nothing.
use Rattle.std.specs.Prelude.{◌≡◌, List, [], ◌∷◌, ℕ, zero, suc, ◌+◌, ◌≤◌, length}
use Rattle.protocol.specs.Bytes.{Bytes}
use Rattle.trace_format.specs.Format.{Edition, edition_of, file_head, bad_file_head, read_file_head, read_at}
use Rattle.lab_rules.specs.Steps.{State, fresh_state}
use Rattle.lab_rules.specs.Replay.{outcome, state_after, file_after, place_after, Line, stop, line_then, lines_of}

-- its lines from place p on, with the record's index i: each call gets the lab, the file and the place as the one before left them. At most
-- n calls
unfoldable pub turns_from : ℕ → Edition → State → Bytes → ℕ → ℕ → List Line
turns_from zero e s f p i = []
turns_from (suc n) e s f p i =
    let r = read_at e f p in line_then (outcome r s f p) i (turns_from n e (state_after r s f) (file_after r s f) (place_after r p) (i + 1))

pub record Replayed : Type 0 where
  -- they are the lines of the file as it was lent. As many calls as bytes are enough
  pub same_lines : (f : Bytes) (e d c n : ℕ) → read_file_head f ≡ file_head e d c → length f ≤ 4 + n
      → turns_from n (edition_of e) (fresh_state d c) f 4 0 ≡ lines_of f
  -- under a bad file head no call is made
  pub no_head : (f : Bytes) → read_file_head f ≡ bad_file_head → lines_of f ≡ stop 0 ∷ []
