-- What the code answers, read as an answer of the writer, and what the writer promises: RULES 16.
-- Assumes nothing.
use Rattle.std.specs.Prelude.{◌≡◌, Bool, cond, ◌&&◌, ℕ, ◌+◌, leb, length, Result, Ok, Err}
use Rattle.std.proofs.Math.Seq.{paste}
use Rattle.trace_format.specs.Format.{Bytes, unreadable_number}
use Rattle.trace_format.specs.Records.{Record}
use Rattle.trace_format.specs.declared.Unreadable.{Unreadable}

abbrev pub record_with : ℕ → Bool → Bytes → Record
record_with k d p = record { kind = k; from_server = d; payload = p }

-- written up to a place, or refused with a number
pub data Written : Type 0 where
  up_to : ℕ → Written
  refused : ℕ → Written

abbrev pub written_of : Result ℕ Unreadable → Written
written_of (Ok n) = up_to n
written_of (Err e) = refused unreadable_number

-- "answers 36 exactly to a file head or record that the reader would not read or the lent room does not hold": bytes b, that are admitted
-- or not, for place p of a room of n bytes
abbrev pub write_answer : Bool → Bytes → ℕ → ℕ → Written
write_answer ok b n p = cond (ok && leb (p + length b) n) (up_to (p + length b)) (refused unreadable_number)

-- "and writes nothing"
abbrev pub room_after : Bool → Bytes → Bytes → ℕ → Bytes
room_after ok b room p = cond (ok && leb (p + length b) (length room)) (paste room p b (length b)) room

pub record Writes (ok : Bool) (b room : Bytes) (p : ℕ) (r : Result ℕ Unreadable) (after : Bytes) : Type 0 where
  pub answer : written_of r ≡ write_answer ok b (length room) p
  pub bytes : after ≡ room_after ok b room p
