-- What a replay decides about the window through which it reads its file: RULES 16.9 and 16.10. The structs and the enum are the code's.
-- Assumes nothing.
use Rattle.std.specs.Prelude.{◌≡◌, ℕ, ◌+◌, ◌-◌, ◌%◌, ◌^◌, min, Bool, cond, ◌||◌, length, take, drop, ◌==◌, nat_le, nat_lt}
use Rattle.std.proofs.Math.Seq.{paste}
use Rattle.trace_format.specs.Format.{Bytes, Edition, HeadReading, head, bad_head, read_head}
use Rattle.trace_window.specs.declared.Cursor.{Cursor}
use Rattle.trace_window.specs.declared.Step.{Step}
use Rattle.trace_window.specs.declared.Step.TheVariants.{Turn, Read, Begin, Passed, CutOff}

-- "The replay program holds 65,536 bytes"
abbrev pub held : ℕ
held = 65536

-- ---- what comes next

-- at a record, of which m bytes are in the window, and which the file may end in: its line is known where its head is bad, or its payload is
-- there; one that is not held is passed over
abbrev pub by_head : HeadReading → ℕ → Bool → Step
by_head (head k d n) m ended = cond (nat_lt held n) (Begin n) (cond (nat_le (4 + n) m || ended) Turn Read)
by_head bad_head m ended = cond (nat_le 4 m || ended) Turn Read

-- the file's bytes in the window, from the record at hand on
abbrev pub in_window : Cursor → Bytes → Bytes
in_window c w = drop c.at (take c.have w)

-- "left" are the bytes of a long record, of "size" in all, that are still to be passed over
unfoldable pub next_of : Edition → Cursor → Bytes → Step
next_of e c w =
    cond (nat_lt 0 c.left) (cond c.ended CutOff Read)
    (cond (nat_lt 0 c.size) Passed
    (by_head (read_head e (in_window c w)) (length (in_window c w)) c.ended))

-- ---- what the window is afterwards

-- of a long record, as many bytes are passed over as the window has
abbrev pub passing : Cursor → ℕ → Cursor
passing c n =
    record {
      at = c.at + n;
      have = c.have;
      left = c.left - n;
      size = c.size;
      ended = c.ended;
      place = c.place;
      index = c.index;
    }

unfoldable pub passed : Cursor → Cursor
passed c = passing c (min c.left (c.have - c.at))

-- a long record begins: a head, and a payload of n bytes
unfoldable pub begun : ℕ → Cursor → Cursor
begun n c =
    passed
    (record {
      at = c.at;
      have = c.have;
      left = (4 + n) % 2 ^ 64;
      size = (4 + n) % 2 ^ 64;
      ended = c.ended;
      place = c.place;
      index = c.index;
    })

-- n bytes are read behind the m that were moved to the window's start; none at the end of the file
unfoldable pub took : ℕ → ℕ → Cursor → Cursor
took m n c =
    passed
    (record {
      at = 0;
      have = (m + n) % 2 ^ 64;
      left = c.left;
      size = c.size;
      ended = (n == 0);
      place = c.place;
      index = c.index;
    })

-- the record at hand had n bytes, and the next one begins in the window at q
abbrev pub behind : ℕ → ℕ → Cursor → Cursor
behind n q c =
    record {
      at = q;
      have = c.have;
      left = 0;
      size = 0;
      ended = c.ended;
      place = (c.place + n) % 2 ^ 64;
      index = (c.index + 1) % 2 ^ 64;
    }

-- "begins" behind the file head
abbrev pub first : ℕ → Bool → Cursor
first have ended =
    record {
      at = 4;
      have = have;
      left = 0;
      size = 0;
      ended = ended;
      place = 4;
      index = 0;
    }

-- the bytes from a place on, moved to the window's start: r of them; behind them the window is what it was
pub record MovesUp (w : Bytes) (at have r : ℕ) (w' : Bytes) : Type 0 where
  pub count : r ≡ min have (length w) - at
  pub bytes : w' ≡ paste w 0 (drop at w) (min have (length w) - at)
