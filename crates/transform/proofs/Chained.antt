-- The lines before the tag as a chain over a header that may be none: what a message that is too short says after 2 counts for nothing.
-- Assumes nothing.
use mathlib.Core.Path.{◌≡◌, refl, ◌∙◌}
use mathlib.Core.Bool.{Bool, true, false}
use mathlib.Core.List.{[], ◌∷◌}
use Prim.Native.Nat.{ℕ}
use borrow.Author.Tests.{leb-false}
use lib.Dec.{eqb, leb}
use lib.ListN.{length}
use Rattle.protocol.specs.Bytes.{Bytes}
use Rattle.protocol.specs.Answer.{first_else, first_of}
use Rattle.protocol.specs.Connection.{Connection}
use Rattle.protocol.specs.TransformHeader.{TransformHeader}
use Rattle.protocol.specs.Refusals.{other_session}
use Rattle.protocol.specs.Calls.{key_tests, message_tests, header_tests}
use Rattle.transform_header.specs.Reading.{header_in}
use Rattle.transform_header.proofs.HeaderIn.{header-there}
use Rattle.transform.specs.Steps.{opening_lines}

module _ (c : Connection) (key : Bytes) (id : ℕ) (m : Bytes) where
  pub lines-chained : (h : TransformHeader) (line6 line4 line1 n : ℕ) → h ≡ header_in m → line6 ≡ first_of (other_session (eqb h.session_id id) ∷ [])
      → line4 ≡ first_else (header_tests c h) line6 → line1 ≡ first_else (message_tests c m) line4 → n ≡ first_else (key_tests c key) line1
      → n ≡ first_of (opening_lines c key id m)
  lines-chained h line6 line4 line1 n e e6 e4 e1 e40 = e40 ∙ rw (e1, e4, e6, e) (go (leb (length m) 52) refl)
    where
      later : TransformHeader → ℕ
      later h = first_else (header_tests c h) (first_of (other_session (eqb h.session_id id) ∷ []))

      go : (b : Bool) → leb (length m) 52 ≡ b → first_else (key_tests c key) (first_else (message_tests c m) (later (header_in m))) ≡ first_of (opening_lines c key id m)
      go true b = rw b
      go false b = rw (header-there m (leb-false (length m) 52 b))
