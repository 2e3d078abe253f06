-- The walk over the headers of a compounded message: RULES 9; MS-SMB2 3.3.5.2.1.1. "Walk" is
-- our word for judging one header after the other, each found by the one before.
-- Assumes nothing.
use Rattle.std.specs.Prelude.{true, cond, not, List, [], ◌∷◌, ℕ, zero, suc, ◌+◌, eqb, length}
use Rattle.protocol.specs.Bytes.{Bytes}
use Rattle.protocol.specs.Answer.{Answer, done, Test, judge}
use Rattle.protocol.specs.InnerHeader.{is_related, next_command, Envelope}
use Rattle.protocol.specs.Refusals.{inner_too_short, not_header, first_related, inner_session, next_outside, next_unaligned}

-- number 11, and "At the first header: 12, 13, 14"
abbrev pub first_header_tests : Bytes → Envelope → List Test
first_header_tests m e = inner_too_short m ∷ not_header m 0 ∷ first_related m ∷ inner_session true m e 0 ∷ []

-- of the header d bytes after the one at p: "15 if d < 64 or p + d + 64 is more than the length, then 16 if d is not a multiple of 8,
-- then at the new header 12, then 14 if it is not related and its id differs" and it is no break notice from the server
abbrev pub next_header_tests : Bytes → Envelope → ℕ → ℕ → List Test
next_header_tests m e p d =
    next_outside m p d
    ∷ next_unaligned d
    ∷ not_header m (p + d)
    ∷ inner_session (not (is_related m (p + d))) m e (p + d)
    ∷ []

-- on from the header at p, the n-th, which passed: "NextCommand d = 0 ends the chain". At most k more headers are visited; each
-- is at least 64 bytes on, so that the length of m is enough (`walk-enough`, in proofs/)
abbrev pub walk_on : ℕ → Bytes → Envelope → ℕ → ℕ → Answer
walk_on zero m e p n = done n
walk_on (suc k) m e p n =
    let d = next_command m p in
    let rest = walk_on k m e (p + d) (n + 1) in
    let later = judge (next_header_tests m e p d) rest in
    cond (eqb d 0) (done n) later

-- the answer for the inner message m: "The walk ends at the first header that breaks a rule"
unfoldable pub walk : Bytes → Envelope → Answer
walk m e = judge (first_header_tests m e) (walk_on (length m) m e 0 1)
