-- Right because each turn is one step of `walk_on`: the header is the last, or leads to the next, which passes its tests or is refused by them (WalkLaws).
-- Assumes nothing.
use mathlib.Core.Path.{◌≡◌}
use lib.ListN.{length}
use Prim.Native.Nat.{◌-◌}
use Rattle.compound.proofs.WalkLaws.{Walking}
use Rattle.compound.specs.Reading.{envelope_of}
use Rattle.compound.proofs.walk_headers.Given as goal

abbrev pub invariant-loop-next : goal.invariant-loop-next
invariant-loop-next l = (l.header.message.now ≡ l.message) × Walking l.message (envelope_of l.e) l.header.at l.visited

abbrev pub decreases-loop-next : goal.decreases-loop-next
decreases-loop-next l = length l.message - l.header.at
