-- Right because no step on the way changes what is not the cursor's, the window's or the lines'.
-- Assumes nothing.
use Rattle.std.proofs.Common.{◌≡◌}
use Rattle.replay.proofs.replay.Replay.ready.Given as goal

abbrev pub invariant-loop : goal.invariant-loop
invariant-loop g l = l.self ≡ record l.initial.self { cursor = l.self.cursor; window = l.self.window; lines = l.self.lines }
