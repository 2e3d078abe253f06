use Rattle.std.proofs.Common.{◌-◌, ◌≤◌, length}
use Rattle.program_files.proofs.gather.Given as goal

abbrev pub invariant-loop-have : goal.invariant-loop-have
invariant-loop-have g l = l.have ≤ length l.window

-- each read that gives a byte leaves less of the window
abbrev pub decreases-loop-have : goal.decreases-loop-have
decreases-loop-have g l = length l.initial.window - l.have
