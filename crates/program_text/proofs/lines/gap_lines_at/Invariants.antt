-- Before each turn as many lines stand in the text, behind the place, as turns were made.
use Rattle.program_text.proofs.PutLaws.{Listing}
use Rattle.program_text.proofs.lines.gap_lines_at.Given as goal

abbrev pub invariant-loop-i : goal.invariant-loop-i
invariant-loop-i l = Listing l.list l.initial.text l.gaps l.start l.at l.i l.text
