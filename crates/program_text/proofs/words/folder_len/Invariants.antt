-- Each turn finds in the bytes so far what the definition finds.
use Rattle.std.proofs.Common.{◌≡◌, drop}
use Rattle.program_text.specs.Words.{last_slash}
use Rattle.program_text.proofs.words.folder_len.Given as goal

abbrev pub invariant-loop-i : goal.invariant-loop-i
invariant-loop-i l = last_slash l.found l.i (drop l.i l.path) ≡ last_slash 0 0 l.path
