-- Right because each turn makes the next round key, and the last turn the last.
use Rattle.aes_key_expansion.proofs.Expanding.{Expanding}
use Rattle.aes_key_expansion.proofs.expand_by.Given as goal

abbrev pub invariant-loop-r : goal.invariant-loop-r
invariant-loop-r l = Expanding l.own l.r l.key l.keys
