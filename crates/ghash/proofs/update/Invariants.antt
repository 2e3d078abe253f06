-- Right because each turn takes the next block in, and the last one may be short.
use mathlib.Core.Path.{◌≡◌}
use Rattle.octets.specs.Blocks.{over_blocks}
use Rattle.ghash_field.specs.Elements.{element_of}
use Rattle.ghash.specs.Ghash.{step}
use Rattle.ghash.proofs.update.Given as goal

abbrev pub invariant-loop-j : goal.invariant-loop-j
invariant-loop-j l = element_of l.z ≡ over_blocks (step l.k) (element_of l.initial.z) l.s l.j
