-- A state in which nothing was taken in holds no byte, under every cipher.
use mathlib.Core.Path.{◌≡◌, refl, sym, subst}
use mathlib.Core.List.{List, []}
use Prim.Native.Nat.{ℕ}
use lib.ListN.{replicate}
use Rattle.cmac.specs.declared.Mac.{Mac}
use Rattle.cmac.specs.Running.{Holds, nothing_taken}
use Rattle.cmac.proofs.Streaming.{running_start}

pub nothing_holds : (E : List ℕ → List ℕ) → Holds nothing_taken E []
unfolding nothing_taken
nothing_holds E = running_start E (replicate 16 0) refl

pub new_holds : (s : Mac) → s ≡ nothing_taken → (E : List ℕ → List ℕ) → Holds s E []
new_holds s e E = subst (λ (x : Mac). Holds x E []) (sym e) (nothing_holds E)
