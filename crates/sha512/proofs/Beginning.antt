-- A state in which nothing was taken in holds no byte.
-- Assumes nothing.
use Rattle.std.proofs.Common.{◌≡◌, [], sym, subst}
use Rattle.sha_2.specs.Sha512.{sha512}
use Rattle.sha_2.proofs.AnyState as any
use Rattle.sha512.specs.declared.Sha512.{Sha512}
use Rattle.sha512.specs.Code.{Holds, nothing_taken}

pub nothing_holds : Holds nothing_taken []
unfolding nothing_taken
nothing_holds = any.nothing_holds sha512

pub new_holds : (s : Sha512) → s ≡ nothing_taken → Holds s []
new_holds s e = subst (λ (x : Sha512). Holds x []) (sym e) nothing_holds
