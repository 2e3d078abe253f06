-- Right because a key of 32 bytes is two round keys, and any other has 16 bytes and is one.
use native.Mathlib.Omega.{arith}
use Rattle.aes_key_expansion.proofs.KeyLengths.{of_sizes}
use Rattle.aes_key_expansion.proofs.expand.Goals as goal

pub expand_by-requires-2-clause-own : goal.expand_by-requires-2-clause-own
expand_by-requires-2-clause-own c = of_sizes _ c.requires (λ e. omega arith) (λ e. omega arith)
