-- Right because the four bytes that are replaced hold the flags.
-- Assumes nothing.
use mathlib.Core.Path.{ap, ◌∙◌}
use mathlib.Core.List.{List, ◌++◌}
use Prim.Native.Nat.{ℕ}
use lib.Bits.{bit_or}
use lib.ListN.{take, drop}
use Rattle.octets.specs.Numbers.{to_little_endian}
use Rattle.protocol.specs.Signing.{with_signed_flag}
use Rattle.protocol.proofs.SignedBytes.{flagged_is}
use Rattle.signing.proofs.set_signed.Goals as goal

pub returns-clause-header : goal.returns-clause-header
unfolding with_signed_flag
returns-clause-header c long =
    let flags = c.to_bytes-flags in
    let read = c.number_at in
    let m = c.args.m.now in
    c.copy.ensures
    ∙ flagged_is flags.result m flags.type_inv.1.0.1
    ∙ ap (λ (l : List ℕ). take 16 m ++ (l ++ drop 20 m)) (flags.ensures ∙ ap (λ (n : ℕ). to_little_endian 4 (bit_or n 8)) read.ensures.value)
