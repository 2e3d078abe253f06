-- Right because a key of either size has as many round keys as its length says, and the array has room for them.
use mathlib.Core.List.{List}
use mathlib.Core.Path.{◌∙◌, ap₂}
use Prim.Native.Nat.{ℕ, ◌+◌}
use lib.ListN.{length, take}
use Rattle.aes.proofs.KeySizeLaws.{some-rounds, below_fifteen, first_keys}
use Rattle.aes.proofs.Cipher.new.Goals as goal

pub of_round_keys-requires : goal.of_round_keys-requires
of_round_keys-requires c =
    let n = length c.args.key.now in rw c.rounds.ensures (some-rounds n, below_fifteen n c.requires)

pub returns : goal.returns
returns c =
    c.of_round_keys.ensures ∙ ap₂ (λ (n : ℕ) (l : List (List ℕ)). take (n + 1) l) c.rounds.ensures c.round_keys.ensures ∙ first_keys c.args.key.now
