-- Right because the code ends under the key of the state.
-- Assumes nothing.
use mathlib.Core.Path.{ap, ◌∙◌}
use mathlib.Core.List.{List}
use Prim.Native.Nat.{ℕ}
use Rattle.aes.specs.BlockCipher.{block_cipher}
use Rattle.cmac.specs.Running.{finished}
use Rattle.signing_pieces.specs.Running.{signature_from}
use Rattle.signing_pieces.proofs.SignState.signature.Goals as goal

pub returns : goal.returns
unfolding signature_from
returns c =
    let s = c.args.self in
    c.finish.ensures ∙ ap (λ (k : List (List ℕ)). finished (block_cipher k) s.code) c.cipher.ensures
