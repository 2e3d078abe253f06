-- Right because each way makes of the fields what the definition makes of them.
use mathlib.Core.Path.{◌≡◌, ap, ◌∙◌}
use Prim.Native.Nat.{◌-◌}
use native.Mathlib.Nat.{le_refl}
use native.Mathlib.Omega.{arith}
use lib.ListN.{length, take}
use lib.Seq.{length-take-le, length-paste}
use Rattle.aes.specs.BlockCipher.{block_cipher}
use Rattle.cmac.proofs.AnyState.{updated-within, updated-beyond}
use Rattle.cmac.proofs.Mac.update.Goals as goal

pub returns-then-piece-room : goal.returns-then-piece-room
returns-then-piece-room c =
    let n = c.min-n in
    let a = c.args in
    updated-within (block_cipher a.cipher.now) a.self a.piece.now n.result n.ensures _ (omega arith) c.copy.ensures

pub returns : goal.returns
returns c =
    let n = c.min-n in
    let a = c.args in
    let room : length a.self.buffer ≡ 16 = c.well_formed.0.1.1.1.0.1.0.1 in
    let x₁ = take (16 - n.result) a.piece.now in
    let l₁ = length-take-le (16 - n.result) a.piece.now (omega arith) in
    let pasted = length-paste a.self.buffer n.result x₁ (length x₁) (omega (arith, l₁, n.ensures)) (le_refl (length x₁)) in
    updated-beyond (block_cipher a.cipher.now) a.self a.piece.now n.result n.ensures _ _ _ _ (omega arith)
    (ap length c.copy-2.ensures ∙ pasted ∙ room)
    c.copy-2.ensures c.chain-first.ensures c.chain-chain.ensures c.copy-3.ensures
