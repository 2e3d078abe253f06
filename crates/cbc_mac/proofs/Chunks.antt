-- A byte string cut into arrays of 16 bytes: array j is block j.
use mathlib.Core.Path.{◌≡◌, sym, ap, ◌∙◌}
use mathlib.Core.List.{List, []}
use Prim.Native.Nat.{ℕ, zero, suc, ◌+◌, ◌*◌, ◌<◌, ◌≤◌}
use native.Mathlib.Omega.{arith}
use lib.ListN.{length, get_or, drop, length-drop}
use lib.Seq.{drop-drop}
use Rattle.std.specs.Simd.{first_chunks}
use Rattle.octets.specs.Blocks.{zero_padded, block}
use Rattle.octets.proofs.BlockLaws.{zero_padded-whole}

pub chunk-block : (k j : ℕ) (s : List ℕ) → j < k → 16 * k ≤ length s → get_or (first_chunks 16 k s) j [] ≡ block s j
chunk-block zero j s h l = absurd (omega arith)
chunk-block (suc k) zero s h l = sym (zero_padded-whole 16 s (omega arith))
chunk-block (suc k) (suc j) s h l =
    let d = length-drop 16 s in
    let n : 16 + 16 * j ≡ 16 * suc j = omega arith in
    chunk-block k j (drop 16 s) (omega arith) (omega arith)
    ∙ ap (zero_padded 16) (drop-drop (16 * j) 16 s) ∙ ap (λ (i : ℕ). zero_padded 16 (drop i s)) n
