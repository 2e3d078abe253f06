-- Two numbers of eight bytes, the highest byte first, side by side in 16 bytes.
-- Assumes nothing.
use mathlib.Core.Path.{◌≡◌, sym, ap, ap₂, ◌∙◌}
use mathlib.Core.List.{List, ◌++◌}
use Prim.Native.Nat.{ℕ, ◌+◌, ◌*◌, ◌^◌, ◌<◌, ◌≤◌}
use native.Mathlib.Omega.{arith}
use lib.Pow.{high, low}
use lib.ListN.{length, take, drop, length-drop}
use lib.Seq.{take-add, drop-drop, length-take-le}
use Rattle.octets.specs.Numbers.{big_endian, to_big_endian, bytes_at}
use Rattle.octets.specs.Blocks.{zero_padded}
use Rattle.octets.proofs.BlockLaws.{zero_padded-whole}
use Rattle.octets.proofs.NumberLaws.{big_joined, big_split, big_low}

-- two numbers as one of 16 bytes
abbrev pair : ℕ → ℕ → ℕ
pair a b = a * 2 ^ 64 + b

pair-bytes : (xs ys : List ℕ) → length ys ≡ 8 → big_endian (xs ++ ys) ≡ pair (big_endian xs) (big_endian ys)
pair-bytes xs ys h = big_joined xs ys ∙ ap (λ (n : ℕ). big_endian xs * 256 ^ n + big_endian ys) h

-- the two numbers in 16 bytes
pub words-at : (s : List ℕ) (at : ℕ) → at + 16 ≤ length s
    → pair (big_endian (bytes_at at 8 s)) (big_endian (bytes_at (at + 8) 8 s)) ≡ big_endian (zero_padded 16 (drop at s))
words-at s at h =
    let a = length-drop at s in
    let b = length-drop (at + 8) s in
    sym (ap big_endian
    (zero_padded-whole 16 (drop at s) (omega arith)
    ∙ take-add 8 8 (drop at s)
    ∙ ap (λ (l : List ℕ). take 8 (drop at s) ++ take 8 l) (drop-drop 8 at s))
    ∙ pair-bytes (bytes_at at 8 s) (bytes_at (at + 8) 8 s) (length-take-le 8 (drop (at + 8) s) (omega arith)))

-- two numbers, written one behind the other
pub block_is : (a b : ℕ) → b < 2 ^ 64 → to_big_endian 8 a ++ to_big_endian 8 b ≡ to_big_endian 16 (pair a b)
block_is a b hb =
    sym (big_split 8 8 (pair a b)
    ∙ ap₂ (λ (x : ℕ) (l : List ℕ). to_big_endian 8 x ++ l) (high a 64 hb) (sym (big_low 8 (pair a b)) ∙ ap (to_big_endian 8) (low a 64 hb)))
