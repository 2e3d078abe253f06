-- How long heads are, and runs of bytes one behind the other: what the writer, the rescue and the theorems share.
-- Assumes nothing.
use mathlib.Core.Path.{◌≡◌, refl, sym, ap, ◌∙◌}
use mathlib.Core.Bool.{Bool, true, false}
use mathlib.Core.List.{◌++◌}
use Prim.Native.Nat.{ℕ, ◌+◌, ◌<◌, ◌≤◌}
use native.Mathlib.Omega.{arith}
use borrow.Author.Tests.{le-leb, lt-leb, leb-true, leb-false}
use lib.Dec.{leb}
use lib.ListN.{length, take, drop, length-append}
use lib.Seq.{paste, take_at, drop_at, take-length}
use Rattle.octets.proofs.Paste.{paste_more}
use Rattle.octets.proofs.NumberLaws.{length-to_big_endian}
use Rattle.trace_format.specs.Format.{Bytes, Edition}
use Rattle.trace_format.specs.Records.{record_head, file_head_bytes, bit}

pub length-record_head : (e : Edition) (k : ℕ) (d : Bool) (n : ℕ) → length (record_head e k d n) ≡ 4
unfolding record_head
length-record_head e k d n = length-to_big_endian 4 _

pub length-file_head_bytes : (e d c : ℕ) → length (file_head_bytes e d c) ≡ 4
unfolding file_head_bytes
length-file_head_bytes e d c = length-to_big_endian 4 _

pub bit_small : (d : Bool) → bit d ≤ 1
bit_small true = omega arith
bit_small false = omega arith

-- two tests of numbers that hold together
pub leb_same : (a b x y : ℕ) → (a ≤ b → x ≤ y) → (b < a → y < x) → leb a b ≡ leb x y
leb_same a b x y f g = by (leb a b) refl
  where
    by : (t : Bool) → leb a b ≡ t → leb a b ≡ leb x y
    by true e = e ∙ sym (le-leb x y (f (leb-true a b e)))
    by false e = e ∙ sym (lt-leb x y (g (leb-false a b e)))

-- two runs, one behind the other
pub paste_two : (d : Bytes) (at : ℕ) (a b : Bytes) → at + length a ≤ length d
    → paste (paste d at a (length a)) (at + length a) b (length b) ≡ paste d at (a ++ b) (length (a ++ b))
paste_two d at a b h =
    let l = length-append a b in
    let m : take (length a) a ≡ take (length a) (a ++ b) = take-length a ∙ sym (take_at a b (length a) refl) in
    ap (λ (x : Bytes). paste (take at d ++ x ++ drop (at + length a) d) (at + length a) b (length b)) m
    ∙ paste_more d at (a ++ b) b (length a) (length b) (omega arith) (omega arith) (ap (take (length b)) (sym (drop_at a b (length a) refl)))
    ∙ ap (paste d at (a ++ b)) (sym l)
