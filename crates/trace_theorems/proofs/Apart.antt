-- A reader that gets a file in pieces: the front of what is left is enough.
-- Assumes nothing.
use mathlib.Core.Path.{◌≡◌, refl, ap, ap₂, ◌∙◌}
use mathlib.Core.List.{[], ◌∷◌}
use mathlib.Core.Bool.{Bool, true, false, ◌&&◌}
use Prim.Native.Nat.{ℕ, zero, suc, ◌+◌, ◌%◌, ◌≤◌}
use native.Mathlib.Omega.{arith}
use lib.Dec.{leb, eqb}
use lib.ListN.{length, take, drop, length-take}
use lib.Seq.{take-take}
use Rattle.octets.specs.Numbers.{big_endian}
use Rattle.trace_format.specs.Format.{Bytes, Edition, head_in, kind_in, from_server_in, length_in, admitted, good_head, size_in, readable}
use Rattle.trace_format.specs.Records.{Record, record_in}
use Rattle.trace_format.proofs.FormatLaws.{readable-good}
use Rattle.trace_format.proofs.ByteLaws.{leb_same}

front : (k n m : ℕ) (s : Bytes) → k + n ≤ m → take n (drop k (take m s)) ≡ take n (drop k s)
front zero n m s h = take-take n m s (omega arith)
front (suc k) n zero s h = absurd (omega arith)
front (suc k) n (suc m) [] h = refl
front (suc k) n (suc m) (x ∷ xs) h = front k n m xs (omega arith)

module _ (e : Edition) (m : ℕ) (s : Bytes) (four : 4 ≤ m) where
  same_head : head_in (take m s) ≡ head_in s
  same_head = ap big_endian (take-take 4 m s four)

  pub same_good : good_head e (take m s) ≡ good_head e s
  unfolding good_head
  same_good =
      let l = length-take m s in
      ap₂ (λ (a : Bool) (h : ℕ). a && (eqb (h % e.unit) 0 && admitted e (kind_in h) (length_in e h)))
      (leb_same 4 (length (take m s)) 4 (length s) (λ h. omega arith) (λ h. omega arith)) same_head

  module _ (holds : good_head e s ≡ true → size_in e s ≤ m) where
    pub same_readable : readable e (take m s) ≡ readable e s
    unfolding readable
    same_readable =
        ap₂ (λ (g : Bool) (h : ℕ). g && leb (4 + length_in e h) (length (take m s))) same_good same_head
        ∙ by (good_head e s) refl
      where
        by : (g : Bool) → good_head e s ≡ g → (g && leb (size_in e s) (length (take m s))) ≡ (g && leb (size_in e s) (length s))
        by true q =
            let l = length-take m s in
            let fits = holds q in
            leb_same (size_in e s) (length (take m s)) (size_in e s) (length s) (λ h. omega arith) (λ h. omega arith)
        by false q = refl

    pub same_record : readable e s ≡ true → record_in e (take m s) ≡ record_in e s
    unfolding record_in
    same_record q =
        let g = readable-good e s q in
        let h = holds g.0 in
        ap {B = Record} (λ (x : ℕ). record { kind = kind_in x; from_server = from_server_in x; payload = take (length_in e x) (drop 4 (take m s)) }) same_head
        ∙ ap {B = Record} (λ (p : Bytes). record { kind = kind_in (head_in s); from_server = from_server_in (head_in s); payload = p })
        (front 4 (length_in e (head_in s)) m s h)
