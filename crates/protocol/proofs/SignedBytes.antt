-- The flag and the signature in a message: as the code puts them there, in front of more bytes, and where they are there already.
-- Assumes nothing.
use mathlib.Core.Path.{◌≡◌, refl, sym, ap, ap₂, ◌∙◌}
use mathlib.Core.Bool.{true}
use mathlib.Core.List.{[], ◌∷◌, ◌++◌, append_assoc}
use Prim.Native.Nat.{ℕ, suc, ◌+◌, ◌*◌, ◌/◌, ◌%◌, ◌≤◌, ◌<◌}
use native.Mathlib.Omega.{arith}
use borrow.Author.Tests.{eqb-true}
use lib.Bits.{bit_or, or_shr, or_mod, or_zero_r}
use lib.ListN.{length, get_or, take, drop, length-append, length-drop, take-append-drop}
use lib.Seq.{paste, take-length, length-take-le, take-append-le, drop-append-le, drop-cons, drop-drop}
use Rattle.octets.specs.Numbers.{bytes_at, little_endian, to_little_endian}
use Rattle.octets.proofs.NumberLaws.{length-to_little_endian}
use Rattle.protocol.specs.Bytes.{Bytes, number_at}
use Rattle.protocol.specs.Signing.{is_signed, with_signed_flag, with_signature}

-- ---- as the code puts them there

-- 16 bytes, copied into the place of the signature
pub stored_is : (s m : Bytes) → length s ≡ 16 → paste m 48 s (length s) ≡ with_signature s m
unfolding with_signature
stored_is s m l =
    ap₂ (λ (x : Bytes) (k : ℕ). (take 48 m ++ x) ++ drop (48 + k) m) (take-length s) l ∙ append_assoc (take 48 m) s (drop 64 m)

-- the flags, copied into their place
pub flagged_is : (flags m : Bytes) → length flags ≡ 4 → paste m 16 flags (length flags) ≡ take 16 m ++ (flags ++ drop 20 m)
flagged_is flags m l =
    ap₂ (λ (x : Bytes) (k : ℕ). (take 16 m ++ x) ++ drop (16 + k) m) (take-length flags) l ∙ append_assoc (take 16 m) flags (drop 20 m)

pub flagged_length : (m : Bytes) → 64 ≤ length m → length (with_signed_flag m) ≡ length m
unfolding with_signed_flag
flagged_length m long =
    let flags = to_little_endian 4 (bit_or (number_at 16 4 m) 8) in
    let l16 : length (take 16 m) ≡ 16 = length-take-le 16 m (omega arith) in
    let a = length-append (take 16 m) (flags ++ drop 20 m) in
    let b = length-append flags (drop 20 m) in
    omega (arith, l16, length-to_little_endian 4 (bit_or (number_at 16 4 m) 8), length-drop 20 m)

-- ---- in front of more bytes

module _ (a b : Bytes) (long : 64 ≤ length a) where
  same_field : (p n : ℕ) → p + n ≤ 64 → bytes_at p n (a ++ b) ≡ bytes_at p n a
  same_field p n h =
      ap (take n) (drop-append-le p a b (omega arith)) ∙ take-append-le n (drop p a) b (let l = length-drop p a in omega arith)

  pub flagged_append : with_signed_flag (a ++ b) ≡ with_signed_flag a ++ b
  unfolding with_signed_flag
  flagged_append =
      let same : number_at 16 4 (a ++ b) ≡ number_at 16 4 a = ap little_endian (same_field 16 4 (omega arith)) in
      let flags = to_little_endian 4 (bit_or (number_at 16 4 a) 8) in
      ap₂ (λ (x : Bytes) (y : Bytes). x ++ (to_little_endian 4 (bit_or (number_at 16 4 (a ++ b)) 8) ++ y))
      (take-append-le 16 a b (omega arith)) (drop-append-le 20 a b (omega arith))
      ∙ ap (λ (n : ℕ). take 16 a ++ (to_little_endian 4 (bit_or n 8) ++ (drop 20 a ++ b))) same
      ∙ ap (λ (x : Bytes). take 16 a ++ x) (sym (append_assoc flags (drop 20 a) b))
      ∙ sym (append_assoc (take 16 a) (flags ++ drop 20 a) b)

  pub stored-append : (s : Bytes) → with_signature s (a ++ b) ≡ with_signature s a ++ b
  unfolding with_signature
  stored-append s =
      ap₂ (λ (x : Bytes) (y : Bytes). x ++ (s ++ y)) (take-append-le 48 a b (omega arith)) (drop-append-le 64 a b long)
      ∙ ap (λ (x : Bytes). take 48 a ++ x) (sym (append_assoc s (drop 64 a) b))
      ∙ sym (append_assoc (take 48 a) (s ++ drop 64 a) b)

-- ---- where the flag is there already

bit-set : (b : ℕ) → b ≡ 1 → bit_or b 1 ≡ 1
bit-set b e = ap (λ (x : ℕ). bit_or x 1) e

odd_or_one : (y : ℕ) → y % 2 ≡ 1 → bit_or y 1 ≡ y
odd_or_one y h =
    let half : bit_or y 1 / 2 ≡ y / 2 = or_shr y 1 1 ∙ or_zero_r (y / 2) in
    let low : bit_or y 1 % 2 ≡ 1 = or_mod y 1 1 ∙ bit-set (y % 2) h in
    omega arith

eight_there : (x : ℕ) → x / 8 % 2 ≡ 1 → bit_or x 8 ≡ x
eight_there x h =
    let high : bit_or x 8 / 8 ≡ x / 8 = or_shr x 8 3 ∙ odd_or_one (x / 8) h in
    let low : bit_or x 8 % 8 ≡ x % 8 = or_mod x 8 3 ∙ or_zero_r (x % 8) in
    omega arith

byte_back : (k a : ℕ) (l : Bytes) → a < 256 → to_little_endian k (little_endian l) ≡ l → to_little_endian (suc k) (little_endian (a ∷ l)) ≡ a ∷ l
unfolding little_endian to_little_endian
byte_back k a l h below =
    let low : (a + 256 * little_endian l) % 256 ≡ a = omega arith in
    let high : (a + 256 * little_endian l) / 256 ≡ little_endian l = omega arith in
    ap₂ (λ (x n : ℕ). x ∷ to_little_endian k n) low high ∙ ap (λ (x : Bytes). a ∷ x) below

four_back : (a b c d : ℕ) → a < 256 → b < 256 → c < 256 → d < 256 → to_little_endian 4 (little_endian (a ∷ b ∷ c ∷ d ∷ [])) ≡ a ∷ b ∷ c ∷ d ∷ []
unfolding to_little_endian
four_back a b c d ha hb hc hd =
    byte_back 3 a (b ∷ c ∷ d ∷ []) ha (byte_back 2 b (c ∷ d ∷ []) hb (byte_back 1 c (d ∷ []) hc (byte_back 0 d [] hd refl)))

pub flag-there : (m : Bytes) → 64 ≤ length m → get_or m 16 0 < 256 → get_or m 17 0 < 256 → get_or m 18 0 < 256 → get_or m 19 0 < 256
    → is_signed m ≡ true → with_signed_flag m ≡ m
unfolding with_signed_flag
flag-there m long h16 h17 h18 h19 e =
    let four : bytes_at 16 4 m ≡ get_or m 16 0 ∷ get_or m 17 0 ∷ get_or m 18 0 ∷ get_or m 19 0 ∷ [] =
    ap (take 4) (drop-cons m 16 0 (omega arith))
    ∙ ap (λ (l : Bytes). get_or m 16 0 ∷ take 3 l) (drop-cons m 17 0 (omega arith))
    ∙ ap (λ (l : Bytes). get_or m 16 0 ∷ get_or m 17 0 ∷ take 2 l) (drop-cons m 18 0 (omega arith))
    ∙ ap (λ (l : Bytes). get_or m 16 0 ∷ get_or m 17 0 ∷ get_or m 18 0 ∷ take 1 l) (drop-cons m 19 0 (omega arith)) in
    let back : to_little_endian 4 (number_at 16 4 m) ≡ bytes_at 16 4 m =
    ap (λ (l : Bytes). to_little_endian 4 (little_endian l)) four
    ∙ four_back (get_or m 16 0) (get_or m 17 0) (get_or m 18 0) (get_or m 19 0) h16 h17 h18 h19
    ∙ sym four in
    ap (λ (n : ℕ). take 16 m ++ (to_little_endian 4 n ++ drop 20 m)) (eight_there (number_at 16 4 m) (eqb-true (number_at 16 4 m / 8 % 2) 1 e))
    ∙ ap (λ (l : Bytes). take 16 m ++ (l ++ drop 20 m)) back
    ∙ ap (λ (l : Bytes). take 16 m ++ (bytes_at 16 4 m ++ l)) (sym (drop-drop 4 16 m))
    ∙ ap (λ (l : Bytes). take 16 m ++ l) (take-append-drop 4 (drop 16 m))
    ∙ take-append-drop 16 m
