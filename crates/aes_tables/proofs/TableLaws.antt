-- The rules of the tables, each tested once over the whole table and carried to its entries.
use mathlib.Core.Path.{◌≡◌}
use Prim.Native.Nat.{ℕ, ◌<◌}
use mathlib.Core.Bool.{Bool}
use mathlib.Core.List.{List}
use lib.Dec.{T, eqb, eqb→eq}
use lib.ListN.{length, get_or}
use Rattle.octets.proofs.Every.{every, at, is, entry, both, both_left, both_right}
use Rattle.aes_words.specs.Words.{Bytes, byte0, byte1, byte2, byte3}
use Rattle.aes_tables.specs.Tables.{SubBytesTable, SubMixTable}
use Rattle.rijndael.specs.Field.{IsInverse, affine, inverse, sbox, mul}
use Rattle.rijndael.proofs.Inverse.{inverse_is}

-- the bytes of w are f0 k, f1 k, f2 k and f3 k
abbrev are_bytes : (f0 f1 f2 f3 : ℕ → ℕ) → ℕ → ℕ → Bool
are_bytes f0 f1 f2 f3 k w = both (both (eqb (byte0 w) (f0 k)) (eqb (byte1 w) (f1 k))) (both (eqb (byte2 w) (f2 k)) (eqb (byte3 w) (f3 k)))

bytes : (f0 f1 f2 f3 : ℕ → ℕ) (k w : ℕ) → T (are_bytes f0 f1 f2 f3 k w) → Bytes w (f0 k) (f1 k) (f2 k) (f3 k)
bytes f0 f1 f2 f3 k w t =
    let l = both_left (both (eqb (byte0 w) (f0 k)) (eqb (byte1 w) (f1 k))) (both (eqb (byte2 w) (f2 k)) (eqb (byte3 w) (f3 k))) t in
    let r = both_right (both (eqb (byte0 w) (f0 k)) (eqb (byte1 w) (f1 k))) (both (eqb (byte2 w) (f2 k)) (eqb (byte3 w) (f3 k))) t in
    record {
      at0 = eqb→eq (byte0 w) (f0 k) (both_left (eqb (byte0 w) (f0 k)) (eqb (byte1 w) (f1 k)) l);
      at1 = eqb→eq (byte1 w) (f1 k) (both_right (eqb (byte0 w) (f0 k)) (eqb (byte1 w) (f1 k)) l);
      at2 = eqb→eq (byte2 w) (f2 k) (both_left (eqb (byte2 w) (f2 k)) (eqb (byte3 w) (f3 k)) r);
      at3 = eqb→eq (byte3 w) (f3 k) (both_right (eqb (byte2 w) (f2 k)) (eqb (byte3 w) (f3 k)) r);
    }

-- SUBBYTES and MIXCOLUMNS of the byte k
abbrev pub is_sub_mix : ℕ → ℕ → Bool
is_sub_mix = are_bytes (λ k. mul 2 (sbox k)) sbox sbox (λ k. mul 3 (sbox k))

pub sub_mix_table : {xs : List ℕ} → length xs ≡ 256 → T (every is_sub_mix 0 xs) → SubMixTable xs
sub_mix_table {xs} e t =
    record { entry = λ k h. bytes (λ k. mul 2 (sbox k)) sbox sbox (λ k. mul 3 (sbox k)) k (get_or xs k 0) (at is_sub_mix xs t k (rw e h)) }

pub sub-bytes-table : {xs : List ℕ} → length xs ≡ 256 → T (every (is sbox) 0 xs) → SubBytesTable xs
sub-bytes-table {xs} e t = record { entry = λ k h. entry sbox xs t k (rw e h) }

-- 5.1.1, at each of the 256 entries: the affine transformation of the byte's inverse
pub inverse_then_affine : {xs : List ℕ} → SubBytesTable xs → (k : ℕ) → k < 256 → (get_or xs k 0 ≡ affine (inverse k)) × IsInverse k (inverse k)
unfolding sbox
inverse_then_affine t k h = (t.entry k h, inverse_is k h)
