-- Laws for the layers above: the lengths of what the cipher and the key expansion give.
use mathlib.Core.Path.{◌≡◌, refl, ap}
use mathlib.Core.List.{List}
use Prim.Native.Nat.{ℕ, zero, suc, ◌+◌, ◌-◌, ◌/◌}
use native.Mathlib.Omega.{arith}
use lib.ListN.{length}
use Rattle.rijndael.specs.Cipher.{cipher, add_round_key, state}
use Rattle.rijndael.specs.KeyExpansion.{key_expansion, round_keys}
use Rattle.rijndael.specs.BlockCipher.{block_cipher, round_count, expanded_key}

pub length-cipher : (nr : ℕ) (w : List (List ℕ)) (s : List ℕ) → length (cipher nr w s) ≡ 16
unfolding cipher add_round_key state
length-cipher nr w s = refl

length-round_keys : (n r : ℕ) (w : List (List ℕ)) → length (round_keys n r w) ≡ n
unfolding round_keys
length-round_keys zero r w = refl
length-round_keys (suc n) r w = ap suc (length-round_keys n (suc r) w)

pub length_expansion : (nk nr : ℕ) (key : List ℕ) → length (key_expansion nk nr key) ≡ nr + 1
unfolding key_expansion
length_expansion nk nr key = length-round_keys _ _ _

-- the expanded key of a key of 16 bytes, and of one of 32
pub expanded_16 : (key : List ℕ) → length key ≡ 16 → expanded_key key ≡ key_expansion 4 10 key
unfolding expanded_key round_count
expanded_16 key h = ap (λ (n : ℕ). key_expansion (n / 4) (n / 4 + 6) key) h

pub expanded_32 : (key : List ℕ) → length key ≡ 32 → expanded_key key ≡ key_expansion 8 14 key
unfolding expanded_key round_count
expanded_32 key h = ap (λ (n : ℕ). key_expansion (n / 4) (n / 4 + 6) key) h

pub length-expanded_key : (key : List ℕ) → length (expanded_key key) ≡ round_count (length key) + 1
unfolding expanded_key
length-expanded_key key = length_expansion _ _ key

-- a key's length says how many rounds there are
pub by_length : (key : List ℕ) → block_cipher (expanded_key key) ≡ cipher (round_count (length key)) (expanded_key key)
by_length key =
    let l : length (expanded_key key) - 1 ≡ round_count (length key) = let e = length-expanded_key key in omega arith in
    ap (λ (n : ℕ). cipher n (expanded_key key)) l

pub length-block_cipher : (keys : List (List ℕ)) (s : List ℕ) → length (block_cipher keys s) ≡ 16
length-block_cipher keys s = length-cipher (length keys - 1) keys s
