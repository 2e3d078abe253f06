-- The cipher of a key: its number of rounds, and its round keys in an array of fifteen.
use mathlib.Core.Bool.{true}
use mathlib.Core.List.{List}
use mathlib.Core.Path.{◌≡◌, sym, ap, ◌∙◌}
use Prim.Native.Nat.{ℕ, ◌+◌, ◌-◌, ◌<◌}
use native.Mathlib.Omega.{arith}
use lib.ListN.{length, drop, take, take-append-drop}
use lib.Seq.{take_at, length-take-le}
use Rattle.rijndael.specs.Cipher.{cipher}
use Rattle.rijndael.specs.BlockCipher.{block_cipher, expanded_key, round_count}
use Rattle.rijndael.proofs.Lengths.{length-expanded_key}
use Rattle.rijndael.proofs.LongerKeys.{cipher_longer}
use Rattle.aes_key_expansion.specs.KeySizes.{is_key_length, fifteen}
use Rattle.aes_key_expansion.proofs.KeyLengths.{of_sizes}
pub use Rattle.aes_key_expansion.proofs.KeyLengths.{is_16, is_32, of_length_16}

-- what the cipher asks of a number of rounds
pub some-rounds : (n : ℕ) → 0 < round_count n
unfolding round_count
some-rounds n = omega arith

pub below_fifteen : (n : ℕ) → is_key_length n ≡ true → round_count n < 15
unfolding round_count
below_fifteen n h = of_sizes n h (λ e. omega arith) (λ e. omega arith)

-- the round keys of a key are the first of the fifteen
pub first_keys : (key : List ℕ) → take (round_count (length key) + 1) (fifteen (expanded_key key)) ≡ expanded_key key
unfolding fifteen
first_keys key = take_at (expanded_key key) _ (round_count (length key) + 1) (length-expanded_key key)

-- round keys behind the last of n rounds are not read
pub first_read : (n : ℕ) (keys : List (List ℕ)) → n < length keys → cipher n keys ≡ block_cipher (take (n + 1) keys)
first_read n keys h =
    let l : length (take (n + 1) keys) ≡ n + 1 = length-take-le (n + 1) keys (omega arith) in
    let nr : n ≡ length (take (n + 1) keys) - 1 = omega arith in
    ap (cipher n) (sym (take-append-drop (n + 1) keys))
    ∙ cipher_longer (take (n + 1) keys) (drop (n + 1) keys) n (omega arith)
    ∙ ap (λ (m : ℕ). cipher m (take (n + 1) keys)) nr

-- .. so that what is seen of a cipher says what it does
pub under : (n : ℕ) (keys : List (List ℕ)) {seen : List (List ℕ)} (block : List ℕ) → n < length keys → take (n + 1) keys ≡ seen
    → cipher n keys block ≡ block_cipher seen block
under n keys block h e = ap (λ (E : List ℕ → List ℕ). E block) (first_read n keys h ∙ ap block_cipher e)
