-- The cipher, put together from its rounds.
use mathlib.Core.Path.{◌≡◌, refl, ◌∙◌, ap, ap₂}
use mathlib.Core.List.{List, []}
use Prim.Native.Nat.{ℕ, zero, suc, ◌+◌, ◌-◌, ◌<◌}
use native.Mathlib.Omega.{arith}
use lib.ListN.{get_or}
use Rattle.aes_words.specs.Words.{state_of, bytes_of}
use Rattle.aes_words.specs.declared.Columns.{Columns}
use Rattle.octets.specs.Xor.{xor_with, xor}
use Rattle.rijndael.specs.Cipher.{cipher, rounds, state, add_round_key, mix_columns, shift_rows, sub_bytes}

-- the round key is added byte by byte
added : (f : ℕ → ℕ) (k : List ℕ) → xor (state f) k ≡ add_round_key (state f) k
unfolding add_round_key state xor_with
added f k = refl

pub first-key : (s : Columns) (k : List ℕ) → xor (state_of s) k ≡ add_round_key (state_of s) k
unfolding state_of bytes_of add_round_key state xor_with
first-key s k = refl

pub mixed-key : (s k : List ℕ) → xor (mix_columns s) k ≡ add_round_key (mix_columns s) k
unfolding mix_columns
mixed-key s k = added _ k

pub shifted-key : (s k : List ℕ) → xor (shift_rows s) k ≡ add_round_key (shift_rows s) k
unfolding shift_rows
shifted-key s k = added _ k

-- the rows are shifted before or after
pub rows-bytes : (s : List ℕ) → sub_bytes (shift_rows s) ≡ shift_rows (sub_bytes s)
unfolding sub_bytes shift_rows state
rows-bytes s = refl

-- from the block, the first key, the state after the first key and after r rounds, and key number i, which is the last
pub ciphered : (nr r i : ℕ) (w : List (List ℕ)) (block : List ℕ) {first start middle last result : List ℕ}
    → first ≡ get_or w 0 [] → start ≡ add_round_key block first → middle ≡ rounds r w start → last ≡ get_or w i []
    → result ≡ add_round_key (shift_rows (sub_bytes middle)) last → r ≡ nr - 1 → i ≡ nr → result ≡ cipher nr w block
unfolding cipher
ciphered nr r i w block f s m l e er ei = cc

-- round r, from what the rounds before it made
pub one-round : (r : ℕ) (w : List (List ℕ)) (start : List ℕ) {before key after : List ℕ} → 0 < r → before ≡ rounds (r - 1) w start → key ≡ get_or w r []
    → after ≡ add_round_key (mix_columns (shift_rows (sub_bytes before))) key → after ≡ rounds (r + 1 - 1) w start
unfolding rounds
one-round zero w start h b k e = absurd (omega arith)
one-round (suc r) w start h b k e =
    let prior : suc r - 1 ≡ r = omega arith in
    let next : suc r ≡ suc r + 1 - 1 = omega arith in
    let before = b ∙ ap (λ (n : ℕ). rounds n w start) prior in
    e ∙ ap₂ (λ (x y : List ℕ). add_round_key (mix_columns (shift_rows (sub_bytes x))) y) before k ∙ ap (λ (n : ℕ). rounds n w start) next

-- the cipher, by other names for the block and the result
pub named : (nr : ℕ) (w : List (List ℕ)) {s block t result : List ℕ} → s ≡ block → t ≡ cipher nr w s → result ≡ t → result ≡ cipher nr w block
named nr w b e r = cc
