-- The specification, computed on example 1 of SP 800-38C, appendix C.1, with AES-128: a nonce of 7 bytes, a tag of 4.
-- The cipher is computed at its inputs first; the rest of the example follows from these values.
-- Assumes nothing.
use mathlib.Core.List.{List, [], ◌∷◌, ◌++◌, map}
use mathlib.Core.Path.{◌≡◌, refl, ap}
use Prim.Native.Nat.{ℕ}
use lib.ListN.{get_or}
use Rattle.octets.specs.Blocks.{over_blocks, zero_padded}
use Rattle.octets.specs.Numbers.{to_big_endian}
use Rattle.octets.specs.Xor.{xor_with}
use Rattle.aes.specs.Field.{sbox, affine, inverse, even_powers, mul, products, xtimes, rotated}
use Rattle.aes.specs.Cipher.{cipher, rounds, add_round_key, mix_columns, mixed, shift_rows, sub_bytes, state}
use Rattle.aes.specs.KeyExpansion.{key_expansion, round_keys, words, key_words, temp, rcon, xpower, word_of, xor_word, sub_word, rot_word}
use Rattle.ctr.specs.BlockCipher.{block_cipher}
use Rattle.ctr.specs.Ctr.{ctr}
use Rattle.ccm.specs.Formatting.{flags, first_block, associated, formatted, counter_block}
use Rattle.ccm.specs.General.{mac, tag, encrypt}

abbrev key : List ℕ
key = 0x40 ∷ 0x41 ∷ 0x42 ∷ 0x43 ∷ 0x44 ∷ 0x45 ∷ 0x46 ∷ 0x47 ∷ 0x48 ∷ 0x49 ∷ 0x4a ∷ 0x4b ∷ 0x4c ∷ 0x4d ∷ 0x4e ∷ 0x4f ∷ []

abbrev nonce : List ℕ
nonce = 0x10 ∷ 0x11 ∷ 0x12 ∷ 0x13 ∷ 0x14 ∷ 0x15 ∷ 0x16 ∷ []

abbrev aad : List ℕ
aad = 0x00 ∷ 0x01 ∷ 0x02 ∷ 0x03 ∷ 0x04 ∷ 0x05 ∷ 0x06 ∷ 0x07 ∷ []

abbrev payload : List ℕ
payload = 0x20 ∷ 0x21 ∷ 0x22 ∷ 0x23 ∷ []

E : List ℕ → List ℕ
E = block_cipher (key_expansion 4 10 key)

-- the chain's blocks xored with what goes before, and Y₀ to Y₂
abbrev chained : List (List ℕ)
chained =
    (0x4f ∷ 0x10 ∷ 0x11 ∷ 0x12 ∷ 0x13 ∷ 0x14 ∷ 0x15 ∷ 0x16 ∷ 0x00 ∷ 0x00 ∷ 0x00 ∷ 0x00 ∷ 0x00 ∷ 0x00 ∷ 0x00 ∷ 0x04 ∷ [])
    ∷ (0x2a ∷ 0xda ∷ 0x39 ∷ 0xba ∷ 0x20 ∷ 0x98 ∷ 0x8b ∷ 0xb1 ∷ 0x68 ∷ 0x37 ∷ 0x8f ∷ 0x5b ∷ 0xc7 ∷ 0x40 ∷ 0x9b ∷ 0x88 ∷ [])
    ∷ (0x0e ∷ 0x1a ∷ 0xb7 ∷ 0x70 ∷ 0x0a ∷ 0xd7 ∷ 0xc9 ∷ 0x02 ∷ 0x68 ∷ 0xca ∷ 0xf2 ∷ 0xc5 ∷ 0x97 ∷ 0xc4 ∷ 0x92 ∷ 0x92 ∷ [])
    ∷ []

abbrev values : List (List ℕ)
values =
    (0x2a ∷ 0xd2 ∷ 0x39 ∷ 0xbb ∷ 0x22 ∷ 0x9b ∷ 0x8f ∷ 0xb4 ∷ 0x6e ∷ 0x30 ∷ 0x8f ∷ 0x5b ∷ 0xc7 ∷ 0x40 ∷ 0x9b ∷ 0x88 ∷ [])
    ∷ (0x2e ∷ 0x3b ∷ 0x95 ∷ 0x53 ∷ 0x0a ∷ 0xd7 ∷ 0xc9 ∷ 0x02 ∷ 0x68 ∷ 0xca ∷ 0xf2 ∷ 0xc5 ∷ 0x97 ∷ 0xc4 ∷ 0x92 ∷ 0x92 ∷ [])
    ∷ (0x60 ∷ 0x84 ∷ 0x34 ∷ 0x1b ∷ 0x32 ∷ 0x04 ∷ 0x2b ∷ 0xf0 ∷ 0x00 ∷ 0xb4 ∷ 0xb7 ∷ 0x99 ∷ 0x55 ∷ 0x53 ∷ 0xa3 ∷ 0xc5 ∷ [])
    ∷ []

-- counter blocks 0 and 1, and S₀ and S₁
abbrev counters : List (List ℕ)
counters = counter_block 8 nonce 0 ∷ counter_block 8 nonce 1 ∷ []

abbrev stream : List (List ℕ)
stream =
    (0x2d ∷ 0x28 ∷ 0x11 ∷ 0x46 ∷ 0x10 ∷ 0x67 ∷ 0x6c ∷ 0x26 ∷ 0x32 ∷ 0xba ∷ 0xd7 ∷ 0x48 ∷ 0x55 ∷ 0x9a ∷ 0x67 ∷ 0x9a ∷ [])
    ∷ (0x51 ∷ 0x43 ∷ 0x23 ∷ 0x78 ∷ 0xe4 ∷ 0x74 ∷ 0xb3 ∷ 0x39 ∷ 0x71 ∷ 0x31 ∷ 0x84 ∷ 0x84 ∷ 0x10 ∷ 0x3c ∷ 0xdd ∷ 0xfb ∷ [])
    ∷ []

chain_computed : map E chained ≡ values
unfolding E sbox affine inverse even_powers mul products xtimes rotated cipher rounds add_round_key mix_columns mixed shift_rows sub_bytes state
    key_expansion round_keys words key_words temp rcon xpower word_of xor_word sub_word rot_word
chain_computed = refl

stream_computed : map E counters ≡ stream
unfolding to_big_endian E sbox affine inverse even_powers mul products xtimes rotated cipher rounds add_round_key mix_columns mixed shift_rows sub_bytes state
    key_expansion round_keys words key_words temp rcon xpower word_of xor_word sub_word rot_word
stream_computed = refl

at : (xs ys : List (List ℕ)) → map E xs ≡ ys → (k : ℕ) → get_or (map E xs) k [] ≡ get_or ys k []
at xs ys e k = ap (λ (l : List (List ℕ)). get_or l k []) e

example_1 : encrypt E 8 nonce payload ++ tag E 8 4 nonce aad payload ≡ 0x71 ∷ 0x62 ∷ 0x01 ∷ 0x5b ∷ 0x4d ∷ 0xac ∷ 0x25 ∷ 0x5d ∷ []
unfolding over_blocks zero_padded to_big_endian xor_with ctr flags first_block associated formatted mac tag encrypt
example_1 =
    let y = at chained values chain_computed in
    let s = at counters stream stream_computed in
    rw (y 0, y 1, y 2, s 0, s 1)
