-- The specification, computed on RFC 4493, section 4, and SP 800-38B, D.1, with AES-128: the subkeys, the empty message, and one of a
-- whole block. The cipher is computed at its inputs first; the rest follows from these values. The longer examples are left to a program.
-- Assumes nothing.
use mathlib.Core.List.{List, [], ◌∷◌, map}
use mathlib.Core.Path.{◌≡◌, refl, ap, ◌∙◌}
use Prim.Native.Nat.{ℕ}
use lib.ListN.{get_or, replicate}
use Rattle.octets.specs.Blocks.{over_blocks, zero_padded}
use Rattle.octets.specs.Numbers.{big_endian_after, to_big_endian}
use Rattle.octets.specs.Xor.{xor_with, xor}
use Rattle.aes.specs.Field.{sbox, affine, inverse, even_powers, mul, products, xtimes, rotated}
use Rattle.aes.specs.Cipher.{cipher, rounds, add_round_key, mix_columns, mixed, shift_rows, sub_bytes, state}
use Rattle.aes.specs.KeyExpansion.{key_expansion, round_keys, words, key_words, temp, rcon, xpower, word_of, xor_word, sub_word, rot_word}
use Rattle.ctr.specs.BlockCipher.{block_cipher}
use Rattle.cbc_mac.specs.CbcMac.{cbc_mac}
use Rattle.cmac.specs.Cmac.{doubled, k1, k2, last_block, cmac}

abbrev key : List ℕ
key = 0x2b ∷ 0x7e ∷ 0x15 ∷ 0x16 ∷ 0x28 ∷ 0xae ∷ 0xd2 ∷ 0xa6 ∷ 0xab ∷ 0xf7 ∷ 0x15 ∷ 0x88 ∷ 0x09 ∷ 0xcf ∷ 0x4f ∷ 0x3c ∷ []

abbrev message : List ℕ
message = 0x6b ∷ 0xc1 ∷ 0xbe ∷ 0xe2 ∷ 0x2e ∷ 0x40 ∷ 0x9f ∷ 0x96 ∷ 0xe9 ∷ 0x3d ∷ 0x7e ∷ 0x11 ∷ 0x73 ∷ 0x93 ∷ 0x17 ∷ 0x2a ∷ []

E : List ℕ → List ℕ
E = block_cipher (key_expansion 4 10 key)

-- the zeros that the subkeys come from, and the last block of each message, xored with its subkey
abbrev blocks : List (List ℕ)
blocks =
    replicate 16 0
    ∷ (0x77 ∷ 0xdd ∷ 0xac ∷ 0x30 ∷ 0x6a ∷ 0xe2 ∷ 0x66 ∷ 0xcc ∷ 0xf9 ∷ 0x0b ∷ 0xc1 ∷ 0x1e ∷ 0xe4 ∷ 0x6d ∷ 0x51 ∷ 0x3b ∷ [])
    ∷ (0x90 ∷ 0x2f ∷ 0x68 ∷ 0xfa ∷ 0x1b ∷ 0x31 ∷ 0xac ∷ 0xf0 ∷ 0x95 ∷ 0xb8 ∷ 0x9e ∷ 0x9e ∷ 0x01 ∷ 0xa5 ∷ 0xbf ∷ 0xf4 ∷ [])
    ∷ []

abbrev values : List (List ℕ)
values =
    (0x7d ∷ 0xf7 ∷ 0x6b ∷ 0x0c ∷ 0x1a ∷ 0xb8 ∷ 0x99 ∷ 0xb3 ∷ 0x3e ∷ 0x42 ∷ 0xf0 ∷ 0x47 ∷ 0xb9 ∷ 0x1b ∷ 0x54 ∷ 0x6f ∷ [])
    ∷ (0xbb ∷ 0x1d ∷ 0x69 ∷ 0x29 ∷ 0xe9 ∷ 0x59 ∷ 0x37 ∷ 0x28 ∷ 0x7f ∷ 0xa3 ∷ 0x7d ∷ 0x12 ∷ 0x9b ∷ 0x75 ∷ 0x67 ∷ 0x46 ∷ [])
    ∷ (0x07 ∷ 0x0a ∷ 0x16 ∷ 0xb4 ∷ 0x6b ∷ 0x4d ∷ 0x41 ∷ 0x44 ∷ 0xf7 ∷ 0x9b ∷ 0xdd ∷ 0x9d ∷ 0xd0 ∷ 0x4a ∷ 0x28 ∷ 0x7c ∷ [])
    ∷ []

computed : map E blocks ≡ values
unfolding E sbox affine inverse even_powers mul products xtimes rotated cipher rounds add_round_key mix_columns mixed shift_rows sub_bytes state
    key_expansion round_keys words key_words temp rcon xpower word_of xor_word sub_word rot_word
computed = refl

at : (k : ℕ) → get_or (map E blocks) k [] ≡ get_or values k []
at k = ap (λ (l : List (List ℕ)). get_or l k []) computed

subkey_1 : k1 E ≡ 0xfb ∷ 0xee ∷ 0xd6 ∷ 0x18 ∷ 0x35 ∷ 0x71 ∷ 0x33 ∷ 0x66 ∷ 0x7c ∷ 0x85 ∷ 0xe0 ∷ 0x8f ∷ 0x72 ∷ 0x36 ∷ 0xa8 ∷ 0xde ∷ []
unfolding doubled big_endian_after to_big_endian xor_with
subkey_1 = rw (at 0)

subkey_2 : k2 E ≡ 0xf7 ∷ 0xdd ∷ 0xac ∷ 0x30 ∷ 0x6a ∷ 0xe2 ∷ 0x66 ∷ 0xcc ∷ 0xf9 ∷ 0x0b ∷ 0xc1 ∷ 0x1e ∷ 0xe4 ∷ 0x6d ∷ 0x51 ∷ 0x3b ∷ []
unfolding doubled big_endian_after to_big_endian xor_with
subkey_2 = ap doubled subkey_1

-- the one block that is enciphered, from its subkey
whole : last_block E message ≡ get_or blocks 2 []
unfolding last_block xor_with
whole = ap (xor message) subkey_1

padded : last_block E [] ≡ get_or blocks 1 []
unfolding last_block xor_with zero_padded
padded = ap (xor (zero_padded 16 (0x80 ∷ []))) subkey_2

example_1 : cmac E [] ≡ 0xbb ∷ 0x1d ∷ 0x69 ∷ 0x29 ∷ 0xe9 ∷ 0x59 ∷ 0x37 ∷ 0x28 ∷ 0x7f ∷ 0xa3 ∷ 0x7d ∷ 0x12 ∷ 0x9b ∷ 0x75 ∷ 0x67 ∷ 0x46 ∷ []
unfolding cmac xor_with zero_padded over_blocks
example_1 = ap (λ (b : List ℕ). cbc_mac E (replicate 16 0) b 1) padded ∙ at 1

example_2 : cmac E message ≡ 0x07 ∷ 0x0a ∷ 0x16 ∷ 0xb4 ∷ 0x6b ∷ 0x4d ∷ 0x41 ∷ 0x44 ∷ 0xf7 ∷ 0x9b ∷ 0xdd ∷ 0x9d ∷ 0xd0 ∷ 0x4a ∷ 0x28 ∷ 0x7c ∷ []
unfolding cmac xor_with zero_padded over_blocks
example_2 = ap (λ (b : List ℕ). cbc_mac E (replicate 16 0) b 1) whole ∙ at 2
