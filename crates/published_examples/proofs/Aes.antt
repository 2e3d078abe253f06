-- The specification, computed on the examples of FIPS 197, appendix B and C.3, for keys of 128 and of 256 bits. The other vectors are left
-- to a program.
use mathlib.Core.Path.{◌≡◌, refl}
use mathlib.Core.List.{List, [], ◌∷◌}
use Prim.Native.Nat.{ℕ}
use Rattle.aes.specs.Field.{sbox, affine, inverse, even_powers, mul, products, xtimes, rotated}
use Rattle.aes.specs.Cipher.{cipher, rounds, add_round_key, mix_columns, mixed, shift_rows, sub_bytes, state}
use Rattle.aes.specs.BlockCipher.{block_cipher, expanded_key, round_count}
use Rattle.aes.specs.KeyExpansion.{key_expansion, round_keys, words, key_words, temp, rcon, xpower, word_of, xor_word, sub_word, rot_word}

abbrev key : List ℕ
key = 0x2b ∷ 0x7e ∷ 0x15 ∷ 0x16 ∷ 0x28 ∷ 0xae ∷ 0xd2 ∷ 0xa6 ∷ 0xab ∷ 0xf7 ∷ 0x15 ∷ 0x88 ∷ 0x09 ∷ 0xcf ∷ 0x4f ∷ 0x3c ∷ []

abbrev block : List ℕ
block = 0x32 ∷ 0x43 ∷ 0xf6 ∷ 0xa8 ∷ 0x88 ∷ 0x5a ∷ 0x30 ∷ 0x8d ∷ 0x31 ∷ 0x31 ∷ 0x98 ∷ 0xa2 ∷ 0xe0 ∷ 0x37 ∷ 0x07 ∷ 0x34 ∷ []

appendix_b : block_cipher (expanded_key key) block
    ≡ 0x39 ∷ 0x25 ∷ 0x84 ∷ 0x1d ∷ 0x02 ∷ 0xdc ∷ 0x09 ∷ 0xfb ∷ 0xdc ∷ 0x11 ∷ 0x85 ∷ 0x97 ∷ 0x19 ∷ 0x6a ∷ 0x0b ∷ 0x32 ∷ []
unfolding sbox affine inverse even_powers mul products xtimes rotated cipher rounds add_round_key mix_columns mixed shift_rows sub_bytes state
    expanded_key round_count key_expansion round_keys words key_words temp rcon xpower word_of xor_word sub_word rot_word
appendix_b = refl

abbrev long_key : List ℕ
long_key =
    0x00 ∷ 0x01 ∷ 0x02 ∷ 0x03 ∷ 0x04 ∷ 0x05 ∷ 0x06 ∷ 0x07 ∷ 0x08 ∷ 0x09 ∷ 0x0a ∷ 0x0b ∷ 0x0c ∷ 0x0d ∷ 0x0e ∷ 0x0f
    ∷ 0x10 ∷ 0x11 ∷ 0x12 ∷ 0x13 ∷ 0x14 ∷ 0x15 ∷ 0x16 ∷ 0x17 ∷ 0x18 ∷ 0x19 ∷ 0x1a ∷ 0x1b ∷ 0x1c ∷ 0x1d ∷ 0x1e ∷ 0x1f ∷ []

appendix_c_3 : block_cipher (expanded_key long_key)
    (0x00 ∷ 0x11 ∷ 0x22 ∷ 0x33 ∷ 0x44 ∷ 0x55 ∷ 0x66 ∷ 0x77 ∷ 0x88 ∷ 0x99 ∷ 0xaa ∷ 0xbb ∷ 0xcc ∷ 0xdd ∷ 0xee ∷ 0xff ∷ [])
    ≡ 0x8e ∷ 0xa2 ∷ 0xb7 ∷ 0xca ∷ 0x51 ∷ 0x67 ∷ 0x45 ∷ 0xbf ∷ 0xea ∷ 0xfc ∷ 0x49 ∷ 0x90 ∷ 0x4b ∷ 0x49 ∷ 0x60 ∷ 0x89 ∷ []
unfolding sbox affine inverse even_powers mul products xtimes rotated cipher rounds add_round_key mix_columns mixed shift_rows sub_bytes state
    expanded_key round_count key_expansion round_keys words key_words temp rcon xpower word_of xor_word sub_word rot_word
appendix_c_3 = refl
