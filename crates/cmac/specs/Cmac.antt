-- SP 800-38B, 6, and RFC 4493: CMAC over any block cipher E with blocks of 16 bytes, with the whole last block as the code.
use Rattle.std.specs.Prelude.{cond, List, [], ◌∷◌, ◌++◌, ℕ, ◌+◌, ◌-◌, ◌*◌, ◌/◌, eqb, ltb, length, get_or, take, drop, replicate}
use Rattle.octets.specs.Numbers.{big_endian, to_big_endian}
use Rattle.octets.specs.Blocks.{zero_padded}
use Rattle.octets.specs.Xor.{xor}
use Rattle.cbc_mac.specs.CbcMac.{cbc_mac}

-- 5.3: R_128, which is 120 bits 0 and then 10000111
abbrev pub r128 : List ℕ
r128 = to_big_endian 16 0x87

-- 6.1, steps 2 and 3: X << 1, and R_128 on top where the first bit of X is 1
unfoldable pub doubled : List ℕ → List ℕ
doubled x =
    let shifted = to_big_endian 16 (2 * big_endian x) in
    cond (ltb (get_or x 0 0) 128) shifted (xor shifted r128)

-- how many blocks come before the last, n - 1 in 6.2, step 2: the last has 1 to 16 bytes, or none where the message is empty
abbrev pub blocks_before : ℕ → ℕ
blocks_before len = (len - 1) / 16

module _ (E : List ℕ → List ℕ) where
  -- 6.1, steps 1 to 3: the subkeys
  abbrev pub k1 : List ℕ
  k1 = doubled (E (replicate 16 0))

  abbrev pub k2 : List ℕ
  k2 = doubled k1

  -- 6.2, step 4: M_n, of the last bytes
  unfoldable pub last_block : List ℕ → List ℕ
  last_block part = cond (eqb (length part) 16) (xor part k1) (xor (zero_padded 16 (part ++ (0x80 ∷ []))) k2)

  -- 6.2, steps 2 to 4: M_1 to M_n
  abbrev pub formatted : List ℕ → List ℕ
  formatted m = take (16 * blocks_before (length m)) m ++ last_block (drop (16 * blocks_before (length m)) m)

  -- 6.2, steps 5 and 6: C_n
  unfoldable pub cmac : List ℕ → List ℕ
  cmac m = cbc_mac E (replicate 16 0) (formatted m) (blocks_before (length m) + 1)
