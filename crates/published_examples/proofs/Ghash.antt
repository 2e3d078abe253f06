-- Test case 2 of the GCM specification (McGrew and Viega): a product and a hash.
-- Assumes nothing.
use mathlib.Core.Path.{◌≡◌, refl}
use mathlib.Core.List.{◌++◌}
use Rattle.octets.specs.Numbers.{big_endian_after, to_big_endian}
use Rattle.octets.specs.Blocks.{zero_padded, over_blocks}
use Rattle.ghash.specs.Field.{times_x, product, mul}
use Rattle.ghash.specs.Ghash.{ghash_from, ghash}

-- C₁ • H
test_2_product : mul 0x0388dace60b6a392f328c2b971b2fe78 0x66e94bd4ef8a2c3b884cfa59ca342b2e ≡ 0x5e2ec746917062882c85b0685353deb7
unfolding product times_x
test_2_product = refl

-- the ciphertext's one block, and the lengths 0 and 128
test_2_hash : ghash 0x66e94bd4ef8a2c3b884cfa59ca342b2e (to_big_endian 16 0x0388dace60b6a392f328c2b971b2fe78 ++ to_big_endian 8 0 ++ to_big_endian 8 128)
    ≡ 0xf38cbb1ad69223dcc3457ae5b6b0f885
unfolding product times_x zero_padded over_blocks big_endian_after to_big_endian ghash_from
test_2_hash = refl
