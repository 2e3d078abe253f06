-- Test case 4 of the GCM specification (McGrew and Viega): 60 bytes of text and 20 of associated data. The test case says what the
-- block cipher gives for each block that occurs, and that is all that GCM sees of it.
-- Assumes nothing.
use mathlib.Core.Path.{◌≡◌, refl}
use mathlib.Core.Bool.{cond}
use mathlib.Core.List.{List, []}
use Prim.Native.Nat.{ℕ}
use lib.Dec.{eqb}
use Rattle.octets.specs.Numbers.{big_endian_after, big_endian, to_big_endian}
use Rattle.octets.specs.Blocks.{zero_padded, over_blocks}
use Rattle.octets.specs.Xor.{xor_with}
use Rattle.ctr.specs.Ctr.{ctr}
use Rattle.ghash.specs.Field.{times_x, product}
use Rattle.ghash.specs.Ghash.{ghash_from}
use Rattle.gcm.specs.Gcm.{encrypt, hash_input, tag}

-- x, where the block b writes the number n; else what follows
abbrev maps : ℕ → ℕ → ℕ → List ℕ → List ℕ
maps b n x rest = cond (eqb b n) (to_big_endian 16 x) rest

abbrev E : List ℕ → List ℕ
E block =
    let b = big_endian block in
    maps b 0 0xb83b533708bf535d0aa6e52980d53b78
    (maps b 0xcafebabefacedbaddecaf88800000001 0x3247184b3c4f69a44dbcd22887bbb418
    (maps b 0xcafebabefacedbaddecaf88800000002 0x9bb22ce7d9f372c1ee2b28722b25f206
    (maps b 0xcafebabefacedbaddecaf88800000003 0x650d887c3936533a1b8d4e1ea39d2b5c
    (maps b 0xcafebabefacedbaddecaf88800000004 0x3de91827c10e9a4f5240647ee5221f20
    (maps b 0xcafebabefacedbaddecaf88800000005 0xaac9e6ccc0074ac0873b9ba85d908bd0
    [])))))

abbrev nonce : List ℕ
nonce = to_big_endian 12 0xcafebabefacedbaddecaf888

abbrev aad : List ℕ
aad = to_big_endian 20 0xfeedfacedeadbeeffeedfacedeadbeefabaddad2

abbrev text : List ℕ
text =
    to_big_endian 60 0xd9313225f88406e5a55909c5aff5269a86a7a9531534f7da2e4c303d8a318a721c3c0c95956809532fcf0e2449a6b525b16aedf5aa0de657ba637b39

abbrev body : List ℕ
body =
    to_big_endian 60 0x42831ec2217774244b7221b784d0d49ce3aa212f2c02a4e035c17e2329aca12e21d514b25466931c7d8f6a5aac84aa051ba30b396a0aac973d58e091

test_4_body : encrypt E nonce text ≡ body
unfolding big_endian_after to_big_endian xor_with ctr encrypt
test_4_body = refl

test_4_tag : tag E nonce aad body ≡ to_big_endian 16 0x5bc94fbc3221a5db94fae95ae7121a47
unfolding big_endian_after to_big_endian zero_padded over_blocks xor_with times_x product ghash_from hash_input tag
test_4_tag = refl
