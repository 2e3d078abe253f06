-- Four of the messages that NIST's examples for FIPS 180-4 hash: antt computes the definitions on each.
-- Assumes nothing.
use mathlib.Core.Path.{◌≡◌, refl}
use mathlib.Core.List.{[], ◌∷◌}
use Rattle.octets.specs.Numbers.{big_endian_after, to_big_endian}
use Rattle.octets.specs.Same.{same_bytes}
use Rattle.octets.proofs.SameLaws.{same_equal}
use Rattle.sha_2.specs.Sha2.{hash, digest, hash_blocks, compress, sums, working, rounds, round, t1, t2}
use Rattle.sha_2.specs.Sha2.{schedule, extended, schedule_word, parse, pad, padding, zeros}
use Rattle.sha_2.specs.Sha256.{sha256, constants256, initial256}
use Rattle.sha_2.specs.Sha512.{sha512, constants512, initial512}

-- "abc"
pub abc_256 : hash sha256 (
    97 ∷ 98 ∷ 99 ∷ [])
    ≡
    186 ∷ 120 ∷ 22 ∷ 191 ∷ 143 ∷ 1 ∷ 207 ∷ 234 ∷ 65 ∷ 65 ∷ 64 ∷ 222 ∷ 93 ∷ 174 ∷ 34 ∷ 35 ∷
    176 ∷ 3 ∷ 97 ∷ 163 ∷ 150 ∷ 23 ∷ 122 ∷ 156 ∷ 180 ∷ 16 ∷ 255 ∷ 97 ∷ 242 ∷ 0 ∷ 21 ∷ 173 ∷ []
unfolding hash digest hash_blocks compress sums working rounds round t1 t2 schedule extended schedule_word parse
    pad padding zeros big_endian_after to_big_endian same_bytes constants256 initial256
abc_256 = same_equal _ _ refl

-- 56 bytes, so two blocks
pub two_blocks_256 : hash sha256 (
    97 ∷ 98 ∷ 99 ∷ 100 ∷ 98 ∷ 99 ∷ 100 ∷ 101 ∷ 99 ∷ 100 ∷ 101 ∷ 102 ∷ 100 ∷ 101 ∷ 102 ∷ 103 ∷
    101 ∷ 102 ∷ 103 ∷ 104 ∷ 102 ∷ 103 ∷ 104 ∷ 105 ∷ 103 ∷ 104 ∷ 105 ∷ 106 ∷ 104 ∷ 105 ∷ 106 ∷ 107 ∷
    105 ∷ 106 ∷ 107 ∷ 108 ∷ 106 ∷ 107 ∷ 108 ∷ 109 ∷ 107 ∷ 108 ∷ 109 ∷ 110 ∷ 108 ∷ 109 ∷ 110 ∷ 111 ∷
    109 ∷ 110 ∷ 111 ∷ 112 ∷ 110 ∷ 111 ∷ 112 ∷ 113 ∷ [])
    ≡
    36 ∷ 141 ∷ 106 ∷ 97 ∷ 210 ∷ 6 ∷ 56 ∷ 184 ∷ 229 ∷ 192 ∷ 38 ∷ 147 ∷ 12 ∷ 62 ∷ 96 ∷ 57 ∷
    163 ∷ 60 ∷ 228 ∷ 89 ∷ 100 ∷ 255 ∷ 33 ∷ 103 ∷ 246 ∷ 236 ∷ 237 ∷ 212 ∷ 25 ∷ 219 ∷ 6 ∷ 193 ∷ []
unfolding hash digest hash_blocks compress sums working rounds round t1 t2 schedule extended schedule_word parse
    pad padding zeros big_endian_after to_big_endian same_bytes constants256 initial256
two_blocks_256 = same_equal _ _ refl

-- "abc"
pub abc_512 : hash sha512 (
    97 ∷ 98 ∷ 99 ∷ [])
    ≡
    221 ∷ 175 ∷ 53 ∷ 161 ∷ 147 ∷ 97 ∷ 122 ∷ 186 ∷ 204 ∷ 65 ∷ 115 ∷ 73 ∷ 174 ∷ 32 ∷ 65 ∷ 49 ∷
    18 ∷ 230 ∷ 250 ∷ 78 ∷ 137 ∷ 169 ∷ 126 ∷ 162 ∷ 10 ∷ 158 ∷ 238 ∷ 230 ∷ 75 ∷ 85 ∷ 211 ∷ 154 ∷
    33 ∷ 146 ∷ 153 ∷ 42 ∷ 39 ∷ 79 ∷ 193 ∷ 168 ∷ 54 ∷ 186 ∷ 60 ∷ 35 ∷ 163 ∷ 254 ∷ 235 ∷ 189 ∷
    69 ∷ 77 ∷ 68 ∷ 35 ∷ 100 ∷ 60 ∷ 232 ∷ 14 ∷ 42 ∷ 154 ∷ 201 ∷ 79 ∷ 165 ∷ 76 ∷ 164 ∷ 159 ∷ []
unfolding hash digest hash_blocks compress sums working rounds round t1 t2 schedule extended schedule_word parse
    pad padding zeros big_endian_after to_big_endian same_bytes constants512 initial512
abc_512 = same_equal _ _ refl

-- nothing
pub empty_512 : hash sha512 []
    ≡
    207 ∷ 131 ∷ 225 ∷ 53 ∷ 126 ∷ 239 ∷ 184 ∷ 189 ∷ 241 ∷ 84 ∷ 40 ∷ 80 ∷ 214 ∷ 109 ∷ 128 ∷ 7 ∷
    214 ∷ 32 ∷ 228 ∷ 5 ∷ 11 ∷ 87 ∷ 21 ∷ 220 ∷ 131 ∷ 244 ∷ 169 ∷ 33 ∷ 211 ∷ 108 ∷ 233 ∷ 206 ∷
    71 ∷ 208 ∷ 209 ∷ 60 ∷ 93 ∷ 133 ∷ 242 ∷ 176 ∷ 255 ∷ 131 ∷ 24 ∷ 210 ∷ 135 ∷ 126 ∷ 236 ∷ 47 ∷
    99 ∷ 185 ∷ 49 ∷ 189 ∷ 71 ∷ 65 ∷ 122 ∷ 129 ∷ 165 ∷ 56 ∷ 50 ∷ 122 ∷ 249 ∷ 39 ∷ 218 ∷ 62 ∷ []
unfolding hash digest hash_blocks compress sums working rounds round t1 t2 schedule extended schedule_word parse
    pad padding zeros big_endian_after to_big_endian same_bytes constants512 initial512
empty_512 = same_equal _ _ refl
