-- SP 800-38C, 6.1, steps 2 and 3: the cipher block chaining message authentication code, over any block cipher E with blocks of 16 bytes.
use Rattle.std.specs.Prelude.{List, ℕ}
use Rattle.octets.specs.Blocks.{over_blocks}
use Rattle.octets.specs.Xor.{xor}

-- step 3: the value Y goes on to E (Y xor B), for each of the first n blocks B of xs. From 16 bytes 0 this has step 2 as its first turn
abbrev pub cbc_mac : (List ℕ → List ℕ) → List ℕ → List ℕ → ℕ → List ℕ
cbc_mac E y xs n = over_blocks (λ y x. E (xor y x)) y xs n
