-- SP 800-38A, 6.5: the Counter mode, over any block cipher E with blocks of 16 bytes.
use Rattle.std.specs.Prelude.{List, ◌++◌, ℕ, ◌+◌, ◌/◌, ◌%◌, get_or}
use Rattle.octets.specs.Numbers.{to_big_endian}
use Rattle.octets.specs.Xor.{xor_with}

-- 6.5: byte i of the text is xored with byte i % 16 of E (T (i / 16)), T being the sequence of counter blocks. Of the last
-- output block as many bytes are used as the text has left. Encryption and decryption are the same
unfoldable pub ctr : (List ℕ → List ℕ) → (ℕ → List ℕ) → List ℕ → List ℕ
ctr E T text = xor_with (λ i. get_or (E (T (i / 16))) (i % 16) 0) 0 text

-- counter blocks of twelve fixed bytes and a number of 32 bits that goes up by one, its highest byte first
abbrev pub counter_blocks : List ℕ → ℕ → ℕ → List ℕ
counter_blocks prefix first j = prefix ++ to_big_endian 4 (first + j)
