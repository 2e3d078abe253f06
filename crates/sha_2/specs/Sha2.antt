-- The secure hash algorithms of FIPS 180-4 on words of any size: SHA-256 and SHA-512 are two values of `Sha2`.
-- A message is a list of bytes, a word a number. Assumes nothing.
use Rattle.std.specs.Prelude.{List, [], ◌∷◌, ◌++◌, ℕ, zero, suc, ◌+◌, ◌-◌, ◌*◌, ◌/◌, ◌%◌, ◌^◌, length, get_or, replicate}
use Rattle.std.specs.Int.Bits.{bit_and, bit_or, bit_xor}
use Rattle.octets.specs.Numbers.{big_endian, to_big_endian, bytes_at}

-- ---- §3.2: operations on words of w bits

-- §3.2.1: addition modulo 2^w
abbrev pub add : ℕ → ℕ → ℕ → ℕ
add w x y = (x + y) % 2 ^ w

-- §3.2.4: the rotation to the right by n bits
abbrev pub rotr : ℕ → ℕ → ℕ → ℕ
rotr w n x = bit_or (x / 2 ^ n) (x * 2 ^ (w - n) % 2 ^ w)

-- §3.2.3: the shift to the right by n bits
abbrev pub shr : ℕ → ℕ → ℕ
shr n x = x / 2 ^ n

-- §2.2.2: the complement
abbrev pub complement : ℕ → ℕ → ℕ
complement w x = (2 ^ w - 1) - x

-- ---- §4.1.2, §4.1.3: functions

abbrev pub ch : ℕ → ℕ → ℕ → ℕ → ℕ
ch w x y z = bit_xor (bit_and x y) (bit_and (complement w x) z)

abbrev pub maj : ℕ → ℕ → ℕ → ℕ
maj x y z = bit_xor (bit_xor (bit_and x y) (bit_and x z)) (bit_and y z)

-- the three amounts to rotate or shift by
pub record Amounts : Type 0 where
  pub first : ℕ
  pub second : ℕ
  pub third : ℕ

-- Σ0 and Σ1
abbrev pub big_sigma : ℕ → Amounts → ℕ → ℕ
big_sigma w n x = bit_xor (bit_xor (rotr w n.first x) (rotr w n.second x)) (rotr w n.third x)

-- σ0 and σ1
abbrev pub small_sigma : ℕ → Amounts → ℕ → ℕ
small_sigma w n x = bit_xor (bit_xor (rotr w n.first x) (rotr w n.second x)) (shr n.third x)

-- what tells one algorithm of the family from another
pub record Sha2 : Type 0 where
  -- the bytes of a word (§1, figure 1)
  pub bytes : ℕ
  -- how many words the message schedule has beyond the sixteen of the block
  pub further : ℕ
  -- §4.1.2, §4.1.3
  pub big_sigma0 : Amounts
  pub big_sigma1 : Amounts
  pub small_sigma0 : Amounts
  pub small_sigma1 : Amounts
  -- §4.2.2, §4.2.3: K
  pub constants : List ℕ
  -- §5.3.3, §5.3.5: H(0)
  pub initial : List ℕ

abbrev pub bits : Sha2 → ℕ
bits p = 8 * p.bytes

-- the bytes of a block (§1, figure 1)
abbrev pub block_size : Sha2 → ℕ
block_size p = 16 * p.bytes

-- ---- §5: preprocessing

module _ (p : Sha2) where
  -- §5.1.1, §5.1.2: how many zero bytes follow the byte 128 behind a message of n bytes, so that with the length the last block is full
  unfoldable pub zeros : ℕ → ℕ
  zeros n = (block_size p - (n + 1 + 2 * p.bytes) % block_size p) % block_size p

  -- §5.1.1, §5.1.2: a one bit, zeros, and the length in bits in two words. The standard asks for a length that two words hold;
  -- of a longer one these are the low digits
  unfoldable pub padding : ℕ → List ℕ
  padding n = (128 ∷ replicate (zeros n) 0) ++ to_big_endian (2 * p.bytes) (8 * n)

  unfoldable pub pad : List ℕ → List ℕ
  pad m = m ++ padding (length m)

  -- §5.2: the first n words of a block
  unfoldable pub parse : ℕ → List ℕ → List ℕ
  parse zero block = []
  parse (suc n) block = parse n block ++ (big_endian (bytes_at (n * p.bytes) p.bytes block) ∷ [])

-- ---- §6.2.2, §6.4.2: hash computation

-- the eight working variables
pub record Working : Type 0 where
  pub a : ℕ
  pub b : ℕ
  pub c : ℕ
  pub d : ℕ
  pub e : ℕ
  pub f : ℕ
  pub g : ℕ
  pub h : ℕ

module _ (p : Sha2) where
  -- step 1: a word of the schedule, from those 16, 15, 7 and 2 places before it
  unfoldable pub schedule_word : ℕ → ℕ → ℕ → ℕ → ℕ
  schedule_word w16 w15 w7 w2 =
      add (bits p) (add (bits p) (add (bits p) (small_sigma (bits p) p.small_sigma1 w2) w7) (small_sigma (bits p) p.small_sigma0 w15)) w16

  -- the words of a block and n more of the schedule
  unfoldable pub extended : ℕ → List ℕ → List ℕ
  extended zero words = words
  extended (suc n) words =
      let ws = extended n words in
      ws ++ (schedule_word (get_or ws n 0) (get_or ws (n + 1) 0) (get_or ws (n + 9) 0) (get_or ws (n + 14) 0) ∷ [])

  unfoldable pub schedule : List ℕ → List ℕ
  schedule block = extended p.further (parse p 16 block)

  -- step 3: T1 and T2 at the constant k and the word w
  unfoldable pub t1 : ℕ → ℕ → Working → ℕ
  t1 k w v =
      add (bits p) (add (bits p) (add (bits p) (add (bits p) v.h (big_sigma (bits p) p.big_sigma1 v.e)) (ch (bits p) v.e v.f v.g)) k) w

  unfoldable pub t2 : Working → ℕ
  t2 v = add (bits p) (big_sigma (bits p) p.big_sigma0 v.a) (maj v.a v.b v.c)

  unfoldable pub round : ℕ → ℕ → Working → Working
  round k w v =
      record {
        a = add (bits p) (t1 k w v) (t2 v);
        b = v.a;
        c = v.b;
        d = v.c;
        e = add (bits p) v.d (t1 k w v);
        f = v.e;
        g = v.f;
        h = v.g;
      }

  -- the rounds before the one numbered n, on the schedule ws
  unfoldable pub rounds : List ℕ → ℕ → Working → Working
  rounds ws zero v = v
  rounds ws (suc n) v = round (get_or p.constants n 0) (get_or ws n 0) (rounds ws n v)

-- step 2
unfoldable pub working : List ℕ → Working
working hs =
    record {
      a = get_or hs 0 0;
      b = get_or hs 1 0;
      c = get_or hs 2 0;
      d = get_or hs 3 0;
      e = get_or hs 4 0;
      f = get_or hs 5 0;
      g = get_or hs 6 0;
      h = get_or hs 7 0;
    }

module _ (p : Sha2) where
  -- step 4
  unfoldable pub sums : List ℕ → Working → List ℕ
  sums hs v =
      add (bits p) v.a (get_or hs 0 0)
      ∷ add (bits p) v.b (get_or hs 1 0)
      ∷ add (bits p) v.c (get_or hs 2 0)
      ∷ add (bits p) v.d (get_or hs 3 0)
      ∷ add (bits p) v.e (get_or hs 4 0)
      ∷ add (bits p) v.f (get_or hs 5 0)
      ∷ add (bits p) v.g (get_or hs 6 0)
      ∷ add (bits p) v.h (get_or hs 7 0)
      ∷ []

  -- steps 1 to 4: the hash value after one block more
  unfoldable pub compress : List ℕ → List ℕ → List ℕ
  compress hs block = sums hs (rounds p (schedule p block) (16 + p.further) (working hs))

  -- H(n), where the hash value was hs before the first block
  unfoldable pub hash_blocks : List ℕ → ℕ → List ℕ → List ℕ
  hash_blocks hs zero m = hs
  hash_blocks hs (suc n) m = compress (hash_blocks hs n m) (bytes_at (n * block_size p) (block_size p) m)

  -- the first n words of a hash value, joined
  unfoldable pub digest : ℕ → List ℕ → List ℕ
  digest zero hs = []
  digest (suc n) hs = digest n hs ++ to_big_endian p.bytes (get_or hs n 0)

  unfoldable pub hash : List ℕ → List ℕ
  hash m = digest 8 (hash_blocks p.initial (length (pad p m) / block_size p) (pad p m))
