-- What the contracts of the code need and FIPS 180-4 does not have: a hash under way, and the rounds of a block under way.
-- Assumes nothing.
use Rattle.std.specs.Prelude.{◌≡◌, cond, List, ◌++◌, ℕ, ◌+◌, ◌-◌, ◌*◌, ◌/◌, ◌%◌, ◌^◌, length, take, drop, replicate, nat_lt}
use Rattle.std.proofs.Math.Seq.{paste}
use Rattle.sha_2.specs.Sha2.{Sha2, Working, block_size, hash_blocks, digest, padding, extended, rounds}

-- hs is the hash value after the whole blocks of m, and part is the bytes past them
pub record Hashed (p : Sha2) (hs part m : List ℕ) : Type 0 where
  pub blocks : ℕ
  pub whole : List ℕ
  pub joined : m ≡ whole ++ part
  pub size : length whole ≡ blocks * block_size p
  pub value : hs ≡ hash_blocks p p.initial blocks whole

-- a count of bytes, a buffer of one block and a hash value hold what is needed of the message m so far.
-- The count is a u64; the bytes past the whole blocks stand first in the buffer
pub record Holds (p : Sha2) (count : ℕ) (buffer hs m : List ℕ) : Type 0 where
  pub counted : count ≡ length m % 2 ^ 64
  pub room : length buffer ≡ block_size p
  pub state : Hashed p hs (take (count % block_size p) buffer) m

-- before round j, on a block with the words m, from the working variables x: the array w holds the first j + 16 words
-- of the schedule, and v is the working variables
pub record Going (p : Sha2) (m : List ℕ) (x : Working) (w : List ℕ) (v : Working) (j : ℕ) : Type 0 where
  pub block : length m ≡ 16
  pub words : take (j + 16) w ≡ extended p j m
  pub state : v ≡ rounds p (extended p p.further m) j x

-- n rounds from round j on: from the array w and the variables v to w' and v'
pub record Goes (p : Sha2) (n j : ℕ) (w : List ℕ) (v : Working) (w' : List ℕ) (v' : Working) : Type 0 where
  pub goes : (m : List ℕ) (x : Working) → Going p m x w v j → Going p m x w' v' (j + n)

-- ---- a hash under way, whatever its fields are: what a piece and the end make of it

-- the hash value, a buffer of one block, and a count of bytes, a u64
pub record State : Type 0 where
  pub hash : List ℕ
  pub buffer : List ℕ
  pub count : ℕ

module _ (p : Sha2) where
  -- the state to begin with
  unfoldable pub nothing_taken : State
  nothing_taken = record { hash = p.initial; buffer = replicate (block_size p) 0; count = 0 }

  -- how many bytes wait in the buffer, and how many more fill it
  abbrev pub waiting : State → ℕ
  waiting s = s.count % block_size p

  abbrev pub room : State → ℕ
  room s = block_size p - waiting s

  -- a piece x that does not fill the buffer waits in it
  unfoldable pub within : State → List ℕ → State
  within s x = record { hash = s.hash; buffer = paste s.buffer (waiting s) x (length x); count = (s.count + length x) % 2 ^ 64 }

  -- one that does: the block goes into the hash value, then the whole blocks of the rest of x, and what is left of it waits
  unfoldable pub beyond : State → List ℕ → State
  beyond s x =
      let first = take (room s) x in
      let block = paste s.buffer (waiting s) first (length first) in
      let rest = drop (room s) x in
      let blocks = length rest / block_size p in
      let left = drop (blocks * block_size p) rest in
      record {
        hash = hash_blocks p (hash_blocks p s.hash 1 block) blocks rest;
        buffer = paste block 0 left (length left);
        count = (s.count + length x) % 2 ^ 64;
      }

  unfoldable pub updated : State → List ℕ → State
  updated s x = cond (nat_lt (length x) (room s)) (within s x) (beyond s x)

  -- the hash value hs after the bytes `part` that wait and the padding of a message of n bytes
  unfoldable pub ended : List ℕ → List ℕ → ℕ → List ℕ
  ended hs part n = let end = part ++ padding p n in hash_blocks p hs (length end / block_size p) end

  unfoldable pub finished : State → List ℕ
  finished s = digest p 8 (ended s.hash (take (waiting s) s.buffer) s.count)
