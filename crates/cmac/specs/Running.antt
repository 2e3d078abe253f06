-- What the contracts of the code need and SP 800-38B does not have: a code under way. What a piece and the end make of any state, by its own
-- fields, and which states hold a message.
use Rattle.std.specs.Prelude.{◌≡◌, cond, List, ℕ, ◌+◌, ◌-◌, ◌*◌, min, leb, length, take, drop, replicate}
use Rattle.std.proofs.Math.Seq.{paste}
use Rattle.cbc_mac.specs.CbcMac.{cbc_mac}
use Rattle.cmac.specs.Cmac.{blocks_before, last_block}
use Rattle.cmac.specs.declared.Mac.{Mac}

-- the state to begin with
unfoldable pub nothing_taken : Mac
nothing_taken = record { chain = replicate 16 0; buffer = replicate 16 0; filled = 0 }

-- ---- any state

-- how many bytes wait in the buffer, and how many more it has room for
abbrev pub waiting : Mac → ℕ
waiting s = min s.filled 16

abbrev pub room : Mac → ℕ
room s = 16 - waiting s

-- a piece x that it has room for waits in it
unfoldable pub within : Mac → List ℕ → Mac
within s x = record { chain = s.chain; buffer = paste s.buffer (waiting s) x (length x); filled = waiting s + length x }

module _ (E : List ℕ → List ℕ) where
  -- a longer one: the chain goes over the block, then over the blocks of the rest of x before its last, which waits
  unfoldable pub beyond : Mac → List ℕ → Mac
  beyond s x =
      let first = take (room s) x in
      let block = paste s.buffer (waiting s) first (length first) in
      let rest = drop (room s) x in
      let blocks = blocks_before (length rest) in
      let last = drop (blocks * 16) rest in
      record { chain = cbc_mac E (cbc_mac E s.chain block 1) rest blocks; buffer = paste block 0 last (length last); filled = length last }

  unfoldable pub updated : Mac → List ℕ → Mac
  updated s x = cond (leb (length x) (room s)) (within s x) (beyond s x)

  -- the end: the block that waits is the last
  unfoldable pub finished : Mac → List ℕ
  finished s = cbc_mac E s.chain (last_block E (take (waiting s) s.buffer)) 1

-- ---- the states that calls make

-- of the bytes m: the chain over the blocks before the last, and the last one, which waits in the first bytes of the buffer, since only
-- the end of the message says whether it is the last
pub record Running (E : List ℕ → List ℕ) (chain buffer : List ℕ) (filled : ℕ) (m : List ℕ) : Type 0 where
  pub chained : chain ≡ cbc_mac E (replicate 16 0) m (blocks_before (length m))
  pub room : length buffer ≡ 16
  pub waits : take filled buffer ≡ drop (16 * blocks_before (length m)) m
  pub count : filled ≡ length (drop (16 * blocks_before (length m)) m)

-- s has taken in the bytes m under the cipher E
abbrev pub Holds : Mac → (List ℕ → List ℕ) → List ℕ → Type 0
Holds s E m = Running E s.chain s.buffer s.filled m
