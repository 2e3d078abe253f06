-- The fields that are written into zeros.
-- Assumes nothing.
use mathlib.Core.Path.{◌≡◌, ◌∙◌}
use Prim.Native.Nat.{ℕ}
use lib.ListN.{length, replicate, set}
use lib.Seq.{paste}
use Rattle.octets.specs.Numbers.{to_little_endian}
use Rattle.protocol.specs.Bytes.{Bytes}
use Rattle.protocol.specs.TransformHeader.{nonce_of, authenticated}

pub nonce-put : (counter : ℕ) (c r : Bytes) → c ≡ to_little_endian 8 counter → r ≡ paste (replicate 16 0) 0 c (length c) → r ≡ nonce_of counter
unfolding nonce_of to_little_endian
nonce-put counter c r ec e = e ∙ rw ec

pub authenticated-put : (counter size id : ℕ) (c s i r1 r2 r3 r4 : Bytes) → c ≡ to_little_endian 8 counter → s ≡ to_little_endian 4 size → i ≡ to_little_endian 8 id
    → r1 ≡ paste (replicate 32 0) 0 c (length c) → r2 ≡ paste r1 16 s (length s) → r3 ≡ set r2 22 1 → r4 ≡ paste r3 24 i (length i)
    → r4 ≡ authenticated counter size id
unfolding authenticated nonce_of to_little_endian
authenticated-put counter size id c s i r1 r2 r3 r4 ec es ei e1 e2 e3 e4 = e4 ∙ rw (e3, e2, e1, ec, es, ei)
