-- The header of a message that is long enough is read off it.
-- Assumes nothing.
use mathlib.Core.Path.{◌≡◌}
use Prim.Native.Nat.{◌<◌}
use native.Mathlib.Omega.{arith}
use borrow.Author.Tests.{le-ltb}
use lib.ListN.{length}
use Rattle.protocol.specs.Bytes.{Bytes}
use Rattle.protocol.specs.TransformHeader.{header_of}
use Rattle.transform_header.specs.Reading.{header_in}

pub header-there : (m : Bytes) → 52 < length m → header_in m ≡ header_of m
unfolding header_in
header-there m h = rw (le-ltb (length m) 52 (omega arith))
