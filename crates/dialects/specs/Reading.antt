-- The enum of the code, read as the rules' flag.
-- Assumes nothing.
use Rattle.std.specs.Prelude.{Bool, true, false}
use Rattle.dialects.specs.declared.KeySize.{KeySize}
use Rattle.dialects.specs.declared.KeySize.TheVariants.{Bits128, Bits256}

-- whether a cipher key has 32 bytes
abbrev pub wide_in : KeySize → Bool
wide_in Bits128 = false
wide_in Bits256 = true
