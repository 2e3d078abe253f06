-- Right because the mask keeps the low byte.
use native.Mathlib.Omega.{arith}
use lib.Bits.{and_mask, mask_lt}
use Rattle.aes_words.proofs.low.Goals as goal

pub overflow_cast-result : goal.overflow_cast-result
overflow_cast-result c = omega (arith, mask_lt c.args.x 8)

pub returns : goal.returns
returns c = and_mask c.args.x 8
