-- The key's room has 16 bytes.
use Rattle.std.proofs.Common.{rules}
use Rattle.aes.proofs.KeySizeLaws.{of_length_16}
use Rattle.test_vectors.proofs.codes.cmac.Goals as goal

pub new-requires : goal.new-requires
new-requires c = of_length_16 _ (search rules)
