-- Right because a signing key has 16 bytes.
use Rattle.std.proofs.Common.{rules}
use Rattle.aes.proofs.KeySizeLaws.{of_length_16}
use Rattle.signing_pieces.proofs.SignState.cipher.Goals as goal

pub new-requires : goal.new-requires
new-requires c = of_length_16 _ (search rules)
