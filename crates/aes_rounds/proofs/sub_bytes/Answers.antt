-- Right because SUBBYTES goes byte by byte.
use mathlib.Core.Path.{refl}
use Rattle.rijndael.specs.Cipher.{sub_bytes, state}
use Rattle.aes_words.specs.Words.{state_of, bytes_of}
use Rattle.aes_words.proofs.WordLaws.{begins}
use Rattle.aes_rounds.proofs.sub_bytes.Goals as goal

pub returns : goal.returns
unfolding state_of bytes_of sub_bytes state
returns c =
    begins c.sub_word.ensures (begins c.sub_word-2.ensures (begins c.sub_word-3.ensures (begins c.sub_word-4.ensures refl)))
