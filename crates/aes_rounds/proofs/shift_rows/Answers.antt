-- Right because column j takes its row r from the column j + r.
use mathlib.Core.Path.{refl}
use Rattle.rijndael.specs.Cipher.{shift_rows, state}
use Rattle.aes_words.specs.Words.{state_of, bytes_of}
use Rattle.aes_words.proofs.WordLaws.{begins}
use Rattle.aes_rounds.proofs.shift_rows.Goals as goal

pub returns : goal.returns
unfolding state_of bytes_of shift_rows state
returns c =
    begins c.diagonal.ensures (begins c.diagonal-2.ensures (begins c.diagonal-3.ensures (begins c.diagonal-4.ensures refl)))
