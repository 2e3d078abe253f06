-- Right because MIXCOLUMNS goes column by column.
use mathlib.Core.Path.{refl}
use Rattle.rijndael.specs.Cipher.{mix_columns, sub_bytes, state}
use Rattle.aes_words.specs.Words.{state_of, bytes_of}
use Rattle.aes_words.proofs.WordLaws.{begins}
use Rattle.aes_rounds.proofs.sub_mix.Goals as goal

pub returns : goal.returns
unfolding state_of bytes_of mix_columns sub_bytes state
returns c =
    begins c.sub_mix_column.ensures
    (begins c.sub_mix_column-2.ensures (begins c.sub_mix_column-3.ensures (begins c.sub_mix_column-4.ensures refl)))
