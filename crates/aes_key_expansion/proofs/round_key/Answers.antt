-- Right because the columns of the round keys stand for them, and the last of them is the word before.
use mathlib.Core.List.{List}
use mathlib.Core.Path.{◌∙◌, ap, ap₂}
use Prim.Native.Nat.{ℕ, ◌*◌}
use Rattle.rijndael.specs.KeyExpansion.{temp, word_of}
use Rattle.aes_words.specs.Words.{state_of, bytes_of}
use Rattle.aes_key_expansion.specs.NextKey.{next_key}
use Rattle.aes_key_expansion.proofs.round_key.Goals as goal

pub returns : goal.returns
unfolding state_of bytes_of word_of
returns c =
    let a = c.args in
    c.store.ensures ∙ c.next_columns.ensures
    ∙ ap₂ next_key c.load.ensures
    (c.taken_in-v.ensures ∙ ap (λ (k : List ℕ). temp (4 * a.own) (4 * a.r) (word_of k 12)) c.load-last.ensures)
