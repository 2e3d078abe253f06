-- Right because each word is the word nk places before it, plus the word before it, of which the first takes in what it is given.
use mathlib.Core.Path.{refl}
use Rattle.rijndael.specs.KeyExpansion.{word_of, xor_word}
use Rattle.aes_key_expansion.specs.NextKey.{next_key, next_word}
use Rattle.aes_words.specs.Words.{state_of, bytes_of}
use Rattle.aes_words.proofs.WordLaws.{begins, xor, own}
use Rattle.aes_key_expansion.proofs.next_columns.Goals as goal

pub returns : goal.returns
unfolding state_of bytes_of next_key next_word word_of xor_word
returns c =
    let k = c.args.k in
    let w0 = xor (own k.c0) (own c.args.v) in
    let w1 = xor (own k.c1) w0 in
    let w2 = xor (own k.c2) w1 in
    begins w0 (begins w1 (begins w2 (begins (xor (own k.c3) w2) refl)))
