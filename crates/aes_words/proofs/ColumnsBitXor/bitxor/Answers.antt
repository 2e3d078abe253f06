-- Right because the bytes of the xor of two words are the xors of their bytes.
use mathlib.Core.Path.{refl}
use Rattle.octets.specs.Xor.{xor_with}
use Rattle.aes_words.specs.Words.{state_of, bytes_of}
use Rattle.aes_words.proofs.WordLaws.{begins, xor, own}
use Rattle.aes_words.proofs.ColumnsBitXor.bitxor.Goals as goal

pub returns : goal.returns
unfolding state_of bytes_of xor_with
returns c =
    let s = c.args.self in
    let k = c.args.k in
    begins (xor (own s.c0) (own k.c0))
    (begins (xor (own s.c1) (own k.c1)) (begins (xor (own s.c2) (own k.c2)) (begins (xor (own s.c3) (own k.c3)) refl)))
