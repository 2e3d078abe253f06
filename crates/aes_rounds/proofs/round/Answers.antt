-- Right because the round key is added byte by byte, and SUBBYTES and SHIFTROWS may be changed about.
use mathlib.Core.List.{List}
use mathlib.Core.Path.{◌∙◌, ap}
use Prim.Native.Nat.{ℕ}
use Rattle.octets.specs.Xor.{xor}
use Rattle.rijndael.specs.Cipher.{mix_columns, sub_bytes}
use Rattle.aes_words.specs.Words.{state_of}
use Rattle.aes_rounds.proofs.CipherLaws.{mixed-key, rows-bytes}
use Rattle.aes_rounds.proofs.round.Goals as goal

pub returns : goal.returns
returns c =
    let s = state_of c.args.s in
    let k = state_of c.args.k in
    c.bitxor.ensures
    ∙ ap (λ (x : List ℕ). xor x k) (c.sub_mix.ensures ∙ ap (λ (x : List ℕ). mix_columns (sub_bytes x)) c.shift_rows.ensures ∙ ap mix_columns (rows-bytes s))
    ∙ mixed-key _ k
