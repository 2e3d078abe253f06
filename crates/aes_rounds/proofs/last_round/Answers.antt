-- Right because the round key is added byte by byte, and SUBBYTES and SHIFTROWS may be changed about.
use mathlib.Core.List.{List}
use mathlib.Core.Path.{◌∙◌, ap}
use Prim.Native.Nat.{ℕ}
use Rattle.octets.specs.Xor.{xor}
use Rattle.rijndael.specs.Cipher.{sub_bytes}
use Rattle.aes_words.specs.Words.{state_of}
use Rattle.aes_rounds.proofs.CipherLaws.{shifted-key, rows-bytes}
use Rattle.aes_rounds.proofs.last_round.Goals as goal

pub returns : goal.returns
returns c =
    let s = state_of c.args.s in
    let k = state_of c.args.k in
    c.bitxor.ensures
    ∙ ap (λ (x : List ℕ). xor x k) (c.sub_bytes.ensures ∙ ap sub_bytes c.shift_rows.ensures ∙ rows-bytes s)
    ∙ shifted-key _ k
