-- Right because MIXCOLUMNS is a sum, to which each row gives its part, and a part is turned by as many places as its row says.
use Rattle.rijndael.specs.Cipher.{mixed}
use Rattle.aes_words.proofs.WordLaws.{xor, named}
use Rattle.aes_rounds.proofs.sub_mix_column.Goals as goal

pub returns : goal.returns
unfolding mixed
returns c =
    let row0 = c.sub_mix.ensures in
    let part1 = c.sub_mix-2.ensures in
    let row1 = named c.turned.ensures part1.at3 part1.at0 part1.at1 part1.at2 in
    let part2 = c.sub_mix-3.ensures in
    let once2 = named c.turned-2.ensures part2.at3 part2.at0 part2.at1 part2.at2 in
    let row2 = named c.turned-3.ensures once2.at3 once2.at0 once2.at1 once2.at2 in
    let part3 = c.sub_mix-4.ensures in
    let once3 = named c.turned-4.ensures part3.at3 part3.at0 part3.at1 part3.at2 in
    let twice3 = named c.turned-5.ensures once3.at3 once3.at0 once3.at1 once3.at2 in
    let row3 = named c.turned-6.ensures twice3.at3 twice3.at0 twice3.at1 twice3.at2 in
    rw (← c.low.ensures, ← c.low-2.ensures, ← c.low-3.ensures, ← c.low-4.ensures) (xor (xor (xor row0 row1) row2) row3)
