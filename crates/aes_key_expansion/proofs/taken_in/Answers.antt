-- Right because at a multiple of Nk the word goes through ROTWORD, SUBWORD and Rcon, and a word of number 4 r is else half way, where Nk is 8.
use mathlib.Core.Path.{refl, ◌∙◌, ap, sym}
use mathlib.Core.List.{[], ◌∷◌}
use Prim.Native.Nat.{ℕ}
use Rattle.rijndael.specs.Field.{sbox}
use Rattle.rijndael.specs.KeyExpansion.{xor_word, sub_word, rot_word}
use Rattle.aes_words.specs.Words.{bytes_of}
use Rattle.aes_words.proofs.WordLaws.{begins, xor, named}
use Rattle.aes_key_expansion.proofs.ExpansionLaws.{multiple, between}
use Rattle.aes_key_expansion.proofs.taken_in.Goals as goal

pub returns-then-r-own-eq0 : goal.returns-then-r-own-eq0
unfolding bytes_of xor_word sub_word rot_word
returns-then-r-own-eq0 c =
    let a = c.args in
    let w = bytes_of a.w [] in
    let rotated = c.rot_word.ensures in
    let substituted = named c.sub_word.ensures (ap sbox rotated.at0) (ap sbox rotated.at1) (ap sbox rotated.at2) (ap sbox rotated.at3) in
    begins (xor substituted c.word.ensures) refl
    ∙ ap (λ (p : ℕ). xor_word (sub_word (rot_word w)) (p ∷ 0 ∷ 0 ∷ 0 ∷ [])) c.power.ensures
    ∙ sym (multiple a.own a.r w c.requires.0 c.if-r-own-eq0.true)

pub returns : goal.returns
unfolding bytes_of sub_word
returns c =
    let a = c.args in
    begins c.sub_word-2.ensures refl ∙ sym (between a.own a.r (bytes_of a.w []) c.requires.0 c.if-r-own-eq0.false)
