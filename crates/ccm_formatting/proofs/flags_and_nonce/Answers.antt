-- Right because the nonce fills the array behind the flags octet.
use mathlib.Core.List.{◌∷◌}
use mathlib.Core.Path.{◌≡◌, ◌∙◌}
use native.Mathlib.Omega.{arith}
use lib.ListN.{length, replicate}
use Rattle.octets.proofs.Paste.{paste_all}
use borrow.Author.Rules.{rules}
use Rattle.ccm_formatting.proofs.flags_and_nonce.Goals as goal

pub returns : goal.returns
returns c =
    let a = c.args in
    let l : length a.nonce ≡ 11 = search rules in
    c.copy.ensures ∙ paste_all (a.flags ∷ replicate 11 0) 1 a.nonce (omega arith)
