-- Right because each hash has taken in its block of the key.
use Rattle.std.proofs.Common.{ℕ, List, sym, ap, ◌∙◌, subst, append-nil, replicate}
use Rattle.octets.specs.Xor.{xor}
use Rattle.sha256.specs.Code as code
use Rattle.sha256.proofs.Pieces.{new_holds, takes_in}
use Rattle.hmac.proofs.Mac.new.Goals as goal

pub returns : goal.returns
returns c =
    let k = c.key_block-k.ensures in
    record {
      inner =
          subst (λ (l : List ℕ). code.Holds c.update.result l)
          (c.xor-ipad.ensures ∙ ap (λ (l : List ℕ). xor l (replicate 64 0x36)) k ∙ sym (append-nil _))
          (takes_in _ _ c.update.ensures (new_holds _ c.new.ensures));
      outer =
          subst (λ (l : List ℕ). code.Holds c.update-2.result l)
          (c.xor-opad.ensures ∙ ap (λ (l : List ℕ). xor l (replicate 64 0x5c)) k)
          (takes_in _ _ c.update-2.ensures (new_holds _ c.new-2.ensures));
    }
