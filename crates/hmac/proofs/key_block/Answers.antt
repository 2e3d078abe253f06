-- Right because the test is the one of the definition.
use Rattle.std.proofs.Common.{ℕ, List, sym, ap, ◌∙◌}
use borrow.Author.Tests.{le-leb, lt-leb}
use Rattle.octets.specs.Blocks.{zero_padded}
use Rattle.hmac.specs.Hmac.{key_block}
use Rattle.hmac.proofs.key_block.Goals as goal

pub returns-then-fits : goal.returns-then-fits
unfolding key_block
returns-then-fits c = c.zero_padded.ensures ∙ sym (simp (le-leb _ _ c.if-fits.true))

pub returns : goal.returns
unfolding key_block
returns c =
    c.zero_padded-2.ensures
    ∙ ap (λ (l : List ℕ). zero_padded 64 l) c.hash.ensures
    ∙ sym (simp (lt-leb _ _ c.if-fits.false))
