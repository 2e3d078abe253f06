-- Right because the hash has taken in the chain value, and nothing is joined.
-- Assumes nothing.
use mathlib.Core.Path.{ap, ◌∙◌}
use Rattle.sha512.specs.declared.Sha512.{Sha512}
use Rattle.sha512.specs.Code.{updated}
use Rattle.fold_pieces.proofs.StateLaws.{begin_refused, begin_done}
use Rattle.fold_pieces.proofs.begin.Goals as goal

pub returns-then-chain-ne64 : goal.returns-then-chain-ne64
returns-then-chain-ne64 c =
    begin_refused c.args.chain.now c.if-chain-ne64.true c.ended.ensures c.step.ensures

pub returns : goal.returns
returns c =
    let v = c.args.chain.now in
    let h = c.update.ensures ∙ ap (λ (s : Sha512). updated s v) c.new.ensures in
    begin_done v c.if-chain-ne64.false h c.ended-2.ensures c.step-2.ensures
