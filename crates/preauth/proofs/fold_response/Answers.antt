-- Right because a message that 23 admits is long enough to have a status.
-- Assumes nothing.
use Rattle.preauth.proofs.FoldLaws.{limits}
use mathlib.Core.Path.{ap, ◌∙◌}
use mathlib.Core.Bool.{Bool, ◌&&◌}
use native.Mathlib.Omega.{arith}
use borrow.Author.Tests.{le-leb}
use lib.ListN.{length}
use Rattle.protocol.specs.Preauth.{setup_response, more_processing}
use Rattle.preauth.proofs.fold_response.Goals as goal

pub returns : goal.returns
returns c =
    let m = c.args.message.now in
    let asked = c.asks_for_more.ensures in
    c.fold_if.ensures setup_response
    (λ fits. asked ∙ ap (λ (b : Bool). b && more_processing m) (le-leb 12 (length m) (omega (arith, (limits m fits).0))))
