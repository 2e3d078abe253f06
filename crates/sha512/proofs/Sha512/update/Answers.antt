-- Right because the running hash with these fields takes in the piece.
use Rattle.std.proofs.Common.{ℕ, sym, ap, ◌∙◌}
use Rattle.sha_2.specs.Running as running
use Rattle.sha_2.specs.Running.{State}
use Rattle.sha_2.specs.Sha512.{sha512}
use Rattle.sha_2_running.proofs.Held.{state_is}
use Rattle.sha512.specs.Code.{of, updated}
use Rattle.sha512.proofs.Sha512.update.Goals as goal

pub returns : goal.returns
unfolding updated
returns c =
    let s = c.args.self in
    ap of (sym (state_is c.update-r.result) ∙ c.update-r.ensures
    ∙ ap (λ (t : State). running.updated sha512 t c.args.piece.now) (state_is {rounds = 80} {block = 128} {digest = 64} (record { hash = s.hash; buffer = s.buffer; count = s.count })))
