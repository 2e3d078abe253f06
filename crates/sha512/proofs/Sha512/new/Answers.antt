-- Right because the running hash begins so.
use Rattle.std.proofs.Common.{sym, ap, ◌∙◌}
use Rattle.sha_2_running.proofs.Held.{state_is}
use Rattle.sha512.specs.Code.{of, nothing_taken}
use Rattle.sha512.proofs.Sha512.new.Goals as goal

pub returns : goal.returns
unfolding nothing_taken
returns c = ap of (sym (state_is c.new-r.result) ∙ c.new-r.ensures)
