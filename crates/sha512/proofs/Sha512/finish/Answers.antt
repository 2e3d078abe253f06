-- Right because the running hash with these fields ends so.
use Rattle.std.proofs.Common.{ℕ, ap, ◌∙◌}
use Rattle.sha_2.specs.Running as running
use Rattle.sha_2.specs.Sha512.{sha512}
use Rattle.sha_2_running.proofs.Held.{state_is}
use Rattle.sha512.specs.Code.{finished}
use Rattle.sha512.proofs.Sha512.finish.Goals as goal

pub returns : goal.returns
unfolding finished
returns c =
    let s = c.args.self in
    c.finish.ensures ∙ ap (running.finished sha512) (state_is {rounds = 80} {block = 128} {digest = 64} (record { hash = s.hash; buffer = s.buffer; count = s.count }))
