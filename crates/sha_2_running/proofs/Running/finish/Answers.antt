-- Right because the bytes that wait are the last ones of the message.
use Rattle.std.proofs.Common.{ℕ, ◌%◌, ◌∙◌, ap, map, take}
use Rattle.sha_2.specs.Sha2.{digest}
use Rattle.sha_2.specs.Running.{ended, finished}
use Rattle.sha_2_running.proofs.Running.finish.Goals as goal

pub returns : goal.returns
unfolding finished
returns g c =
    let p = g.W.Word.family in
    let s = c.args.self in
    let part = ap (λ (b : ℕ). ended p (map g.W.Word.value s.hash) (take (s.count % b) s.buffer) s.count) g.met.W.Algorithm.sizes.block in
    c.digest.ensures ∙ ap (digest p 8) (c.last_blocks-hash.ensures ∙ part)
