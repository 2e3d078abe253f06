-- Right because a round and a word of the schedule keep what holds before a round.
use Rattle.std.proofs.Common.{◌∙◌, length-set}
use Rattle.sha_2_compression.specs.Code.{of}
use Rattle.sha_2_compression.proofs.Numbers.{scheduled}
use Rattle.sha_2_compression.proofs.rounds.scheduled_round.Goals as goal

pub returns : goal.returns
returns g c =
    let a = c.args in (
      length-set a.w.now _ c.schedule_word.result ∙ c.told-w,
      scheduled g.W.Word.value g.W.Word.family a.w.now a.j (of g.W.Word.value a.v) _ _ _ _ _ _ c.requires (c.told-w ∙ g.met.W.Algorithm.sizes.schedule)
          c.schedule_word.ensures c.round_constant.ensures c.round.ensures,
    )
