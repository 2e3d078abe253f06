-- Right because the words, the schedule and the rounds are those of the block.
use Rattle.std.proofs.Common.{map}
use Rattle.sha_2.proofs.Rounds.{compressed}
use Rattle.sha_2_compression.proofs.compress.Goals as goal

pub parse-requires : goal.parse-requires
parse-requires g c = (g.met.W.Algorithm.small, c.requires)

pub first_rounds-v-requires : goal.first_rounds-v-requires
first_rounds-v-requires g c = g.met.W.Algorithm.small

pub last_rounds-requires : goal.last_rounds-requires
last_rounds-requires g c = g.met.W.Algorithm.small

pub returns : goal.returns
returns g c =
    let value = g.W.Word.value in
    let f = c.first_rounds-v in
    let a = c.args in
    compressed g.W.Word.family (map value a.hs) a.block.now (map value c.parse.new.w) c.parse.ensures c.working.ensures f.ensures.0
    (c.last_rounds.ensures _ f.ensures.1) c.sums.ensures
