-- Right because it is the definition.
use Rattle.std.proofs.Common.{arith}
use Rattle.std.proofs.lemmas.List.{get_or-map}
use Rattle.sha_2.specs.Sha2.{working}
use Rattle.sha_2_compression.proofs.working.Goals as goal

pub returns : goal.returns
unfolding working
returns g c =
    let l = c.told-hs in
    let at = get_or-map g.W.Word.value c.args.hs.now in
    rw (
      at 0 c.index-hs-0.result 0 (omega arith),
      at 1 c.index-hs-1.result 0 (omega arith),
      at 2 c.index-hs-2.result 0 (omega arith),
      at 3 c.index-hs-3.result 0 (omega arith),
      at 4 c.index-hs-4.result 0 (omega arith),
      at 5 c.index-hs-5.result 0 (omega arith),
      at 6 c.index-hs-6.result 0 (omega arith),
      at 7 c.index-hs-7.result 0 (omega arith),
    )
