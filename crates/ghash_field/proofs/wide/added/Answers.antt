-- Right because exclusive or goes word by word, and an element takes two words.
use Rattle.std.proofs.Common.{refl, rules}
use Rattle.ghash_field.proofs.WideLaws.{wide-added}
use Rattle.ghash_field.proofs.wide.added.Goals as goal

pub returns : goal.returns
returns c =
    let a = c.args in
    let w = a.w in (
      wide-added w.w3 w.w2 w.w1 w.w0 a.p.hi a.p.lo a.q.hi a.q.lo
          (search rules) (search rules) (search rules) (search rules) (search rules) (search rules) (search rules),
      refl,
    )
