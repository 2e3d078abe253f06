-- Right because the cipher that is made is that of the key, and `ctr::apply` does the rest.
use Rattle.test_primitives.proofs.Laws.{whole}
use Rattle.test_primitives.proofs.ccm_calls.ctr_sized.Goals as goal

pub returns : goal.returns
returns c =
    let p = whole 12 c.args.prefix.now _ c.requires.1 c.bytes_at.ensures in
    rw (c.new-cipher.ensures, p, c.from.ensures) at c.apply.ensures
