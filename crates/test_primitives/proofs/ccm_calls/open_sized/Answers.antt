-- Right because arrays read off slices of their length are the slices, and `ccm::open` does the rest.
-- Assumes nothing.
use Rattle.test_primitives.proofs.Laws.{whole}
use Rattle.test_primitives.proofs.ccm_calls.open_sized.Goals as goal

pub returns : goal.returns
returns c =
    let n = whole 11 c.args.nonce.now _ c.requires.1 c.bytes_at-n.ensures in
    let a = whole 32 c.args.aad.now _ c.requires.2 c.bytes_at-a.ensures in
    let t = whole 16 c.args.tag.now _ c.requires.3 c.bytes_at-t.ensures in
    let e = rw (n, a, t) at c.«open».ensures in
    (e.right, e.bytes)
