-- Right because the high word is the first eight bytes.
use mathlib.Core.Path.{◌≡◌, ap, ap₂, sym, ◌∙◌}
use mathlib.Core.List.{List, ◌++◌}
use lib.ListN.{length, replicate}
use Prim.Native.Nat.{ℕ, ◌+◌}
use borrow.Author.Rules.{rules}
use Rattle.octets.proofs.Pairs.{block_is}
use Rattle.octets.proofs.Paste.{two_runs}
use Rattle.ghash.proofs.element_block.Goals as goal

pub returns : goal.returns
returns c =
    let e = c.args.e in
    let la : length c.to_bytes.result ≡ 8 = search rules in
    let lb : length c.to_bytes-2.result ≡ 8 = search rules in
    two_runs (replicate 16 0) c.to_bytes.result c.to_bytes-2.result c.copy.new.dst _ 8 la (ap (λ (n : ℕ). 8 + n) (sym lb))
    c.copy.ensures c.copy-2.ensures
    ∙ ap₂ (λ (x y : List ℕ). x ++ y) c.to_bytes.ensures c.to_bytes-2.ensures
    ∙ block_is e.hi e.lo (search rules)
