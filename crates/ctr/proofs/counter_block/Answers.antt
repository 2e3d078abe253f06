-- Right because the twelve bytes and the four of the number fill the block.
use mathlib.Core.List.{List, ◌++◌}
use mathlib.Core.Path.{◌≡◌, ap, sym, ◌∙◌}
use Prim.Native.Nat.{ℕ, ◌+◌}
use lib.ListN.{length, replicate}
use Rattle.octets.specs.Numbers.{to_big_endian}
use Rattle.octets.proofs.Paste.{two_runs}
use borrow.Author.Rules.{rules}
use Rattle.ctr.proofs.counter_block.Goals as goal

pub returns : goal.returns
returns c =
    let f = c.copy in
    let u = c.to_bytes in
    let p = c.args.prefix in
    let lp : length p ≡ 12 = search rules in
    let lu : length u.result ≡ 4 = search rules in
    two_runs (replicate 16 0) p u.result f.new.dst _ 12 lp (ap (λ (n : ℕ). 12 + n) (sym lu)) f.ensures c.copy-2.ensures
    ∙ ap (λ (x : List ℕ). p ++ x) (u.ensures ∙ ap (to_big_endian 4) c.from.ensures)
