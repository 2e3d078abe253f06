-- Right because the product with the first bit is R_128 or 0.
use mathlib.Core.Path.{refl}
use lib.ListN.{get_or}
use mir.Syntax.{w8}
use mir.Val.{Fits}
use Rattle.cmac.proofs.Doubling.{doubled_is}
use borrow.Author.Rules.{rules}
use Rattle.cmac.proofs.last.double.Goals as goal

pub returns : goal.returns
returns c =
    let byte : Fits w8 (get_or c.args.x 0 0) = search rules in
    doubled_is c.args.x _ _ c.shifted-r.ensures byte.fits refl
