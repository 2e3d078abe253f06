-- Right because each way takes the piece in where it belongs, or leaves the state as it is.
-- Assumes nothing.
use mathlib.Core.Bool.{not}
use mathlib.Core.Path.{ap}
use Rattle.signing_pieces.proofs.CodeLaws.{refuses, inside, taken_in, taken_behind}
use Rattle.signing_pieces.proofs.SignState.piece.Goals as goal

pub returns-then-not-takes : goal.returns-then-not-takes
returns-then-not-takes c =
    let a = c.args in
    refuses a.self a.piece.now _ c.fits.ensures (ap not c.if-not-takes.true) c.step.ensures

pub into_header-requires : goal.into_header-requires
into_header-requires c =
    let a = c.args in
    (c.if-self-lt64.true, inside a.self a.piece.now _ c.fits.ensures (ap not c.if-not-takes.false))

pub returns-then-self-lt64 : goal.returns-then-self-lt64
returns-then-self-lt64 c =
    let a = c.args in
    taken_in a.self a.piece.now _ c.fits.ensures (ap not c.if-not-takes.false) c.if-self-lt64.true
    c.into_header.ensures c.step-then-self-lt64.ensures

pub behind_header-requires : goal.behind_header-requires
behind_header-requires c =
    let a = c.args in
    (c.if-self-lt64.false, inside a.self a.piece.now _ c.fits.ensures (ap not c.if-not-takes.false))

pub returns : goal.returns
returns c =
    let a = c.args in
    taken_behind a.self a.piece.now _ c.fits.ensures (ap not c.if-not-takes.false) c.if-self-lt64.false
    c.behind_header.ensures c.step-2.ensures
