-- Before each turn as many lines stand in the text, behind the place, as turns were made.
use Rattle.std.proofs.Common.{sym, arith}
use Rattle.program_text.proofs.PutLaws.{gaps-room, listing_start, listing_turn}
use Rattle.program_text.proofs.lines.gap_lines_at.Goals as goal

pub loop-i-init : goal.loop-i-init
loop-i-init c = listing_start _ _ _ _

pub loop-i-preserved : goal.loop-i-preserved
loop-i-preserved c =
    let room = gaps-room _ _ c.args.gaps (sym c.if-not-gaps_fit.ensures) in
    listing_turn c.loop-i.invariant c.loop-i-test.true (omega (arith, room.0)) c.two_numbers-at.ensures
