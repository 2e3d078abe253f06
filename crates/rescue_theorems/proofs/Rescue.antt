-- The statements about a rescue, all together.
-- Assumes nothing.
use Rattle.rescue_theorems.specs.Rescued.{Rescue}
use Rattle.rescue_theorems.proofs.Rescued.{each_once, earliest, gap_ends, comes_out, few_gaps, head_stays, clean-file, found-whole, again, enough-room}

pub rescue : Rescue
rescue =
    record {
      its_pieces = record { each_once = each_once; earliest = earliest; gap_ends = gap_ends; comes_out = comes_out; few_gaps = few_gaps };
      its_files = record { head_stays = head_stays; clean = clean-file; found-whole = found-whole; again = again; enough-room = enough-room };
    }
