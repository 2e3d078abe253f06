-- The struct of the code that says what an edition fixes.
-- Assumes nothing.
use Rattle.std.specs.Prelude.{◌≡◌, ◌<◌, ◌*◌}
use Rattle.trace_format.specs.Format.{Edition}
use Rattle.trace_format.specs.declared.Layout.{Layout}

pub record IsEdition (l : Layout) (e : Edition) : Type 0 where
  pub unit : l.unit ≡ e.unit
  pub longest : l.longest ≡ e.longest
  -- the weight is that of a bit, and the field of 28 bits holds the longest payload's length
  pub positive : 0 < e.unit
  pub fits : e.longest * e.unit < 268435456
