-- The code's working variables as a value of the definitions, for its contracts.
-- Assumes nothing.
use Rattle.std.specs.Prelude.{ℕ}
use Rattle.sha_2.specs.Sha2 as sha2
use Rattle.sha_2_compression.specs.declared.rounds.Working.{Working}

abbrev pub of : {W : Type 0} → (W → ℕ) → Working W → sha2.Working
of value v =
    record {
      a = value v.a;
      b = value v.b;
      c = value v.c;
      d = value v.d;
      e = value v.e;
      f = value v.f;
      g = value v.g;
      h = value v.h;
    }
