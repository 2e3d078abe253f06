-- What is known of a window that a file is read into. Which bytes a read gives, no contract can say.
-- Assumes nothing.
use Rattle.std.specs.Prelude.{◌≡◌, true, ◌||◌, List, ℕ, ◌-◌, ◌≤◌, leb, length, take, Result, IfOk}
use Rattle.program_files.specs.declared.Gathered.{Gathered}

-- n bytes at most were read behind the window's first `have`, and those are what they were, also where the read failed
pub record ReadsBehind {E : Type 0} (w : List ℕ) (have : ℕ) (r : Result ℕ E) (w' : List ℕ) : Type 0 where
  pub some : IfOk r (λ n. n ≤ length w - have)
  pub before : take have w' ≡ take have w

-- n bytes are there, or the file has ended
pub record Gathers (n : ℕ) (r : Gathered) (w' : List ℕ) : Type 0 where
  pub inside : r.have ≤ length w'
  pub enough : (leb n r.have || r.ended) ≡ true
