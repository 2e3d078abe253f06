-- A message in pieces: what is taken in is held, wherever the cuts fall, and the end is its hash.
-- Assumes nothing.
use Rattle.std.proofs.Common.{◌≡◌, ℕ, ◌%◌, ◌^◌, List, [], ◌++◌, length, lit<, arith}
use Rattle.sha_2.specs.Sha2.{hash}
use Rattle.sha_2.specs.Sha256.{sha256}
use Rattle.sha_2.specs.Running.{nothing_taken, updated, finished}
use Rattle.sha_2_running.specs.Code.{state}
use Rattle.sha_2_running.proofs.Held.{begins, takes, ends}
use Rattle.sha256.specs.Code.{Sha256, Holds}
use Rattle.sha256.proofs.LowBits.{same_padding}

wraps : (c : ℕ) → c % 2 ^ 64 % 64 ≡ c % 64
wraps c = omega arith

pub new_holds : (s : Sha256) → state (λ (x : ℕ). x) s ≡ nothing_taken sha256 → Holds s []
new_holds s e = begins sha256 s e

pub takes_in : (s : Sha256) (x : List ℕ) {s' : Sha256} {m : List ℕ} → state (λ (y : ℕ). y) s' ≡ updated sha256 (state (λ (y : ℕ). y) s) x
    → Holds s m → Holds s' (m ++ x)
takes_in s x {s'} {m} e h = takes sha256 (lit< tt) wraps s m h x s' e

pub ends_with : (s : Sha256) {m r : List ℕ} → r ≡ finished sha256 (state (λ (x : ℕ). x) s) → Holds s m → r ≡ hash sha256 m
ends_with s {m} e h = ends sha256 (lit< tt) wraps s m h (same_padding (length m) h.counted) e
