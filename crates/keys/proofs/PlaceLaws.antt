-- A place that is written from its start, a key at a time.
-- Assumes nothing.
use mathlib.Core.Path.{◌≡◌, refl, sym, ap, ap₂, ◌∙◌}
use mathlib.Core.Bool.{Bool, true, false}
use mathlib.Core.List.{[], ◌++◌, append_assoc}
use Prim.Native.Nat.{ℕ, ◌+◌, ◌≤◌, min}
use native.Mathlib.Omega.{arith}
use lib.ListN.{length, take}
use lib.Seq.{paste, length-paste, take-paste, take-length, take_all}
use Rattle.protocol.specs.Bytes.{Bytes}
use Rattle.protocol.specs.Connection.{cipher_key_bytes, place_bytes}
use Rattle.protocol.specs.Keys as rules
use Rattle.derived_keys.specs.declared.Keys.{Keys}
use Rattle.derived_keys.specs.Reading.{keys_in}

-- the first n bytes of a place of so many bytes in all are s
pub record Written (all n : ℕ) (s place : Bytes) : Type 0 where
  pub size : length place ≡ all
  pub front : take n place ≡ s

pub begun : (place : Bytes) → Written (length place) 0 [] place
begun place = record { size = refl; front = refl }

-- a key of m bytes more
pub further : (all n m : ℕ) (s before key after : Bytes) → Written all n s before → n + m ≤ all → m ≡ length key → after ≡ paste before n key (length key)
    → Written all (n + m) (s ++ key) after
further all n m s before key after w inside l e =
    let b = w.size in
    record {
      size = ap length e ∙ length-paste before n key (length key) (omega arith) (omega arith) ∙ w.size;
      front =
          ap₂ (λ (k : ℕ) (p : Bytes). take (n + k) p) l e
          ∙ take-paste before n key (length key) (omega arith) (omega arith)
          ∙ ap₂ ◌++◌ w.front (take-length key);
    }

pub written-whole : (all n : ℕ) (a b c d place : Bytes) → n ≡ all → Written all n ((([] ++ a) ++ b) ++ c ++ d) place → place ≡ a ++ (b ++ (c ++ d))
written-whole all n a b c d place e w =
    let whole : take n place ≡ place = rw (w.size ∙ sym e) at (take-length place) in
    let joined : (([] ++ a) ++ b) ++ c ++ d ≡ a ++ (b ++ (c ++ d)) = simp append_assoc in
    sym whole ∙ w.front ∙ joined

pub place_size : (wide : Bool) → place_bytes wide ≡ 32 + cipher_key_bytes wide + cipher_key_bytes wide
place_size true = refl
place_size false = refl
