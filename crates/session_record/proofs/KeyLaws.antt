-- The cipher key that a role takes is the beginning of its place in the record.
-- Assumes nothing.
use mathlib.Core.Path.{◌≡◌, refl, ap, ◌∙◌}
use mathlib.Core.Bool.{Bool, true, false, cond, not}
use Prim.Native.Nat.{ℕ, ◌≤◌}
use native.Mathlib.Omega.{arith}
use lib.ListN.{length, take}
use lib.Seq.{length-take-le}
use Rattle.protocol.specs.Bytes.{Bytes}
use Rattle.protocol.specs.Connection.{client, server, cipher_key_bytes}
use Rattle.protocol.specs.SessionTable.{sealing_key, opening_key}
use Rattle.derived_keys.proofs.Stored.{at_most_32}
use Rattle.session_record.specs.declared.Session.{Session}
use Rattle.session_record.specs.Reading.{key_bytes, session_of}

module _ (s : Session) where
  abbrev from : Bool → Bytes
  from b = cond b s.client_to_server s.server_to_client

  pub sealing_by_role : (b : Bool) → take (key_bytes s) (from b) ≡ sealing_key (cond b client server) (session_of s).keys
  sealing_by_role true = refl
  sealing_by_role false = refl

  pub opening_by_role : (b : Bool) → take (key_bytes s) (from (not b)) ≡ opening_key (cond b client server) (session_of s).keys
  opening_by_role true = refl
  opening_by_role false = refl

-- the part of a place that is lent as the key
module _ (wide : Bool) (n : ℕ) (e : n ≡ cipher_key_bytes wide) (place : Bytes) (l : length place ≡ 32) where
  pub lent-inside : n ≤ length place
  lent-inside = let h = at_most_32 wide in omega arith

  pub lent_length : length (take n place) ≡ n
  lent_length = length-take-le n place lent-inside

  pub lent_is : (key : Bytes) → take (cipher_key_bytes wide) place ≡ key → take n place ≡ key
  lent_is key h = ap (λ (k : ℕ). take k place) e ∙ h
