-- What a connection agreed on: RULES 1 and 3, and the numbers 1, 3, 7, 17, 19, 29, 35 and 40. Every call takes it whole;
-- a call under one given key does not look at the constraint.
-- Assumes nothing.
use Rattle.std.specs.Prelude.{Bool, true, false, cond, not, ◌&&◌, ◌||◌, ℕ, eqb, leb}

pub data Role : Type 0 where
  client server : Role

abbrev pub other : Role → Role
other client = server
other server = client

abbrev pub is_server : Role → Bool
is_server client = false
is_server server = true

pub record Connection : Type 0 where
  pub role : Role
  pub dialect : ℕ
  pub encryption : Bool
  pub cipher : ℕ
  pub constrained : Bool

-- "dialects 3.0 (0x0300), 3.0.2 (0x0302), 3.1.1 (0x0311)"
abbrev pub known_dialect : ℕ → Bool
known_dialect d = eqb d 0x0300 || eqb d 0x0302 || eqb d 0x0311

-- number 1 is not given. It is for "dialect not one of the three, or encryption off, or cipher 0, or dialect 3.1.1 with a cipher"
-- other than 1 to 4: it "now admits 3 and 4 on 3.1.1"
abbrev pub encrypts : Connection → Bool
encrypts c =
    known_dialect c.dialect && c.encryption && not (eqb c.cipher 0)
    && (not (eqb c.dialect 0x0311) || leb c.cipher 4)

-- "Below 3.1.1 the cipher is always CCM"
abbrev pub cipher_used : Connection → ℕ
cipher_used c = cond (eqb c.dialect 0x0311) c.cipher 1

-- number 29: "a GCM cipher", AES-128-GCM or AES-256-GCM
abbrev pub is_gcm : ℕ → Bool
is_gcm cipher = eqb cipher 2 || eqb cipher 4

abbrev pub uses_gcm : Connection → Bool
uses_gcm c = is_gcm (cipher_used c)

-- "cipher 3 (AES-256-CCM) and 4 (AES-256-GCM) on 3.1.1"; "below that the cipher is still CCM with 16-byte keys"
abbrev pub is_wide : ℕ → ℕ → Bool
is_wide dialect cipher = eqb dialect 0x0311 && (eqb cipher 3 || eqb cipher 4)

abbrev pub uses_wide : Connection → Bool
uses_wide c = is_wide c.dialect c.cipher

-- "Cipher keys are then 32 bytes"
abbrev pub cipher_key_bytes : Bool → ℕ
cipher_key_bytes wide = cond wide 32 16

-- number 40: "the place for the four keys 96 bytes exactly on 3.1.1 with cipher 3 or 4"
abbrev pub place_bytes : Bool → ℕ
place_bytes wide = cond wide 96 64

-- number 19: "key material over 65,536 bytes"
abbrev pub longest_material : ℕ
longest_material = 65536

-- numbers 3 and 23: "Raise the limit in 3 and 23 to 8,454,144 bytes"
abbrev pub longest_message : ℕ
longest_message = 8454144

-- number 17: 2^64 - 1
abbrev pub last_counter : ℕ
last_counter = 18446744073709551615
