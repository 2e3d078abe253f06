-- The table's keys: the struct of the code is the record of the definitions as the code stores it, field by field.
-- Assumes nothing.
use mathlib.Core.Path.{◌≡◌, sym, ap, ◌∙◌}
use mathlib.Core.Bool.{Bool, true, false, cond, ◌&&◌, ◌||◌}
use Prim.Native.Nat.{ℕ}
use borrow.Author.Tests.{eq-eqb, ne_eqb}
use lib.Dec.{eqb}
use lib.ListN.{length}
use Rattle.octets.specs.Blocks.{zero_padded}
use Rattle.octets.proofs.BlockLaws.{zero_padded_exact}
use Rattle.kdf.specs.CounterMode.{derive_sha256}
use Rattle.protocol.specs.Bytes.{Bytes}
use Rattle.protocol.specs.Connection.{is_wide, cipher_key_bytes}
use Rattle.protocol.specs.Keys as rules
use Rattle.protocol.specs.Keys.{session_key, cipher_material, smb_c2_s_cipher_key, smb_s2_c_cipher_key, smb2_aes_ccm, server_in, server_out, keys311, keys300}
use Rattle.protocol.specs.Keys.{derived_keys}
use Rattle.protocol.specs.Suite.{kdf}
use Rattle.protocol.proofs.SuiteLaws.{kdf_is, suite_sound}
use Rattle.derived_keys.specs.declared.Keys.{Keys}
use Rattle.derived_keys.specs.declared.purpose.Purposes.{Purposes}
use Rattle.derived_keys.specs.Purposes.{keys_by, IsFor311, IsFor300}
use Rattle.derived_keys.specs.Reading.{stored}

-- a wide key has no zeros behind it
pub wide_key : (material label context r : Bytes) → r ≡ derive_sha256 32 material label context → r ≡ zero_padded 32 (kdf 32 material label context)
wide_key material label context r e =
    e ∙ sym (kdf_is 32 material label context) ∙ sym (zero_padded_exact 32 _ (suite_sound.key_length true material label context))

-- the columns of the table
module _ (material : Bytes) (p : Purposes) where
  pub by_311 : (wide : Bool) (chain : Bytes) → IsFor311 chain p → keys_by wide material p ≡ keys311 kdf wide chain material
  by_311 wide chain f =
      let s = session_key material in
      let n = cipher_key_bytes wide in
      let m = cipher_material wide material in
      λ i. record {
        signing = kdf 16 s (f.signing.labelled i) (f.signing.bound i);
        application = kdf 16 s (f.application.labelled i) (f.application.bound i);
        client_to_server = kdf n m (f.client_to_server.labelled i) (f.client_to_server.bound i);
        server_to_client = kdf n m (f.server_to_client.labelled i) (f.server_to_client.bound i);
      }

  pub by_300 : IsFor300 p → keys_by false material p ≡ keys300 kdf material
  by_300 f =
      let s = session_key material in
      λ i. record {
        signing = kdf 16 s (f.signing.labelled i) (f.signing.bound i);
        application = kdf 16 s (f.application.labelled i) (f.application.bound i);
        client_to_server = kdf 16 s (f.client_to_server.labelled i) (f.client_to_server.bound i);
        server_to_client = kdf 16 s (f.server_to_client.labelled i) (f.server_to_client.bound i);
      }

module _ (dialect cipher : ℕ) (chain material : Bytes) where
  pub derived_311 : (k : Keys) (wide : Bool) → wide ≡ is_wide dialect cipher → dialect ≡ 0x0311 → k ≡ stored (keys311 kdf wide chain material)
      → k ≡ stored (derived_keys kdf dialect cipher chain material)
  unfolding derived_keys
  derived_311 k wide w e h = h ∙ ap (λ (x : Bool). stored (keys311 kdf x chain material)) w ∙ rw (eq-eqb dialect 0x0311 e)

  pub derived_300 : (k : Keys) → (dialect ≡ 0x0311 → ⊥) → k ≡ stored (keys300 kdf material) → k ≡ stored (derived_keys kdf dialect cipher chain material)
  unfolding derived_keys
  derived_300 k e h = h ∙ rw (ne_eqb dialect 0x0311 e)

-- each cipher key has the bytes of its size
module _ (dialect cipher : ℕ) (chain material : Bytes) where
  abbrev long : Bool
  long = eqb cipher 3 || eqb cipher 4

  abbrev keys_for : Bool → rules.Keys
  keys_for b = cond b (keys311 kdf (b && long) chain material) (keys300 kdf material)

  lengths : (b : Bool)
      → (length (keys_for b).client_to_server ≡ cipher_key_bytes (b && long)) × (length (keys_for b).server_to_client ≡ cipher_key_bytes (b && long))
  lengths true = (
    suite_sound.key_length long (cipher_material long material) smb_c2_s_cipher_key chain,
    suite_sound.key_length long (cipher_material long material) smb_s2_c_cipher_key chain,
  )
  lengths false =
      (suite_sound.key_length false (session_key material) smb2_aes_ccm server_in, suite_sound.key_length false (session_key material) smb2_aes_ccm server_out)

  pub derived_lengths : (wide : Bool) → wide ≡ is_wide dialect cipher
      → (length (derived_keys kdf dialect cipher chain material).client_to_server ≡ cipher_key_bytes wide)
      × (length (derived_keys kdf dialect cipher chain material).server_to_client ≡ cipher_key_bytes wide)
  unfolding derived_keys
  derived_lengths wide w = rw w (lengths (eqb dialect 0x0311))
