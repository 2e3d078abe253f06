-- Figures of the rules beside the P lines, which rule out the errors that it expects.
-- Assumes nothing.
use mathlib.Core.Path.{◌≡◌, refl}
use mathlib.Core.Bool.{true, false}
use mathlib.Core.List.{List, [], ◌∷◌}
use Prim.Native.Nat.{ℕ}
use native.Mathlib.Omega.{arith}
use lib.ListN.{length, take, replicate, length-append}
use lib.Seq.{length-take-le}
use Rattle.octets.specs.Numbers.{little_endian, to_little_endian, to_big_endian}
use Rattle.octets.specs.Blocks.{zero_padded}
use Rattle.octets.specs.Same.{same_bytes}
use Rattle.ccm.specs.Formatting.{flags, associated, counter_block}
use Rattle.gcm.specs.Gcm.{pre_counter_block}
use Rattle.protocol.specs.Bytes.{Bytes}
use Rattle.protocol.specs.Answer.{refused}
use Rattle.protocol.specs.Connection.{Connection, client, last_counter}
use Rattle.protocol.specs.Compound.{walk}
use Rattle.protocol.specs.Preauth.{setup_response, fresh_chain}
use Rattle.protocol.specs.Keys.{session_key, smb_signing_key, smb_app_key, smb_c2_s_cipher_key, smb_s2_c_cipher_key, smb2_aes_cmac, smb2_app, smb2_aes_ccm, smb_sign}
use Rattle.protocol.specs.Keys.{smb_rpc, server_in, server_out}
use Rattle.protocol.specs.TransformHeader.{nonce_of, authenticated}
use Rattle.protocol.specs.Ciphers.{ccm_nonce, gcm_nonce}
use Rattle.protocol.specs.Calls.{folding, sealing_under, opening_under, only_chain, only_message, message_and_counter, tests, answer}
use Rattle.protocol.specs.Suite.{suite}

abbrev lengths : List Bytes → List ℕ
lengths [] = []
lengths (b ∷ bs) = length b ∷ lengths bs

-- encryption off
abbrev off : Connection
off = record { role = client; dialect = 0x0311; encryption = false; cipher = 1; constrained = false }

abbrev on : Connection
on = record { role = client; dialect = 0x0311; encryption = true; cipher = 1; constrained = false }

pub record Figures : Type 0 where
  -- "Keys", in brackets: bytes with the zero
  pub labels_311 : lengths (smb_signing_key ∷ smb_app_key ∷ smb_c2_s_cipher_key ∷ smb_s2_c_cipher_key ∷ []) ≡ 14 ∷ 10 ∷ 16 ∷ 16 ∷ []
  pub labels_300 : lengths (smb2_aes_cmac ∷ smb2_app ∷ smb2_aes_ccm ∷ []) ≡ 12 ∷ 8 ∷ 11 ∷ []
  pub contexts_300 : lengths (smb_sign ∷ smb_rpc ∷ server_in ∷ server_out ∷ []) ≡ 8 ∷ 7 ∷ 10 ∷ 10 ∷ []
  -- "padded right with zeros"
  pub short-material : session_key (1 ∷ 2 ∷ []) ≡ 1 ∷ 2 ∷ replicate 14 0
  -- "Chain": "23 is tested before the status"
  pub length-first : answer suite (folding setup_response (replicate 63 0)) (only_chain fresh_chain) ≡ refused 23
  -- "Ciphers": the flag byte of CCM's first block, and what its authenticated data begin with
  pub first-flags : (n size id : ℕ) → flags 4 16 (length (authenticated n size id)) ≡ 0x7B
  pub associated-begins : (n size id : ℕ) → take 2 (associated (authenticated n size id)) ≡ 0 ∷ 0x20 ∷ []
  -- the nonce bytes of each cipher fill its counter blocks
  pub ccm_blocks : (nonce : Bytes) (i : ℕ) → length nonce ≡ 16 → length (counter_block 4 (ccm_nonce nonce) i) ≡ 16
  pub gcm_blocks : (nonce : Bytes) → length nonce ≡ 16 → length (pre_counter_block (gcm_nonce nonce)) ≡ 16
  -- "Where several apply, 40 comes first"
  pub key_first : answer suite (opening_under off (replicate 15 0) 5) (only_message []) ≡ refused 40
  -- 17 comes last: after 11
  pub counter-last : answer suite (sealing_under on (replicate 16 0) 5) (message_and_counter (replicate 115 0) last_counter) ≡ refused 11

ccm_blocks : (nonce : Bytes) (i : ℕ) → length nonce ≡ 16 → length (counter_block 4 (ccm_nonce nonce) i) ≡ 16
unfolding to_big_endian
ccm_blocks nonce i l = simp length-append (omega (arith, length-take-le 11 nonce (omega arith)))

gcm_blocks : (nonce : Bytes) → length nonce ≡ 16 → length (pre_counter_block (gcm_nonce nonce)) ≡ 16
unfolding to_big_endian
gcm_blocks nonce l = simp length-append (omega (arith, length-take-le 12 nonce (omega arith)))

labels_311 : lengths (smb_signing_key ∷ smb_app_key ∷ smb_c2_s_cipher_key ∷ smb_s2_c_cipher_key ∷ []) ≡ 14 ∷ 10 ∷ 16 ∷ 16 ∷ []
unfolding smb_signing_key smb_app_key smb_c2_s_cipher_key smb_s2_c_cipher_key
labels_311 = refl

labels_300 : lengths (smb2_aes_cmac ∷ smb2_app ∷ smb2_aes_ccm ∷ []) ≡ 12 ∷ 8 ∷ 11 ∷ []
unfolding smb2_aes_cmac smb2_app smb2_aes_ccm
labels_300 = refl

contexts_300 : lengths (smb_sign ∷ smb_rpc ∷ server_in ∷ server_out ∷ []) ≡ 8 ∷ 7 ∷ 10 ∷ 10 ∷ []
unfolding smb_sign smb_rpc server_in server_out
contexts_300 = refl

pub figures : Figures
unfolding zero_padded nonce_of authenticated to_little_endian little_endian to_big_endian same_bytes flags associated walk tests
figures =
    record {
      labels_311 = labels_311;
      labels_300 = labels_300;
      contexts_300 = contexts_300;
      short-material = refl;
      length-first = refl;
      first-flags = λ n size id. refl;
      associated-begins = λ n size id. refl;
      ccm_blocks = ccm_blocks;
      gcm_blocks = gcm_blocks;
      key_first = refl;
      counter-last = refl;
    }
