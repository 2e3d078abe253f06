-- Demand 2: keys, chain values, sealed and signed bytes are those of the papers, and a message opens, or verifies, exactly if every listed
-- check holds. Of the suite: HMAC, SHA-2, AES, CCM, GCM and CMAC are the definitions of FIPS 198-1, 180-4, 197, SP 800-38C, 800-38D and
-- 800-38B in their own crates.
-- The tables of labels, the header's fields and their order are cited from protocol, where the rules' sentences stand beside them.
-- Assumes nothing.
use Rattle.std.specs.Prelude.{◌≡◌, ◌≢◌, ◌↔◌, true, false, ◌++◌, ℕ, ◌+◌, take, replicate}
use Rattle.sha_2.specs.Sha2.{hash}
use Rattle.sha_2.specs.Sha256.{sha256}
use Rattle.sha_2.specs.Sha512 as sha2
use Rattle.hmac.specs.Hmac.{hmac}
use Rattle.ccm.specs.Ccm as ccm
use Rattle.gcm.specs.Gcm as gcm
use Rattle.cmac.specs.Cmac as rfc4493
use Rattle.protocol.specs.Bytes.{Bytes}
use Rattle.protocol.specs.Answer.{done}
use Rattle.protocol.specs.Connection.{Connection, cipher_used, is_gcm, is_wide}
use Rattle.protocol.specs.TransformHeader.{inner, session_id_of}
use Rattle.protocol.specs.Keys.{session_key, derivation_input, derived_keys, keys311, keys300, keys_in_order}
use Rattle.protocol.specs.Preauth.{FoldKind}
use Rattle.protocol.specs.Signing.{signed_under}
use Rattle.protocol.specs.SessionTable.{Session, sealing_key, record_of, change_record, count_up, Adding, new_record, fill_free}
use Rattle.protocol.specs.Ciphers.{aes}
use Rattle.protocol.specs.Transform.{sealed_under}
use Rattle.protocol.specs.Calls.{derivation, folding, sealing_under, opening_under, signing_under, verifying_under, adding, sealing, opening}
use Rattle.protocol.specs.Calls.{Lent, with_message, with_table, with_chain, with_keys, with_counter, answer, left}
use Rattle.protocol.specs.Suite.{suite, kdf, cmac, ciphers}
use Rattle.demands.specs.Opening.{Carries, OpensUnderKey, OpensWithRecord}
use Rattle.demands.specs.Verifying.{SignChecks, Verifies}

-- ---- keys

-- "Each key is the first 16 bytes of HMAC-SHA-256, keyed with it, over" what `derivation_input` makes of label and context; or the first 32
abbrev pub key_from : ℕ → Bytes → Bytes → Bytes → Bytes
key_from bytes key label context = take bytes (hmac sha256 key (derivation_input bytes label context))

pub record KeysOfPapers : Type 0 where
  -- "first 16 bytes of the material given, padded right with zeros"
  pub session_key_is : (material : Bytes) → session_key material ≡ take 16 (material ++ replicate 16 0)
  -- the table's labels and contexts of 3.1.1, and those of 3.0 and 3.0.2
  pub keys_311 : (cipher : ℕ) (chain material : Bytes) → derived_keys kdf 0x0311 cipher chain material ≡ keys311 key_from (is_wide 0x0311 cipher) chain material
  pub keys_300 : (dialect cipher : ℕ) (chain material : Bytes) → dialect ≢ 0x0311 → derived_keys kdf dialect cipher chain material ≡ keys300 key_from material
  -- "writes the four keys in the order of the table"
  pub written : (dialect cipher : ℕ) (chain material : Bytes) (w : Lent) (n : ℕ) → answer suite (derivation dialect cipher chain material) w ≡ done n
      → left suite (derivation dialect cipher chain material) w ≡ with_keys (keys_in_order (derived_keys kdf dialect cipher chain material)) w
  -- adding puts the record with these keys into the first free place
  pub added : (a : Adding) (w : Lent) (n : ℕ) → answer suite (adding a) w ≡ done n
      → left suite (adding a) w ≡ with_table (fill_free (new_record kdf a) w.table) w

-- ---- the chain

pub record ChainOfPapers : Type 0 where
  -- "Folding a message gives SHA-512 of the old value followed by the message"
  pub folded : (kind : FoldKind) (m : Bytes) (w : Lent) → answer suite (folding kind m) w ≡ done 1
      → left suite (folding kind m) w ≡ with_chain (hash sha2.sha512 (w.chain ++ m)) w

-- ---- the ciphers, 2 and 4 or else 1 and 3, whatever the size of the key: "11 nonce bytes", "12 nonce bytes" of the header's Nonce

pub record CiphersOfPapers (key nonce auth text : Bytes) : Type 0 where
  pub ccm_ciphertext : (cipher : ℕ) → is_gcm cipher ≡ false → ciphers.encrypt cipher key nonce auth text ≡ ccm.encrypt (aes key) (take 11 nonce) text
  pub ccm_tag : (cipher : ℕ) → is_gcm cipher ≡ false → ciphers.tag cipher key nonce auth text ≡ ccm.tag (aes key) (take 11 nonce) auth text
  pub gcm_ciphertext : (cipher : ℕ) → is_gcm cipher ≡ true → ciphers.encrypt cipher key nonce auth text ≡ gcm.encrypt (aes key) (take 12 nonce) text
  pub gcm_tag : (cipher : ℕ) → is_gcm cipher ≡ true
      → ciphers.tag cipher key nonce auth text ≡ gcm.tag (aes key) (take 12 nonce) auth (gcm.encrypt (aes key) (take 12 nonce) text)

-- ---- sealed bytes, with these ciphers

pub record SealedOfPapers : Type 0 where
  -- under one given key; "The counter is then handed in and handed back"
  pub under_one_key : (c : Connection) (key : Bytes) (id : ℕ) (w : Lent) (n : ℕ) → answer suite (sealing_under c key id) w ≡ done n
      → left suite (sealing_under c key id) w
      ≡ with_counter (w.counter + 1) (with_message (sealed_under ciphers (cipher_used c) key w.counter id (inner w.message)) w)
  -- "The counter goes up by one and nothing else in the table changes"
  pub with_a_table : (c : Connection) (id : ℕ) (w : Lent) (n : ℕ) → answer suite (sealing c id) w ≡ done n
      → let s = record_of id w.table in
      left suite (sealing c id) w
      ≡ with_table (change_record count_up id w.table)
      (with_message (sealed_under ciphers (cipher_used c) (sealing_key c.role s.keys) s.counter id (inner w.message)) w)

-- ---- opened

-- the record that lookup takes for the id in the message's header
abbrev pub record_named : Lent → Session
record_named w = record_of (session_id_of w.message) w.table

-- "Opening leaves the header, replaces the rest by the plaintext, and never changes the table"
abbrev pub opened_with : Bytes → Lent → Lent
opened_with text w = with_message (take 52 w.message ++ text) w

pub record OpenedOfPapers : Type 0 where
  -- a message opens exactly if every listed check holds
  pub under_one_key : (c : Connection) (key : Bytes) (id : ℕ) (w : Lent) (n : ℕ)
      → (answer suite (opening_under c key id) w ≡ done n) ↔ OpensUnderKey c key id w.message n
  pub with_a_table : (c : Connection) (w : Lent) (n : ℕ) → (answer suite (opening c) w ≡ done n) ↔ OpensWithRecord c w.message (record_named w) n
  -- to its one specified plaintext
  pub one-text : (cipher : ℕ) (key m text text' : Bytes) → Carries cipher key m text → Carries cipher key m text' → text ≡ text'
  pub text_under_key : (c : Connection) (key : Bytes) (id : ℕ) (w : Lent) (n : ℕ) (o : OpensUnderKey c key id w.message n)
      → left suite (opening_under c key id) w ≡ opened_with o.text w
  pub text_with_table : (c : Connection) (w : Lent) (n : ℕ) (o : OpensWithRecord c w.message (record_named w) n)
      → left suite (opening c) w ≡ opened_with o.text w

-- ---- signed bytes, and verifying

pub record SignedOfPapers : Type 0 where
  pub aes-cmac : (key m : Bytes) → cmac key m ≡ rfc4493.cmac (aes key) m
  -- a message is signed exactly if every listed check holds
  pub signs : (key : Bytes) (w : Lent) (n : ℕ) → (answer suite (signing_under key) w ≡ done n) ↔ (SignChecks key w.message × (n ≡ 0))
  -- "set flag 0x00000008, zero bytes 48..64 of the header, sign the whole message, store the 16 bytes there"
  pub bytes : (key : Bytes) (w : Lent) (n : ℕ) → answer suite (signing_under key) w ≡ done n
      → left suite (signing_under key) w ≡ with_message (signed_under cmac key w.message) w
  -- and verifies exactly if every listed check holds
  pub verifies : (key : Bytes) (w : Lent) (n : ℕ) → (answer suite (verifying_under key) w ≡ done n) ↔ (Verifies key w.message × (n ≡ 0))

-- ---- the demand

pub record Demand2 : Type 0 where
  pub keys : KeysOfPapers
  pub chain : ChainOfPapers
  pub enciphered : (key nonce auth text : Bytes) → CiphersOfPapers key nonce auth text
  pub sealed : SealedOfPapers
  pub opened : OpenedOfPapers
  pub signed : SignedOfPapers
