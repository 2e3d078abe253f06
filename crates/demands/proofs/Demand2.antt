-- Demand 2: what a call leaves is its effect, and the checks of opening, signing and verifying both ways.
-- Assumes nothing.
use mathlib.Core.Path.{◌≡◌, refl, ap, ◌∙◌}
use mathlib.Core.Bool.{Bool, true, false, cond}
use mathlib.Core.List.{[], ◌++◌}
use mathlib.Core.Option.{Option, some, get_or}
use Prim.Native.Nat.{ℕ}
use native.Mathlib.Omega.{arith}
use borrow.Author.Tests.{ne_eqb}
use lib.Dec.{lit≤}
use lib.ListN.{take}
use Rattle.protocol.specs.Bytes.{Bytes}
use Rattle.protocol.specs.Answer.{done}
use Rattle.protocol.specs.Connection.{Connection, cipher_used, is_wide}
use Rattle.protocol.specs.Keys.{session_key, cipher_material, smb_signing_key, smb_app_key, smb_c2_s_cipher_key, smb_s2_c_cipher_key, smb2_aes_cmac, smb2_app, smb2_aes_ccm}
use Rattle.protocol.specs.Keys.{smb_sign, smb_rpc, server_in, server_out, keys311, keys300, derived_keys}
use Rattle.protocol.specs.Preauth.{FoldKind, status_allows}
use Rattle.protocol.specs.Ciphers.{aes_ccm, aes_gcm, cipher_of}
use Rattle.protocol.specs.Transform.{plaintext_under}
use Rattle.protocol.specs.Calls.{derivation, folding, sealing_under, opening_under, signing_under, adding, sealing, opening}
use Rattle.protocol.specs.Calls.{Lent, with_message, with_chain, open_tests, tests, effect, answer, left}
use Rattle.protocol.specs.Suite.{suite, sha512, kdf, ciphers}
use Rattle.protocol.proofs.SuiteLaws.{sha512_is, kdf-of_document, cmac_is}
use Rattle.demands.specs.Lines.{no_line}
use Rattle.demands.specs.Opening.{Carries, OpensUnderKey, OpensWithRecord}
use Rattle.demands.specs.Demand2.{key_from, KeysOfPapers, ChainOfPapers, CiphersOfPapers, SealedOfPapers, record_named, opened_with, OpenedOfPapers}
use Rattle.demands.specs.Demand2.{SignedOfPapers, Demand2}
use Rattle.demands.proofs.Answering.{passes_of, done-of}
use Rattle.demands.proofs.CallLaws.{left-done}
use Rattle.demands.proofs.Padding.{padded_then_cut}
use Rattle.demands.proofs.Signing.{signs, signs_if, verifies, verifies_if}
use Rattle.demands.proofs.Checks.{carried-text, under_key_says, says_under_key, record_says, record_text, says_record}

-- ---- keys

of_311 : (wide : Bool) (chain material : Bytes) → keys311 kdf wide chain material ≡ keys311 key_from wide chain material
of_311 wide chain material =
    let key = session_key material in
    let cipher-key = cipher_material wide material in
    λ i.
    record {
      signing = kdf-of_document false key smb_signing_key chain i;
      application = kdf-of_document false key smb_app_key chain i;
      client_to_server = kdf-of_document wide cipher-key smb_c2_s_cipher_key chain i;
      server_to_client = kdf-of_document wide cipher-key smb_s2_c_cipher_key chain i;
    }

of_300 : (material : Bytes) → keys300 kdf material ≡ keys300 key_from material
of_300 material =
    let key = session_key material in
    λ i.
    record {
      signing = kdf-of_document false key smb2_aes_cmac smb_sign i;
      application = kdf-of_document false key smb2_app smb_rpc i;
      client_to_server = kdf-of_document false key smb2_aes_ccm server_in i;
      server_to_client = kdf-of_document false key smb2_aes_ccm server_out i;
    }

keys-of_papers : KeysOfPapers
unfolding derived_keys effect
keys-of_papers =
    record {
      session_key_is = λ material. padded_then_cut 16 16 material (lit≤ tt);
      keys_311 = λ cipher chain material. of_311 (is_wide 0x0311 cipher) chain material;
      keys_300 =
          λ dialect cipher chain material h.
          ap (λ (b : Bool). cond b (keys311 kdf (is_wide dialect cipher) chain material) (keys300 kdf material)) (ne_eqb dialect 0x0311 h) ∙ of_300 material;
      written = λ dialect cipher chain material. left-done suite (derivation dialect cipher chain material);
      added = λ a. left-done suite (adding a);
    }

-- ---- the chain

mark-one : (b : Bool) → ◌≡◌ {A = ℕ} (cond b 1 0) 1 → b ≡ true
mark-one true e = refl
mark-one false e = absurd (omega arith)

folded_in : (kind : FoldKind) (m : Bytes) (w : Lent) → answer suite (folding kind m) w ≡ done 1
    → left suite (folding kind m) w ≡ with_chain (sha512 (w.chain ++ m)) w
unfolding tests effect
folded_in kind m w e =
    left-done suite (folding kind m) w 1 e
    ∙ ap (λ (b : Bool). with_chain (cond b (sha512 (w.chain ++ m)) w.chain) w)
    (mark-one (status_allows kind m) (passes_of (tests suite (folding kind m) w) 1 e).visits)

chain-of_papers : ChainOfPapers
chain-of_papers = record { folded = λ kind m w e. folded_in kind m w e ∙ ap (λ (v : Bytes). with_chain v w) (sha512_is (w.chain ++ m)) }

-- ---- the ciphers, and sealing

ciphers-of_papers : (key nonce auth text : Bytes) → CiphersOfPapers key nonce auth text
unfolding suite cipher_of
ciphers-of_papers key nonce auth text =
    record {
      ccm_ciphertext = λ cipher e. ap (λ (b : Bool). (cond b aes_gcm aes_ccm).encrypt key nonce auth text) e;
      ccm_tag = λ cipher e. ap (λ (b : Bool). (cond b aes_gcm aes_ccm).tag key nonce auth text) e;
      gcm_ciphertext = λ cipher e. ap (λ (b : Bool). (cond b aes_gcm aes_ccm).encrypt key nonce auth text) e;
      gcm_tag = λ cipher e. ap (λ (b : Bool). (cond b aes_gcm aes_ccm).tag key nonce auth text) e;
    }

sealed-of_papers : SealedOfPapers
unfolding effect
sealed-of_papers = record { under_one_key = λ c key id. left-done suite (sealing_under c key id); with_a_table = λ c id. left-done suite (sealing c id) }

-- ---- opening under one key

module _ (c : Connection) (key : Bytes) (id : ℕ) (w : Lent) (n : ℕ) where
  key_text : (o : OpensUnderKey c key id w.message n) → plaintext_under ciphers (cipher_used c) key w.message ≡ some o.text
  key_text o = carried-text (cipher_used c) key w.message o.text o.carried

  opens_key : answer suite (opening_under c key id) w ≡ done n → OpensUnderKey c key id w.message n
  unfolding tests
  opens_key e =
      let p = passes_of (tests suite (opening_under c key id) w) n e in
      under_key_says c key id w n p.lines p.visits

  key_opens : OpensUnderKey c key id w.message n → answer suite (opening_under c key id) w ≡ done n
  unfolding tests
  key_opens o =
      done-of (tests suite (opening_under c key id) w) n
      (record { lines = says_under_key c key id w n o; visits = rw (key_text o) o.walked; later-lines = no_line })

  key_left : (o : OpensUnderKey c key id w.message n) → left suite (opening_under c key id) w ≡ opened_with o.text w
  unfolding effect
  key_left o =
      left-done suite (opening_under c key id) w n (key_opens o)
      ∙ ap (λ (p : Option Bytes). with_message (take 52 w.message ++ get_or p []) w) (key_text o)

-- ---- opening with the table

module _ (c : Connection) (w : Lent) (n : ℕ) where
  opens-table : answer suite (opening c) w ≡ done n → OpensWithRecord c w.message (record_named w) n
  unfolding tests open_tests
  opens-table e =
      let p = passes_of (tests suite (opening c) w) n e in
      record_says c w.message (record_named w) n p.lines p.visits

  table-opens : OpensWithRecord c w.message (record_named w) n → answer suite (opening c) w ≡ done n
  unfolding tests open_tests
  table-opens o =
      done-of (tests suite (opening c) w) n
      (record {
        lines = says_record c w.message (record_named w) n o;
        visits = rw (record_text c w.message (record_named w) n o) o.walked;
        later-lines = no_line;
      })

  table-left : (o : OpensWithRecord c w.message (record_named w) n) → left suite (opening c) w ≡ opened_with o.text w
  unfolding effect
  table-left o =
      left-done suite (opening c) w n (table-opens o)
      ∙ ap (λ (p : Option Bytes). with_message (take 52 w.message ++ get_or p []) w) (record_text c w.message (record_named w) n o)

one-text : (cipher : ℕ) (key m text text' : Bytes) → Carries cipher key m text → Carries cipher key m text' → text ≡ text'
one-text cipher key m text text' a b =
    let p = carried-text cipher key m text a in
    let q = carried-text cipher key m text' b in
    cc

opened-of_papers : OpenedOfPapers
opened-of_papers =
    record {
      under_one_key = λ c key id w n. (opens_key c key id w n, key_opens c key id w n);
      with_a_table = λ c w n. (opens-table c w n, table-opens c w n);
      one-text = one-text;
      text_under_key = key_left;
      text_with_table = table-left;
    }

signed-of_papers : SignedOfPapers
unfolding effect
signed-of_papers =
    record {
      aes-cmac = cmac_is;
      signs = λ key w n. (signs key w n, signs_if key w n);
      bytes = λ key. left-done suite (signing_under key);
      verifies = λ key w n. (verifies key w n, verifies_if key w n);
    }

pub demand2 : Demand2
demand2 =
    record {
      keys = keys-of_papers;
      chain = chain-of_papers;
      enciphered = ciphers-of_papers;
      sealed = sealed-of_papers;
      opened = opened-of_papers;
      signed = signed-of_papers;
    }
