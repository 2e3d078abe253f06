-- Demand 3, whole: of any primitives that are sound, and so of the suite.
-- Assumes nothing.
use mathlib.Core.Path.{◌≡◌, refl, sym, ap, ◌∙◌}
use mathlib.Core.Bool.{true, ◌||◌}
use Prim.Native.Nat.{ℕ}
use Rattle.protocol.specs.Bytes.{Bytes}
use Rattle.protocol.specs.Connection.{Role, client, server, other, is_wide, cipher_key_bytes, encrypts}
use Rattle.protocol.specs.Keys.{smb_c2_s_cipher_key, smb_s2_c_cipher_key, derived_keys}
use Rattle.protocol.specs.SessionTable.{Session, sealing_key, record_of, new_record}
use Rattle.protocol.specs.Transform.{Primitives}
use Rattle.protocol.specs.Calls.{only_table}
use Rattle.protocol.specs.Sound.{Sound}
use Rattle.protocol.specs.Suite.{suite}
use Rattle.protocol.proofs.SuiteLaws.{suite_sound}
use Rattle.demands.specs.Chains.{session_chain, Among}
use Rattle.demands.specs.Steps.{Step}
use Rattle.demands.specs.Demand3.{Ends, end_connection, session_added, made_at, Premises, Seals, by_call, Opens, Demand3}
use Rattle.demands.proofs.FoldLaws.{chains_agree, same_value}
use Rattle.demands.proofs.Following.{Held, held, added_record, added_present, follows_all}
use Rattle.demands.proofs.OpeningLaws.{SealedAs, seal_on, seal_as, opens}

other-other : (r : Role) → other (other r) ≡ r
other-other client = refl
other-other server = refl

sealing_key_lem : (r : Role) (x y : Session) → held x ≡ held y → sealing_key r x.keys ≡ sealing_key r y.keys
sealing_key_lem client x y e = ap (λ (h : Held). h.client_to_server) e
sealing_key_lem server x y e = ap (λ (h : Held). h.server_to_client) e

module _ (P : Primitives) (sound : Sound P) (e : Ends) (h : Premises P e) where
  -- the record that the end r adds
  abbrev record_at : Role → Session
  record_at r = new_record P.kdf (session_added P e r)

  same_chain : session_chain P (e.chain_steps client) ≡ session_chain P (e.chain_steps server)
  same_chain =
      same_value P sound.hash-length (e.chain_steps client) (e.chain_steps server) (h.in_order client) (h.in_order server) h.same_messages

  abbrev bytes : ℕ
  bytes = cipher_key_bytes (is_wide 0x0311 e.cipher)

  -- both ends hold the same cipher keys
  cipher-keys : (q : Role) → sealing_key q (record_at client).keys ≡ sealing_key q (record_at server).keys
  unfolding derived_keys
  cipher-keys client = λ i. P.kdf bytes (h.same_key i) smb_c2_s_cipher_key (same_chain i)
  cipher-keys server = λ i. P.kdf bytes (h.same_key i) smb_s2_c_cipher_key (same_chain i)

  same_keys : (r q : Role) → sealing_key q (record_at (other r)).keys ≡ sealing_key q (record_at r).keys
  same_keys client q = sym (cipher-keys q)
  same_keys server q = cipher-keys q

  -- whatever table a step at the end r gets, the session's record there is the one added, but for its counter
  kept_at : (r : Role) (x : Step) → Among x (made_at P e r) → held (record_of e.id x.lent.table) ≡ held (record_at r)
  kept_at r x x-in =
      let a = session_added P e r in
      let w = only_table (e.table_before r) in
      let success = h.added_with_success r in
      (follows_all P e.id (e.steps r) _ (h.kept r) (added_present P a w 0 success) x x-in).same ∙ ap held (added_record P a w 0 success)

  -- however m was sealed, it was under the session's key at that end
  sealed_as : (r : Role) (m sealed : Bytes) (n : ℕ) → Seals P e r m sealed n
      → SealedAs P r e.cipher (sealing_key r (record_at r).keys) e.id m sealed n
  sealed_as r _ _ n (by_call w w-in a) =
      rw (← sealing_key_lem r (record_of e.id w.table) (record_at r) (kept_at r _ w-in)) (seal_as P (end_connection e r) e.id w n a)

  encrypting : (r : Role) (m sealed : Bytes) (n : ℕ) → Seals P e r m sealed n → encrypts (end_connection e r) ≡ true
  encrypting r _ _ n (by_call w w-in a) = seal_on P (end_connection e r) e.id w n a

  opens_all : Opens P e
  opens_all r m sealed n s w lent =
      let k = kept_at (other r) _ lent.called in
      let d = end_connection e (other r) in
      let key = sealing_key r (record_at r).keys in
      opens P sound d r key e.id m w n (other-other r) h.id-fits (rw lent.copied (sealed_as r m sealed n s)) (encrypting r m sealed n s) refl
      (ap (λ (x : Held). x.used) k)
      (ap (λ (x : Held). x.guest || x.anonymous) k)
      (ap (λ (x : Held). cipher_key_bytes x.wide) k)
      (ap (λ (q : Role). sealing_key q (record_of e.id w.table).keys) (other-other r)
      ∙ sealing_key_lem r (record_of e.id w.table) (record_at (other r)) k
      ∙ same_keys r r)

pub holds_of : (P : Primitives) → Sound P → Demand3 P
holds_of P sound = record { chains = chains_agree P sound.hash-length; sessions = opens_all P sound }

pub demand3 : Demand3 suite
demand3 = holds_of suite suite_sound
