-- Demand 3, whole: lists of calls at each end. RULES 12.
-- Over any primitives; the theorem is about the suite.
-- Assumes nothing.
use Rattle.std.specs.Prelude.{◌≡◌, ◌≢◌, true, false, List, ℕ, ◌<◌, ◌^◌}
use Rattle.protocol.specs.Bytes.{Bytes}
use Rattle.protocol.specs.Answer.{done}
use Rattle.protocol.specs.Connection.{Role, client, server, other, Connection, is_wide}
use Rattle.protocol.specs.TransformHeader.{inner}
use Rattle.protocol.specs.Keys.{cipher_material}
use Rattle.protocol.specs.SessionTable.{Session, Adding}
use Rattle.protocol.specs.Transform.{Primitives}
use Rattle.protocol.specs.Calls.{Call, adding, removing, sealing, opening, Lent, only_table, answer, left}
use Rattle.demands.specs.Chains.{ChainSteps, end_messages, session_chain, EndInOrder, Among, ChainsAgree}
use Rattle.demands.specs.Steps.{Step, made, table_left}

-- ---- the two ends

-- at each end the steps on the chains, the key material, the table before the add ("whatever else the table held") and the steps after
-- it; for both one id and one cipher
pub record Ends : Type 0 where
  pub chain_steps : Role → ChainSteps
  pub material : Role → Bytes
  pub table_before : Role → List Session
  pub steps : Role → List Step
  pub id : ℕ
  pub cipher : ℕ

-- "under its end's role, 3.1.1, encryption on, the common cipher and no constraint"
abbrev pub end_connection : Ends → Role → Connection
end_connection e r = record { role = r; dialect = 0x0311; encryption = true; cipher = e.cipher; constrained = false }

-- its call that seals for the session, and its call that opens
abbrev pub end_seals : Ends → Role → Call
end_seals e r = sealing (end_connection e r) e.id

abbrev pub end_opens : Ends → Role → Call
end_opens e r = opening (end_connection e r)

module _ (P : Primitives) where
  -- what an end adds the session with: its chain value; 3.1.1, "for the cipher they use", neither as guest nor anonymous
  abbrev pub session_added : Ends → Role → Adding
  session_added e r =
      record {
        dialect = 0x0311;
        cipher = e.cipher;
        chain = session_chain P (e.chain_steps r);
        id = e.id;
        material = e.material r;
        guest = false;
        anonymous = false;
      }

  abbrev pub added_at : Ends → Role → Step
  added_at e r = record { call = adding (session_added e r); lent = only_table (e.table_before r) }

  -- the steps of the end r: its list starts "right after that add"
  abbrev pub made_at : Ends → Role → List Step
  made_at e r = made P (table_left P (added_at e r)) (e.steps r)

  pub record Premises (e : Ends) : Type 0 where
    -- what request e presumes of messages in pieces
    pub in_order : (r : Role) → EndInOrder P (e.chain_steps r)
    -- "let the messages folded in be the same"
    pub same_messages : end_messages P (e.chain_steps client) ≡ end_messages P (e.chain_steps server)
    -- "the same session key", which "now reads 'the same full key material' for these ciphers"
    pub same_key : let wide = is_wide 0x0311 e.cipher in cipher_material wide (e.material client) ≡ cipher_material wide (e.material server)
    -- an id has 64 bits
    pub id-fits : e.id < 2 ^ 64
    pub added_with_success : (r : Role) → answer P (adding (session_added e r)) (only_table (e.table_before r)) ≡ done 0
    -- "only this id is not removed"
    pub kept : (r : Role) (s : Step) → Among s (e.steps r) → s.call ≢ removing e.id

  -- at the end r the message m was sealed for the session, with n inner headers, which left the sealed message
  pub data Seals (e : Ends) (r : Role) : Bytes → Bytes → ℕ → Type 0 where
    -- by a call of its list, which answered 0
    by_call : {n : ℕ} (w : Lent) → Among (record { call = end_seals e r; lent = w }) (made_at e r)
        → answer P (end_seals e r) w ≡ done n → Seals e r w.message (left P (end_seals e r) w).message n

  -- an opening of the end r is lent w, with "a copy of the sealed message in a buffer of its own"
  pub record LentToOpen (e : Ends) (r : Role) (sealed : Bytes) (w : Lent) : Type 0 where
    pub called : Among (record { call = end_opens e r; lent = w }) (made_at e r)
    pub copied : w.message ≡ sealed

  -- it "answers 0 with the seal's number of inner headers. From byte 52 on its buffer then holds the inner message that the seal was lent."
  -- The opening may stand anywhere in its list, and any number of times: messages may be lost, repeated or reordered.
  abbrev pub Opens : Ends → Type 0
  Opens e =
      (r : Role) (m sealed : Bytes) (n : ℕ) → Seals e r m sealed n → (w : Lent) → LentToOpen e (other r) sealed w
      → (answer P (end_opens e (other r)) w ≡ done n) × (inner (left P (end_opens e (other r)) w).message ≡ inner m)

  -- Demand 3, whole
  pub record Demand3 : Type 0 where
    pub chains : ChainsAgree P
    pub sessions : (e : Ends) → Premises e → Opens e
