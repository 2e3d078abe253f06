-- Every call as one value: what it is given, what it tests, what it changes. Its answer and what it leaves are then said once, for all calls.
-- RULES 2, 5, 10 and 15.
-- Assumes nothing.
use Rattle.std.specs.Prelude.{Bool, not, ◌&&◌, List, [], ◌∷◌, ◌++◌, ℕ, ◌+◌, ltb, eqb, length}
use Rattle.std.proofs.Math.Option.{Option, get_or}
use Rattle.protocol.specs.Bytes.{Bytes}
use Rattle.protocol.specs.Answer.{Answer, done, when_done, Test, judge, judge_after}
use Rattle.protocol.specs.Connection.{Role, other, is_server, Connection, cipher_used, is_wide, uses_wide, cipher_key_bytes, place_bytes, longest_message}
use Rattle.protocol.specs.TransformHeader.{inner, session_id_of, TransformHeader, header_of}
use Rattle.protocol.specs.InnerHeader.{Envelope}
use Rattle.protocol.specs.Compound.{walk}
use Rattle.protocol.specs.Keys.{derived_keys, keys_in_order}
use Rattle.protocol.specs.Preauth.{FoldKind, admitted, folded, fold_mark}
use Rattle.protocol.specs.Pieces.{Underway, begun_from, not_begun, piece_fits, message_of, with_piece, finished_value}
use Rattle.protocol.specs.Signing.{signature_under, signed_under}
use Rattle.protocol.specs.SigningPieces.{signature_of}
use Rattle.protocol.specs.SessionTable.{Session, sealing_key, opening_key, record_of, change_record, remove_record, has_free, fill_free, Adding, new_record}
use Rattle.protocol.specs.SessionTable.{count_up, counter_step}
use Rattle.protocol.specs.Refusals.{not_encrypting, too_short, too_long, not_transform, bad_flags, dirty_nonce, other_session, constrained, guest, other_key_size}
use Rattle.protocol.specs.Refusals.{bad_tag, bad_size, counter_used_up, unknown_dialect, bad_key_material, id_zero, id_taken, table_full, fold_length, bad_length}
use Rattle.protocol.specs.Refusals.{inner_too_short, not_header, not_signed, bad_signature}
use Rattle.protocol.specs.Transform.{Primitives, sealed_under, plaintext_under, opened_to}

-- ---- the calls, each with all that it only reads

pub data Call : Type 0 where
  -- dialect, cipher, chain value, key material
  derivation : ℕ → ℕ → Bytes → Bytes → Call
  folding : FoldKind → Bytes → Call
  -- a message folded as it arrives: begun on a chain value, a piece of it, its finish
  fold_beginning : Bytes → Call
  fold_piece : Bytes → Call
  fold_finishing : FoldKind → Call
  -- under one given key, for a session id
  sealing_under : Connection → Bytes → ℕ → Call
  opening_under : Connection → Bytes → ℕ → Call
  -- under one given signing key, a message in clear
  signing_under : Bytes → Call
  verifying_under : Bytes → Call
  -- the same of a message that arrives in pieces: begun under a key, a piece of it, and its end. A finish is given the state
  sign_beginning : Bytes → Call
  sign_piece : Bytes → Call
  sign_finishing : Underway → Call
  verify_finishing : Underway → Call
  -- with the session table
  adding : Adding → Call
  removing : ℕ → Call
  -- the counter of the session of this id, by so many
  stepping : ℕ → ℕ → Call
  sealing : Connection → ℕ → Call
  opening : Connection → Call

-- all that a call may be lent to change: "the message buffer, the table, the chain, the place for the keys and a handed-in counter"; what the
-- state stands for that is "handed on from piece to piece"; and the place for the signature of a message in pieces
pub record Lent : Type 0 where
  pub message : Bytes
  pub table : List Session
  pub chain : Bytes
  pub keys : Bytes
  pub counter : ℕ
  pub underway : Underway
  pub signature : Bytes

abbrev pub nothing : Lent
nothing = record { message = []; table = []; chain = []; keys = []; counter = 0; underway = not_begun; signature = [] }

abbrev pub with_message : Bytes → Lent → Lent
with_message m w =
    record { message = m; table = w.table; chain = w.chain; keys = w.keys; counter = w.counter; underway = w.underway; signature = w.signature }

abbrev pub with_table : List Session → Lent → Lent
with_table t w =
    record { message = w.message; table = t; chain = w.chain; keys = w.keys; counter = w.counter; underway = w.underway; signature = w.signature }

abbrev pub with_chain : Bytes → Lent → Lent
with_chain v w =
    record { message = w.message; table = w.table; chain = v; keys = w.keys; counter = w.counter; underway = w.underway; signature = w.signature }

abbrev pub with_keys : Bytes → Lent → Lent
with_keys k w =
    record { message = w.message; table = w.table; chain = w.chain; keys = k; counter = w.counter; underway = w.underway; signature = w.signature }

abbrev pub with_counter : ℕ → Lent → Lent
with_counter n w =
    record { message = w.message; table = w.table; chain = w.chain; keys = w.keys; counter = n; underway = w.underway; signature = w.signature }

abbrev pub with_underway : Underway → Lent → Lent
with_underway u w =
    record { message = w.message; table = w.table; chain = w.chain; keys = w.keys; counter = w.counter; underway = u; signature = w.signature }

abbrev pub with_signature_place : Bytes → Lent → Lent
with_signature_place s w =
    record { message = w.message; table = w.table; chain = w.chain; keys = w.keys; counter = w.counter; underway = w.underway; signature = s }

-- what a call is lent that is lent nothing but this
abbrev pub only_message : Bytes → Lent
only_message m = with_message m nothing

abbrev pub message_and_counter : Bytes → ℕ → Lent
message_and_counter m k = with_counter k (only_message m)

abbrev pub message_and_table : Bytes → List Session → Lent
message_and_table m t = with_table t (only_message m)

abbrev pub only_table : List Session → Lent
only_table t = with_table t nothing

abbrev pub only_chain : Bytes → Lent
only_chain v = with_chain v nothing

abbrev pub only_keys : Bytes → Lent
only_keys k = with_keys k nothing

abbrev pub only_underway : Underway → Lent
only_underway u = with_underway u nothing

abbrev pub chain_and_underway : Bytes → Underway → Lent
chain_and_underway v u = with_underway u (only_chain v)

abbrev pub only_signature : Bytes → Lent
only_signature place = with_signature_place place nothing

-- ---- what a call tests: lines of the table of numbers, the walk if there is one, lines after it

-- the inner message that is walked over, or what a done answer carries where there is none
pub data Inner : Type 0 where
  carries : ℕ → Inner
  over : Bytes → Envelope → Inner

pub record Tests : Type 0 where
  pub before : List Test
  pub walked : Inner
  pub later : List Test

abbrev pub walk_over : Inner → Answer
walk_over (carries n) = done n
walk_over (over m e) = walk m e

-- "Where several apply, 40 comes first and then the lowest number wins, except inside the walk"
abbrev pub verdict : Tests → Answer
verdict t = judge t.before (judge_after (walk_over t.walked) t.later)

-- lines alone
abbrev pub lines : List Test → Tests
lines ts = record { before = ts; walked = carries 0; later = [] }

-- a message for the session id that this end sends. "At a client opening, and at a server sealing", it comes from the server
abbrev pub sent_by : Role → ℕ → Envelope
sent_by r id = record { id = id; from_server = is_server r }

-- ---- parts that several calls share

-- 40: a cipher key, a signing key, a chain value
abbrev pub key_tests : Connection → Bytes → List Test
key_tests c key = bad_length (eqb (length key) (cipher_key_bytes (uses_wide c))) ∷ []

abbrev pub signing_key_tests : Bytes → List Test
signing_key_tests key = bad_length (eqb (length key) 16) ∷ []

abbrev pub chain_tests : Bytes → List Test
chain_tests v = bad_length (eqb (length v) 64) ∷ []

-- 40, 23: every fold of the message m into the value v; "23 is tested before the status"
abbrev pub fold_tests : FoldKind → Bytes → Bytes → Tests
fold_tests kind v m = record { before = chain_tests v ++ (fold_length (admitted m) ∷ []); walked = carries (fold_mark kind m); later = [] }

-- more than 8,454,144 bytes
abbrev pub passes_limit : Bytes → Bool
passes_limit p = ltb longest_message (length p)

-- 1 to 3: every sealing and opening of the buffer m
abbrev pub message_tests : Connection → Bytes → List Test
message_tests c m = not_encrypting c ∷ too_short m ∷ too_long (passes_limit (inner m)) ∷ []

-- 4, 5 and 29, "tested after 5 and before 6": every opening, on the header
abbrev pub header_tests : Connection → TransformHeader → List Test
header_tests c h = not_transform h ∷ bad_flags h ∷ dirty_nonce c h ∷ []

-- "Both .. test 3 (over the message's length), 11, 12", and 40 before them
abbrev pub sign_tests : Bytes → Bytes → List Test
sign_tests key m = signing_key_tests key ++ (too_long (passes_limit m) ∷ inner_too_short m ∷ not_header m 0 ∷ [])

-- "Verifying .. then tests in this order: 24 .., 25", where right is the signature that the message should have
abbrev pub verify_tests : Bytes → Bytes → Bytes → List Test
verify_tests key m right = sign_tests key m ++ (not_signed m ∷ bad_signature right m ∷ [])

-- "finishing under 64 bytes is" 11 where a message is signed or verified; "12, 24 and 25 are answered at the finish"
abbrev pub joined_tests : Underway → List Test
joined_tests u = inner_too_short u.joined ∷ not_header u.joined 0 ∷ []

-- and 40 before them, of the place for the signature
abbrev pub sign_finish_tests : Underway → Bytes → List Test
sign_finish_tests u place = bad_length (eqb (length place) 16) ∷ joined_tests u

abbrev pub verify_finish_tests : Underway → Bytes → List Test
verify_finish_tests u right = joined_tests u ++ (not_signed u.joined ∷ bad_signature right u.joined ∷ [])

-- 6 to 8, and 35, "tested after 8": every sealing and opening with the table, on the record s that lookup took
abbrev pub record_tests : Connection → Session → List Test
record_tests c s = other_session s.used ∷ constrained c ∷ guest s ∷ other_key_size c s ∷ []

-- 9 and 10: every opening, before the walk
abbrev pub text_tests : Bytes → Option Bytes → List Test
text_tests m text = bad_tag text ∷ bad_size (header_of m) (length (inner m)) ∷ []

-- 18 and 19: deriving and adding
abbrev pub material_tests : ℕ → ℕ → Bytes → List Test
material_tests dialect cipher material = unknown_dialect dialect ∷ bad_key_material (is_wide dialect cipher) material ∷ []

-- "Derivation alone tests 18 and 19", and 40 before them
abbrev pub derivation_tests : ℕ → ℕ → Bytes → Bytes → Bytes → List Test
derivation_tests dialect cipher chain material place =
    bad_length (eqb (length chain) 64 && eqb (length place) (place_bytes (is_wide dialect cipher))) ∷ material_tests dialect cipher material

-- "adding 18 to 22", and 40 before them; whether a used record has the id, and whether there is a free one
abbrev pub add_tests : Adding → Bool → Bool → List Test
add_tests a taken room =
    chain_tests a.chain ++ (material_tests a.dialect a.cipher a.material ++ (id_zero a.id ∷ id_taken taken ∷ table_full room ∷ []))

-- ---- sealing and opening with a record

module _ (P : Primitives) (c : Connection) (m : Bytes) (s : Session) where
  -- "sealing 1, 2, 3, 6, 7, 8, 11 to 16, 17", with 35 after 8
  unfoldable pub seal_tests : ℕ → Tests
  seal_tests id = record { before = message_tests c m ++ record_tests c s; walked = over (inner m) (sent_by c.role id); later = counter_used_up s.counter ∷ [] }

  abbrev pub sealed_with : ℕ → Bytes
  sealed_with id = sealed_under P.ciphers (cipher_used c) (sealing_key c.role s.keys) s.counter id (inner m)

  abbrev pub plaintext : Option Bytes
  plaintext = plaintext_under P.ciphers (cipher_used c) (opening_key c.role s.keys) m

  -- "Opening tests 1 to 16", with 29 after 5 and 35 after 8
  unfoldable pub open_tests : Tests
  open_tests =
      record {
        before = message_tests c m ++ (header_tests c (header_of m) ++ (record_tests c s ++ text_tests m plaintext));
        walked = over (get_or plaintext []) (sent_by (other c.role) (session_id_of m));
        later = [];
      }

-- ---- one clause for one call

module _ (P : Primitives) where
  unfoldable pub tests : Call → Lent → Tests
  tests (derivation dialect cipher chain material) w = lines (derivation_tests dialect cipher chain material w.keys)
  tests (folding kind m) w = fold_tests kind w.chain m
  tests (fold_beginning v) w = lines (chain_tests v)
  tests (fold_piece p) w = lines (fold_length (piece_fits w.underway p) ∷ [])
  -- "finishing under 64 bytes is 23 too"
  tests (fold_finishing kind) w = fold_tests kind w.chain (message_of w.underway)
  -- "Under one given key, 7 and 8 do not arise", and "sealing has no 6"
  tests (sealing_under c key id) w =
      record {
        before = key_tests c key ++ message_tests c w.message;
        walked = over (inner w.message) (sent_by c.role id);
        later = counter_used_up w.counter ∷ [];
      }
  tests (opening_under c key id) w =
      let m = w.message in
      let text = plaintext_under P.ciphers (cipher_used c) key m in
      record {
        before = key_tests c key ++ (message_tests c m ++ (header_tests c (header_of m) ++ (other_session (eqb (session_id_of m) id) ∷ text_tests m text)));
        walked = over (get_or text []) (sent_by (other c.role) id);
        later = [];
      }
  tests (signing_under key) w = lines (sign_tests key w.message)
  tests (verifying_under key) w = lines (verify_tests key w.message (signature_under P.cmac key w.message))
  tests (sign_beginning key) w = lines (signing_key_tests key)
  tests (sign_piece p) w = lines (too_long (not (piece_fits w.underway p)) ∷ [])
  tests (sign_finishing u) w = lines (sign_finish_tests u w.signature)
  tests (verify_finishing u) w = lines (verify_finish_tests u (signature_under P.cmac u.start u.joined))
  tests (adding a) w = lines (add_tests a (record_of a.id w.table).used (has_free w.table))
  -- "or answers 6 if there is none"
  tests (removing i) w = lines (other_session (record_of i w.table).used ∷ [])
  tests (stepping i by) w = lines []
  tests (sealing c id) w = seal_tests P c w.message (record_of id w.table) id
  tests (opening c) w = open_tests P c w.message (record_of (session_id_of w.message) w.table)

  -- what it leaves where it answers 0
  unfoldable pub effect : Call → Lent → Lent
  effect (derivation dialect cipher chain material) w = with_keys (keys_in_order (derived_keys P.kdf dialect cipher chain material)) w
  effect (folding kind m) w = with_chain (folded P.sha512 kind w.chain m) w
  effect (fold_beginning v) w = with_underway (begun_from v) w
  effect (fold_piece p) w = with_underway (with_piece p w.underway) w
  -- the state that it is handed is used up: what it hands back is `not_begun`, whatever it answers
  effect (fold_finishing kind) w = with_chain (finished_value P.sha512 kind w.chain w.underway) w
  effect (sealing_under c key id) w =
      with_counter (w.counter + 1) (with_message (sealed_under P.ciphers (cipher_used c) key w.counter id (inner w.message)) w)
  effect (opening_under c key id) w = with_message (opened_to w.message (plaintext_under P.ciphers (cipher_used c) key w.message)) w
  effect (signing_under key) w = with_message (signed_under P.cmac key w.message) w
  -- it "changes no byte"
  effect (verifying_under key) w = w
  effect (sign_beginning key) w = with_underway (begun_from key) w
  effect (sign_piece p) w = with_underway (with_piece p w.underway) w
  effect (sign_finishing u) w = with_signature_place (signature_of P.cmac u) w
  effect (verify_finishing u) w = w
  effect (adding a) w = with_table (fill_free (new_record P.kdf a) w.table) w
  effect (removing i) w = with_table (remove_record i w.table) w
  effect (stepping i by) w = with_table (change_record (counter_step by) i w.table) w
  effect (sealing c id) w =
      with_table (change_record count_up id w.table) (with_message (sealed_with P c w.message (record_of id w.table) id) w)
  -- it "never changes the table"
  effect (opening c) w = with_message (opened_to w.message (plaintext P c w.message (record_of (session_id_of w.message) w.table))) w

  -- ---- and once for all calls

  abbrev pub answer : Call → Lent → Answer
  answer c w = verdict (tests c w)

  -- "In every other case" all of it is "as .. lent"
  abbrev pub left : Call → Lent → Lent
  left c w = when_done (answer c w) (λ n. effect c w) w
