-- Demand 3 speaks of something. A client and a server add a session; the client seals a request, the server a break notice, and each is
-- lent what the other sealed. Over any primitives the premises hold and both seals are done, by computation; at the suite each end opens
-- what it is lent, by demand 3; with primitives that do no work (to compute AES here would take too long) that is computed too.
-- Assumes nothing.
use mathlib.Core.Path.{◌≡◌, refl, sym, ap, ◌∙◌}
use mathlib.Core.Logic.{◌≢◌, ◌⊎◌, inl, inr}
use mathlib.Core.List.Memᴰ
use mathlib.Core.List.{List, [], ◌∷◌, ◌++◌}
use mathlib.Core.Option.{some}
use Prim.Native.Nat.{ℕ}
use native.Mathlib.Omega.{arith}
use lib.Dec.{lit<}
use lib.ListN.{replicate}
use Rattle.octets.specs.Numbers.{little_endian, to_little_endian}
use Rattle.octets.specs.Same.{same_bytes}
use Rattle.protocol.specs.Bytes.{Bytes}
use Rattle.protocol.specs.Answer.{done}
use Rattle.protocol.specs.Connection.{Role, client, server, other}
use Rattle.protocol.specs.TransformHeader.{inner, nonce_of, authenticated}
use Rattle.protocol.specs.Compound.{walk}
use Rattle.protocol.specs.Preauth.{negotiate_message}
use Rattle.protocol.specs.SessionTable.{Session, free_record}
use Rattle.protocol.specs.Transform.{Primitives, sealed_under, plaintext_under}
use Rattle.protocol.specs.Calls.{Call, folding, adding, removing}
use Rattle.protocol.specs.Calls.{Lent, only_message, only_table, message_and_table, seal_tests, open_tests, tests, effect, answer, left}
use Rattle.protocol.specs.Suite.{suite}
use Rattle.protocol.specs.PLines.{header}
use Rattle.protocol.specs.BreakNotices.{notice}
use Rattle.demands.specs.Chains.{ChainSteps, calling, EndInOrder, Among}
use Rattle.demands.specs.Steps.{Step, on_table, table_left}
use Rattle.demands.specs.Demand3.{Ends, end_seals, end_opens, session_added, added_at, Premises, Seals, by_call, LentToOpen}
use Rattle.demands.proofs.Demand3.{demand3}

-- what each end sends: room for the header, then one inner header, of session 5 or a break notice
pub message_of : Role → Bytes
message_of client = replicate 52 0 ++ header 0 0 5
message_of server = replicate 52 0 ++ notice 0 0

-- the client hands an empty message to its connection's chain, which is refused with 23 and changes nothing
abbrev steps_on : Role → ChainSteps
steps_on client = record { connection = calling (folding negotiate_message []) ∷ []; session = [] }
steps_on server = record { connection = []; session = [] }

abbrev ends_with : (Role → List Step) → Ends
ends_with steps =
    record {
      chain_steps = steps_on;
      material = λ r. 1 ∷ 2 ∷ [];
      table_before = λ r. free_record ∷ [];
      steps = steps;
      id = 5;
      cipher = 2;
    }

abbrev before : Ends
before = ends_with (λ r. [])

-- a list of two steps that are no removals
no_removal : (a b : Step) (i : ℕ) → a.call ≢ removing i → b.call ≢ removing i → (s : Step) → Among s (a ∷ b ∷ []) → s.call ≢ removing i
no_removal a b i not_a not-b s among = first (Memᴰ.cases_cons among)
  where
    is : (x : Step) → x.call ≢ removing i → s ≡ x → s.call ≢ removing i
    is x not-x e = λ q. not-x (sym (ap (λ (y : Step). y.call) e) ∙ q)

    second : (s ≡ b) ⊎ Among s [] → s.call ≢ removing i
    second (inl e) = is b not-b e
    second (inr n) = elim n [ ]

    first : (s ≡ a) ⊎ Among s (b ∷ []) → s.call ≢ removing i
    first (inl e) = is a not_a e
    first (inr later) = second (Memᴰ.cases_cons later)

seal_removes_nothing : (e : Ends) (r : Role) (i : ℕ) → end_seals e r ≢ removing i
seal_removes_nothing e r i q = let z : ◌≡◌ {A = ℕ} 0 1 = cc in omega arith

open_removes_nothing : (e : Ends) (r : Role) (i : ℕ) → end_opens e r ≢ removing i
open_removes_nothing e r i q = let z : ◌≡◌ {A = ℕ} 0 1 = cc in omega arith

module _ (P : Primitives) where
  -- the table at an end right after the add: one record
  abbrev table_at : Role → List Session
  table_at r = table_left P (added_at P before r)

  abbrev to_seal : Role → Lent
  to_seal r = message_and_table (message_of r) (table_at r)

  -- what an end sends
  pub sealed : Role → Bytes
  sealed r = (left P (end_seals before r) (to_seal r)).message

  abbrev seal_step : Role → Step
  seal_step r = record { call = end_seals before r; lent = only_message (message_of r) }

  abbrev open_step : Role → Step
  open_step r = record { call = end_opens before r; lent = only_message (sealed (other r)) }

  abbrev ends : Ends
  ends = ends_with (λ r. seal_step r ∷ open_step r ∷ [])

  kept : (r : Role) (s : Step) → Among s (ends.steps r) → s.call ≢ removing 5
  kept r = no_removal (seal_step r) (open_step r) 5 (seal_removes_nothing before r 5) (open_removes_nothing before r 5)

  success : (r : Role) → answer P (adding (session_added P before r)) (only_table (free_record ∷ [])) ≡ done 0
  unfolding tests
  success client = refl
  success server = refl

  in_order : (r : Role) → EndInOrder P (steps_on r)
  in_order client = ((λ m e k. refl, tt), tt)
  in_order server = (tt, tt)

  premises : Premises P ends
  premises = record { in_order = in_order; same_messages = refl; same_key = refl; id-fits = lit< tt; added_with_success = success; kept = kept }

  seal_done : (r : Role) → answer P (end_seals before r) (to_seal r) ≡ done 1
  unfolding message_of tests effect seal_tests walk little_endian to_little_endian same_bytes
  seal_done client = refl
  seal_done server = refl

  seals : (r : Role) → Seals P ends r (message_of r) (sealed r) 1
  unfolding sealed
  seals r = by_call (to_seal r) (Memᴰ.head refl) (seal_done r)

  -- what an end is lent to open, after its own seal
  abbrev received : Role → Lent
  received r = message_and_table (sealed (other r)) (table_left P (on_table (table_at r) (seal_step r)))

  lent_to_open : (r : Role) → LentToOpen P ends r (sealed (other r)) (received r)
  lent_to_open r = record { called = Memᴰ.tail (Memᴰ.head refl); copied = refl }

-- the end opens what the other sealed
abbrev Opened : Primitives → Role → Type 0
Opened P r =
    (answer P (end_opens before r) (received P r) ≡ done 1)
    × (inner (left P (end_opens before r) (received P r)).message ≡ inner (message_of (other r)))

-- at the suite: AES-128-GCM, SHA-512, HMAC-SHA-256
pub request_goes_across : Opened suite server
request_goes_across =
    demand3.sessions (ends suite) (premises suite) client (message_of client) (sealed suite client) 1 (seals suite client) (received suite server)
    (lent_to_open suite server)

pub break_notice-goes_across : Opened suite client
break_notice-goes_across =
    demand3.sessions (ends suite) (premises suite) server (message_of server) (sealed suite server) 1 (seals suite server) (received suite client)
    (lent_to_open suite client)

-- ---- computed

abbrev idle : Primitives
idle =
    record {
      sha512 = λ s. replicate 64 7;
      kdf = λ n k label context. replicate n 0;
      cmac = λ k m. replicate 16 0;
      ciphers = record { encrypt = λ c k n a p. p; tag = λ c k n a p. replicate 16 0; decrypt = λ c k n a t b. some b };
    }

opens_idle : (r : Role) → answer idle (end_opens before r) (received idle r) ≡ done 1
unfolding sealed message_of tests effect seal_tests open_tests walk sealed_under plaintext_under authenticated nonce_of little_endian to_little_endian same_bytes
opens_idle client = refl
opens_idle server = refl

reads_idle : (r : Role) → inner (left idle (end_opens before r) (received idle r)).message ≡ inner (message_of (other r))
unfolding sealed message_of tests effect seal_tests open_tests walk sealed_under plaintext_under authenticated nonce_of little_endian to_little_endian same_bytes
reads_idle client = refl
reads_idle server = refl
