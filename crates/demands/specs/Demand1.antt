-- Demand 1: every call has an answer; its number is that of the first line of its list that applies; a refusal changes nothing.
-- RULES 2. Calls are total functions of any bytes, any table and any lengths: there are no premises.
-- Over any primitives; the theorem is about the suite.
-- Assumes nothing.
use Rattle.std.specs.Prelude.{◌≡◌, ◌↔◌, false, List, [], ◌∷◌, ◌++◌, ℕ}
use Rattle.protocol.specs.Bytes.{Bytes}
use Rattle.protocol.specs.Answer.{Answer, done, refused, carried, Test, refuse◌when◌}
use Rattle.protocol.specs.InnerHeader.{Envelope}
use Rattle.protocol.specs.Compound.{first_header_tests, next_header_tests}
use Rattle.protocol.specs.Preauth.{FoldKind, status_allows}
use Rattle.protocol.specs.Transform.{Primitives}
use Rattle.protocol.specs.Calls.{Call, derivation, folding, fold_beginning, fold_piece, fold_finishing, sealing_under, opening_under, signing_under}
use Rattle.protocol.specs.Calls.{verifying_under, adding, removing, stepping}
use Rattle.protocol.specs.Calls.{sealing, opening, Lent, Inner, carries, over, Tests, verdict, tests, answer, left}
use Rattle.protocol.specs.Calls.{sign_beginning, sign_piece, sign_finishing, verify_finishing}
use Rattle.demands.specs.Lines.{First, None}
use Rattle.demands.specs.Walk.{Walked, Broken}

-- ---- the numbers that a call tests, in their order: "40 comes first and then the lowest number wins, except inside the walk"

abbrev pub numbers_of : List Test → List ℕ
numbers_of [] = []
numbers_of ((refuse n when b) ∷ ts) = n ∷ numbers_of ts

-- "11 to 16", where the call walks. Their order inside the walk is that of its two lists
abbrev pub walk_numbers : Inner → List ℕ
walk_numbers (carries n) = []
walk_numbers (over m e) = 11 ∷ 12 ∷ 13 ∷ 14 ∷ 15 ∷ 16 ∷ []

abbrev pub numbers_tested : Tests → List ℕ
numbers_tested t = numbers_of t.before ++ (walk_numbers t.walked ++ numbers_of t.later)

-- one line for one call: "Opening tests 1 to 16", with 29 "after 5 and before 6" and 35 "after 8"; "sealing 1, 2, 3, 6, 7, 8, 11 to 16, 17, and adding 18 to 22"
abbrev pub order : Call → List ℕ
order (derivation dialect cipher chain material) = 40 ∷ 18 ∷ 19 ∷ []
order (folding kind m) = 40 ∷ 23 ∷ []
order (fold_beginning v) = 40 ∷ []
order (fold_piece p) = 23 ∷ []
order (fold_finishing kind) = 40 ∷ 23 ∷ []
order (sealing_under c key id) = 40 ∷ 1 ∷ 2 ∷ 3 ∷ 11 ∷ 12 ∷ 13 ∷ 14 ∷ 15 ∷ 16 ∷ 17 ∷ []
order (opening_under c key id) = 40 ∷ 1 ∷ 2 ∷ 3 ∷ 4 ∷ 5 ∷ 29 ∷ 6 ∷ 9 ∷ 10 ∷ 11 ∷ 12 ∷ 13 ∷ 14 ∷ 15 ∷ 16 ∷ []
order (signing_under key) = 40 ∷ 3 ∷ 11 ∷ 12 ∷ []
order (verifying_under key) = 40 ∷ 3 ∷ 11 ∷ 12 ∷ 24 ∷ 25 ∷ []
order (sign_beginning key) = 40 ∷ []
order (sign_piece p) = 3 ∷ []
order (sign_finishing u) = 40 ∷ 11 ∷ 12 ∷ []
order (verify_finishing u) = 11 ∷ 12 ∷ 24 ∷ 25 ∷ []
order (adding a) = 40 ∷ 18 ∷ 19 ∷ 20 ∷ 21 ∷ 22 ∷ []
order (removing i) = 6 ∷ []
order (stepping i by) = []
order (sealing c id) = 1 ∷ 2 ∷ 3 ∷ 6 ∷ 7 ∷ 8 ∷ 35 ∷ 11 ∷ 12 ∷ 13 ∷ 14 ∷ 15 ∷ 16 ∷ 17 ∷ []
order (opening c) = 1 ∷ 2 ∷ 3 ∷ 4 ∷ 5 ∷ 29 ∷ 6 ∷ 7 ∷ 8 ∷ 35 ∷ 9 ∷ 10 ∷ 11 ∷ 12 ∷ 13 ∷ 14 ∷ 15 ∷ 16 ∷ []

-- ---- the answer to tests, whichever call they are of

-- n is the number of the first rule that the walk finds broken
abbrev pub Breaks : Inner → ℕ → Type 0
Breaks (carries k) n = ⊥
Breaks (over m e) n = Broken m e n

-- the walk visits n headers; or, with no walk, n is what the tests carry
abbrev pub Visits : Inner → ℕ → Type 0
Visits (carries k) n = k ≡ n
Visits (over m e) n = Walked m e n

-- n is the number of the first that applies: of the lines, the walk's rules, the lines after it
pub data Refuses (t : Tests) : ℕ → Type 0 where
  by_line : {n : ℕ} → First t.before n → Refuses t n
  by_walk : {n : ℕ} → None t.before → Breaks t.walked n → Refuses t n
  by_later-line : {n : ℕ} (h : ℕ) → None t.before → Visits t.walked h → First t.later n → Refuses t n

-- none applies, and the walk visits n headers
pub record Passes (t : Tests) (n : ℕ) : Type 0 where
  pub lines : None t.before
  pub visits : Visits t.walked n
  pub later-lines : None t.later

pub record Answers (t : Tests) : Type 0 where
  pub refuses : (n : ℕ) → (verdict t ≡ refused n) ↔ Refuses t n
  pub passes : (n : ℕ) → (verdict t ≡ done n) ↔ Passes t n

-- ---- the demand

pub record Demand1 (P : Primitives) : Type 0 where
  pub orders : (c : Call) (w : Lent) → numbers_tested (tests P c w) ≡ order c
  -- the walk's two lists
  pub first-header : (m : Bytes) (e : Envelope) → numbers_of (first_header_tests m e) ≡ 11 ∷ 12 ∷ 13 ∷ 14 ∷ []
  pub later-header : (m : Bytes) (e : Envelope) (p d : ℕ) → numbers_of (next_header_tests m e p d) ≡ 15 ∷ 16 ∷ 12 ∷ 14 ∷ []
  -- each refusal has its one number, given exactly when a line or a rule says so
  pub answers : (c : Call) (w : Lent) → Answers (tests P c w)
  -- "In every other case the message buffer, the table, the chain, the place for the keys and a handed-in counter are as they were lent"
  pub unchanged : (c : Call) (w : Lent) (n : ℕ) → answer P c w ≡ refused n → left P c w ≡ w
  -- "the answer otherwise carries only the number": the place for the number of headers is as it was lent, too
  pub headers : (a : Answer) (n h : ℕ) → a ≡ refused n → carried a h ≡ h
  -- "another status leaves the value and says not folded, which is a done answer": 0 with the mark 0
  pub not_folded : (kind : FoldKind) (m : Bytes) (w : Lent)
      → (answer P (folding kind m) w ≡ done 0) ↔ (None (tests P (folding kind m) w).before × (status_allows kind m ≡ false))
  pub not_folded-leaves : (kind : FoldKind) (m : Bytes) (w : Lent) → answer P (folding kind m) w ≡ done 0 → left P (folding kind m) w ≡ w
