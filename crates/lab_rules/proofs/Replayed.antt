-- A turn changes bytes of its own record alone, and as many as there are: from the next record on the file is as it was lent.
-- Assumes nothing.
use mathlib.Core.Path.{◌≡◌, refl, sym, ap, ap₂, ◌∙◌}
use mathlib.Core.Bool.{Bool, true, false, cond}
use mathlib.Core.List.{List, ◌++◌, append_assoc}
use Prim.Native.Nat.{ℕ, zero, suc, ◌+◌, ◌-◌, ◌≤◌}
use native.Mathlib.Omega.{arith}
use lib.Dec.{leb, ltb}
use lib.ListN.{length, take, drop, length-append, length-take, length-drop}
use lib.Seq.{drop_at, drop-drop}
use Rattle.octets.specs.Numbers.{bytes_at}
use Rattle.protocol.specs.Bytes.{Bytes}
use Rattle.trace_format.specs.Format.{Edition, edition_of, head_in, FileReading, file_head, read_file_head, kind_in, from_server_in, length_in, size_in, readable}
use Rattle.trace_format.specs.Format.{Reading, found, end, unreadable, read_at}
use Rattle.trace_format.proofs.FormatLaws.{Was, was}
use Rattle.lab_rules.specs.Steps.{State, fresh_state, step_number, step_state, step_payload}
use Rattle.lab_rules.specs.Replay.{held, answered, long, outcome, state_after, file_after, place_after, line_then, lines_from, lines_under, lines_of}
use Rattle.lab_rules.specs.Replayed.{turns_from, Replayed}
use Rattle.lab_rules.proofs.Lengths.{payload-length}
use Rattle.lab_rules.proofs.LineLaws.{enough}

-- g is the file f from place p on
record Behind (f g : Bytes) (p : ℕ) : Type 0 where
  size : length g ≡ length f
  rest : drop p g ≡ drop p f

further : (f g : Bytes) (p q : ℕ) → p ≤ q → drop p g ≡ drop p f → drop q g ≡ drop q f
further f g p q h e =
    let j : p + (q - p) ≡ q = omega arith in
    ap (λ (x : ℕ). drop x g) (sym j) ∙ sym (drop-drop (q - p) p g)
    ∙ ap (drop (q - p)) e
    ∙ drop-drop (q - p) p f ∙ ap (λ (x : ℕ). drop x f) j

same_reading : (e : Edition) (f g : Bytes) (p : ℕ) → Behind f g p → read_at e g p ≡ read_at e f p
unfolding read_at
same_reading e f g p b =
    ap₂ (λ (n : ℕ) (s : Bytes).
    cond (leb n p) end
    (cond (readable e s) (found (kind_in (head_in s)) (from_server_in (head_in s)) (p + 4) (length_in e (head_in s)) (p + size_in e s)) unreadable))
    b.size b.rest

-- ---- a record

module _ (e : Edition) (f g : Bytes) (p k : ℕ) (d : Bool) (q n next : ℕ) (w : Was e f p k q n next) (b : Behind f g p) where
  same_payload : bytes_at q n g ≡ bytes_at q n f
  same_payload = let a = w.from in ap (take n) (further f g p q (omega arith) b.rest)

  module _ (x : Bytes) (same : length x ≡ length (bytes_at q n g)) where
    front_length : length (take q g ++ x) ≡ next
    front_length =
        let a = w.from in
        let z = w.next in
        let i = w.inside in
        let y = b.size in
        let l : length (bytes_at q n g) ≡ n = simp (length-take, length-drop) (omega arith) in
        let h : length (take q g) ≡ q = simp length-take (omega arith) in
        let c = length-append (take q g) x in
        omega arith

    put-behind : Behind f (take q g ++ (x ++ drop next g)) next
    put-behind =
        let a = w.from in
        let z = w.next in
        let i = w.inside in
        let y = b.size in
        let c = front_length in
        let o = sym (append_assoc (take q g) x (drop next g)) in
        record {
          size = ap length o ∙ length-append (take q g ++ x) (drop next g) ∙ omega (arith, length-drop next g);
          rest = ap (drop next) o ∙ drop_at (take q g ++ x) (drop next g) next c ∙ further f g p next (omega arith) b.rest;
        }

  after-behind : (s : State) → Behind f (file_after (found k d q n next) s g) next
  after-behind s = by (ltb held n)
    where
      by : (t : Bool) → Behind f (cond t g (take q g ++ (step_payload k d (bytes_at q n g) s ++ drop next g))) next
      by true =
          let z = w.next in
          record { size = b.size; rest = further f g p next (omega arith) b.rest }
      by false = put-behind (step_payload k d (bytes_at q n g) s) (payload-length k d (bytes_at q n g) s)

turn_same : (n : ℕ) (e : Edition) (f g : Bytes) (p : ℕ) (s : State) (i : ℕ) → Behind f g p
    → ((s : State) (g : Bytes) (q : ℕ) → Behind f g q → turns_from n e s g q (i + 1) ≡ lines_from n e s f q (i + 1))
    → (r : Reading) → r ≡ read_at e f p
    → line_then (outcome r s g p) i (turns_from n e (state_after r s g) (file_after r s g) (place_after r p) (i + 1))
    ≡ line_then (outcome r s f p) i (lines_from n e (state_after r s f) f (place_after r p) (i + 1))
turn_same n e f g p s i b ih (found k d q m next) t =
    let r : Reading = found k d q m next in
    let w = was e f p k d q m next t in
    ap (line_then (outcome r s g p) i) (ih (state_after r s g) (file_after r s g) next (after-behind e f g p k d q m next w b s))
    ∙ ap (λ (x : Bytes).
    line_then (cond (ltb held m) long (answered (step_number k d x s))) i (lines_from n e (cond (ltb held m) s (step_state k d x s)) f next (i + 1)))
    (same_payload e f g p k d q m next w b)
turn_same n e f g p s i b ih end t = refl
turn_same n e f g p s i b ih unreadable t = refl

-- ---- from place to place

same_turns : (n : ℕ) (e : Edition) (s : State) (f g : Bytes) (p i : ℕ) → Behind f g p → turns_from n e s g p i ≡ lines_from n e s f p i
unfolding turns_from lines_from
same_turns zero e s f g p i b = refl
same_turns (suc n) e s f g p i b =
    ap (λ (r : Reading). line_then (outcome r s g p) i (turns_from n e (state_after r s g) (file_after r s g) (place_after r p) (i + 1)))
    (same_reading e f g p b)
    ∙ turn_same n e f g p s i b (λ s' g' q b'. same_turns n e s' f g' q (i + 1) b') (read_at e f p) refl

same_lines : (f : Bytes) (e d c n : ℕ) → read_file_head f ≡ file_head e d c → length f ≤ 4 + n
    → turns_from n (edition_of e) (fresh_state d c) f 4 0 ≡ lines_of f
unfolding lines_of
same_lines f e d c n t h =
    same_turns n (edition_of e) (fresh_state d c) f f 4 0 (record { size = refl; rest = refl })
    ∙ enough n (length f) (edition_of e) (fresh_state d c) f 4 0 h (omega arith)
    ∙ ap (λ (x : FileReading). lines_under x f) (sym t)

pub replayed : Replayed
unfolding lines_of
replayed = record { same_lines = same_lines; no_head = λ f t. ap (λ (x : FileReading). lines_under x f) t }
