-- Whole lists of records, written and read. Document 02, b): "Writing then reading gives the same records."
-- Assumes nothing.
use mathlib.Core.Path.{◌≡◌, refl, sym, ap, ap₂, ◌∙◌}
use mathlib.Core.Bool.{Bool, true, false, cond, ◌&&◌}
use mathlib.Core.List.{List, [], ◌∷◌, ◌++◌, append_assoc, append-nil}
use Prim.Native.Nat.{ℕ, zero, suc, ◌+◌, ◌*◌, ◌<◌, ◌≤◌}
use native.Mathlib.Omega.{arith}
use borrow.Author.Tests.{leb-true, le-leb, lt-ltb, ltb-true}
use Rattle.octets.proofs.BoolLaws.{and_true, both}
use lib.Dec.{leb, ltb, eqb}
use lib.ListN.{length, take, drop, length-append, length-drop, length-take, take-append-drop}
use lib.Seq.{paste, take_at, drop_at, take-length, take-paste, length-paste}
use Rattle.octets.specs.Numbers.{big_endian}
use Rattle.octets.proofs.NumberLaws.{big_back}
use Rattle.trace_format.specs.Format.{Bytes, Edition, edition_of, known, head_in, edition_in, dialect_in, cipher_in, good_file_head, file_head, bad_file_head}
use Rattle.trace_format.specs.Format.{read_file_head_by, read_file_head}
use Rattle.trace_format.specs.Format.{size_in, readable}
use Rattle.trace_format.specs.Records.{Record, record_in, Contents, before, read_some, read_all, record_bytes, writable, records_bytes, all_writable, head_readable}
use Rattle.trace_format.specs.Records.{file_head_bytes}
use Rattle.trace_format.proofs.FormatLaws.{readable-good}
use Rattle.trace_format.proofs.ByteLaws.{length-file_head_bytes}
use Rattle.trace_writer.specs.Answers.{up_to, refused}
use Rattle.trace_places.specs.Places.{written_number, place_behind}
use Rattle.trace_theorems.specs.Calls.{Room, write_next, write_list, accepted}
use Rattle.trace_theorems.specs.Traces.{Octets, file_of}
use Rattle.trace_theorems.proofs.RoundTrip.{octets_drop, Sound, sound, reads, stood, read_writable}

abbrev pub stop : Bytes → Contents
stop s = record { records = []; rest = s }

-- ---- reading, one record at a time

pub past : (e : Edition) (s : Bytes) → readable e s ≡ true → (4 ≤ size_in e s) × (size_in e s ≤ length s)
past e s t = let g = readable-good e s t in (omega arith, g.1)

-- a record more on both sides, where there is one
turn : (t : Bool) (r : Record) (a b z : Contents) → (t ≡ true → a ≡ b) → cond t (before r a) z ≡ cond t (before r b) z
turn true r a b z h = ap (before r) (h refl)
turn false r a b z h = refl

none-there : (t : Bool) (a z : Contents) → (t ≡ true → ⊥) → cond t a z ≡ z
none-there true a z h = absurd (h refl)
none-there false a z h = refl

-- more than enough turns change nothing
pub empty : (m : ℕ) (e : Edition) (s : Bytes) → length s ≤ 0 → read_some m e s ≡ stop s
unfolding read_some
empty zero e s h = refl
empty (suc m) e s h = none-there (readable e s) _ _ (λ q. let p = past e s q in omega arith)

enough : (n m : ℕ) (e : Edition) (s : Bytes) → length s ≤ n → length s ≤ m → read_some n e s ≡ read_some m e s
unfolding read_some
enough zero m e s hn hm = sym (empty m e s hn)
enough (suc n) zero e s hn hm = empty (suc n) e s hm
enough (suc n) (suc m) e s hn hm =
    let l = length-drop (size_in e s) s in
    turn (readable e s) (record_in e s) _ _ (stop s) (λ q. let p = past e s q in enough n m e (drop (size_in e s) s) (omega arith) (omega arith))

pub read_on : (e : Edition) (s : Bytes) → readable e s ≡ true → read_all e s ≡ before (record_in e s) (read_all e (drop (size_in e s) s))
unfolding read_some
read_on e [] q = let p = past e [] q in absurd (omega arith)
read_on e (x ∷ xs) q =
    let s : Bytes = x ∷ xs in
    let p = past e s q in
    let l = length-drop (size_in e s) s in
    let d : Bytes = drop (size_in e s) s in
    rw q (ap (before (record_in e s)) (enough (length xs) (length d) e d (omega arith) (omega arith)))

pub read_stop : (e : Edition) (s : Bytes) → readable e s ≡ false → read_all e s ≡ stop s
unfolding read_some
read_stop e [] t = refl
read_stop e (x ∷ xs) t = rw t

-- ---- what was written is read

abbrev pub joined : List Record → Contents → Contents
joined rs c = record { records = rs ++ c.records; rest = c.rest }

-- whatever stands behind the records
pub written_read : (n : ℕ) (rs : List Record) (s : Bytes) → all_writable (edition_of n) rs ≡ true
    → read_all (edition_of n) (records_bytes (edition_of n) rs ++ s) ≡ joined rs (read_all (edition_of n) s)
unfolding records_bytes
written_read n [] s w = refl
written_read n (r ∷ rs) s w =
    let e = edition_of n in
    let b = and_true (writable e r) (all_writable e rs) w in
    let t : Bytes = records_bytes e rs ++ s in
    let q = reads e (sound n) r t b.0 in
    ap (read_all e) (append_assoc (record_bytes e r) (records_bytes e rs) s)
    ∙ read_on e (record_bytes e r ++ t) q.is_readable
    ∙ ap₂ (λ (x : Record) (y : Bytes). before x (read_all e y)) q.same q.behind
    ∙ ap (before r) (written_read n rs s b.1)

pub nothing_left : (e : Edition) → read_all e [] ≡ record { records = []; rest = [] }
nothing_left e = empty 0 e [] (omega arith)

-- nothing behind them: the same records, and nothing is left
pub same_records : (n : ℕ) (rs : List Record) → all_writable (edition_of n) rs ≡ true
    → read_all (edition_of n) (records_bytes (edition_of n) rs) ≡ record { records = rs; rest = [] }
same_records n rs w =
    let e = edition_of n in
    ap (read_all e) (sym (append-nil (records_bytes e rs))) ∙ written_read n rs [] w
    ∙ ap (joined rs) (nothing_left e) ∙ ap (λ (x : List Record). record { records = x; rest = [] }) (append-nil rs)

-- ---- what was read is written as it stood

module _ (e : Edition) (ok : Sound e) where
  again : (t : Bool) (r : Record) (a : Contents) (s : Bytes) → (t ≡ true → record_bytes e r ++ (records_bytes e a.records ++ a.rest) ≡ s)
      → let c = cond t (before r a) (stop s) in records_bytes e c.records ++ c.rest ≡ s
  unfolding records_bytes
  again true r a s h = append_assoc (record_bytes e r) (records_bytes e a.records) a.rest ∙ h refl
  again false r a s h = refl

  back : (m : ℕ) {s : Bytes} → Octets s → records_bytes e (read_some m e s).records ++ (read_some m e s).rest ≡ s
  unfolding read_some records_bytes
  back zero o = refl
  back (suc m) {s} o =
      again (readable e s) (record_in e s) (read_some m e (drop (size_in e s) s)) s
      (λ q.
      ap₂ (λ (x y : Bytes). x ++ y) (stood e ok o q).bytes (back m (octets_drop (size_in e s) o)) ∙ take-append-drop (size_in e s) s)

  all_there : (t : Bool) (r : Record) (a : Contents) (s : Bytes) → (t ≡ true → writable e r ≡ true) → all_writable e a.records ≡ true
      → all_writable e (cond t (before r a) (stop s)).records ≡ true
  all_there true r a s h k = rw (h refl) k
  all_there false r a s h k = refl

  each : (m : ℕ) (s : Bytes) → all_writable e (read_some m e s).records ≡ true
  unfolding read_some
  each zero s = refl
  each (suc m) s = all_there (readable e s) (record_in e s) (read_some m e (drop (size_in e s) s)) s (λ q. read_writable e s q) (each m (drop (size_in e s) s))

-- what was read, written again, and what is left are the bytes that were lent
pub read_written : (n : ℕ) {s : Bytes} → Octets s → records_bytes (edition_of n) (read_all (edition_of n) s).records ++ (read_all (edition_of n) s).rest ≡ s
read_written n {s} o = back (edition_of n) (sound n) (length s) o

-- and the writer refuses none of it
pub all_read_writable : (n : ℕ) (s : Bytes) → all_writable (edition_of n) (read_all (edition_of n) s).records ≡ true
all_read_writable n s = each (edition_of n) (sound n) (length s) s

-- ---- a list of calls of the writer, refused ones included

pub record Wrote (e : Edition) (rs : List Record) (w : Room) : Type 0 where
  pub bytes : take (write_list e rs w).at (write_list e rs w).bytes ≡ take w.at w.bytes ++ records_bytes e (accepted e rs w)
  pub size : length (write_list e rs w).bytes ≡ length w.bytes
  pub admitted : all_writable e (accepted e rs w) ≡ true

-- the call is not refused
abbrev holds : Edition → Record → Room → Bool
holds e r w = writable e r && leb (w.at + length (record_bytes e r)) (length w.bytes)

abbrev pasted : Edition → Record → Room → Bytes
pasted e r w = paste w.bytes w.at (record_bytes e r) (length (record_bytes e r))

next_is : (t : Bool) (e : Edition) (r : Record) (w : Room) → holds e r w ≡ t
    → let z = w.at + length (record_bytes e r) in
    write_next e r w ≡ record { bytes = cond t (pasted e r w) w.bytes; at = place_behind (cond t (up_to z) (refused 36)) w.at }
next_is t e r w q =
    let z = w.at + length (record_bytes e r) in
    ap {B = Room} (λ (b : Bool). record { bytes = cond b (pasted e r w) w.bytes; at = place_behind (cond b (up_to z) (refused 36)) w.at }) q

accepted_is : (t : Bool) (e : Edition) (r : Record) (rs : List Record) (w : Room) → holds e r w ≡ t
    → let tail = accepted e rs (write_next e r w) in accepted e (r ∷ rs) w ≡ cond t (r ∷ tail) tail
unfolding accepted
accepted_is t e r rs w q =
    let z = w.at + length (record_bytes e r) in
    let tail : List Record = accepted e rs (write_next e r w) in
    ap (λ (b : Bool). cond (eqb (written_number (cond b (up_to z) (refused 36))) 0) (r ∷ tail) tail) q ∙ by t
  where
    by : (t : Bool) → let tail = accepted e rs (write_next e r w) in
        cond (eqb (written_number (cond t (up_to (w.at + length (record_bytes e r))) (refused 36))) 0) (r ∷ tail) tail ≡ cond t (r ∷ tail) tail
    by true = refl
    by false = refl

wrote_at : (t : Bool) (e : Edition) (r : Record) (rs : List Record) (w : Room) → holds e r w ≡ t → Wrote e rs (write_next e r w) → Wrote e (r ∷ rs) w
unfolding write_list records_bytes
wrote_at true e r rs w q k =
    let a = and_true (writable e r) (leb (w.at + length (record_bytes e r)) (length w.bytes)) q in
    let l = leb-true (w.at + length (record_bytes e r)) (length w.bytes) a.1 in
    let front : take (w.at + length (record_bytes e r)) (pasted e r w) ≡ take w.at w.bytes ++ record_bytes e r =
    take-paste w.bytes w.at (record_bytes e r) (length (record_bytes e r)) (omega arith) (omega arith)
    ∙ ap (λ (x : Bytes). take w.at w.bytes ++ x) (take-length (record_bytes e r)) in
    let next = next_is true e r w q in
    let acc = accepted_is true e r rs w q in
    let tail : List Record = accepted e rs (write_next e r w) in
    record {
      bytes =
          k.bytes
          ∙ ap (λ (v : Room). take v.at v.bytes ++ records_bytes e tail) next
          ∙ ap (λ (x : Bytes). x ++ records_bytes e tail) front
          ∙ append_assoc (take w.at w.bytes) (record_bytes e r) (records_bytes e tail)
          ∙ ap (λ (x : List Record). take w.at w.bytes ++ records_bytes e x) (sym acc);
      size =
          k.size ∙ ap (λ (v : Room). length v.bytes) next
          ∙ length-paste w.bytes w.at (record_bytes e r) (length (record_bytes e r)) l (omega arith);
      admitted = ap (all_writable e) acc ∙ ap (λ (t : Bool). t && all_writable e tail) a.0 ∙ k.admitted;
    }
wrote_at false e r rs w q k =
    let next = next_is false e r w q in
    let acc = accepted_is false e r rs w q in
    let tail : List Record = accepted e rs (write_next e r w) in
    record {
      bytes =
          k.bytes
          ∙ ap (λ (v : Room). take v.at v.bytes ++ records_bytes e tail) next
          ∙ ap (λ (x : List Record). take w.at w.bytes ++ records_bytes e x) (sym acc);
      size = k.size ∙ ap (λ (v : Room). length v.bytes) next;
      admitted = ap (all_writable e) acc ∙ k.admitted;
    }

pub wrote : (e : Edition) (rs : List Record) (w : Room) → Wrote e rs w
unfolding write_list accepted records_bytes
wrote e [] w = record { bytes = sym (append-nil (take w.at w.bytes)); size = refl; admitted = refl }
wrote e (r ∷ rs) w = wrote_at (holds e r w) e r rs w refl (wrote e rs (write_next e r w))

-- "Writing then reading gives the same records": the reader finds what the writer did not refuse, and nothing else
pub calls_read : (n : ℕ) (rs : List Record) (w : Room) → w.at ≤ length w.bytes
    → let e = edition_of n in
    read_all e (drop w.at (take (write_list e rs w).at (write_list e rs w).bytes)) ≡ record { records = accepted e rs w; rest = [] }
calls_read n rs w h =
    let e = edition_of n in
    let k = wrote e rs w in
    let l : length (take w.at w.bytes) ≡ w.at = simp length-take (omega arith) in
    ap (λ (x : Bytes). read_all e (drop w.at x)) k.bytes
    ∙ ap (read_all e) (drop_at (take w.at w.bytes) (records_bytes e (accepted e rs w)) w.at l)
    ∙ same_records n (accepted e rs w) k.admitted

-- ---- whole files

-- a file head, and whatever stands behind it
pub file_read : (n d c : ℕ) (s : Bytes) → head_readable n c ≡ true → n < 256 → d < 65536
    → (read_file_head (file_head_bytes n d c ++ s) ≡ file_head n d c) × (drop 4 (file_head_bytes n d c ++ s) ≡ s)
unfolding read_file_head_by good_file_head file_head_bytes
file_read n d c s w hn hd =
    let ok = and_true (known n) (ltb c 256) w in
    let hc = ltb-true c 256 ok.1 in
    let b : Bytes = file_head_bytes n d c in
    let x : ℕ = n * 16777216 + d * 256 + c in
    let four : length b ≡ 4 = length-file_head_bytes n d c in
    let long : 4 ≤ length (b ++ s) = omega (arith, length-append b s) in
    let e : head_in (b ++ s) ≡ x = ap big_endian (take_at b s 4 four) ∙ big_back 4 x (omega arith) in
    let en : edition_in (head_in (b ++ s)) ≡ n = ap edition_in e ∙ omega arith in
    let ed : dialect_in (head_in (b ++ s)) ≡ d = ap dialect_in e ∙ omega arith in
    let ec : cipher_in (head_in (b ++ s)) ≡ c = ap cipher_in e ∙ omega arith in
    (rw (le-leb 4 (length (b ++ s)) long, ap known en ∙ ok.0) (λ i. file_head (en i) (ed i) (ec i)), drop_at b s 4 four)

pub whole-file : (n d c : ℕ) (rs : List Record) → head_readable n c ≡ true → n < 256 → d < 65536 → all_writable (edition_of n) rs ≡ true
    → (read_file_head (file_of n d c rs) ≡ file_head n d c) × (read_all (edition_of n) (drop 4 (file_of n d c rs)) ≡ record { records = rs; rest = [] })
whole-file n d c rs k hn hd w =
    let f = file_read n d c (records_bytes (edition_of n) rs) k hn hd in
    (f.0, ap (read_all (edition_of n)) f.1 ∙ same_records n rs w)

-- a head that is read back is of a known edition, with a cipher of eight bits
pub head_back : (f : Bytes) (n d c : ℕ) → read_file_head f ≡ file_head n d c → head_readable n c ≡ true
unfolding read_file_head_by good_file_head
head_back f n d c t = by (leb 4 (length f) && known (edition_in (head_in f))) refl t
  where
    edition : {x y z a b c : ℕ} → file_head x y z ≡ file_head a b c → x ≡ a
    edition e = cc

    cipher : {x y z a b c : ℕ} → file_head x y z ≡ file_head a b c → z ≡ c
    cipher e = cc

    by : (b : Bool) → (leb 4 (length f) && known (edition_in (head_in f))) ≡ b
        → cond b (file_head (edition_in (head_in f)) (dialect_in (head_in f)) (cipher_in (head_in f))) bad_file_head ≡ file_head n d c → head_readable n c ≡ true
    by true g q =
        let same = cipher q in
        both (known n) (ltb c 256) (ap known (sym (edition q)) ∙ (and_true (leb 4 (length f)) (known (edition_in (head_in f))) g).1) (lt-ltb c 256 (omega arith))
    by false g q = absurd (let z : ◌≡◌ {A = ℕ} 0 1 = cc in omega arith)
