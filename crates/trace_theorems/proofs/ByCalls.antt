-- Each call reads the record that begins the bytes from its place on, so the calls find one after the other what `read_all` has.
-- Assumes nothing.
use mathlib.Core.Path.{◌≡◌, refl, sym, ap, ap₂, ◌∙◌}
use mathlib.Core.Bool.{Bool, true, false, cond, not, ◌&&◌}
use mathlib.Core.List.{List, [], ◌++◌}
use Prim.Native.Nat.{ℕ, zero, suc, ◌+◌, ◌<◌, ◌≤◌}
use native.Mathlib.Omega.{arith}
use borrow.Author.Tests.{le-leb, lt-ltb, leb-true, leb-false, ne_eqb}
use Rattle.octets.proofs.BoolLaws.{both}
use lib.Dec.{leb, eqb}
use lib.ListN.{length, take, drop, length-drop, length-take}
use lib.Seq.{paste, take-paste, length-paste, take-length, drop-drop}
use Rattle.trace_format.specs.Format.{Bytes, Edition, edition_of, head_in, file_head, bad_file_head, read_file_head, kind_in, from_server_in, length_in, size_in, readable}
use Rattle.trace_format.specs.Format.{Reading, found, read_at, read_in}
use Rattle.trace_format.specs.Records.{Record, record_in, Contents, before, read_all, records_bytes, bit, written_edition, head_readable, head_writable}
use Rattle.trace_format.specs.Records.{file_head_bytes}
use Rattle.trace_format.proofs.FormatLaws.{at-end, at-unreadable, at-readable, was, in_bad, in_good}
use Rattle.trace_writer.specs.Answers.{up_to, refused}
use Rattle.trace_format.proofs.ByteLaws.{length-file_head_bytes}
use Rattle.trace_places.specs.Places.{place_behind, reading_number}
use Rattle.trace_theorems.specs.Calls.{Room, write_head, write_list, accepted, Places, places_after, record_at, found_by}
use Rattle.trace_theorems.specs.Traces.{file_of}
use Rattle.trace_theorems.proofs.RoundTrip.{parts}
use Rattle.trace_theorems.proofs.Lists.{stop, past, empty, read_on, read_stop, wrote, whole-file}

-- ---- one call

same_direction : (d : Bool) → not (eqb (bit d) 0) ≡ d
same_direction true = refl
same_direction false = refl

-- what is found from a call on that read r
abbrev turn : Bytes → ℕ → Places → Reading → Contents
turn f n l r =
    let after = places_after r l in
    cond (eqb (reading_number r) 0 && not (eqb after.size 0)) (before (record_at f after) (found_by n f after)) (stop (drop after.at f))

module _ (f : Bytes) (e : Edition) (l : Places) where
  abbrev s : Bytes
  s = drop l.at f

  abbrev there : Reading
  there = found (kind_in (head_in s)) (from_server_in (head_in s)) (l.at + 4) (length_in e (head_in s)) (l.at + size_in e s)

  abbrev after : Places
  after = places_after there l

  same_record : record_at f after ≡ record_in e s
  unfolding record_in
  same_record =
      λ i. record {
        kind = kind_in (head_in s);
        from_server = same_direction (from_server_in (head_in s)) i;
        payload = ap (take (length_in e (head_in s))) (sym (drop-drop 4 l.at f)) i;
      }

  -- a record's payload has a byte, so that its length is not taken for the end
  turn_on : (n : ℕ) → readable e s ≡ true → turn f n l there ≡ before (record_at f after) (found_by n f after)
  turn_on n q =
      let w = was e f l.at _ _ _ _ _ (at-readable e f l.at q) in
      let some = (parts e (kind_in (head_in s)) (length_in e (head_in s)) w.admits).1 in
      ap (λ (b : Bool). cond (true && not b) (before (record_at f after) (found_by n f after)) (stop (drop after.at f)))
      (ne_eqb (length_in e (head_in s)) 0 (λ z. omega arith))

-- ---- from place to place

module _ (f : Bytes) (e : Edition) where
  turn_found : (n : ℕ) (l : Places) → length f ≤ l.at + suc n
      → ((l : Places) → length f ≤ l.at + n → found_by n f l ≡ read_all e (drop l.at f))
      → (a b : Bool) → leb (length f) l.at ≡ a → readable e (drop l.at f) ≡ b → turn f n l (read_at e f l.at) ≡ read_all e (drop l.at f)
  turn_found n l h ih true b qa qb =
      let p = l.at in
      let x = leb-true (length f) p qa in
      ap (turn f n l) (sym (at-end e f p x)) ∙ sym (empty (length (drop p f)) e (drop p f) (omega (arith, length-drop p f)))
  turn_found n l h ih false false qa qb =
      let p = l.at in
      ap (turn f n l) (sym (at-unreadable e f p (leb-false (length f) p qa) qb)) ∙ sym (read_stop e (drop p f) qb)
  turn_found n l h ih false true qa qb =
      let p = l.at in
      let s : Bytes = drop p f in
      let size = (past e s qb).0 in
      ap (turn f n l) (sym (at-readable e f p qb))
      ∙ turn_on f e l n qb
      ∙ ap₂ before (same_record f e l) (ih (after f e l) (omega arith) ∙ ap (read_all e) (sym (drop-drop (size_in e s) p f)))
      ∙ sym (read_on e s qb)

  found_from : ((p : ℕ) → read_in f p ≡ read_at e f p) → (n : ℕ) (l : Places) → length f ≤ l.at + n → found_by n f l ≡ read_all e (drop l.at f)
  unfolding found_by
  found_from is zero l h = sym (empty (length (drop l.at f)) e (drop l.at f) (omega (arith, length-drop l.at f)))
  found_from is (suc n) l h =
      ap (turn f n l) (is l.at)
      ∙ turn_found n l h (found_from is n) (leb (length f) l.at) (readable e (drop l.at f)) refl refl

pub found_all : (f : Bytes) (e d c n : ℕ) (l : Places) → read_file_head f ≡ file_head e d c → length f ≤ l.at + n
    → found_by n f l ≡ read_all (edition_of e) (drop l.at f)
found_all f e d c n l t h = found_from f (edition_of e) (λ p. sym (in_good f p e d c (sym t) (read_at (edition_of e) f p) refl)) n l h

pub found_none : (f : Bytes) (n : ℕ) (l : Places) → read_file_head f ≡ bad_file_head → found_by n f l ≡ record { records = []; rest = drop l.at f }
unfolding found_by
found_none f zero l t = refl
found_none f (suc n) l t = ap (turn f n l) (sym (in_bad f l.at (sym t)))

-- ---- what the calls of the writer wrote

module _ (d c : ℕ) (w : Room) (hd : d < 65536) (hc : c < 256) (four : 4 ≤ length w.bytes) where
  abbrev e : Edition
  e = edition_of written_edition

  abbrev head : Bytes
  head = file_head_bytes written_edition d c

  abbrev headed : Room
  headed = write_head written_edition d c w

  abbrev left : Bool → Room
  left t = record { bytes = cond t (paste w.bytes 0 head (length head)) w.bytes; at = place_behind (cond t (up_to (0 + length head)) (refused 36)) w.at }

  head-left : headed ≡ left true
  head-left =
      let z = length-file_head_bytes written_edition d c in
      let ok : head_writable written_edition c ≡ true = lt-ltb c 256 hc in
      ap left (both (head_writable written_edition c) _ ok (le-leb (0 + length head) (length w.bytes) (omega arith)))

  file_is : (rs : List Record) → let after = write_list e rs headed in take after.at after.bytes ≡ file_of written_edition d c (accepted e rs headed)
  file_is rs =
      let z = length-file_head_bytes written_edition d c in
      let start = take-paste w.bytes 0 head (length head) (omega arith) (omega arith) ∙ take-length head in
      (wrote e rs headed).bytes
      ∙ ap (λ (x : Bytes). x ++ records_bytes e (accepted e rs headed)) (ap (λ (v : Room). take v.at v.bytes) head-left ∙ start)

  file-length : (rs : List Record) → length (file_of written_edition d c (accepted e rs headed)) ≤ length w.bytes
  file-length rs =
      let z = length-file_head_bytes written_edition d c in
      let after = write_list e rs headed in
      let a = ap length (file_is rs) in
      let b = length-take after.at after.bytes in
      let size = (wrote e rs headed).size in
      let room = ap (λ (v : Room). length v.bytes) head-left ∙ length-paste w.bytes 0 head (length head) (omega arith) (omega arith) in
      omega arith

  pub written-found : (n : ℕ) (rs : List Record) (l : Places) → l.at ≡ 4 → length w.bytes ≤ 4 + n
      → let after = write_list e rs headed in found_by n (take after.at after.bytes) l ≡ record { records = accepted e rs headed; rest = [] }
  written-found n rs l first h =
      let kept = accepted e rs headed in
      let known : head_readable written_edition c ≡ true = lt-ltb c 256 hc in
      let r = whole-file written_edition d c kept known (omega arith) hd (wrote e rs headed).admitted in
      let long = file-length rs in
      ap (λ (x : Bytes). found_by n x l) (file_is rs)
      ∙ found_all (file_of written_edition d c kept) written_edition d c n l r.0 (omega arith)
      ∙ ap (λ (p : ℕ). read_all e (drop p (file_of written_edition d c kept))) first
      ∙ r.1
