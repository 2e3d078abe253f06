-- Numbers in heads, written and read.
-- Assumes nothing.
use mathlib.Core.Path.{◌≡◌, refl, sym, ap, ap₂, ◌∙◌}
use mathlib.Core.Bool.{Bool, true, false, cond}
use mathlib.Core.List.{[], ◌∷◌, ◌++◌, append_assoc}
use Prim.Native.Nat.{ℕ, zero, suc, ◌+◌, ◌*◌, ◌/◌, ◌%◌, ◌<◌, ◌≤◌}
use native.Mathlib.Nat.{zero-add}
use native.Mathlib.Omega.{arith}
use borrow.Author.Tests.{leb-true, le-leb, eqb-true, eq-eqb}
use Rattle.octets.proofs.BoolLaws.{and_true}
use lib.Dec.{leb, eqb}
use lib.ListN.{length, take, drop, length-append, length-take, length-drop}
use lib.Seq.{take_at, drop_at, take-add}
use Rattle.octets.specs.Numbers.{big_endian_after, big_endian, to_big_endian}
use Rattle.octets.proofs.NumberLaws.{big_back}
use Rattle.trace_format.specs.Format.{Bytes, Edition, edition1, edition2, no_edition, edition_of, head_in, kind_in, from_server_in, length_in, admitted, good_head}
use Rattle.trace_format.specs.Format.{size_in, readable}
use Rattle.trace_format.specs.Records.{Record, record_in, bit, record_head, record_bytes, writable}
use Rattle.trace_theorems.specs.Traces.{Octets, none, more}
use Rattle.trace_format.proofs.FormatLaws.{four_there, readable-good}
use Rattle.trace_format.proofs.ByteLaws.{length-record_head, bit_small}

-- ---- four bytes

above : (q r : ℕ) → r < 256 → (q * 256 + r) / 256 ≡ q
above q r h = omega arith

below : (q r : ℕ) → r < 256 → (q * 256 + r) % 256 ≡ r
below q r h = omega arith

low : (r : ℕ) → r < 256 → r % 256 ≡ r
low r h = omega arith

four_same : (a b c d : ℕ) → a < 256 → b < 256 → c < 256 → d < 256 → to_big_endian 4 (big_endian (a ∷ b ∷ c ∷ d ∷ [])) ≡ a ∷ b ∷ c ∷ d ∷ []
unfolding to_big_endian big_endian_after
four_same a b c d ha hb hc hd =
    let e1 : (((a * 256 + b) * 256 + c) * 256 + d) / 256 ≡ (a * 256 + b) * 256 + c = above ((a * 256 + b) * 256 + c) d hd in
    let e2 : (((a * 256 + b) * 256 + c) * 256 + d) / 256 / 256 ≡ a * 256 + b = ap (λ (n : ℕ). n / 256) e1 ∙ above (a * 256 + b) c hc in
    let e3 : (((a * 256 + b) * 256 + c) * 256 + d) / 256 / 256 / 256 ≡ a = ap (λ (n : ℕ). n / 256) e2 ∙ above a b hb in
    ap (λ (n : ℕ). to_big_endian 4 (big_endian_after n (b ∷ c ∷ d ∷ []))) (zero-add a)
    ∙ λ i.
    (ap (λ (n : ℕ). n % 256) e3 ∙ low a ha) i
    ∷ (ap (λ (n : ℕ). n % 256) e2 ∙ below a b hb) i
    ∷ (ap (λ (n : ℕ). n % 256) e1 ∙ below (a * 256 + b) c hc) i
    ∷ below ((a * 256 + b) * 256 + c) d hd i
    ∷ []

four_less : (a b c d : ℕ) → a < 256 → b < 256 → c < 256 → d < 256 → big_endian (a ∷ b ∷ c ∷ d ∷ []) < 4294967296
unfolding big_endian_after
four_less a b c d ha hb hc hd = omega arith

pub head_same : {s : Bytes} → Octets s → 4 ≤ length s → (to_big_endian 4 (head_in s) ≡ take 4 s) × (head_in s < 4294967296)
head_same none h = absurd (omega arith)
head_same (more a none) h = absurd (omega arith)
head_same (more a (more b none)) h = absurd (omega arith)
head_same (more a (more b (more c none))) h = absurd (omega arith)
head_same (more {x = x} a (more {x = y} b (more {x = z} c (more {x = w} d o)))) h = (four_same x y z w a b c d, four_less x y z w a b c d)

pub octets_drop : (n : ℕ) {s : Bytes} → Octets s → Octets (drop n s)
octets_drop zero o = o
octets_drop (suc n) none = none
octets_drop (suc n) (more x o) = octets_drop n o

-- ---- the fields of a record's head

bit-of : (x : ℕ) → x < 2 → bit (eqb x 1) ≡ x
bit-of zero h = refl
bit-of (suc zero) h = refl
bit-of (suc (suc x)) h = absurd (omega arith)

of-bit : (d : Bool) → eqb (bit d) 1 ≡ d
of-bit true = refl
of-bit false = refl

-- what an edition's numbers are good for: a head's fields, written and read, and read and written
pub record Sound (e : Edition) : Type 0 where
  pub written_read : (k b n : ℕ) → k ≤ 3 → b ≤ 1 → 1 ≤ n → n ≤ e.longest
      → let h = k * 536870912 + b * 268435456 + n * e.unit in
      (h < 4294967296) × (kind_in h ≡ k) × (h / 268435456 % 2 ≡ b) × (length_in e h ≡ n) × (h % e.unit ≡ 0)
  pub read_written : (h : ℕ) → h < 4294967296 → h % e.unit ≡ 0
      → kind_in h * 536870912 + h / 268435456 % 2 * 268435456 + length_in e h * e.unit ≡ h

sound_1 : Sound edition1
sound_1 =
    record {
      written_read = λ k b n hk hb h1 hn. (omega arith, omega arith, omega arith, omega arith, omega arith);
      read_written = λ h l z. omega arith;
    }

sound_2 : Sound edition2
sound_2 =
    record {
      written_read = λ k b n hk hb h1 hn. (omega arith, omega arith, omega arith, omega arith, omega arith);
      read_written = λ h l z. omega arith;
    }

sound_none : Sound no_edition
sound_none =
    record {
      written_read = λ k b n hk hb h1 hn. absurd (omega arith);
      read_written = λ h l z. omega arith;
    }

pub sound : (n : ℕ) → Sound (edition_of n)
sound n = by (eqb n 1) (eqb n 2)
  where
    by : (one two : Bool) → Sound (cond one edition1 (cond two edition2 no_edition))
    by true two = sound_1
    by false true = sound_2
    by false false = sound_none

-- ---- one record

pub parts : (e : Edition) (k n : ℕ) → admitted e k n ≡ true → (k ≤ 3) × (1 ≤ n) × (n ≤ e.longest)
parts e k n t =
    let p = and_true (leb k 3) _ t in
    let q = and_true (leb 1 n) _ p.1 in
    let r = and_true (leb n e.longest) _ q.1 in
    (leb-true k 3 p.0, leb-true 1 n q.0, leb-true n e.longest r.0)

-- what was written is read, whatever stands behind it
pub record Reads (e : Edition) (r : Record) (rest : Bytes) : Type 0 where
  pub is_readable : readable e (record_bytes e r ++ rest) ≡ true
  pub same : record_in e (record_bytes e r ++ rest) ≡ r
  pub size : size_in e (record_bytes e r ++ rest) ≡ length (record_bytes e r)
  pub behind : drop (size_in e (record_bytes e r ++ rest)) (record_bytes e r ++ rest) ≡ rest

module _ (e : Edition) (ok : Sound e) (r : Record) (rest : Bytes) (w : writable e r ≡ true) where
  abbrev number : ℕ
  number = r.kind * 536870912 + bit r.from_server * 268435456 + length r.payload * e.unit

  abbrev s : Bytes
  s = record_bytes e r ++ rest

  front : take 4 s ≡ record_head e r.kind r.from_server (length r.payload)
  front =
      let h : Bytes = record_head e r.kind r.from_server (length r.payload) in
      ap (take 4) (append_assoc h r.payload rest) ∙ take_at h (r.payload ++ rest) 4 (length-record_head e r.kind r.from_server (length r.payload))

  tail : drop 4 s ≡ r.payload ++ rest
  tail =
      let h : Bytes = record_head e r.kind r.from_server (length r.payload) in
      ap (drop 4) (append_assoc h r.payload rest) ∙ drop_at h (r.payload ++ rest) 4 (length-record_head e r.kind r.from_server (length r.payload))

  length-bytes : length (record_bytes e r) ≡ 4 + length r.payload
  length-bytes =
      length-append (record_head e r.kind r.from_server (length r.payload)) r.payload
      ∙ ap (λ (m : ℕ). m + length r.payload) (length-record_head e r.kind r.from_server (length r.payload))

  length_s : length s ≡ 4 + length r.payload + length rest
  length_s = length-append (record_bytes e r) rest ∙ ap (λ (m : ℕ). m + length rest) length-bytes

  fields : (number < 4294967296) × (kind_in number ≡ r.kind) × (number / 268435456 % 2 ≡ bit r.from_server)
      × (length_in e number ≡ length r.payload) × (number % e.unit ≡ 0)
  fields =
      let p = parts e r.kind (length r.payload) w in
      ok.written_read r.kind (bit r.from_server) (length r.payload) p.0 (bit_small r.from_server) p.1 p.2

  is_number : head_in s ≡ number
  unfolding record_head
  is_number = ap big_endian front ∙ big_back 4 number fields.0

  is_kind : kind_in (head_in s) ≡ r.kind
  is_kind = ap kind_in is_number ∙ fields.1

  is_from : from_server_in (head_in s) ≡ r.from_server
  is_from = ap from_server_in is_number ∙ ap (λ (x : ℕ). eqb x 1) fields.2 ∙ of-bit r.from_server

  is_length : length_in e (head_in s) ≡ length r.payload
  is_length = ap (length_in e) is_number ∙ fields.3

  is_good : good_head e s ≡ true
  unfolding good_head
  is_good =
      let l = length_s in
      rw (le-leb 4 (length s) (omega arith), eq-eqb (head_in s % e.unit) 0 (ap (λ (h : ℕ). h % e.unit) is_number ∙ fields.4))
      (ap₂ (admitted e) is_kind is_length ∙ w)

  is_size : size_in e s ≡ length (record_bytes e r)
  is_size = ap (λ (m : ℕ). 4 + m) is_length ∙ sym length-bytes

  pub reads : Reads e r rest
  unfolding readable record_in
  reads =
      let l = length_s in
      let z = is_size in
      let b = length-bytes in
      record {
        is_readable = rw (is_good) (le-leb (size_in e s) (length s) (omega arith));
        same =
            λ i. record {
              kind = is_kind i;
              from_server = is_from i;
              payload = (ap₂ (λ (m : ℕ) (t : Bytes). take m t) is_length tail ∙ take_at r.payload rest (length r.payload) refl) i;
            };
        size = is_size;
        behind = ap (λ (m : ℕ). drop m s) is_size ∙ drop_at (record_bytes e r) rest (length (record_bytes e r)) refl;
      }

-- what was read is written as it stood
pub record Stood (e : Edition) (s : Bytes) : Type 0 where
  pub bytes : record_bytes e (record_in e s) ≡ take (size_in e s) s
  pub positive : 4 ≤ size_in e s
  pub inside : size_in e s ≤ length s

spare : (e : Edition) (s : Bytes) → good_head e s ≡ true → head_in s % e.unit ≡ 0
unfolding good_head
spare e s g = eqb-true (head_in s % e.unit) 0 (and_true (eqb (head_in s % e.unit) 0) _ (and_true (leb 4 (length s)) _ g).1).0

pub stood : (e : Edition) → Sound e → {s : Bytes} → Octets s → readable e s ≡ true → Stood e s
unfolding record_in record_head
stood e ok {s} o t =
    let g = readable-good e s t in
    let four = four_there e s g.0 in
    let h = head_same o four in
    let i = g.1 in
    let n = length_in e (head_in s) in
    let payload : Bytes = take n (drop 4 s) in
    let lt : length payload ≡ n = simp (length-take, length-drop) (omega arith) in
    let b = bit-of (head_in s / 268435456 % 2) (omega arith) in
    record {
      bytes =
          ap (λ (m : ℕ). to_big_endian 4 (kind_in (head_in s) * 536870912 + bit (from_server_in (head_in s)) * 268435456 + m * e.unit) ++ payload) lt
          ∙ ap (λ (m : ℕ). to_big_endian 4 (kind_in (head_in s) * 536870912 + m * 268435456 + n * e.unit) ++ payload) b
          ∙ ap (λ (m : ℕ). to_big_endian 4 m ++ payload) (ok.read_written (head_in s) h.1 (spare e s g.0))
          ∙ ap (λ (x : Bytes). x ++ payload) h.0
          ∙ sym (take-add 4 n s);
      positive = omega arith;
      inside = i;
    }

-- what was read is admitted
pub read_writable : (e : Edition) (s : Bytes) → readable e s ≡ true → writable e (record_in e s) ≡ true
unfolding good_head record_in
read_writable e s t =
    let g = readable-good e s t in
    let a = and_true (eqb (head_in s % e.unit) 0) (admitted e (kind_in (head_in s)) (length_in e (head_in s))) (and_true (leb 4 (length s)) _ g.0).1 in
    let i = g.1 in
    let lt : length (take (length_in e (head_in s)) (drop 4 s)) ≡ length_in e (head_in s) = simp (length-take, length-drop) (omega arith) in
    ap (admitted e (kind_in (head_in s))) lt ∙ a.1
