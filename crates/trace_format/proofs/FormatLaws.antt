-- What the readings of the format are, case by case.
-- Assumes nothing.
use mathlib.Core.Path.{◌≡◌, refl, sym, ap, ap₂, ◌∙◌}
use mathlib.Core.Bool.{Bool, true, false, cond, not, ◌&&◌, ◌||◌}
use Prim.Native.Nat.{ℕ, ◌+◌, ◌-◌, ◌/◌, ◌%◌, ◌<◌, ◌≤◌}
use native.Mathlib.Omega.{arith}
use borrow.Author.Tests.{le-leb, lt-leb, leb-true, eq-eqb, ne_eqb, eqb-true}
use lib.Dec.{leb, ltb, eqb}
use lib.ListN.{length, drop, length-drop}
use Rattle.std.proofs.Math.Bool.{and-false}
use Rattle.std.proofs.lemmas.Bool.Decides.{nat_tests}
use Rattle.octets.proofs.BoolLaws.{and_true, both}
use Rattle.trace_format.specs.Format.{Bytes, Edition, edition_of, known, head_in, edition_in, dialect_in, cipher_in, good_file_head, FileReading, file_head}
use Rattle.trace_format.specs.Format.{bad_file_head, read_file_head_by, read_file_head, kind_in, from_server_in, length_in, admitted, good_head, head, bad_head}
use Rattle.trace_format.specs.Format.{read_head, size_in, readable}
use Rattle.trace_format.specs.Format.{Reading, found, end, unreadable, read_at, after_head, read_in_by, read_in}

-- ---- the file head

pub file-short : (f : Bytes) → length f < 4 → bad_file_head ≡ read_file_head f
unfolding read_file_head_by good_file_head
file-short f h = rw (lt-leb 4 (length f) h)

module _ (f : Bytes) (long : 4 ≤ length f) (h : ℕ) (is : h ≡ head_in f) where
  file-known : (b : Bool) → known (edition_in h) ≡ b → good_file_head edition_of f ≡ b
  unfolding good_file_head
  file-known b e = rw (le-leb 4 (length f) long) (ap (λ (i : ℕ). known (edition_in i)) (sym is) ∙ e)

  pub file_unknown : known (edition_in h) ≡ false → bad_file_head ≡ read_file_head f
  unfolding read_file_head_by
  file_unknown k = rw (file-known false k)

  pub file-good : known (edition_in h) ≡ true → file_head (edition_in h) (dialect_in h) (cipher_in h) ≡ read_file_head f
  unfolding read_file_head_by
  file-good k = rw (file-known true k) (ap (λ (i : ℕ). file_head (edition_in i) (dialect_in i) (cipher_in i)) is)

-- ---- the head of a record

pub head-short : (e : Edition) (s : Bytes) → length s < 4 → bad_head ≡ read_head e s
unfolding read_head good_head
head-short e s h = rw (lt-leb 4 (length s) h)

-- under an edition that is not known no payload has a length that is admitted
none_admitted : (e : Edition) (k n : ℕ) → ltb 0 e.longest ≡ false → admitted e k n ≡ false
none_admitted e k n u = grind (arith, nat_tests)

pub head-unknown : (n : ℕ) (s : Bytes) → known n ≡ false → bad_head ≡ read_head (edition_of n) s
unfolding read_head good_head
head-unknown n s u =
    let e = edition_of n in
    let none = none_admitted e (kind_in (head_in s)) (length_in e (head_in s)) u in
    rw (none, and-false (eqb (head_in s % e.unit) 0), and-false (leb 4 (length s)))

module _ (e : Edition) (s : Bytes) (long : 4 ≤ length s) (h : ℕ) (is : h ≡ head_in s) (unit : ℕ) (its : unit ≡ e.unit) where
  -- as the code judges it: by the edition's unit, and whether kind and length are admitted
  judged : (b : Bool) → (eqb (h % unit) 0 && admitted e (kind_in h) (h % 268435456 / unit)) ≡ b → good_head e s ≡ b
  unfolding good_head
  judged b t =
      rw (le-leb 4 (length s) long)
      (ap₂ (λ (i u : ℕ). eqb (i % u) 0 && admitted e (kind_in i) (i % 268435456 / u)) (sym is) (sym its) ∙ t)

  pub head_spare : (h % unit ≡ 0 → ⊥) → bad_head ≡ read_head e s
  unfolding read_head
  head_spare n = rw (judged false (ap (λ (b : Bool). b && admitted e (kind_in h) (h % 268435456 / unit)) (ne_eqb (h % unit) 0 n)))

  module _ (admits : Bool) (said : admits ≡ admitted e (kind_in h) (h % 268435456 / unit)) where
    pub head_bad : admits ≡ false → bad_head ≡ read_head e s
    unfolding read_head
    head_bad t = rw (judged false (ap (λ (b : Bool). eqb (h % unit) 0 && b) (sym said ∙ t) ∙ and-false (eqb (h % unit) 0)))

    pub head-good : h % unit ≡ 0 → admits ≡ true → head (kind_in h) (from_server_in h) (h % 268435456 / unit) ≡ read_head e s
    unfolding read_head
    head-good z t =
        rw (judged true (both (eqb (h % unit) 0) _ (eq-eqb (h % unit) 0 z) (sym said ∙ t)))
        (ap₂ (λ (i u : ℕ). head (kind_in i) (from_server_in i) (i % 268435456 / u)) is its)

-- ---- a record, from its head

picked : (b : Bool) (k' n' k n : ℕ) (d' d : Bool) → cond b (head k' d' n') bad_head ≡ head k d n → (b ≡ true) × (k' ≡ k) × (d' ≡ d) × (n' ≡ n)
picked true k' n' k n d' d e = (refl, cc, cc, cc)
picked false k' n' k n d' d e = absurd (let z : ◌≡◌ {A = ℕ} 0 1 = cc in omega arith)

spoiled : (b : Bool) (k' n' : ℕ) (d' : Bool) → cond b (head k' d' n') bad_head ≡ bad_head → b ≡ false
spoiled true k' n' d' e = absurd (let z : ◌≡◌ {A = ℕ} 0 1 = cc in omega arith)
spoiled false k' n' d' e = refl

-- a head that was read says what stands in its bytes, of which there are four
pub record Headed (e : Edition) (s : Bytes) (k : ℕ) (d : Bool) (n : ℕ) : Type 0 where
  pub good : good_head e s ≡ true
  pub long : 4 ≤ length s
  pub kind : kind_in (head_in s) ≡ k
  pub from_server_is : from_server_in (head_in s) ≡ d
  pub size : length_in e (head_in s) ≡ n

pub four_there : (e : Edition) (s : Bytes) → good_head e s ≡ true → 4 ≤ length s
unfolding good_head
four_there e s g = leb-true 4 (length s) (and_true (leb 4 (length s)) _ g).0

pub headed : (e : Edition) (s : Bytes) (k : ℕ) (d : Bool) (n : ℕ) → head k d n ≡ read_head e s → Headed e s k d n
unfolding read_head
headed e s k d n t =
    let p = picked (good_head e s) (kind_in (head_in s)) (length_in e (head_in s)) k n (from_server_in (head_in s)) d (sym t) in
    record { good = p.0; long = four_there e s p.0; kind = p.1; from_server_is = p.2; size = p.3 }

module _ (e : Edition) (f : Bytes) (p : ℕ) where
  pub at-end : length f ≤ p → end ≡ read_at e f p
  unfolding read_at
  at-end h = rw (le-leb (length f) p h)

  module _ (inside : p < length f) where
    pub at_bad : bad_head ≡ read_head e (drop p f) → unreadable ≡ read_at e f p
    unfolding read_at readable read_head
    at_bad t = rw (lt-leb (length f) p inside, spoiled (good_head e (drop p f)) _ _ _ (sym t))

    module _ (k : ℕ) (d : Bool) (n : ℕ) (t : head k d n ≡ read_head e (drop p f)) where
      pub at_cut : length f - p - 4 < n → unreadable ≡ read_at e f p
      unfolding read_at readable
      at_cut c =
          let h = headed e (drop p f) k d n t in
          let l = length-drop p f in
          let a = h.long in
          let b = h.size in
          rw (lt-leb (length f) p inside, h.good, lt-leb (size_in e (drop p f)) (length (drop p f)) (omega arith))

      pub at-found : n ≤ length f - p - 4 → found k d (p + 4) n (p + 4 + n) ≡ read_at e f p
      unfolding read_at readable
      at-found c =
          let h = headed e (drop p f) k d n t in
          let l = length-drop p f in
          let a = h.long in
          let b = h.size in
          let q : p + 4 + n ≡ p + size_in e (drop p f) = omega arith in
          rw (lt-leb (length f) p inside, h.good, le-leb (size_in e (drop p f)) (length (drop p f)) (omega arith), q, ← h.kind, ← h.from_server_is, ← h.size)

-- ---- a record that was read

pub readable-good : (e : Edition) (s : Bytes) → readable e s ≡ true → (good_head e s ≡ true) × (size_in e s ≤ length s)
unfolding readable
readable-good e s t = let b = and_true (good_head e s) (leb (size_in e s) (length s)) t in (b.0, leb-true (size_in e s) (length s) b.1)

module _ (e : Edition) (f : Bytes) (p : ℕ) where
  pub at-unreadable : p < length f → readable e (drop p f) ≡ false → unreadable ≡ read_at e f p
  unfolding read_at
  at-unreadable h q = rw (lt-leb (length f) p h, q)

  pub at-readable : readable e (drop p f) ≡ true
      → let s = drop p f in found (kind_in (head_in s)) (from_server_in (head_in s)) (p + 4) (length_in e (head_in s)) (p + size_in e s) ≡ read_at e f p
  unfolding read_at
  at-readable q =
      let g = readable-good e (drop p f) q in
      let i = g.1 in
      let l = length-drop p f in
      rw (lt-leb (length f) p (omega arith), q)

chosen : (a b : Bool) (k' q' n' r' k q n r : ℕ) (d' d : Bool) → cond a end (cond b (found k' d' q' n' r') unreadable) ≡ found k d q n r
    → (b ≡ true) × (k' ≡ k) × (q' ≡ q) × (n' ≡ n) × (r' ≡ r)
chosen true b k' q' n' r' k q n r d' d e = absurd (let z : ◌≡◌ {A = ℕ} 0 1 = cc in omega arith)
chosen false true k' q' n' r' k q n r d' d e = (refl, cc, cc, cc, cc)
chosen false false k' q' n' r' k q n r d' d e = absurd (let z : ◌≡◌ {A = ℕ} 0 1 = cc in omega arith)

-- its payload is n bytes from q on, inside the file, of a length that its kind admits; the next record begins at r
pub record Was (e : Edition) (f : Bytes) (p k q n r : ℕ) : Type 0 where
  pub is_readable : readable e (drop p f) ≡ true
  pub kind : kind_in (head_in (drop p f)) ≡ k
  pub size : length_in e (head_in (drop p f)) ≡ n
  pub admits : admitted e k n ≡ true
  pub from : q ≡ p + 4
  pub next : r ≡ p + 4 + n
  pub inside : p + 4 + n ≤ length f

good_admits : (e : Edition) (s : Bytes) → good_head e s ≡ true → admitted e (kind_in (head_in s)) (length_in e (head_in s)) ≡ true
unfolding good_head
good_admits e s g = (and_true (eqb (head_in s % e.unit) 0) _ (and_true (leb 4 (length s)) _ g).1).1

pub was : (e : Edition) (f : Bytes) (p k : ℕ) (d : Bool) (q n r : ℕ) → found k d q n r ≡ read_at e f p → Was e f p k q n r
unfolding read_at
was e f p k d q n r t =
    let s = drop p f in
    let c = chosen (leb (length f) p) (readable e s) _ _ _ _ k q n r (from_server_in (head_in s)) d (sym t) in
    let g = readable-good e s c.0 in
    let four = four_there e s g.0 in
    let i = g.1 in
    let l = length-drop p f in
    let z = c.3 in
    let y = c.4 in
    record {
      is_readable = c.0;
      kind = c.1;
      size = c.3;
      admits = ap₂ (admitted e) (sym c.1) (sym c.3) ∙ good_admits e s g.0;
      from = sym c.2;
      next = omega arith;
      inside = omega arith;
    }

not_end-of : (b : Bool) (x : Reading) → (end ≡ x → ⊥) → end ≡ cond b x unreadable → ⊥
not_end-of true x n e = n e
not_end-of false x n e = let z : ◌≡◌ {A = ℕ} 0 1 = cc in absurd (omega arith)

not_found : (k : ℕ) (d : Bool) (q n r : ℕ) → end ≡ found k d q n r → ⊥
not_found k d q n r e = let z : ◌≡◌ {A = ℕ} 0 1 = cc in absurd (omega arith)

-- inside the file it is not the end
pub not_end : (e : Edition) (f : Bytes) (p : ℕ) → p < length f → end ≡ read_at e f p → ⊥
unfolding read_at
not_end e f p h t =
    let s = drop p f in
    let r = found (kind_in (head_in s)) (from_server_in (head_in s)) (p + 4) (length_in e (head_in s)) (p + size_in e s) in
    not_end-of (readable e s) r (not_found _ _ _ _ _) (t ∙ ap (λ (b : Bool). cond b end (cond (readable e s) r unreadable)) (lt-leb (length f) p h))

-- a record of kind 3 has 24 bytes
pub admitted_24 : (e : Edition) (k n : ℕ) → admitted e k n ≡ true → 3 ≤ k → 24 ≤ n
admitted_24 e k n t h =
    let a = and_true (leb k 3) _ t in
    let b = and_true (leb n e.longest) _ (and_true (leb 1 n) _ a.1).1 in
    let three : eqb k 3 ≡ true = eq-eqb k 3 (let l = leb-true k 3 a.0 in omega arith) in
    let same : eqb n 24 ≡ true = ap (λ (x : Bool). not x || eqb n 24) (sym three) ∙ b.1 in
    let z = eqb-true n 24 same in
    omega arith

-- ---- a record of a whole file

module _ (f : Bytes) (p : ℕ) where
  pub in_bad : bad_file_head ≡ read_file_head f → unreadable ≡ read_in f p
  unfolding read_in_by
  in_bad t = ap (λ (h : FileReading). after_head edition_of h f p) t

  pub in_good : (e d c : ℕ) → file_head e d c ≡ read_file_head f → (r : Reading) → r ≡ read_at (edition_of e) f p → r ≡ read_in f p
  unfolding read_in_by
  in_good e d c t r q = q ∙ ap (λ (h : FileReading). after_head edition_of h f p) t
