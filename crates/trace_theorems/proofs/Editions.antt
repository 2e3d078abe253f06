-- Which readers refuse a file by its edition byte, and what two readers read alike.
-- Assumes nothing.
use mathlib.Core.Path.{◌≡◌, refl, sym, ap, ◌∙◌}
use mathlib.Core.Bool.{Bool, true, false, cond, ◌&&◌}
use Prim.Native.Nat.{ℕ}
use borrow.Author.Tests.{eqb-true}
use native.Mathlib.Omega.{arith}
use lib.Dec.{leb, ltb, eqb}
use lib.ListN.{length}
use Rattle.octets.proofs.BoolLaws.{and_true, both}
use Rattle.trace_format.specs.Format.{Bytes, Edition, edition1, edition2, no_edition, Editions, edition_of, first_editions, known_to, head_in, edition_in, dialect_in}
use Rattle.trace_format.specs.Format.{cipher_in}
use Rattle.trace_format.specs.Format.{good_file_head, FileReading, file_head, bad_file_head, read_file_head_by, unreadable, read_at, after_head, read_in_by}
use Rattle.trace_format.specs.Records.{head_readable, head_writable, written_edition}

-- a file of an edition that a reader does not know: its head, and every place of it
pub other_edition : (es : Editions) (f : Bytes) → known_to es (edition_in (head_in f)) ≡ false → read_file_head_by es f ≡ bad_file_head
unfolding read_file_head_by good_file_head
other_edition es f k = by (leb 4 (length f)) (known_to es (edition_in (head_in f))) k
  where
    by : (a b : Bool) → b ≡ false → cond (a && b) (file_head (edition_in (head_in f)) (dialect_in (head_in f)) (cipher_in (head_in f))) bad_file_head ≡ bad_file_head
    by true b q = rw q
    by false b q = refl

pub no_record : (es : Editions) (f : Bytes) → read_file_head_by es f ≡ bad_file_head → (p : ℕ) → read_in_by es f p ≡ unreadable
unfolding read_in_by
no_record es f t p = ap (λ (h : FileReading). after_head es h f p) t

pub first-refuses : (f : Bytes) → edition_in (head_in f) ≡ 2
    → (read_file_head_by first_editions f ≡ bad_file_head) × ((p : ℕ) → read_in_by first_editions f p ≡ unreadable)
first-refuses f two =
    let bad = other_edition first_editions f (ap (known_to first_editions) two) in
    (bad, no_record first_editions f bad)

pub one_written : (n c : ℕ) → head_writable n c ≡ true → n ≡ 2
one_written n c t = eqb-true n written_edition (and_true (eqb n written_edition) (head_readable n c) t).0

-- ---- what the edition 1 reader reads

one_known : (n : ℕ) → known_to first_editions n ≡ true → eqb n 1 ≡ true
one_known n k = by (eqb n 1) k
  where
    by : (b : Bool) → known_to (λ (x : ℕ). cond b edition1 no_edition) n ≡ true → b ≡ true
    by true q = refl
    by false q = absurd (let z : ◌≡◌ {A = ℕ} 0 1 = cc in omega arith)

alike : (n : ℕ) → eqb n 1 ≡ true → edition_of n ≡ first_editions n
alike n one =
    ap (λ (b : Bool). cond b edition1 (cond (eqb n 2) edition2 no_edition)) one ∙ ap (λ (b : Bool). cond b edition1 no_edition) (sym one)

read_head_lem : (b : Bool) (n d' c' e d c : ℕ) → cond b (file_head n d' c') bad_file_head ≡ file_head e d c → (b ≡ true) × (n ≡ e) × (file_head n d' c' ≡ file_head e d c)
read_head_lem true n d' c' e d c q = (refl, cc, q)
read_head_lem false n d' c' e d c q = absurd (let z : ◌≡◌ {A = ℕ} 0 1 = cc in omega arith)

pub first_read : (f : Bytes) (e d c : ℕ) → read_file_head_by first_editions f ≡ file_head e d c
    → (read_file_head_by edition_of f ≡ file_head e d c) × ((p : ℕ) → read_in_by edition_of f p ≡ read_in_by first_editions f p)
unfolding read_file_head_by good_file_head read_in_by
first_read f e d c t =
    let n = edition_in (head_in f) in
    let r = read_head_lem (good_file_head first_editions f) n (dialect_in (head_in f)) (cipher_in (head_in f)) e d c t in
    let g = and_true (leb 4 (length f)) (known_to first_editions n) r.0 in
    let one = one_known n g.1 in
    let its = both (leb 4 (length f)) (known_to edition_of n) g.0 (ap (λ (x : Edition). ltb 0 x.longest) (alike n one) ∙ g.1) in
    let now : read_file_head_by edition_of f ≡ file_head e d c =
    ap (λ (b : Bool). cond b (file_head n (dialect_in (head_in f)) (cipher_in (head_in f))) bad_file_head) its ∙ r.2 in
    let same = alike e (ap (λ (x : ℕ). eqb x 1) (sym r.1) ∙ one) in (
      now,
      λ p. ap (λ (h : FileReading). after_head edition_of h f p) now ∙ ap (λ (x : Edition). read_at x f p) same
          ∙ ap (λ (h : FileReading). after_head first_editions h f p) (sym t),
    )
