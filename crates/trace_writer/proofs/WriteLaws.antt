-- What the writer leaves, case by case.
-- Assumes nothing.
use Rattle.std.proofs.Common.{◌≡◌, refl, sym, ap, ◌∙◌, Bool, true, false, ◌&&◌, ◌++◌, ℕ, ◌+◌, ◌≤◌, length, leb, Ok, Err, arith}
use Rattle.std.proofs.lemmas.List.{length-append}
use Rattle.std.proofs.Math.Seq.{paste}
use Rattle.trace_format.specs.Format.{Bytes, Edition, edition_of, admitted}
use Rattle.trace_format.specs.Records.{record_head, record_bytes, writable, written_edition, head_writable, file_head_bytes}
use Rattle.trace_format.specs.Layouts.{IsEdition}
use Rattle.trace_format.specs.declared.Unreadable.{Unreadable}
use Rattle.trace_format.proofs.ByteLaws.{length-record_head, length-file_head_bytes, paste_two}
use Rattle.trace_writer.specs.Answers.{Writes, up_to, record_with}

-- head and payload, one behind the other
pub head_and_payload : (d : Bytes) (at : ℕ) (a b m after : Bytes) → length a ≡ 4 → at + (4 + length b) ≤ length d → m ≡ paste d at a (length a)
    → after ≡ paste m (at + 4) b (length b) → after ≡ paste d at (a ++ b) (length (a ++ b))
head_and_payload d at a b m after four h em ea =
    ea ∙ ap (λ (x : Bytes). paste x (at + 4) b (length b)) em
    ∙ ap (λ (n : ℕ). paste (paste d at a (length a)) (at + n) b (length b)) (sym four)
    ∙ paste_two d at a b (omega arith)

-- the layout that the code names is that of the edition that is written
pub second : IsEdition (record { unit = 16; longest = 8454196 }) (edition_of written_edition)
second = record { unit = refl; longest = refl; positive = omega arith; fits = omega arith }

-- ---- the answers, by whether b is admitted and held

module _ {ok : Bool} {b room : Bytes} {p : ℕ} where
  pub refused : {u : Unreadable} → (ok && leb (p + length b) (length room)) ≡ false → Writes ok b room p (Err u) room
  refused e = record { answer = rw e; bytes = rw e }

  pub written : {n : ℕ} {after : Bytes} → (ok && leb (p + length b) (length room)) ≡ true → n ≡ p + length b → after ≡ paste room p b (length b)
      → Writes ok b room p (Ok n) after
  written e en ea = record { answer = rw e (ap up_to en); bytes = rw e ea }

-- a file head, of four bytes
pub head_held : (e d c : ℕ) (room : Bytes) (t : Bool) → (head_writable e c && leb 4 (length room)) ≡ t
    → (head_writable e c && leb (0 + length (file_head_bytes e d c)) (length room)) ≡ t
head_held e d c room t h = rw (length-file_head_bytes e d c) h

-- a record, of four bytes more than its payload
pub size : (e : Edition) (k : ℕ) (d : Bool) (pay : Bytes) → length (record_bytes e (record_with k d pay)) ≡ 4 + length pay
size e k d pay = length-append (record_head e k d (length pay)) pay ∙ ap (λ (n : ℕ). n + length pay) (length-record_head e k d (length pay))

pub record_held : (e : Edition) (k : ℕ) (d : Bool) (pay room : Bytes) (at : ℕ) (t : Bool)
    → (admitted e k (length pay) && leb (at + (4 + length pay)) (length room)) ≡ t
    → (writable e (record_with k d pay) && leb (at + length (record_bytes e (record_with k d pay))) (length room)) ≡ t
record_held e k d pay room at t h = rw (size e k d pay) h
