-- What a rescue answers and leaves, case by case.
-- Assumes nothing.
use mathlib.Core.Path.{◌≡◌, refl, sym, ap, ap₂, ◌∙◌}
use mathlib.Core.Bool.{Bool, true, false, cond, ◌&&◌}
use mathlib.Core.List.{List, ◌++◌}
use Prim.Native.Nat.{ℕ, ◌+◌, ◌*◌, ◌≤◌}
use native.Mathlib.Omega.{arith}
use borrow.Author.Tests.{leb-true}
use lib.Dec.{leb}
use lib.ListN.{length, take, length-append, length-take}
use lib.Seq.{paste}
use Rattle.trace_format.specs.Format.{Bytes, edition_of, head_in, edition_in, good_file_head, file_head, bad_file_head, read_file_head_by, read_file_head}
use Rattle.octets.proofs.BoolLaws.{and_true}
use Rattle.trace_format.proofs.ByteLaws.{paste_two}
use Rattle.trace_rescue.specs.Rescue.{Piece, pieces_in, pieces_of, kept_bytes, gap_numbers, gap_count, roomy, rescued_file, done}
use Rattle.trace_rescue.specs.Answers.{Measured, Fits, Writes, Rescues}
use Rattle.trace_rescue.specs.declared.Sizes.{Sizes}
use Rattle.trace_format.specs.declared.Unreadable.{Unreadable}
use Rattle.std.proofs.Common.{Ok, Err}

-- ---- the file head

told : (t : Bool) (e' d' c' e d c : ℕ) → cond t (file_head e' d' c') bad_file_head ≡ file_head e d c → (t ≡ true) × (e' ≡ e)
told true e' d' c' e d c q = (refl, cc)
told false e' d' c' e d c q = absurd (let z : ◌≡◌ {A = ℕ} 0 1 = cc in omega arith)

told_bad : (t : Bool) (e' d' c' : ℕ) → cond t (file_head e' d' c') bad_file_head ≡ bad_file_head → t ≡ false
told_bad true e' d' c' q = absurd (let z : ◌≡◌ {A = ℕ} 0 1 = cc in omega arith)
told_bad false e' d' c' q = refl

module _ (f room list : Bytes) {u : Unreadable} where
  not_roomy : roomy f (length room) (length list) ≡ false → Rescues f room list (Err u) room list
  not_roomy t = record { answer = rw t; bytes = rw t; gaps = rw t }

  -- whether there is room, once it is known whether there is a file head
  abbrev with_head : Bool → Bool
  with_head t = t && (leb (length (rescued_file f)) (length room) && leb (2 * gap_count (pieces_of f)) (length list))

  pub head-unreadable : bad_file_head ≡ read_file_head f → Rescues f room list (Err u) room list
  unfolding read_file_head_by
  head-unreadable t = not_roomy (ap with_head (told_bad (good_file_head edition_of f) _ _ _ (sym t)))

  module _ (e d c : ℕ) (t : file_head e d c ≡ read_file_head f) where
    abbrev ps : List Piece
    ps = pieces_in e f

    good : (good_file_head edition_of f ≡ true) × (edition_in (head_in f) ≡ e)
    unfolding read_file_head_by
    good = told (good_file_head edition_of f) _ _ _ e d c (sym t)

    pub head-there : 4 ≤ length f
    unfolding good_file_head
    head-there = leb-true 4 (length f) (and_true (leb 4 (length f)) _ good.0).0

    same : ps ≡ pieces_of f
    same = ap (λ (i : ℕ). pieces_in i f) (sym good.1)

    file-length : length (take 4 f ++ kept_bytes ps) ≡ 4 + length (kept_bytes ps)
    file-length =
        let h = head-there in
        let l : length (take 4 f) ≡ 4 = simp length-take (omega arith) in
        length-append (take 4 f) (kept_bytes ps) ∙ ap (λ (i : ℕ). i + length (kept_bytes ps)) l

    module _ (s : Sizes) (is : Measured ps s) (fits : Bool) (says : fits ≡ (leb (4 + s.kept) (length room) && leb (2 * s.gaps) (length list))) where
      roomy_is : roomy f (length room) (length list) ≡ fits
      roomy_is =
          ap with_head good.0
          ∙ ap₂ (λ (a b : ℕ). leb a (length room) && leb (2 * b) (length list))
          (ap (λ (x : List Piece). length (take 4 f ++ kept_bytes x)) (sym same) ∙ file-length ∙ ap (λ (i : ℕ). 4 + i) (sym is.kept))
          (ap gap_count (sym same) ∙ sym is.gaps)
          ∙ sym says

      pub room_small : fits ≡ false → Rescues f room list (Err u) room list
      room_small q = not_roomy (roomy_is ∙ q)

      pub room-there : fits ≡ true → Fits f ps room list
      room-there q =
          let b = and_true (leb (4 + s.kept) (length room)) (leb (2 * s.gaps) (length list)) (sym says ∙ q) in
          let x = leb-true (4 + s.kept) (length room) b.0 in
          let y = leb-true (2 * s.gaps) (length list) b.1 in
          let k = is.kept in
          let g = is.gaps in
          record { head = head-there; bytes = omega arith; gaps = omega arith }

      -- the sum that is returned does not wrap
      pub sum_fits : fits ≡ true → 4 + s.kept ≤ length room
      sum_fits q = leb-true (4 + s.kept) (length room) (and_true (leb (4 + s.kept) (length room)) _ (sym says ∙ q)).0

      pub rescued : fits ≡ true → (room' list' : Bytes) → Writes 0 (take 4 f ++ kept_bytes ps) ps room room' list list'
          → Rescues f room list (Ok (record { written = 4 + s.kept; gaps = s.gaps })) room' list'
      rescued q room' list' w =
          let r = roomy_is ∙ q in
          let bytes = ap (λ (i : ℕ). 4 + i) is.kept ∙ sym file-length ∙ ap (λ (x : List Piece). length (take 4 f ++ kept_bytes x)) same in
          record {
            answer = rw r (ap₂ done bytes (is.gaps ∙ ap gap_count same));
            bytes = rw r (w.bytes ∙ ap (λ (x : List Piece). paste room 0 (take 4 f ++ kept_bytes x) (length (take 4 f ++ kept_bytes x))) same);
            gaps = rw r (w.gaps ∙ ap (λ (x : List Piece). paste list 0 (gap_numbers 4 x) (length (gap_numbers 4 x))) same);
          }

-- ---- the file head, then the records

pub four_bytes : (f : Bytes) → 4 ≤ length f → length (take 4 f) ≡ 4
four_bytes f h = simp length-take (omega arith)

pub head_then : (f room list : Bytes) (ps : List Piece) (m after list' : Bytes) → Fits f ps room list → m ≡ paste room 0 (take 4 f) (length (take 4 f))
    → Writes 4 (kept_bytes ps) ps m after list list' → Writes 0 (take 4 f ++ kept_bytes ps) ps room after list list'
head_then f room list ps m after list' fit em w =
    let b : Bytes = kept_bytes ps in
    let l = four_bytes f fit.head in
    let z : 4 ≡ 0 + length (take 4 f) = omega arith in
    let inside = fit.bytes in
    record {
      bytes = w.bytes ∙ ap₂ (λ (x : Bytes) (i : ℕ). paste x i b (length b)) em z ∙ paste_two room 0 (take 4 f) b (omega arith);
      gaps = w.gaps;
    }
