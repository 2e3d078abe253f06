-- The pieces of a trace, one at a time, and what the two passes of the code make of them.
-- Assumes nothing.
use mathlib.Core.Path.{◌≡◌, refl, sym, ap, ap₂, ◌∙◌}
use mathlib.Core.Bool.{Bool, true, false, cond}
use mathlib.Core.List.{List, [], ◌∷◌, ◌++◌}
use Prim.Native.Nat.{ℕ, zero, suc, ◌+◌, ◌-◌, ◌*◌, ◌<◌, ◌≤◌}
use native.Mathlib.Nat.{zero-add}
use native.Mathlib.Omega.{arith}
use lib.ListN.{length, take, drop, length-append, length-take, length-drop, drop_of_length-le}
use lib.Seq.{drop-drop, paste, paste-zero, length-paste}
use Rattle.trace_format.specs.Format.{Bytes, Edition, size_in, readable}
use Rattle.trace_format.proofs.ByteLaws.{paste_two}
use Rattle.trace_format.proofs.FormatLaws.{readable-good}
use Rattle.trace_rescue.specs.Rescue.{is_found, passed, Piece, kept, dropped, piece_length, piece_in, pieces_some, pieces, kept_bytes, gap_numbers, gap_count}
use Rattle.trace_rescue.specs.Answers.{CutsInto, Measured, Fits, Writes}

-- ---- a piece has a byte, and is inside

one_more : (t : Bool) (k l : ℕ) → k ≤ l → cond t 0 (k + 1) ≤ suc l
one_more true k l h = omega arith
one_more false k l h = omega arith

pub passed-inside : (e : Edition) (s : Bytes) → passed e s ≤ length s
unfolding passed
passed-inside e [] = omega arith
passed-inside e (x ∷ xs) = one_more (is_found e (x ∷ xs)) (passed e xs) (length xs) (passed-inside e xs)

pub kept-length : (e : Edition) (s : Bytes) → readable e s ≡ true → piece_length e s ≡ size_in e s
unfolding piece_length
kept-length e s t = rw t

pub dropped-length : (e : Edition) (s : Bytes) → readable e s ≡ false → piece_length e s ≡ passed e (drop 1 s) + 1
unfolding piece_length
dropped-length e s t = rw t

bounds : (e : Edition) (s : Bytes) (t : Bool) → readable e s ≡ t → 0 < length s → (1 ≤ piece_length e s) × (piece_length e s ≤ length s)
bounds e s true q h =
    let k = kept-length e s q in
    let g = readable-good e s q in
    let i = g.1 in
    (omega arith, omega arith)
bounds e s false q h =
    let k = dropped-length e s q in
    let i = passed-inside e (drop 1 s) in
    let l = length-drop 1 s in
    (omega arith, omega arith)

pub piece_bounds : (e : Edition) (s : Bytes) → 0 < length s → (1 ≤ piece_length e s) × (piece_length e s ≤ length s)
piece_bounds e s h = bounds e s (readable e s) refl h

-- ---- the piece at a place, as the code cuts it

module _ (e : Edition) (f : Bytes) (p : ℕ) (here : p < length f) where
  cuts : (t : Bool) (n : ℕ) → readable e (drop p f) ≡ t → n ≡ piece_length e (drop p f) → CutsInto e f p t n
  cuts t n q en =
      let b = piece_bounds e (drop p f) (omega (arith, length-drop p f)) in
      let l = length-drop p f in
      record { its_kind = sym q; its_length = en; some = omega arith; inside = omega arith }

  pub cut_record : (n : ℕ) → readable e (drop p f) ≡ true → n ≡ size_in e (drop p f) → CutsInto e f p true n
  cut_record n q en = cuts true n q (en ∙ sym (kept-length e (drop p f) q))

  pub cut_gap : (m : ℕ) → readable e (drop p f) ≡ false → m ≡ passed e (drop (p + 1) f) → CutsInto e f p false (m + 1)
  cut_gap m q em = cuts false (m + 1) q (ap (λ (i : ℕ). i + 1) (em ∙ ap (passed e) (sym (drop-drop 1 p f))) ∙ sym (dropped-length e (drop p f) q))

-- ---- the list of pieces

pieces_none : (m : ℕ) (e : Edition) → pieces_some m e [] ≡ []
unfolding pieces_some
pieces_none zero e = refl
pieces_none (suc m) e = refl

enough : (n m : ℕ) (e : Edition) (s : Bytes) → length s ≤ n → length s ≤ m → pieces_some n e s ≡ pieces_some m e s
unfolding pieces_some
enough zero m e [] hn hm = sym (pieces_none m e)
enough zero m e (x ∷ xs) hn hm = absurd (omega arith)
enough (suc n) m e [] hn hm = sym (pieces_none m e)
enough (suc n) zero e (x ∷ xs) hn hm = absurd (omega arith)
enough (suc n) (suc m) e (x ∷ xs) hn hm =
    let s : Bytes = x ∷ xs in
    let b = (piece_bounds e s (omega arith)).0 in
    let l = length-drop (piece_length e s) s in
    ap (λ (ps : List Piece). piece_in e s ∷ ps) (enough n m e (drop (piece_length e s) s) (omega arith) (omega arith))

pub pieces-on : (e : Edition) (s : Bytes) → 0 < length s → pieces e s ≡ piece_in e s ∷ pieces e (drop (piece_length e s) s)
unfolding pieces_some
pieces-on e [] h = absurd (omega arith)
pieces-on e (x ∷ xs) h =
    let s : Bytes = x ∷ xs in
    let b = (piece_bounds e s h).0 in
    let l = length-drop (piece_length e s) s in
    let d : Bytes = drop (piece_length e s) s in
    ap (λ (ps : List Piece). piece_in e s ∷ ps) (enough (length xs) (length d) e d (omega arith) (omega arith))

pub length-gap_numbers : (p : ℕ) (ps : List Piece) → length (gap_numbers p ps) ≡ 2 * gap_count ps
unfolding gap_numbers gap_count
length-gap_numbers p [] = refl
length-gap_numbers p (kept b ∷ ps) = length-gap_numbers (p + length b) ps
length-gap_numbers p (dropped b ∷ ps) = let h = length-gap_numbers (p + length b) ps in omega arith

-- ---- a turn of either pass: the piece c at place p

module _ (e : Edition) (f : Bytes) (p : ℕ) (here : p < length f) (t : Bool) (n : ℕ) (cut : CutsInto e f p t n) where
  abbrev b : Bytes
  b = take n (drop p f)

  pub b-length : length b ≡ n
  b-length =
      let l = length-drop p f in
      let i = cut.inside in
      simp length-take (omega arith)

  on : pieces e (drop p f) ≡ cond t (kept b) (dropped b) ∷ pieces e (drop (p + n) f)
  on =
      let l = length-drop p f in
      pieces-on e (drop p f) (omega arith)
      ∙ ap₂ (λ (x : Piece) (y : List Piece). x ∷ y)
      (ap₂ (λ (u : Bool) (i : ℕ). cond u (kept (take i (drop p f))) (dropped (take i (drop p f)))) (sym cut.its_kind) (sym cut.its_length))
      (ap (pieces e) (ap (λ (i : ℕ). drop i (drop p f)) (sym cut.its_length) ∙ drop-drop n p f))

  pub on-kept : t ≡ true → pieces e (drop p f) ≡ kept b ∷ pieces e (drop (p + n) f)
  on-kept q = on ∙ ap (λ (u : Bool). cond u (kept b) (dropped b) ∷ pieces e (drop (p + n) f)) q

  pub on-dropped : t ≡ false → pieces e (drop p f) ≡ dropped b ∷ pieces e (drop (p + n) f)
  on-dropped q = on ∙ ap (λ (u : Bool). cond u (kept b) (dropped b) ∷ pieces e (drop (p + n) f)) q

  -- what the piece adds to what is written
  pub kept-bytes : t ≡ true → kept_bytes (pieces e (drop p f)) ≡ b ++ kept_bytes (pieces e (drop (p + n) f))
  unfolding kept_bytes
  kept-bytes q = ap kept_bytes (on-kept q)

  pub kept-count : t ≡ true → gap_count (pieces e (drop p f)) ≡ gap_count (pieces e (drop (p + n) f))
  unfolding gap_count
  kept-count q = ap gap_count (on-kept q)

  pub kept_numbers : t ≡ true → gap_numbers p (pieces e (drop p f)) ≡ gap_numbers (p + n) (pieces e (drop (p + n) f))
  unfolding gap_numbers
  kept_numbers q = ap (gap_numbers p) (on-kept q) ∙ ap (λ (i : ℕ). gap_numbers (p + i) (pieces e (drop (p + n) f))) b-length

  pub dropped-bytes : t ≡ false → kept_bytes (pieces e (drop p f)) ≡ kept_bytes (pieces e (drop (p + n) f))
  unfolding kept_bytes
  dropped-bytes q = ap kept_bytes (on-dropped q)

  pub dropped-count : t ≡ false → gap_count (pieces e (drop p f)) ≡ gap_count (pieces e (drop (p + n) f)) + 1
  unfolding gap_count
  dropped-count q = ap gap_count (on-dropped q)

  pub dropped_numbers : t ≡ false
      → gap_numbers p (pieces e (drop p f)) ≡ (p ∷ n ∷ []) ++ gap_numbers (p + n) (pieces e (drop (p + n) f))
  unfolding gap_numbers
  dropped_numbers q = ap (gap_numbers p) (on-dropped q) ∙ ap (λ (i : ℕ). p ∷ i ∷ gap_numbers (p + i) (pieces e (drop (p + n) f))) b-length

-- nothing left
pub no_pieces : (e : Edition) (f : Bytes) (p : ℕ) → length f ≤ p → pieces e (drop p f) ≡ []
no_pieces e f p h = ap (pieces e) (drop_of_length-le f {i = p} h) ∙ pieces_none 0 e

-- ---- the first pass

module _ (e : Edition) (f : Bytes) where
  -- it has come to p, with so many bytes and gaps
  pub record Measuring (p bytes gaps : ℕ) : Type 0 where
    pub high : p ≤ length f
    pub small : bytes ≤ p
    pub few : gaps ≤ p
    pub bytes_all : bytes + length (kept_bytes (pieces e (drop p f))) ≡ length (kept_bytes (pieces e (drop 4 f)))
    pub gaps_all : gaps + gap_count (pieces e (drop p f)) ≡ gap_count (pieces e (drop 4 f))

  pub measure_begins : 4 ≤ length f → Measuring 4 0 0
  measure_begins h = record { high = h; small = omega arith; few = omega arith; bytes_all = zero-add _; gaps_all = zero-add _ }

  module _ (p bytes gaps : ℕ) (m : Measuring p bytes gaps) where
    pub measure_ends : length f ≤ p → Measured (pieces e (drop 4 f)) (record { kept = bytes; gaps = gaps })
    unfolding kept_bytes gap_count
    measure_ends h =
        let z = no_pieces e f p h in
        let a : length (kept_bytes (pieces e (drop p f))) ≡ 0 = ap (λ (ps : List Piece). length (kept_bytes ps)) z in
        let b : gap_count (pieces e (drop p f)) ≡ 0 = ap gap_count z in
        let x = m.bytes_all in
        let y = m.gaps_all in
        record { kept = omega arith; gaps = omega arith }

    module _ (here : p < length f) (t : Bool) (n : ℕ) (cut : CutsInto e f p t n) where
      pub measure_kept : t ≡ true → Measuring (p + n) (bytes + n) gaps
      measure_kept q =
          let l = ap length (kept-bytes e f p here t n cut q) ∙ length-append (take n (drop p f)) (kept_bytes (pieces e (drop (p + n) f))) in
          let k = b-length e f p here t n cut in
          let g = kept-count e f p here t n cut q in
          let x = m.bytes_all in
          let y = m.gaps_all in
          let s = m.small in
          let t = m.few in
          let i = cut.inside in
          record { high = i; small = omega arith; few = omega arith; bytes_all = omega arith; gaps_all = omega arith }

      pub measure_dropped : t ≡ false → Measuring (p + n) bytes (gaps + 1)
      measure_dropped q =
          let l = ap length (dropped-bytes e f p here t n cut q) in
          let g = dropped-count e f p here t n cut q in
          let x = m.bytes_all in
          let y = m.gaps_all in
          let s = m.small in
          let t = m.few in
          let i = cut.inside in
          let o = cut.some in
          record { high = i; small = omega arith; few = omega arith; bytes_all = omega arith; gaps_all = omega arith }

-- ---- the second pass, with what is lent

module _ (e : Edition) (f room₀ list₀ : Bytes) where
  abbrev all : Bytes
  all = kept_bytes (pieces e (drop 4 f))

  abbrev gaps_all : List ℕ
  gaps_all = gap_numbers 4 (pieces e (drop 4 f))

  -- it has come to p; what is left to write, written now, gives what is due
  pub record Placing (p w k : ℕ) (room list : Bytes) : Type 0 where
    pub high : p ≤ length f
    pub room-left : w + length (kept_bytes (pieces e (drop p f))) ≤ length room
    pub list_left : 2 * k + 2 * gap_count (pieces e (drop p f)) ≤ length list
    pub room-length : length room ≡ length room₀
    pub list_length : length list ≡ length list₀
    pub room_due : paste room w (kept_bytes (pieces e (drop p f))) (length (kept_bytes (pieces e (drop p f)))) ≡ paste room₀ 4 all (length all)
    pub list_due : paste list (2 * k) (gap_numbers p (pieces e (drop p f))) (length (gap_numbers p (pieces e (drop p f))))
        ≡ paste list₀ 0 gaps_all (length gaps_all)

  pub place-begins : Fits f (pieces e (drop 4 f)) room₀ list₀ → Placing 4 4 0 room₀ list₀
  place-begins fit =
      let g = fit.gaps in
      record {
        high = fit.head;
        room-left = fit.bytes;
        list_left = omega arith;
        room-length = refl;
        list_length = refl;
        room_due = refl;
        list_due = refl;
      }

  module _ (p w k : ℕ) (room list : Bytes) (m : Placing p w k room list) where
    pub place-ends : length f ≤ p → Writes 4 all (pieces e (drop 4 f)) room₀ room list₀ list
    unfolding kept_bytes gap_numbers
    place-ends h =
        let z = no_pieces e f p h in
        record {
          bytes = paste-zero room w [] ∙ ap (λ (ps : List Piece). paste room w (kept_bytes ps) (length (kept_bytes ps))) (sym z) ∙ m.room_due;
          gaps =
              paste-zero list (2 * k) [] ∙ ap (λ (ps : List Piece). paste list (2 * k) (gap_numbers p ps) (length (gap_numbers p ps))) (sym z)
              ∙ m.list_due;
        }

    module _ (here : p < length f) (t : Bool) (n : ℕ) (cut : CutsInto e f p t n) where
      abbrev piece : Bytes
      piece = take n (drop p f)

      abbrev left : List Piece
      left = pieces e (drop (p + n) f)

      length-left : t ≡ true → length (kept_bytes (pieces e (drop p f))) ≡ n + length (kept_bytes left)
      length-left q =
          ap length (kept-bytes e f p here t n cut q) ∙ length-append piece (kept_bytes left)
          ∙ ap (λ (i : ℕ). i + length (kept_bytes left)) (b-length e f p here t n cut)

      pub place-room : t ≡ true → w + n ≤ length room
      place-room q = let l = length-left q in let r = m.room-left in omega arith

      pub place_kept : t ≡ true → (room' : Bytes) → room' ≡ paste room w piece (length piece) → Placing (p + n) (w + n) k room' list
      place_kept q room' er =
          let l = length-left q in
          let lb = b-length e f p here t n cut in
          let r = m.room-left in
          let g = kept-count e f p here t n cut q in
          let gl = m.list_left in
          let rl = m.room-length in
          let same : length room' ≡ length room = ap length er ∙ length-paste room w piece (length piece) (omega arith) (omega arith) in
          record {
            high = cut.inside;
            room-left = omega arith;
            list_left = omega arith;
            room-length = omega arith;
            list_length = m.list_length;
            room_due =
                ap₂ (λ (x : Bytes) (i : ℕ). paste x (w + i) (kept_bytes left) (length (kept_bytes left))) er (sym lb)
                ∙ paste_two room w piece (kept_bytes left) (omega arith)
                ∙ ap (λ (x : Bytes). paste room w x (length x)) (sym (kept-bytes e f p here t n cut q))
                ∙ m.room_due;
            list_due = ap (λ (x : List ℕ). paste list (2 * k) x (length x)) (sym (kept_numbers e f p here t n cut q)) ∙ m.list_due;
          }

      -- the part of the file as the code lends it
      pub part : (q : ℕ) → q ≡ p + n → take (q - p) (drop p f) ≡ piece
      part q e' = let i : q - p ≡ n = omega arith in ap (λ (j : ℕ). take j (drop p f)) i

      pub place-copied : t ≡ true → (room' : Bytes)
          → room' ≡ paste room w (take (p + n - p) (drop p f)) (length (take (p + n - p) (drop p f))) → Placing (p + n) (w + n) k room' list
      place-copied q room' er = place_kept q room' (er ∙ ap (λ (x : Bytes). paste room w x (length x)) (part (p + n) refl))

      pub place-fits : t ≡ true → w + length (take (p + n - p) (drop p f)) ≤ length room
      place-fits q =
          let l = ap length (part (p + n) refl) ∙ b-length e f p here t n cut in
          let r = place-room q in
          omega arith

      pub place_list : t ≡ false → 2 * k + 2 ≤ length list
      place_list q = let g = dropped-count e f p here t n cut q in let r = m.list_left in omega arith

      pub place-dropped : t ≡ false → (list' : Bytes) → list' ≡ paste list (2 * k) (p ∷ n ∷ []) 2
          → Placing (p + n) w (k + 1) room list'
      place-dropped q list' el =
          let a : Bytes = p ∷ n ∷ [] in
          let l = ap length (dropped-bytes e f p here t n cut q) in
          let r = m.room-left in
          let g = dropped-count e f p here t n cut q in
          let gl = m.list_left in
          let ll = m.list_length in
          let same : length list' ≡ length list = ap length el ∙ length-paste list (2 * k) a 2 (omega arith) (omega arith) in
          let k2 : 2 * (k + 1) ≡ 2 * k + 2 = omega arith in
          let rest : List ℕ = gap_numbers (p + n) left in
          record {
            high = cut.inside;
            room-left = omega arith;
            list_left = omega arith;
            room-length = m.room-length;
            list_length = omega arith;
            room_due = ap (λ (x : Bytes). paste room w x (length x)) (sym (dropped-bytes e f p here t n cut q)) ∙ m.room_due;
            list_due =
                ap₂ (λ (x : Bytes) (i : ℕ). paste x i rest (length rest)) el k2
                ∙ paste_two list (2 * k) a rest (omega arith)
                ∙ ap (λ (x : Bytes). paste list (2 * k) x (length x)) (sym (dropped_numbers e f p here t n cut q))
                ∙ m.list_due;
          }
