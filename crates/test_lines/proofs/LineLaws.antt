-- Laws of lines and words, for the loops that read them.
-- Assumes nothing.
use Rattle.std.proofs.Common.{◌≡◌, ℕ, suc, ◌+◌, ◌-◌, ◌*◌, ◌%◌, ◌^◌, ◌<◌, ◌≤◌, max, Bool, true, false, cond, eqb, leb, List, [], ◌∷◌, ◌++◌, length, get_or, take, drop, set, sym, refl, ap, ◌∙◌, ap₂, append_assoc, append-nil, le_refl, add-one, arith, length-append, length-drop, length-set, take-append-drop, drop_of_length-le, length-take, length-take-le, take_all, drop-cons, take-suc, drop-drop, take-suc-set, take_at, drop-set-lt, le-ltb, lt-ltb, eq-eqb, ne_eqb, leb-true, leb-false}
use Rattle.octets.specs.Numbers.{big_endian_after, big_endian}
use Rattle.octets.proofs.NumberLaws.{big_append}
use Rattle.test_lines.specs.Lines.{pair, first_byte, bytes_of, behind, next_word, Reads}

-- ---- one element, and those behind it

from : (l : List ℕ) (i : ℕ) → i < length l → drop i l ≡ get_or l i 0 ∷ drop (i + 1) l
from l i h = drop-cons l i 0 h ∙ ap (λ (k : ℕ). get_or l i 0 ∷ drop k l) (sym (add-one i))

-- ---- two tests

-- ---- the place behind a byte

module _ (b : ℕ) (l : List ℕ) (i : ℕ) where
  pub behind-here : i < length l → get_or l i 0 ≡ b → i + 1 ≡ i + behind b (drop i l)
  unfolding behind
  behind-here h e = sym (ap (λ (r : List ℕ). i + behind b r) (from l i h) ∙ rw (eq-eqb (get_or l i 0) b e))

  pub behind-later : i < length l → (get_or l i 0 ≡ b → ⊥) → i + 1 + behind b (drop (i + 1) l) ≡ i + behind b (drop i l)
  unfolding behind
  behind-later h e =
      let q : i + 1 + behind b (drop (i + 1) l) ≡ i + (1 + behind b (drop (i + 1) l)) = omega arith in
      q ∙ sym (ap (λ (r : List ℕ). i + behind b r) (from l i h) ∙ rw (ne_eqb (get_or l i 0) b e))

  pub behind-end : length l ≤ i → i ≡ i + behind b (drop i l)
  unfolding behind
  behind-end h = sym (ap (λ (r : List ℕ). i + behind b r) (drop_of_length-le l h) ∙ omega arith)

behind-within : (b : ℕ) (l : List ℕ) → behind b l ≤ length l
unfolding behind
behind-within b [] = le_refl 0
behind-within b (x ∷ l) = go (eqb x b) (behind-within b l)
  where
    go : (t : Bool) → behind b l ≤ length l → cond t 1 (1 + behind b l) ≤ suc (length l)
    go true h = omega arith
    go false h = omega arith

behind-some : (b x : ℕ) (l : List ℕ) → 0 < behind b (x ∷ l)
unfolding behind
behind-some b x l = go (eqb x b)
  where
    go : (t : Bool) → 0 < cond t 1 (1 + behind b l)
    go true = omega arith
    go false = omega arith

-- of a place within, the place behind is further on and within
pub behind_between : (b : ℕ) (l : List ℕ) (i r : ℕ) → i < length l → r ≡ i + behind b (drop i l) → (i < r) × (r ≤ length l)
behind_between b l i r h e =
    let q : 0 < behind b (drop i l) = rw (from l i h) (behind-some b (get_or l i 0) (drop (i + 1) l)) in
    (omega arith, omega (arith, behind-within b (drop i l), length-drop i l))

-- the end, or a place that is past it
pub behind_most : (b : ℕ) (l : List ℕ) (at i : ℕ) → length l ≤ i → (at ≤ length l → i ≤ length l) → i ≡ at + behind b (drop at l)
    → max at (length l) ≡ at + behind b (drop at l)
behind_most b l at i h k e = go (leb at (length l)) refl
  where
    go : (t : Bool) → leb at (length l) ≡ t → max at (length l) ≡ at + behind b (drop at l)
    go true q = let m = k (leb-true at (length l) q) in let n = leb-true at (length l) q in omega arith
    go false q = let n = leb-false at (length l) q in let m = behind-end b l at (omega arith) in omega arith

-- ---- the bytes of a word

pub first-at : (l : List ℕ) (i : ℕ) → i + 2 ≤ length l → pair (get_or l i 0) (get_or l (i + 1) 0) ≡ first_byte (drop i l)
unfolding first_byte
first-at l i h = sym (ap first_byte (from l i (omega arith) ∙ ap (λ (r : List ℕ). get_or l i 0 ∷ r) (from l (i + 1) (omega arith))))

first-none : (l : List ℕ) → length l < 2 → first_byte l ≡ 256
unfolding first_byte
first-none [] h = refl
first-none (x ∷ []) h = refl
first-none (x ∷ y ∷ l) h = omega arith

pub first_past : (l : List ℕ) (i : ℕ) → length l < i + 2 → 256 ≡ first_byte (drop i l)
first_past l i h = sym (first-none (drop i l) (omega (arith, length-drop i l)))

word_goes-on : (l : List ℕ) → first_byte l < 256 → bytes_of l ≡ first_byte l ∷ bytes_of (drop 2 l)
unfolding first_byte bytes_of
word_goes-on [] h = absurd (omega arith)
word_goes-on (x ∷ []) h = absurd (omega arith)
word_goes-on (x ∷ y ∷ l) h = rw (lt-ltb (pair x y) 256 h)

word_ends : (l : List ℕ) → 256 ≤ first_byte l → bytes_of l ≡ []
unfolding first_byte bytes_of
word_ends [] h = refl
word_ends (x ∷ []) h = refl
word_ends (x ∷ y ∷ l) h = rw (le-ltb (pair x y) 256 h)

-- a byte is there only within the line
pub byte_within : (l : List ℕ) (i : ℕ) → first_byte (drop i l) < 256 → i + 2 ≤ length l
unfolding first_byte
byte_within l i h = go (drop i l) h (length-drop i l)
  where
    go : (r : List ℕ) → first_byte r < 256 → length r ≡ length l - i → i + 2 ≤ length l
    go [] h e = omega arith
    go (x ∷ []) h e = omega arith
    go (x ∷ y ∷ r) h e = omega arith

-- before a turn of the loop that reads a word: n bytes are read
pub record Reading (line : List ℕ) (at : ℕ) (out₀ out : List ℕ) (n : ℕ) : Type 0 where
  pub size : length out ≡ length out₀
  pub inside : 0 < n → at + 2 * n ≤ length line
  pub word : bytes_of (drop at line) ≡ take n out ++ bytes_of (drop (at + 2 * n) line)
  pub rest : drop n out ≡ drop n out₀

pub reading_start : (line : List ℕ) (at : ℕ) (out : List ℕ) → Reading line at out out 0
reading_start line at out = record { size = refl; inside = λ h. omega arith; word = ap (λ (k : ℕ). bytes_of (drop k line)) (omega arith); rest = refl }

pub reading_turn : {line out₀ out : List ℕ} {at n b : ℕ} → Reading line at out₀ out n → n < length out → b < 256 → b ≡ first_byte (drop (at + 2 * n) line)
    → Reading line at out₀ (set out n b) (n + 1)
reading_turn {line} {out₀} {out} {at} {n} {b} s l hb e =
    let i : ℕ = at + 2 * n in
    let j : at + 2 * (n + 1) ≡ i + 2 = omega arith in
    let within : i + 2 ≤ length line = byte_within line i (omega (arith, e)) in
    let t : take (n + 1) (set out n b) ≡ take n out ++ (b ∷ []) =
    ap (λ (k : ℕ). take k (set out n b)) (add-one n) ∙ take-suc-set out n b l in
    let w : bytes_of (drop i line) ≡ b ∷ bytes_of (drop (i + 2) line) =
    word_goes-on (drop i line) (omega (arith, e)) ∙ ap₂ (λ (x : ℕ) (r : List ℕ). x ∷ bytes_of r) (sym e) (drop-drop 2 i line) in
    record {
      size = length-set out n b ∙ s.size;
      inside = λ h. omega arith;
      word =
          s.word
          ∙ ap (λ (r : List ℕ). take n out ++ r) w
          ∙ sym (append_assoc (take n out) (b ∷ []) (bytes_of (drop (i + 2) line)))
          ∙ ap₂ (λ (r : List ℕ) (k : ℕ). r ++ bytes_of (drop k line)) (sym t) (sym j);
      rest =
          drop-set-lt (n + 1) out n b (omega arith)
          ∙ sym (drop-drop 1 n out)
          ∙ ap (drop 1) s.rest
          ∙ drop-drop 1 n out₀;
    }

module _ {line out₀ out : List ℕ} {at n : ℕ} (s : Reading line at out₀ out n) where
  -- the place is full
  pub reading_full : length out ≤ n → n ≤ length out → Reads line at out₀ out (length out) (next_word line at)
  reading_full h k =
      let v = bytes_of (drop (at + 2 * n) line) in
      let j : bytes_of (drop at line) ≡ out ++ v = s.word ∙ ap (λ (r : List ℕ). r ++ v) (take_all n out h) in
      let l : length (bytes_of (drop at line)) ≡ length out + length v = ap length j ∙ length-append out v in
      let f : take (length out₀) (bytes_of (drop at line)) ≡ out = ap (take (length out₀)) j ∙ take_at out v (length out₀) s.size in
      let d : drop (length (bytes_of (drop at line))) out₀ ≡ [] = drop_of_length-le out₀ {i = length (bytes_of (drop at line))} (omega (arith, s.size)) in
      record { bytes = sym (ap₂ (λ (x y : List ℕ). x ++ y) f d ∙ append-nil out); count = omega (arith, s.size); place = refl }

  -- the word has ended
  pub reading_ended : n < length out → 256 ≡ first_byte (drop (at + 2 * n) line) → Reads line at out₀ out n (next_word line at)
  reading_ended h e =
      let j : bytes_of (drop at line) ≡ take n out =
      s.word ∙ ap (λ (r : List ℕ). take n out ++ r) (word_ends (drop (at + 2 * n) line) (omega (arith, e))) ∙ append-nil (take n out) in
      let l : length (bytes_of (drop at line)) ≡ n = ap length j ∙ length-take-le n out (omega arith) in
      let f : take (length out₀) (bytes_of (drop at line)) ≡ take n out = take_all (length out₀) (bytes_of (drop at line)) (omega (arith, s.size)) ∙ j in
      let d : drop (length (bytes_of (drop at line))) out₀ ≡ drop n out = ap (λ (k : ℕ). drop k out₀) l ∙ sym s.rest in
      record { bytes = sym (ap₂ (λ (x y : List ℕ). x ++ y) f d ∙ take-append-drop n out); count = omega (arith, s.size); place = refl }

module _ {line out out' : List ℕ} {at len next : ℕ} (s : Reads line at out out' len next) where
  -- no more than there is room for
  pub reads_fit : len ≤ length out
  reads_fit = omega (arith, s.count)

  -- the bytes that were read
  pub reads_word : take len out' ≡ take (length out) (bytes_of (drop at line))
  reads_word =
      let w = bytes_of (drop at line) in
      let l : length (take (length out) w) ≡ len = length-take (length out) w ∙ sym s.count in
      ap (take len) s.bytes ∙ take_at (take (length out) w) (drop (length w) out) len l

-- ---- numbers

-- before a turn of the loop over the first len bytes of b: n is the number that i of them write
pub record Counting (b : List ℕ) (len n i : ℕ) : Type 0 where
  pub bound : i ≤ len
  pub room : len ≤ length b
  pub value : n ≡ big_endian (take i b) % 2 ^ 64

pub counting_start : (b : List ℕ) (len : ℕ) → len ≤ length b → Counting b len 0 0
unfolding big_endian_after
counting_start b len h = record { bound = omega arith; room = h; value = refl }

shift : (n m x : ℕ) → n ≡ m % 2 ^ 64 → (n * 256 + x) % 2 ^ 64 ≡ (m * 256 + x) % 2 ^ 64
shift n m x e = omega arith

pub counting_turn : {b : List ℕ} {len n i r : ℕ} → Counting b len n i → i < len → r ≡ (n * 256 + get_or b i 0) % 2 ^ 64 → Counting b len r (i + 1)
unfolding big_endian_after
counting_turn {b} {len} {n} {i} {r} s h e =
    let m : ℕ = big_endian (take i b) in
    let l : i < length b = omega (arith, s.room) in
    let q : big_endian (take (i + 1) b) ≡ m * 256 + get_or b i 0 =
    ap (λ (k : ℕ). big_endian (take k b)) (add-one i) ∙ ap big_endian (take-suc b i 0 l) ∙ big_append 0 (take i b) (get_or b i 0 ∷ []) in
    record {
      bound = omega arith;
      room = s.room;
      value = e ∙ shift n m (get_or b i 0) s.value ∙ ap (λ (k : ℕ). k % 2 ^ 64) (sym q);
    }

pub counting_end : {line out b : List ℕ} {at len next n i : ℕ} → Counting b len n i → len ≤ i → Reads line at out b len next
    → n ≡ big_endian (take (length out) (bytes_of (drop at line))) % 2 ^ 64
counting_end {line} {out} {b} {at} {len} {next} {n} {i} s h r =
    let q : i ≡ len = omega (arith, s.bound) in
    s.value ∙ ap (λ (l : List ℕ). big_endian l % 2 ^ 64) (ap (λ (k : ℕ). take k b) q ∙ reads_word r)
