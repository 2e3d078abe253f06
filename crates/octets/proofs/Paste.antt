-- A loop that replaces, one store a turn, the elements of d from index `at` by those of s: l is `paste d at s j` after j turns.
-- Assumes nothing.
use mathlib.Core.Path.{◌≡◌, sym, ap, ap₂, ◌∙◌}
use mathlib.Core.List.{List, ◌++◌, append_assoc, append-nil}
use Prim.Native.Nat.{ℕ, ◌+◌, ◌-◌, ◌<◌, ◌≤◌}
use native.Mathlib.Nat.{add-zero, add_assoc, le_of_eq}
use native.Mathlib.Numerals.{add-one}
use native.Mathlib.Omega.{arith}
use lib.ListN.{length, get_or, set, take, drop, replicate, drop_of_length-le, length-take, length-drop, length-replicate, replicate-append-replicate}
use lib.Seq.{paste, paste-suc, take-paste, drop-paste, length-paste, drop-drop, get_or-drop, take-length, take-add, take_all, take_at, drop_at}
use Rattle.octets.specs.Numbers.{bytes_at}

-- the element that the next turn replaces is d's
pub paste_next : (d : List ℕ) (at : ℕ) (s l : List ℕ) (j p : ℕ) → l ≡ paste d at s j → p ≡ at + j → at ≤ length d → j ≤ length s → get_or l p 0 ≡ get_or d p 0
paste_next d at s l j p e q hd hs =
    ap₂ (λ (x : List ℕ) (y : ℕ). get_or x y 0) e (q ∙ sym (add-zero (at + j)))
    ∙ sym (get_or-drop (at + j) (paste d at s j) 0 0)
    ∙ ap (λ (x : List ℕ). get_or x 0 0) (drop-paste d at s j hd hs)
    ∙ get_or-drop (at + j) d 0 0
    ∙ ap (λ (y : ℕ). get_or d y 0) (add-zero (at + j) ∙ sym q)

-- a turn
pub paste_turn : (d : List ℕ) (at : ℕ) (s l : List ℕ) (j p v : ℕ) → l ≡ paste d at s j → p ≡ at + j → p < length d → j < length s
    → v ≡ get_or s j 0
    → set l p v ≡ paste d at s (j + 1)
paste_turn d at s l j p v e q hd hs ev =
    rw (e, q, ev) (paste-suc d at s j 0 (omega arith) hs) ∙ ap (paste d at s) (sym (add-one j))

-- after the last turn, where s reaches to the end
pub paste_all : (d : List ℕ) (at : ℕ) (s : List ℕ) → length d ≤ at + length s → paste d at s (length s) ≡ take at d ++ s
paste_all d at s h =
    rw (take-length s, drop_of_length-le d h) (append-nil (take at d ++ s))

-- two runs, copied one behind the other into an array that they fill
pub two_runs : (d a b r s : List ℕ) (n : ℕ) → length a ≡ n → length d ≡ n + length b
    → r ≡ paste d 0 a (length a)
    → s ≡ paste r n b (length b)
    → s ≡ a ++ b
two_runs d a b r s n la h er es =
    let z : 0 + length a ≡ n = omega arith in
    let front : take n r ≡ a = ap₂ take (sym z) er ∙ take-paste d 0 a (length a) (omega arith) (omega arith) ∙ take-length a in
    let l : length r ≡ length d = ap length er ∙ length-paste d 0 a (length a) (omega arith) (omega arith) in
    es ∙ paste_all r n b (omega arith) ∙ ap (λ (x : List ℕ). x ++ b) front

-- a replacement in two pieces: m more elements, of a t that s goes on with
pub paste_more : (d : List ℕ) (at : ℕ) (s t : List ℕ) (i m : ℕ) → at ≤ length d → i ≤ length s → take m t ≡ take m (drop i s)
    → paste (paste d at s i) (at + i) t m ≡ paste d at s (i + m)
paste_more d at s t i m hd hs e =
    let p : List ℕ = paste d at s i in
    ap₂ (λ (x y : List ℕ). x ++ take m t ++ y) (take-paste d at s i hd hs)
    (sym (drop-drop m (at + i) p) ∙ ap (drop m) (drop-paste d at s i hd hs) ∙ drop-drop m (at + i) d ∙ ap (λ (k : ℕ). drop k d) (add_assoc at i m))
    ∙ ap (λ (x : List ℕ). (take at d ++ take i s) ++ x ++ drop (at + (i + m)) d) e
    ∙ ap (λ (x : List ℕ). x ++ drop (at + (i + m)) d)
    (append_assoc (take at d) (take i s) (take m (drop i s)) ∙ ap (λ (x : List ℕ). take at d ++ x) (sym (take-add i m s)))

pub take-replicate : (i j a : ℕ) → take i (replicate (i + j) a) ≡ replicate i a
take-replicate i j a =
    ap (λ (l : List ℕ). take i l) (sym (replicate-append-replicate i j a)) ∙ take_at (replicate i a) (replicate j a) i (length-replicate i a)

pub drop-replicate : (i j a : ℕ) → drop i (replicate (i + j) a) ≡ replicate j a
drop-replicate i j a =
    ap (λ (l : List ℕ). drop i l) (sym (replicate-append-replicate i j a)) ∙ drop_at (replicate i a) (replicate j a) i (length-replicate i a)

-- a part of a buffer from an offset to its end, as the code lends it
pub part_all : (buf : List ℕ) (from : ℕ) → take (length buf - from) (drop from buf) ≡ drop from buf
part_all buf from = take_all (length buf - from) (drop from buf) (le_of_eq (length-drop from buf))

-- a part of b, copied into an array of zeros
pub array_copied : (n : ℕ) (b : List ℕ) (at : ℕ) (r : List ℕ) → at + n ≤ length b
    → r ≡ paste (replicate n 0) 0 (take (at + n - at) (drop at b)) (length (take (at + n - at) (drop at b))) → r ≡ bytes_at at n b
array_copied n b at r inside e =
    let same : at + n - at ≡ n = omega arith in
    let l : length (bytes_at at n b) ≡ n = simp (length-take, length-drop) (omega arith) in
    let z : length {A = ℕ} (replicate n 0) ≡ n = length-replicate n 0 in
    e ∙ rw same (paste_all (replicate n 0) 0 (bytes_at at n b) (omega arith))
