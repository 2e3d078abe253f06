-- Laws of counter mode: it keeps the length, undoes itself, and goes on block by block.
use mathlib.Core.Path.{◌≡◌, refl, sym, ap, ap₂, ◌∙◌}
use mathlib.Core.List.{List, [], ◌∷◌, ◌++◌, append_assoc}
use Prim.Native.Nat.{ℕ, zero, suc, ◌+◌, ◌*◌, ◌/◌, ◌%◌, ◌<◌, ◌≤◌}
use native.Mathlib.Nat.{zero-add}
use native.Mathlib.Omega.{arith}
use lib.ListN.{length, get_or, take, drop}
use lib.Bits.{bit_xor}
use lib.Seq.{paste, drop-paste, drop-drop}
use borrow.Rule.Slice.PartMut.{put_mid}
use Rattle.octets.specs.Xor.{xor_with, xor}
use Rattle.octets.proofs.XorWith.{length-xor_with, xor_with_twice, drop-xor_with, take-xor_with}
use Rattle.octets.proofs.Paste.{paste_more, paste_all}
use Rattle.ctr.specs.Ctr.{ctr}

xor_with-take : (f : ℕ → ℕ) (i m : ℕ) (xs : List ℕ) → xor_with f i (take m xs) ≡ take m (xor_with f i xs)
unfolding xor_with
xor_with-take f i zero xs = refl
xor_with-take f i (suc m) [] = refl
xor_with-take f i (suc m) (x ∷ xs) = ap (λ (r : List ℕ). bit_xor x (f i) ∷ r) (xor_with-take f (suc i) m xs)

-- m bytes in the place of those from i on
placed : (buf : List ℕ) (i m : ℕ) (s : List ℕ) → put_mid i m buf (take m s) ≡ paste buf i s m
placed buf i m s =
    ap (λ (x : List ℕ). take i buf ++ (take m s ++ x)) (drop-drop m i buf) ∙ sym (append_assoc (take i buf) (take m s) (drop (i + m) buf))

module _ (E : List ℕ → List ℕ) (T : ℕ → List ℕ) where
  pub length-ctr : (text : List ℕ) → length (ctr E T text) ≡ length text
  unfolding ctr
  length-ctr text = length-xor_with (λ i. get_or (E (T (i / 16))) (i % 16) 0) 0 text

  pub ctr_twice : (text : List ℕ) → ctr E T (ctr E T text) ≡ text
  unfolding ctr
  ctr_twice text = xor_with_twice (λ i. get_or (E (T (i / 16))) (i % 16) 0) 0 text

  -- a turn of the loop: output block j goes onto the m bytes from 16 j on
  pub ctr_turn : (d : List ℕ) (j m : ℕ) (ks buf out : List ℕ) → 16 * j ≤ length d → m ≤ 16
      → ks ≡ E (T j)
      → buf ≡ paste d 0 (ctr E T d) (16 * j)
      → out ≡ put_mid (16 * j) m buf (xor (take m (drop (16 * j) buf)) ks)
      → out ≡ paste d 0 (ctr E T d) (16 * j + m)
  unfolding ctr
  ctr_turn d j m ks buf out hi hm ek eb eo =
      let i : ℕ = 16 * j in
      let K : ℕ → ℕ = λ k. get_or (E (T (k / 16))) (k % 16) 0 in
      let f : ℕ → ℕ = λ k. get_or ks k 0 in
      let s : List ℕ = xor_with K 0 d in
      let ls : length s ≡ length d = length-xor_with K 0 d in
      let z : 0 + i ≡ i = zero-add i in
      let same : (k : ℕ) → k < m → f (0 + k) ≡ K (i + k) =
      λ k l.
      let q : (i + k) / 16 ≡ j = omega arith in
      let r : (i + k) % 16 ≡ 0 + k = omega arith in
      ap₂ (λ (x : List ℕ) (y : ℕ). get_or x y 0) (ek ∙ ap (λ (k : ℕ). E (T k)) (sym q)) (sym r) in
      let rest : drop i buf ≡ drop i d = ap₂ drop (sym z) eb ∙ drop-paste d 0 s i (omega arith) (omega arith) ∙ ap (λ (k : ℕ). drop k d) z in
      let next : take m (xor_with f 0 (drop i buf)) ≡ take m (drop i s) =
      ap (λ (x : List ℕ). take m (xor_with f 0 x)) rest
      ∙ take-xor_with f K 0 i (drop i d) m same
      ∙ ap (λ (k : ℕ). take m (xor_with K k (drop i d))) (sym z)
      ∙ ap (take m) (sym (drop-xor_with K 0 d i)) in
      eo ∙ ap (put_mid i m buf) (xor_with-take f 0 m (drop i buf)) ∙ placed buf i m (xor_with f 0 (drop i buf))
      ∙ ap₂ (λ (x : List ℕ) (k : ℕ). paste x k (xor_with f 0 (drop i buf)) m) eb (sym z)
      ∙ paste_more d 0 s (xor_with f 0 (drop i buf)) i m (omega arith) (omega arith) next

  -- after the last turn
  pub ctr-end : (d : List ℕ) (i : ℕ) (buf : List ℕ) → i ≡ length d → buf ≡ paste d 0 (ctr E T d) i → buf ≡ ctr E T d
  ctr-end d i buf hi eb =
      let l = length-ctr d in
      eb ∙ ap (paste d 0 (ctr E T d)) (hi ∙ sym l) ∙ paste_all d 0 (ctr E T d) (omega arith)
