-- The key expansion goes on by a round key: four words, made of those nk places before and of the last word. Said once over nk; a key of four
-- words and one of eight differ in when the last word is substituted.
use mathlib.Core.Bool.{Bool, true, false, cond, ◌&&◌}
use mathlib.Core.Path.{◌≡◌, refl, ◌∙◌, ap, sym, subst}
use mathlib.Core.List.{List, [], ◌∷◌, ◌++◌, map, reverse}
use Rattle.std.proofs.Common.{inl, inr, get_or-set_other, get_or-set_same}
use Prim.Native.Nat.{ℕ, zero, suc, ◌+◌, ◌-◌, ◌*◌, ◌/◌, ◌%◌, ◌<◌, ◌≤◌}
use native.Mathlib.Omega.{arith}
use borrow.Author.Tests.{ne_eqb}
use lib.Dec.{eqb, ltb}
use lib.ListN.{length, get_or, set}
use Rattle.octets.proofs.Elements.{whole}
use Rattle.rijndael.specs.KeyExpansion.{key_expansion, round_keys, words, key_words, temp, rcon, xpower, word_of, xor_word, sub_word, rot_word}
use Rattle.aes_key_expansion.specs.NextKey.{next_word, next_key, IsOwn}

-- ---- what a word takes in of the word before it, by its place

-- at a multiple of nk
temp_multiple : (nk i c : ℕ) (w : List ℕ) → i % nk ≡ 0 → xpower (i / nk - 1) ≡ c → temp nk i w ≡ xor_word (sub_word (rot_word w)) (c ∷ 0 ∷ 0 ∷ 0 ∷ [])
unfolding temp rcon
temp_multiple nk i c w e d = rw (e, d)

-- four more than a multiple of eight
temp_middle : (i : ℕ) (w : List ℕ) → i % 8 ≡ 4 → temp 8 i w ≡ sub_word w
unfolding temp
temp_middle i w e = rw e

-- with 4 · own words, at word 4 r
multiple_1 : (r : ℕ) (w : List ℕ) → temp 4 (4 * r) w ≡ xor_word (sub_word (rot_word w)) (xpower (r / 1 - 1) ∷ 0 ∷ 0 ∷ 0 ∷ [])
multiple_1 r w =
    let z : 4 * r % 4 ≡ 0 = omega arith in
    let i : 4 * r / 4 - 1 ≡ r / 1 - 1 = omega arith in
    temp_multiple 4 (4 * r) _ w z (ap xpower i)

multiple_2 : (r : ℕ) (w : List ℕ) → r % 2 ≡ 0 → temp 8 (4 * r) w ≡ xor_word (sub_word (rot_word w)) (xpower (r / 2 - 1) ∷ 0 ∷ 0 ∷ 0 ∷ [])
multiple_2 r w m =
    let z : 4 * r % 8 ≡ 0 = omega arith in
    let i : 4 * r / 8 - 1 ≡ r / 2 - 1 = omega arith in
    temp_multiple 8 (4 * r) _ w z (ap xpower i)

pub multiple : (own r : ℕ) (w : List ℕ) → IsOwn own → r % own ≡ 0
    → temp (4 * own) (4 * r) w ≡ xor_word (sub_word (rot_word w)) (xpower (r / own - 1) ∷ 0 ∷ 0 ∷ 0 ∷ [])
multiple own r w (inl e) m = rw e (multiple_1 r w)
multiple own r w (inr e) m = rw e (multiple_2 r w (subst (λ (n : ℕ). r % n ≡ 0) e m))

middle_2 : (r : ℕ) (w : List ℕ) → (r % 2 ≡ 0 → ⊥) → temp 8 (4 * r) w ≡ sub_word w
middle_2 r w m = temp_middle (4 * r) w (omega arith)

pub between : (own r : ℕ) (w : List ℕ) → IsOwn own → (r % own ≡ 0 → ⊥) → temp (4 * own) (4 * r) w ≡ sub_word w
between own r w (inl e) m = absurd (m (rw e (omega arith)))
between own r w (inr e) m = rw e (middle_2 r w (subst (λ (n : ℕ). r % n ≡ 0 → ⊥) e m))

neither : (b : Bool) (v w : List ℕ) → cond (b && false) v w ≡ w
neither true v w = refl
neither false v w = refl

temp_plain : (nk i : ℕ) (w : List ℕ) → eqb (i % nk) 0 ≡ false → eqb (i % nk) 4 ≡ false → temp nk i w ≡ w
unfolding temp
temp_plain nk i w e f = rw (e, f) (neither (ltb 6 nk) (sub_word w) w)

plain_4 : (i : ℕ) (w : List ℕ) → 0 < i % 4 → temp 4 i w ≡ w
plain_4 i w h = temp_plain 4 i w (ne_eqb (i % 4) 0 (λ e. omega arith)) (ne_eqb (i % 4) 4 (λ e. omega arith))

plain_8 : (i : ℕ) (w : List ℕ) → 0 < i % 4 → temp 8 i w ≡ w
plain_8 i w h = temp_plain 8 i w (ne_eqb (i % 8) 0 (λ e. omega arith)) (ne_eqb (i % 8) 4 (λ e. omega arith))

-- ---- four words more

-- the words of a round key, the last first, before ws
abbrev words_of : List ℕ → List (List ℕ) → List (List ℕ)
words_of k ws = word_of k 12 ∷ word_of k 8 ∷ word_of k 4 ∷ word_of k 0 ∷ ws

-- one word more
more : (nk n : ℕ) (key u v : List ℕ) (ws : List (List ℕ)) → words nk n key ≡ ws → temp nk (nk + n) (get_or ws 0 []) ≡ v → get_or ws (nk - 1) [] ≡ u
    → words nk (suc n) key ≡ xor_word u v ∷ ws
unfolding words
more nk n key u v ws e t g = rw (e, t, g)

module _ (nk : ℕ) (plain : (i : ℕ) (w : List ℕ) → 0 < i % 4 → temp nk i w ≡ w) where
  -- where the four words nk places before are those of k
  step : (n : ℕ) (key k v : List ℕ) (ws : List (List ℕ)) → (nk + n) % 4 ≡ 0 → words nk n key ≡ ws → temp nk (nk + n) (get_or ws 0 []) ≡ v
      → get_or ws (nk - 1) [] ≡ word_of k 0
      → ((x : List ℕ) → get_or (x ∷ ws) (nk - 1) [] ≡ word_of k 4)
      → ((x y : List ℕ) → get_or (y ∷ x ∷ ws) (nk - 1) [] ≡ word_of k 8)
      → ((x y z : List ℕ) → get_or (z ∷ y ∷ x ∷ ws) (nk - 1) [] ≡ word_of k 12)
      → words nk (suc (suc (suc (suc n)))) key ≡ words_of (next_key k v) ws
  unfolding next_key next_word word_of xor_word
  step n key k v ws h e t g0 g1 g2 g3 =
      more nk (suc (suc (suc n))) key _ _ _
      (more nk (suc (suc n)) key _ _ _
      (more nk (suc n) key _ _ _ (more nk n key _ _ _ e t g0) (plain (nk + suc n) _ (omega arith)) (g1 _))
      (plain (nk + suc (suc n)) _ (omega arith)) (g2 _ _))
      (plain (nk + suc (suc (suc n))) _ (omega arith)) (g3 _ _ _)

-- ---- the round keys so far, the last first

abbrev all_words : List (List ℕ) → List (List ℕ)
all_words [] = []
all_words (k ∷ ks) = words_of k (all_words ks)

abbrev joined : List ℕ → List ℕ
joined k = word_of k 0 ++ word_of k 4 ++ word_of k 8 ++ word_of k 12

-- nk + n words of the expansion are made, and they are those of ks
pub record Made (nk n : ℕ) (key : List ℕ) (ks : List (List ℕ)) : Type 0 where
  pub are : words nk n key ≡ all_words ks
  pub each : map joined ks ≡ ks

joined-whole : (k : List ℕ) → length k ≡ 16 → joined k ≡ k
unfolding word_of
joined-whole k h = whole 16 k h

cons : {a b : List ℕ} {l r : List (List ℕ)} → a ≡ b → l ≡ r → a ∷ l ≡ b ∷ r
cons p q = cc

length-next : (r k v : List ℕ) → r ≡ next_key k v → length r ≡ 16
unfolding next_key next_word xor_word
length-next r k v e = ap length e

-- one round key more
made : {nk n : ℕ} {key r : List ℕ} (k v : List ℕ) {ks : List (List ℕ)} → words nk (suc (suc (suc (suc n)))) key ≡ words_of (next_key k v) (all_words ks)
    → map joined ks ≡ ks → r ≡ next_key k v → Made nk (suc (suc (suc (suc n)))) key (r ∷ ks)
made {r = r} k v {ks = ks} w s e =
    record {
      are = w ∙ ap (λ (x : List ℕ). words_of x (all_words ks)) (sym e);
      each = cons (joined-whole r (length-next r k v e)) s;
    }

-- all of them
pub expanded : (nk nr : ℕ) (key : List ℕ) (ks : List (List ℕ)) → round_keys (nr + 1) 0 (reverse (all_words ks)) ≡ reverse (map joined ks)
    → Made nk (4 * (nr + 1) - nk) key ks → reverse ks ≡ key_expansion nk nr key
unfolding key_expansion
expanded nk nr key ks rows m =
    sym (ap (λ (w : List (List ℕ)). round_keys (nr + 1) 0 (reverse w)) m.are ∙ rows ∙ ap reverse m.each)

-- ---- a key of four words

pub first_4 : (key : List ℕ) → length key ≡ 16 → Made 4 0 key (key ∷ [])
unfolding words key_words
first_4 key h = record { are = refl; each = cons (joined-whole key h) refl }

next_4 : (n : ℕ) {key k r : List ℕ} {ks : List (List ℕ)} → n % 4 ≡ 0 → r ≡ next_key k (temp 4 (4 + n) (word_of k 12))
    → Made 4 n key (k ∷ ks) → Made 4 (suc (suc (suc (suc n)))) key (r ∷ k ∷ ks)
next_4 n {key} {k} {r} {ks} h e m =
    made k _ (step 4 plain_4 n key k _ _ (omega arith) m.are refl refl (λ a. refl) (λ a b. refl) (λ a b d. refl)) m.each e

-- ---- a key of eight words

words-of_halves : (k l : List ℕ) → words 8 0 (joined k ++ l) ≡ all_words (l ∷ k ∷ [])
unfolding words key_words word_of
words-of_halves k l = refl

pub first_8 : (k l : List ℕ) → length k ≡ 16 → length l ≡ 16 → Made 8 0 (k ++ l) (l ∷ k ∷ [])
first_8 k l hk hl =
    record {
      are = ap (λ (x : List ℕ). words 8 0 (x ++ l)) (sym (joined-whole k hk)) ∙ words-of_halves k l;
      each = cons (joined-whole l hl) (cons (joined-whole k hk) refl);
    }

next_8 : (n : ℕ) {key k l r : List ℕ} {ks : List (List ℕ)} → n % 4 ≡ 0 → r ≡ next_key k (temp 8 (8 + n) (word_of l 12))
    → Made 8 n key (l ∷ k ∷ ks) → Made 8 (suc (suc (suc (suc n)))) key (r ∷ l ∷ k ∷ ks)
next_8 n {key} {k} {l} {r} {ks} h e m =
    made k _ (step 8 plain_8 n key k _ _ (omega arith) m.are refl refl (λ a. refl) (λ a b. refl) (λ a b d. refl)) m.each e

-- ---- the array of round keys

-- the first n, the last first
abbrev pub latest : ℕ → List (List ℕ) → List (List ℕ)
latest zero keys = []
latest (suc n) keys = get_or keys n [] ∷ latest n keys

latest-set : (n i : ℕ) (keys : List (List ℕ)) (v : List ℕ) → n ≤ i → latest n (set keys i v) ≡ latest n keys
latest-set zero i keys v h = refl
latest-set (suc n) i keys v h = cons (get_or-set_other keys i n v [] (λ e. omega arith)) (latest-set n i keys v (omega arith))

latest-next : (r : ℕ) (keys : List (List ℕ)) (v : List ℕ) → r < length keys → latest (suc r) (set keys r v) ≡ v ∷ latest r keys
latest-next r keys v h = cons (get_or-set_same keys r v [] h) (latest-set r r keys v (omega arith))

pub turn_4 : (m : ℕ) {key v : List ℕ} (keys : List (List ℕ)) → suc m < length keys
    → v ≡ next_key (get_or keys m []) (temp 4 (4 * suc m) (word_of (get_or keys m []) 12))
    → Made 4 (4 * suc m - 4) key (latest (suc m) keys) → Made 4 (4 * (suc m + 1) - 4) key (latest (suc m + 1) (set keys (suc m) v))
turn_4 m {key} {v} keys h e s =
    let a : 4 * suc m - 4 ≡ 4 * m = omega arith in
    let b : 4 * suc m ≡ 4 + 4 * m = omega arith in
    let d : 4 * (suc m + 1) - 4 ≡ suc (suc (suc (suc (4 * m)))) = omega arith in
    let i : suc m + 1 ≡ suc (suc m) = omega arith in
    let now = next_4 (4 * m) (omega arith) (rw b at e) (rw a at s) in
    rw (d, i, latest-next (suc m) keys v h) now

pub turn_8 : (m : ℕ) {key v : List ℕ} (keys : List (List ℕ)) → suc (suc m) < length keys
    → v ≡ next_key (get_or keys m []) (temp 8 (4 * suc (suc m)) (word_of (get_or keys (suc m) []) 12))
    → Made 8 (4 * suc (suc m) - 8) key (latest (suc (suc m)) keys)
    → Made 8 (4 * (suc (suc m) + 1) - 8) key (latest (suc (suc m) + 1) (set keys (suc (suc m)) v))
turn_8 m {key} {v} keys h e s =
    let a : 4 * suc (suc m) - 8 ≡ 4 * m = omega arith in
    let b : 4 * suc (suc m) ≡ 8 + 4 * m = omega arith in
    let d : 4 * (suc (suc m) + 1) - 8 ≡ suc (suc (suc (suc (4 * m)))) = omega arith in
    let i : suc (suc m) + 1 ≡ suc (suc (suc m)) = omega arith in
    let now = next_8 (4 * m) (omega arith) (rw b at e) (rw a at s) in
    rw (d, i, latest-next (suc (suc m)) keys v h) now
