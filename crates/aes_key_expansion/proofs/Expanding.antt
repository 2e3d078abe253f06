-- An array of fifteen round keys, of which the first r are made: a turn makes the next, and the last turn ends the expansion.
use Rattle.std.proofs.Common.{inl, inr}
use Rattle.std.proofs.lemmas.List.{drop-set-lt, drop-drop}
use Rattle.std.proofs.lemmas.Grind.{reverse_onto}
use mathlib.Core.Bool.{true}
use mathlib.Core.Path.{◌≡◌, refl, ◌∙◌, ap, ap₂, sym, subst}
use mathlib.Core.List.{List, [], ◌∷◌, ◌++◌, reverse}
use Prim.Native.Nat.{ℕ, zero, suc, ◌+◌, ◌-◌, ◌*◌, ◌/◌, ◌<◌, ◌≤◌}
use native.Mathlib.Omega.{arith}
use lib.ListN.{length, get_or, set, take, drop, replicate, length-set, length-drop, take-append-drop}
use lib.Seq.{take-suc, length-take-le}
use Rattle.rijndael.specs.KeyExpansion.{round_keys, temp, word_of}
use Rattle.rijndael.specs.BlockCipher.{expanded_key, round_count}
use Rattle.rijndael.proofs.Lengths.{length-expanded_key, expanded_16, expanded_32}
use Rattle.aes_key_expansion.specs.KeySizes.{is_key_length, fifteen}
use Rattle.aes_key_expansion.specs.NextKey.{next_key, IsOwn}
use Rattle.aes_key_expansion.proofs.KeyLengths.{of_sizes}
use Rattle.aes_key_expansion.proofs.ExpansionLaws.{Made, latest, first_4, first_8, turn_4, turn_8, expanded}

abbrev zeros : ℕ → List (List ℕ)
zeros n = replicate n (replicate 16 0)

pub record Expanding (own r : ℕ) (key : List ℕ) (keys : List (List ℕ)) : Type 0 where
  pub is_own : IsOwn own
  pub size : length key ≡ 16 * own
  pub places : length keys ≡ 15
  pub are : Made (4 * own) (4 * r - 4 * own) key (latest r keys)
  pub rest : drop r keys ≡ zeros (15 - r)

-- ---- the key's own round keys

start_1 : (key : List ℕ) → length key ≡ 16 → Expanding 1 1 key (fifteen (key ∷ []))
unfolding fifteen
start_1 key h = record { is_own = inl refl; size = h; places = refl; are = first_4 key h; rest = refl }

start_2 : (key : List ℕ) → length key ≡ 32 → Expanding 2 2 key (fifteen (take 16 key ∷ drop 16 key ∷ []))
unfolding fifteen
start_2 key h =
    let t : length (take 16 key) ≡ 16 = length-take-le 16 key (omega arith) in
    let d : length (drop 16 key) ≡ 16 = length-drop 16 key ∙ ap (λ (n : ℕ). n - 16) h in
    record {
      is_own = inr refl;
      size = h;
      places = refl;
      are = subst (λ (x : List ℕ). Made 8 0 x (drop 16 key ∷ take 16 key ∷ [])) (take-append-drop 16 key) (first_8 (take 16 key) (drop 16 key) t d);
      rest = refl;
    }

at_own : (own n : ℕ) {key : List ℕ} {keys keys' : List (List ℕ)} → own ≡ n → keys' ≡ keys → Expanding n n key keys → Expanding own own key keys'
at_own own n e k x = rw (e, k) x

pub start : (key : List ℕ) (keys : List (List ℕ)) → is_key_length (length key) ≡ true
    → (length key ≡ 16 → keys ≡ fifteen (key ∷ []))
    → (length key ≡ 32 → keys ≡ fifteen (take 16 key ∷ drop 16 key ∷ []))
    → Expanding (length key / 16) (length key / 16) key keys
start key keys h s l =
    of_sizes (length key) h
    (λ e. at_own (length key / 16) 1 (omega arith) (s e) (start_1 key e))
    (λ e. at_own (length key / 16) 2 (omega arith) (l e) (start_2 key e))

-- ---- a turn

tail : (r : ℕ) (keys : List (List ℕ)) (v : List ℕ) → r < 15 → drop r keys ≡ zeros (15 - r) → drop (r + 1) (set keys r v) ≡ zeros (15 - (r + 1))
tail r keys v h e =
    let n : 15 - r ≡ suc (15 - (r + 1)) = omega arith in
    drop-set-lt (r + 1) keys r v (omega arith) ∙ sym (drop-drop 1 r keys) ∙ ap (drop 1) (e ∙ ap zeros n)

made-next : (own r : ℕ) {key v : List ℕ} (keys : List (List ℕ)) → IsOwn own → own ≤ r → r < length keys
    → v ≡ next_key (get_or keys (r - own) []) (temp (4 * own) (4 * r) (word_of (get_or keys (r - 1) []) 12))
    → Made (4 * own) (4 * r - 4 * own) key (latest r keys) → Made (4 * own) (4 * (r + 1) - 4 * own) key (latest (r + 1) (set keys r v))
made-next own zero keys (inl e) o h d m = absurd (omega arith)
made-next own zero keys (inr e) o h d m = absurd (omega arith)
made-next own (suc zero) keys (inr e) o h d m = absurd (omega arith)
made-next own (suc m) keys (inl e) o h d s =
    let k : suc m - own ≡ m = omega arith in
    let last : suc m - 1 ≡ m = omega arith in
    rw e (turn_4 m keys h (rw (k, last, e) at d) (rw e at s))
made-next own (suc (suc m)) keys (inr e) o h d s =
    let k : suc (suc m) - own ≡ m = omega arith in
    let last : suc (suc m) - 1 ≡ suc m = omega arith in
    rw e (turn_8 m keys h (rw (k, last, e) at d) (rw e at s))

pub turn : {own r : ℕ} {key : List ℕ} {keys : List (List ℕ)} (v : List ℕ) → Expanding own r key keys → own ≤ r → r < 15
    → v ≡ next_key (get_or keys (r - own) []) (temp (4 * own) (4 * r) (word_of (get_or keys (r - 1) []) 12))
    → Expanding own (r + 1) key (set keys r v)
turn {own} {r} {key} {keys} v x o h e =
    record {
      is_own = x.is_own;
      size = x.size;
      places = length-set keys r v ∙ x.places;
      are = made-next own r keys x.is_own o (let l = x.places in omega arith) e x.are;
      rest = tail r keys v h x.rest;
    }

-- ---- the end

in-order : (n : ℕ) (keys : List (List ℕ)) → n ≤ length keys → reverse (latest n keys) ≡ take n keys
in-order zero keys h = refl
in-order (suc n) keys h =
    reverse_onto (latest n keys) (get_or keys n []) []
    ∙ ap (λ (l : List (List ℕ)). l ++ get_or keys n [] ∷ []) (in-order n keys (omega arith))
    ∙ sym (take-suc keys n [] (omega arith))

-- an array that holds them, and zeros behind them
whole : (n : ℕ) (key : List ℕ) (keys : List (List ℕ)) → n ≤ 15 → length keys ≡ 15 → reverse (latest n keys) ≡ expanded_key key
    → length (expanded_key key) ≡ n → drop n keys ≡ zeros (15 - n) → keys ≡ fifteen (expanded_key key)
unfolding fifteen
whole n key keys h l e k z =
    sym (take-append-drop n keys)
    ∙ ap₂ ◌++◌ (sym (in-order n keys (omega arith)) ∙ e) (z ∙ ap (λ (m : ℕ). zeros (15 - m)) (sym k))

finish_1 : (key : List ℕ) (keys : List (List ℕ)) → length keys ≡ 15 → length key ≡ 16 → Made 4 40 key (latest 11 keys) → drop 11 keys ≡ zeros 4
    → keys ≡ fifteen (expanded_key key)
unfolding round_keys round_count
finish_1 key keys l h m z =
    let n = length-expanded_key key in
    whole 11 key keys (omega arith) l (expanded 4 10 key (latest 11 keys) refl m ∙ sym (expanded_16 key h)) (omega arith) z

finish_2 : (key : List ℕ) (keys : List (List ℕ)) → length keys ≡ 15 → length key ≡ 32 → Made 8 52 key (latest 15 keys) → drop 15 keys ≡ zeros 0
    → keys ≡ fifteen (expanded_key key)
unfolding round_keys round_count
finish_2 key keys l h m z =
    let n = length-expanded_key key in
    whole 15 key keys (omega arith) l (expanded 8 14 key (latest 15 keys) refl m ∙ sym (expanded_32 key h)) (omega arith) z

pub finish : {own r : ℕ} {key : List ℕ} {keys : List (List ℕ)} → Expanding own r key keys → r ≡ 4 * own + 7 → keys ≡ fifteen (expanded_key key)
finish {own} {r} {key} {keys} x e = go x.is_own
  where
    go : IsOwn own → keys ≡ fifteen (expanded_key key)
    go (inl o) =
        let n : r ≡ 11 = omega arith in
        finish_1 key keys x.places (let s = x.size in omega arith) (rw (o, n) at x.are) (rw n at x.rest)
    go (inr o) =
        let n : r ≡ 15 = omega arith in
        finish_2 key keys x.places (let s = x.size in omega arith) (rw (o, n) at x.are) (rw n at x.rest)

pub within : {own r : ℕ} {key : List ℕ} {keys : List (List ℕ)} → Expanding own r key keys → r < 4 * own + 7 → r < 15
within {own} {r} {key} {keys} x h = go x.is_own
  where
    go : IsOwn own → r < 15
    go (inl e) = omega arith
    go (inr e) = omega arith
