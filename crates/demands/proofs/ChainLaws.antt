-- The chain over messages alone: equal values come from equal messages, or from a string that is named. For every hash of 64 bytes.
-- Assumes nothing.
use mathlib.Core.Path.{◌≡◌, refl, sym, ap, ◌∙◌}
use mathlib.Core.Logic.{◌⊎◌, inl, inr}
use mathlib.Core.List.Memᴰ
use mathlib.Core.List.{List, [], ◌∷◌, ◌++◌, Memᴰ}
use mathlib.Core.List.{List-discrete, head-eq_of_cons-eq, tail-eq_of_cons-eq, reverse, reverse_aux, reverse-reverse}
use Prim.Native.Nat.{ℕ}
use native.Mathlib.Nat.{suc_inj, suc-ne-zero}
use native.Mathlib.Decide.{ℕ_discrete}
use lib.ListN.{length, length-replicate}
use Rattle.protocol.specs.Bytes.{Bytes}
use Rattle.protocol.specs.Preauth.{fresh_chain}
use Rattle.demands.specs.Chains.{Collision, ZeroHash}

-- two strings that are equal, cut after as many bytes
cut_equal : (a b m n : Bytes) → length a ≡ length b → a ++ m ≡ b ++ n → (a ≡ b) × (m ≡ n)
cut_equal [] [] m n l e = (refl, e)
cut_equal [] (y ∷ b) m n l e = absurd (suc-ne-zero (length b) (sym l))
cut_equal (x ∷ a) [] m n l e = absurd (suc-ne-zero (length a) l)
cut_equal (x ∷ a) (y ∷ b) m n l e =
    let r = cut_equal a b m n (suc_inj l) (tail-eq_of_cons-eq e) in
    (λ i. head-eq_of_cons-eq e i ∷ r.0 i, r.1)

-- more in each of two lists
more : (a b a' b' : List Bytes)
    → ((x : Bytes) → Memᴰ x a → Memᴰ x a') → ((x : Bytes) → Memᴰ x b → Memᴰ x b')
    → (x : Bytes) → Memᴰ x (a ++ b) → Memᴰ x (a' ++ b')
more a b a' b' f g x h = go (Memᴰ.append_cases a h)
  where
    go : Memᴰ x a ⊎ Memᴰ x b → Memᴰ x (a' ++ b')
    go (inl p) = Memᴰ.append_left b' (f x p)
    go (inr p) = Memᴰ.append_right a' (g x p)

module _ (sha512 : Bytes → Bytes) where
  -- the chain over messages that are all folded in, and the strings hashed
  unfoldable pub over : Bytes → List Bytes → Bytes
  over v [] = v
  over v (m ∷ ms) = over (sha512 (v ++ m)) ms

  unfoldable pub strings_over : Bytes → List Bytes → List Bytes
  strings_over v [] = []
  strings_over v (m ∷ ms) = (v ++ m) ∷ strings_over (sha512 (v ++ m)) ms

  -- a list, then another
  pub over_then : (v : Bytes) (ms ns : List Bytes) → over v (ms ++ ns) ≡ over (over v ms) ns
  unfolding over
  over_then v [] ns = refl
  over_then v (m ∷ ms) ns = over_then (sha512 (v ++ m)) ms ns

  pub strings_then : (v : Bytes) (ms ns : List Bytes) → strings_over v (ms ++ ns) ≡ strings_over v ms ++ strings_over (over v ms) ns
  unfolding over strings_over
  strings_then v [] ns = refl
  strings_then v (m ∷ ms) ns = ap (λ (r : List Bytes). (v ++ m) ∷ r) (strings_then (sha512 (v ++ m)) ms ns)

  abbrev pub Found : List Bytes → Type 0
  Found ss = Collision sha512 ss ⊎ ZeroHash sha512 ss

  found-more : {ss ss' : List Bytes} → ((x : Bytes) → Memᴰ x ss → Memᴰ x ss') → Found ss → Found ss'
  found-more f (inl c) =
      inl (record {
        one = c.one;
        other = c.other;
        one-hashed = f c.one c.one-hashed;
        other-hashed = f c.other c.other-hashed;
        different = c.different;
        same_hash = c.same_hash;
      })
  found-more f (inr z) = inr (record { string = z.string; hashed = f z.string z.hashed; zero-hash = z.zero-hash })

  module _ (size : (s : Bytes) → length (sha512 s) ≡ 64) where
    pub over-length : (v : Bytes) (ms : List Bytes) → length v ≡ 64 → length (over v ms) ≡ 64
    unfolding over
    over-length v [] l = l
    over-length v (m ∷ ms) l = over-length (sha512 (v ++ m)) ms (size (v ++ m))

    -- ---- the heart: from the ends of the two lists. Here the last message comes first

    value : List Bytes → Bytes
    value [] = fresh_chain
    value (m ∷ ms) = sha512 (value ms ++ m)

    strings : List Bytes → List Bytes
    strings [] = []
    strings (m ∷ ms) = (value ms ++ m) ∷ strings ms

    value-length : (ms : List Bytes) → length (value ms) ≡ 64
    unfolding value
    value-length [] = length-replicate {A = ℕ} 64 0
    value-length (m ∷ ms) = size (value ms ++ m)

    agree : (a b : List Bytes) → value a ≡ value b → (a ≡ b) ⊎ Found (strings a ++ strings b)
    unfolding value strings
    agree [] [] e = inl refl
    agree [] (n ∷ b) e = inr (inr (record { string = value b ++ n; hashed = Memᴰ.head refl; zero-hash = sym e }))
    agree (m ∷ a) [] e = inr (inr (record { string = value a ++ m; hashed = Memᴰ.head refl; zero-hash = e }))
    agree (m ∷ a) (n ∷ b) e = decide (List-discrete ℕ_discrete (value a ++ m) (value b ++ n)) (agree a b)
      where
        x : Bytes
        x = value a ++ m

        y : Bytes
        y = value b ++ n

        both : List Bytes
        both = (x ∷ strings a) ++ (y ∷ strings b)

        grow : (z : Bytes) → Memᴰ z (strings a ++ strings b) → Memᴰ z both
        grow = more (strings a) (strings b) (x ∷ strings a) (y ∷ strings b) (λ z h. Memᴰ.tail h) (λ z h. Memᴰ.tail h)

        same : m ≡ n → (a ≡ b) ⊎ Found (strings a ++ strings b) → (m ∷ a ≡ n ∷ b) ⊎ Found both
        same p (inl q) = inl (λ i. p i ∷ q i)
        same p (inr f) = inr (found-more grow f)

        decide : Dec (x ≡ y) → (value a ≡ value b → (a ≡ b) ⊎ Found (strings a ++ strings b)) → (m ∷ a ≡ n ∷ b) ⊎ Found both
        decide (yes p) below =
            let r = cut_equal (value a) (value b) m n (value-length a ∙ sym (value-length b)) p in
            same r.1 (below r.0)
        decide (no d) below =
            inr (inl (record {
              one = x;
              other = y;
              one-hashed = Memᴰ.head refl;
              other-hashed = Memᴰ.append_right (x ∷ strings a) (Memᴰ.head refl);
              different = d;
              same_hash = e;
            }))

    -- ---- the first message comes first

    value_is : (ms acc : List Bytes) → over (value acc) ms ≡ value (reverse_aux ms acc)
    unfolding over value
    value_is [] acc = refl
    value_is (m ∷ ms) acc = value_is ms (m ∷ acc)

    strings_in : (ms acc : List Bytes) (x : Bytes)
        → Memᴰ x (strings (reverse_aux ms acc)) → Memᴰ x (strings_over (value acc) ms) ⊎ Memᴰ x (strings acc)
    unfolding value strings strings_over
    strings_in [] acc x h = inr h
    strings_in (m ∷ ms) acc x h = go (strings_in ms (m ∷ acc) x h)
      where
        front : (x ≡ value acc ++ m) ⊎ Memᴰ x (strings acc) → Memᴰ x (strings_over (value acc) (m ∷ ms)) ⊎ Memᴰ x (strings acc)
        front (inl e) = inl (Memᴰ.head e)
        front (inr q) = inr q

        go : Memᴰ x (strings_over (value (m ∷ acc)) ms) ⊎ Memᴰ x (strings (m ∷ acc))
            → Memᴰ x (strings_over (value acc) (m ∷ ms)) ⊎ Memᴰ x (strings acc)
        go (inl p) = inl (Memᴰ.tail p)
        go (inr p) = front (Memᴰ.cases_cons p)

    strings_all : (ms : List Bytes) (x : Bytes) → Memᴰ x (strings (reverse ms)) → Memᴰ x (strings_over fresh_chain ms)
    unfolding value strings
    strings_all ms x h = go (strings_in ms [] x h)
      where
        go : Memᴰ x (strings_over fresh_chain ms) ⊎ Memᴰ x [] → Memᴰ x (strings_over fresh_chain ms)
        go (inl p) = p
        go (inr p) = elim p [ ]

    pub over_agree : (ms ns : List Bytes) → over fresh_chain ms ≡ over fresh_chain ns
        → (ms ≡ ns) ⊎ Found (strings_over fresh_chain ms ++ strings_over fresh_chain ns)
    unfolding value
    over_agree ms ns e = go (agree (reverse ms) (reverse ns) (sym (value_is ms []) ∙ e ∙ value_is ns []))
      where
        go : (reverse ms ≡ reverse ns) ⊎ Found (strings (reverse ms) ++ strings (reverse ns))
            → (ms ≡ ns) ⊎ Found (strings_over fresh_chain ms ++ strings_over fresh_chain ns)
        go (inl p) = inl (sym (reverse-reverse ms) ∙ ap reverse p ∙ reverse-reverse ns)
        go (inr f) = inr (found-more (more _ _ _ _ (strings_all ms) (strings_all ns)) f)
