-- A hash taken in pieces, wherever the cuts fall: the laws of `Holds`.
-- Assumes nothing.
use mathlib.Core.Path.{◌≡◌, refl, sym, ap, ◌∙◌, subst}
use mathlib.Core.List.{List, [], ◌++◌, append_assoc, append-nil}
use Prim.Native.Nat.{ℕ, ◌+◌, ◌-◌, ◌*◌, ◌/◌, ◌%◌, ◌^◌, ◌≤◌, ◌<◌}
use native.Mathlib.Nat.{le_of_eq, le_refl, mod-lt, div-add-mod', mod-add-mod, zero-mul, zero-mod, mod_self}
use native.Mathlib.Omega.{arith}
use lib.ListN.{length, take, drop, length-append, length-drop, take-append-drop}
use lib.Seq.{paste, take-paste, take-length, length-take-le}
use Rattle.octets.proofs.Paste.{paste_all, part_all}
use Rattle.sha_2.specs.Sha2.{Sha2, block_size, hash_blocks, digest, padding, pad, hash}
use Rattle.sha_2.specs.Running.{Hashed, Holds}
use Rattle.sha_2.proofs.Blocks.{blocks-within, hashed-more, hashed-blocks, hashed-whole}

-- a buffer into which x was copied behind its first n bytes
pub filled : (buffer x : List ℕ) (n k : ℕ) → n + length x ≤ length buffer → k ≡ n + length x → take k (paste buffer n x (length x)) ≡ take n buffer ++ x
filled buffer x n k r e =
    ap (λ (i : ℕ). take i (paste buffer n x (length x))) e
    ∙ take-paste buffer n x (length x) (omega arith) (le_refl (length x))
    ∙ ap (λ (l : List ℕ). take n buffer ++ l) (take-length x)

-- the part of x from n on, as code lends it
abbrev from : List ℕ → ℕ → List ℕ
from x n = take (length x - n) (drop n x)

-- the count of a u64 goes on
counts : (count a b : ℕ) → count ≡ a % 2 ^ 64 → (count + b) % 2 ^ 64 ≡ (a + b) % 2 ^ 64
counts count a b e = ap (λ (n : ℕ). (n + b) % 2 ^ 64) e ∙ mod-add-mod a (2 ^ 64) b

module _ (p : Sha2) where
  abbrev B : ℕ
  B = block_size p

  counted-more : {count : ℕ} {buffer hs m : List ℕ} (x : List ℕ) (count' : ℕ) → Holds p count buffer hs m → count' ≡ (count + length x) % 2 ^ 64
      → count' ≡ length (m ++ x) % 2 ^ 64
  counted-more {count} {buffer} {hs} {m} x count' s e =
      e ∙ counts count (length m) (length x) s.counted ∙ ap (λ (n : ℕ). n % 2 ^ 64) (sym (length-append m x))

  pub holds_start : (buffer hs : List ℕ) → length buffer ≡ B → hs ≡ p.initial → Holds p 0 buffer hs []
  unfolding hash_blocks
  holds_start buffer hs e eh =
      record {
        counted = refl;
        room = e;
        state = record { blocks = 0; whole = []; joined = sym (ap (λ (n : ℕ). take n buffer) (zero-mod B)); size = sym (zero-mul B); value = eh };
      }

  -- how many bytes are past the whole blocks
  pub length_part : (count : ℕ) (buffer : List ℕ) → 0 < B → length buffer ≡ B → length (take (count % B) buffer) ≡ count % B
  length_part count buffer pos e = let h = mod-lt count pos in length-take-le (count % B) buffer (omega arith)

  -- a piece that does not fill the buffer
  pub holds_within : {count : ℕ} {buffer hs m buffer' : List ℕ} {count' : ℕ} (x : List ℕ)
      → count' ≡ (count + length x) % 2 ^ 64 → count' % B ≡ count % B + length x → count % B + length x ≤ B
      → buffer' ≡ paste buffer (count % B) x (length x) → length buffer' ≡ B
      → Holds p count buffer hs m → Holds p count' buffer' hs (m ++ x)
  holds_within {count} {buffer} {hs} {m} {buffer'} {count'} x ec en hn eb lb s =
      record {
        counted = counted-more x count' s ec;
        room = lb;
        state =
            subst (λ (l : List ℕ). Hashed p hs l (m ++ x))
            (sym (ap (λ (l : List ℕ). take (count' % B) l) eb ∙ filled buffer x (count % B) (count' % B) (omega (arith, s.room)) en))
            (hashed-more p x s.state);
      }

  -- a piece that fills it: x₁ up to the end of the block, the whole blocks of the rest x₂, and x₃ that is left of it
  pub holds_beyond : {count : ℕ} {buffer hs m buffer₁ buffer₂ hs₁ hs₂ : List ℕ} {count' : ℕ} (x : List ℕ)
      → let room : ℕ = B - count % B in
      let x₁ : List ℕ = take room x in
      let x₂ : List ℕ = from x room in
      let x₃ : List ℕ = from x₂ (length x₂ / B * B) in
      0 < B → count' ≡ (count + length x) % 2 ^ 64 → count' % B ≡ (length x - room) % B → room ≤ length x
      → buffer₁ ≡ paste buffer (count % B) x₁ (length x₁) → length buffer₁ ≡ B
      → hs₁ ≡ hash_blocks p hs (length buffer₁ / B) buffer₁ → hs₂ ≡ hash_blocks p hs₁ (length x₂ / B) x₂
      → buffer₂ ≡ paste buffer₁ 0 x₃ (length x₃) → length buffer₂ ≡ B
      → Holds p count buffer hs m → Holds p count' buffer₂ hs₂ (m ++ x)
  holds_beyond {count} {buffer} {hs} {m} {buffer₁} {buffer₂} {hs₁} {hs₂} {count'} x pos ec en hr eb₁ lb₁ eh₁ eh₂ eb₂ lb₂ s =
      let room : ℕ = B - count % B in
      let x₁ : List ℕ = take room x in
      let x₂ : List ℕ = from x room in
      let whole : ℕ = length x₂ / B * B in
      let x₃ : List ℕ = from x₂ whole in
      let n = count % B in
      let q = length x₂ / B in
      let hn : n < B = mod-lt count pos in
      let l₁ : length x₁ ≡ room = length-take-le room x hr in
      let d₂ : x₂ ≡ drop room x = part_all x room in
      let l₂ : length x₂ ≡ length x - room = ap length d₂ ∙ length-drop room x in
      let d₃ : x₃ ≡ drop whole x₂ = part_all x₂ whole in
      let dm : q * B + length x₂ % B ≡ length x₂ = div-add-mod' (length x₂) B in
      let l₃ : length x₃ ≡ length x₂ % B = ap length d₃ ∙ length-drop whole x₂ ∙ omega arith in
      let hm : length x₂ % B < B = mod-lt (length x₂) pos in
      -- the first block
      let f₁ : buffer₁ ≡ take n buffer ++ x₁ = eb₁ ∙ paste_all buffer n x₁ (omega (arith, s.room)) in
      let s₁ : Hashed p hs buffer₁ (m ++ x₁) = subst (λ (l : List ℕ). Hashed p hs l (m ++ x₁)) (sym f₁) (hashed-more p x₁ s.state) in
      let dv : length buffer₁ / B * B + length buffer₁ % B ≡ length buffer₁ = div-add-mod' (length buffer₁) B in
      let mv : length buffer₁ % B ≡ 0 = ap (λ (i : ℕ). i % B) lb₁ ∙ mod_self B in
      let z₁ : length buffer₁ ≡ length buffer₁ / B * B = omega arith in
      let s₂ : Hashed p hs₁ [] (m ++ x₁) =
      subst (λ (l : List ℕ). Hashed p l [] (m ++ x₁)) (sym eh₁)
      (hashed-blocks p (length buffer₁ / B) buffer₁ [] z₁ (subst (λ (l : List ℕ). Hashed p hs l (m ++ x₁)) (sym (append-nil buffer₁)) s₁)) in
      -- the whole blocks of x₂
      let s₃ : Hashed p hs₁ x₂ ((m ++ x₁) ++ x₂) = hashed-more p x₂ s₂ in
      let hw : whole ≤ length x₂ = omega arith in
      let lw : length (take whole x₂) ≡ q * B = length-take-le whole x₂ hw in
      let j₂ : take whole x₂ ++ x₃ ≡ x₂ = ap (λ (l : List ℕ). take whole x₂ ++ l) d₃ ∙ take-append-drop whole x₂ in
      let s₄ : Hashed p (hash_blocks p hs₁ q (take whole x₂)) x₃ ((m ++ x₁) ++ x₂) =
      hashed-blocks p q (take whole x₂) x₃ lw (subst (λ (l : List ℕ). Hashed p hs₁ l ((m ++ x₁) ++ x₂)) (sym j₂) s₃) in
      let v₂ : hash_blocks p hs₁ q (take whole x₂) ≡ hs₂ =
      sym (eh₂ ∙ ap (λ (l : List ℕ). hash_blocks p hs₁ q l) (sym j₂) ∙ blocks-within p hs₁ q (take whole x₂) x₃ (le_of_eq (sym lw))) in
      -- what is left stands in the buffer
      let f₂ : take (count' % B) buffer₂ ≡ x₃ =
      ap (λ (l : List ℕ). take (count' % B) l) eb₂
      ∙ filled buffer₁ x₃ 0 (count' % B) (omega arith) (en ∙ ap (λ (i : ℕ). i % B) (sym l₂) ∙ sym l₃ ∙ omega arith) in
      let j : (m ++ x₁) ++ x₂ ≡ m ++ x =
      append_assoc m x₁ x₂ ∙ ap (λ (l : List ℕ). m ++ l) (ap (λ (l : List ℕ). x₁ ++ l) d₂ ∙ take-append-drop room x) in
      let s₅ : Hashed p hs₂ (take (count' % B) buffer₂) ((m ++ x₁) ++ x₂) =
      subst (λ (l : List ℕ). Hashed p hs₂ l ((m ++ x₁) ++ x₂)) (sym f₂) (subst (λ (l : List ℕ). Hashed p l x₃ ((m ++ x₁) ++ x₂)) v₂ s₄) in
      record {
        counted = counted-more x count' s ec;
        room = lb₂;
        state = subst (λ (l : List ℕ). Hashed p hs₂ (take (count' % B) buffer₂) l) j s₅;
      }

  -- the last bytes with their padding, in the first `end` bytes of t
  pub holds_end : {count : ℕ} {buffer hs m hs' r : List ℕ} (t : List ℕ) (end : ℕ) → 0 < B → padding p count ≡ padding p (length m)
      → take end t ≡ take (count % B) buffer ++ padding p count → end ≤ length t → end % B ≡ 0
      → hs' ≡ hash_blocks p hs (length (take end t) / B) (take end t) → r ≡ digest p 8 hs' → Holds p count buffer hs m → r ≡ hash p m
  unfolding hash pad
  holds_end {count} {buffer} {hs} {m} {hs'} {r} t end pos epad et le ee eh er s =
      let x = padding p (length m) in
      let y = take end t in
      let e : y ≡ take (count % B) buffer ++ x = et ∙ ap (λ (l : List ℕ). take (count % B) buffer ++ l) epad in
      let s₁ : Hashed p hs (y ++ []) (m ++ x) =
      subst (λ (l : List ℕ). Hashed p hs l (m ++ x)) (sym (append-nil y ∙ e)) (hashed-more p x s.state) in
      let rest : length y % B ≡ 0 = ap (λ (i : ℕ). i % B) (length-take-le end t le) ∙ ee in
      let dv : length y / B * B + length y % B ≡ length y = div-add-mod' (length y) B in
      let z : length y ≡ length y / B * B = omega arith in
      er ∙ ap (digest p 8) (eh ∙ hashed-whole p pos (hashed-blocks p (length y / B) y [] z s₁))
