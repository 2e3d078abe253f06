-- How whole blocks are taken into a hash value: the laws of `hash_blocks` and `Hashed`.
-- Assumes nothing.
use mathlib.Core.Path.{◌≡◌, refl, sym, ap, ap₂, ◌∙◌}
use mathlib.Core.List.{List, [], ◌++◌, append_assoc, append-nil}
use Prim.Native.Nat.{ℕ, zero, suc, ◌+◌, ◌*◌, ◌/◌, ◌≤◌, ◌<◌}
use native.Mathlib.Nat.{zero-mul, suc-mul, add-mul, add-zero, add-suc, mul-div_cancel, le_of_eq}
use native.Mathlib.Omega.{arith}
use lib.ListN.{length, take, drop, length-append, length-drop}
use lib.Seq.{drop-append-le, take-append-le, drop-append-add, take_all}
use Rattle.octets.specs.Numbers.{bytes_at}
use Rattle.sha_2.specs.Sha2.{Sha2, hash_blocks, compress, block_size}
use Rattle.sha_2.specs.Running.{Hashed}

module _ (p : Sha2) where
  -- blocks that lie within a list are those of any longer list
  pub blocks-within : (hs : List ℕ) (n : ℕ) (a b : List ℕ) → n * block_size p ≤ length a → hash_blocks p hs n (a ++ b) ≡ hash_blocks p hs n a
  unfolding hash_blocks
  blocks-within hs zero a b h = refl
  blocks-within hs (suc n) a b h =
      let B = block_size p in
      let e : suc n * B ≡ n * B + B = suc-mul n B in
      let h₁ : n * B ≤ length a = omega arith in
      let h₂ : B ≤ length (drop (n * B) a) = omega (arith, length-drop (n * B) a) in
      ap₂ (λ (x y : List ℕ). compress p x y) (blocks-within hs n a b h₁)
      (ap (λ (x : List ℕ). take B x) (drop-append-le (n * B) a b h₁) ∙ take-append-le B (drop (n * B) a) b h₂)

  -- first those of a, then those of b
  blocks-append : (hs : List ℕ) (i j : ℕ) (a b : List ℕ) → length a ≡ i * block_size p
      → hash_blocks p hs (i + j) (a ++ b) ≡ hash_blocks p (hash_blocks p hs i a) j b
  unfolding hash_blocks
  blocks-append hs i zero a b e = ap (λ (n : ℕ). hash_blocks p hs n (a ++ b)) (add-zero i) ∙ blocks-within hs i a b (le_of_eq (sym e))
  blocks-append hs i (suc j) a b e =
      let B = block_size p in
      ap (λ (n : ℕ). hash_blocks p hs n (a ++ b)) (add-suc i j)
      ∙ ap₂ (λ (x y : List ℕ). compress p x (take B y)) (blocks-append hs i j a b e)
      (ap (λ (n : ℕ). drop n (a ++ b)) (add-mul i j B ∙ ap (λ (n : ℕ). n + j * B) (sym e)) ∙ drop-append-add a b (j * B))

  -- one block more
  pub one_more : (hs : List ℕ) (n : ℕ) (a block : List ℕ) → length a ≡ n * block_size p → length block ≡ block_size p
      → hash_blocks p hs (n + 1) (a ++ block) ≡ compress p (hash_blocks p hs n a) block
  unfolding hash_blocks
  one_more hs n a block e l =
      blocks-append hs n 1 a block e
      ∙ ap (λ (i : ℕ). compress p (hash_blocks p hs n a) (bytes_at i (block_size p) block)) (zero-mul (block_size p))
      ∙ ap (λ (x : List ℕ). compress p (hash_blocks p hs n a) x) (take_all (block_size p) block (le_of_eq l))

  -- two blocks are one and one
  pub one_and_one : (hs a b : List ℕ) → 0 < block_size p → length a ≡ block_size p → length b ≡ block_size p
      → hash_blocks p hs (length (a ++ b) / block_size p) (a ++ b) ≡ hash_blocks p (hash_blocks p hs (length a / block_size p) a) (length b / block_size p) b
  one_and_one hs a b pos la lb =
      let B = block_size p in
      let two : length (a ++ b) / B ≡ 2 = ap (λ (n : ℕ). n / B) (length-append a b ∙ omega (arith, la, lb)) ∙ mul-div_cancel 2 pos in
      let one : (x : List ℕ) → length x ≡ B → length x / B ≡ 1 = λ x l. ap (λ (n : ℕ). n / B) (l ∙ omega arith) ∙ mul-div_cancel 1 pos in
      ap (λ (n : ℕ). hash_blocks p hs n (a ++ b)) two
      ∙ blocks-append hs 1 1 a b (omega (arith, la))
      ∙ ap₂ (λ (i j : ℕ). hash_blocks p (hash_blocks p hs i a) j b) (sym (one a la)) (sym (one b lb))

  -- bytes more of a message
  pub hashed-more : {hs part m : List ℕ} (x : List ℕ) → Hashed p hs part m → Hashed p hs (part ++ x) (m ++ x)
  hashed-more {hs} {part} {m} x s =
      record {
        blocks = s.blocks;
        whole = s.whole;
        joined = ap (λ (l : List ℕ). l ++ x) s.joined ∙ append_assoc s.whole part x;
        size = s.size;
        value = s.value;
      }

  -- the j blocks a of the bytes past the whole blocks are taken in, and b is left
  pub hashed-blocks : {hs m : List ℕ} (j : ℕ) (a b : List ℕ) → length a ≡ j * block_size p → Hashed p hs (a ++ b) m → Hashed p (hash_blocks p hs j a) b m
  hashed-blocks {hs} {m} j a b e s =
      let n = s.blocks in
      let w = s.whole in
      record {
        blocks = n + j;
        whole = w ++ a;
        joined = s.joined ∙ sym (append_assoc w a b);
        size = length-append w a ∙ ap₂ (λ (x y : ℕ). x + y) s.size e ∙ sym (add-mul n j (block_size p));
        value = ap (λ (h : List ℕ). hash_blocks p h j a) s.value ∙ sym (blocks-append p.initial n j w a s.size);
      }

  -- nothing is left
  pub hashed-whole : {hs m : List ℕ} → 0 < block_size p → Hashed p hs [] m → hs ≡ hash_blocks p p.initial (length m / block_size p) m
  hashed-whole {hs} {m} b s =
      let em : m ≡ s.whole = s.joined ∙ append-nil s.whole in
      s.value
      ∙ ap₂ (λ (k : ℕ) (l : List ℕ). hash_blocks p p.initial k l)
      (sym (ap (λ (l : List ℕ). length l / block_size p) em ∙ ap (λ (k : ℕ). k / block_size p) s.size ∙ mul-div_cancel s.blocks b))
      (sym em)
