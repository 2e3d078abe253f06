-- Words out of bytes and into bytes, one a turn: the loops of parsing and of the digest.
-- Assumes nothing.
use mathlib.Core.Path.{◌≡◌, sym, ap, ap₂, ◌∙◌}
use mathlib.Core.List.{List, [], ◌∷◌, ◌++◌}
use Prim.Native.Nat.{ℕ, ◌+◌, ◌*◌, ◌≤◌, ◌<◌}
use native.Mathlib.Nat.{suc-mul, le_refl}
use native.Mathlib.Numerals.{add-one}
use native.Mathlib.Omega.{arith}
use lib.ListN.{length, get_or, take, set}
use lib.Seq.{paste, take-paste, take-length, take-suc-set}
use Rattle.octets.specs.Numbers.{big_endian, to_big_endian, bytes_at}
use Rattle.octets.proofs.NumberLaws.{length-to_big_endian}
use Rattle.sha_2.specs.Sha2.{Sha2, parse, digest}

module _ (p : Sha2) where
  -- the word i of the block, stored
  pub parse_turn : (block w : List ℕ) (i x : ℕ) → take i w ≡ parse p i block → i < length w → x ≡ big_endian (bytes_at (i * p.bytes) p.bytes block)
      → take (i + 1) (set w i x) ≡ parse p (i + 1) block
  unfolding parse
  parse_turn block w i x e h ex =
      ap (λ (n : ℕ). take n (set w i x)) (add-one i)
      ∙ take-suc-set w i x h
      ∙ ap₂ (λ (l : List ℕ) (y : ℕ). l ++ (y ∷ [])) e ex
      ∙ ap (λ (n : ℕ). parse p n block) (sym (add-one i))

  -- the bytes of word i, copied
  pub digest_turn : (hs out out' b : List ℕ) (i : ℕ) → take (i * p.bytes) out ≡ digest p i hs → b ≡ to_big_endian p.bytes (get_or hs i 0)
      → (i + 1) * p.bytes ≤ length out → out' ≡ paste out (i * p.bytes) b (length b)
      → take ((i + 1) * p.bytes) out' ≡ digest p (i + 1) hs
  unfolding digest
  digest_turn hs out out' b i e eb h eo =
      let k = p.bytes in
      let lb : length b ≡ k = ap length eb ∙ length-to_big_endian k (get_or hs i 0) in
      let s : (i + 1) * k ≡ i * k + k = ap (λ (n : ℕ). n * k) (add-one i) ∙ suc-mul i k in
      let r : i * k + k ≡ i * k + length b = omega arith in
      ap₂ (λ (n : ℕ) (l : List ℕ). take n l) (s ∙ r) eo
      ∙ take-paste out (i * k) b (length b) (omega arith) (le_refl (length b))
      ∙ ap₂ (λ (x y : List ℕ). x ++ y) e (take-length b ∙ eb)
      ∙ ap (λ (n : ℕ). digest p n hs) (sym (add-one i))

  -- after the last turn
  pub digest-done : (hs out : List ℕ) (i n : ℕ) → take (i * p.bytes) out ≡ digest p i hs → i ≡ n → length out ≡ n * p.bytes → out ≡ digest p n hs
  digest-done hs out i n e q h =
      sym (take-length out) ∙ ap (λ (l : ℕ). take l out) (h ∙ ap (λ (j : ℕ). j * p.bytes) (sym q)) ∙ e ∙ ap (λ (j : ℕ). digest p j hs) q
