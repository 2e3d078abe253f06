-- The loops of the code: for each what holds before a turn, that it holds at the start and after a turn, and what it gives at the end.
-- Assumes nothing.
use mathlib.Core.Path.{◌≡◌, refl, sym, ap, ap₂, ◌∙◌}
use mathlib.Core.List.{List, [], ◌++◌, append_assoc}
use Prim.Native.Nat.{ℕ, ◌+◌, ◌*◌, ◌/◌, ◌%◌, ◌≤◌, ◌<◌}
use native.Mathlib.Nat.{zero-mul, suc-mul, le_of_eq}
use native.Mathlib.Numerals.{add-one}
use native.Mathlib.Omega.{arith}
use lib.ListN.{length, get_or, take, set, length-set, length-append}
use lib.Seq.{paste}
use Rattle.std.proofs.lemmas.Nat.{div-mul-add}
use Rattle.octets.specs.Numbers.{big_endian, to_big_endian, bytes_at}
use Rattle.sha_2.specs.Sha2.{Sha2, Working, block_size, parse, extended, rounds, compress, hash_blocks, digest}
use Rattle.sha_2.specs.Running.{Going, Goes}
use Rattle.sha_2.proofs.Words.{parse_turn, digest_turn, digest-done}
use Rattle.sha_2.proofs.Rounds.{goes-start, goes_full}
use Rattle.sha_2.proofs.Blocks.{blocks-within, one_more}

-- ---- the words of a block, one a turn

pub record Parsing (p : Sha2) (block w : List ℕ) (i : ℕ) : Type 0 where
  pub bound : i ≤ 16
  pub size : length w ≡ 16 + p.further
  pub words : take i w ≡ parse p i block

module _ (p : Sha2) where
  pub parsing_start : (block w : List ℕ) → length w ≡ 16 + p.further → Parsing p block w 0
  unfolding parse
  parsing_start block w e = record { bound = omega arith; size = e; words = refl }

  pub parsing_turn : {block w : List ℕ} {i x : ℕ} → Parsing p block w i → i < 16 → x ≡ big_endian (bytes_at (i * p.bytes) p.bytes block)
      → Parsing p block (set w i x) (i + 1)
  parsing_turn {block} {w} {i} {x} s h e =
      record {
        bound = omega arith;
        size = length-set w i x ∙ s.size;
        words = parse_turn p block w i x s.words (omega (arith, s.size)) e;
      }

  pub parsing_end : {block w : List ℕ} {i : ℕ} → Parsing p block w i → 16 ≤ i → (length w ≡ 16 + p.further) × (take 16 w ≡ parse p 16 block)
  parsing_end {block} {w} {i} s h =
      let e : i ≡ 16 = omega (arith, s.bound) in
      (s.size, rw e at s.words)

-- ---- the rounds that extend the schedule, eight a turn

pub record First (p : Sha2) (w₀ k : List ℕ) (x : Working) (w : List ℕ) (v : Working) (j : ℕ) : Type 0 where
  pub bound : j ≤ p.further
  pub eighths : j % 8 ≡ 0
  pub constants : k ≡ p.constants
  pub size : length w ≡ 16 + p.further
  pub going : Going p (take 16 w₀) x w v j

module _ (p : Sha2) where
  pub first-start : (w k : List ℕ) (x : Working) → length w ≡ 16 + p.further → k ≡ p.constants → First p w k x w x 0
  first-start w k x e ek = record { bound = omega arith; eighths = refl; constants = ek; size = e; going = goes-start p w x e }

  -- what eight rounds ask
  pub first_asks : {w₀ k w : List ℕ} {x v : Working} {j : ℕ} → p.further % 8 ≡ 0 → First p w₀ k x w v j → j < p.further
      → (j + 8 ≤ p.further) × (length w ≡ 16 + p.further) × (k ≡ p.constants)
  first_asks e s h = (omega (arith, s.eighths), s.size, s.constants)

  pub first_turn : {w₀ k w w' : List ℕ} {x v v' : Working} {j : ℕ} → p.further % 8 ≡ 0 → First p w₀ k x w v j → j < p.further
      → length w' ≡ 16 + p.further → Goes p 8 j w v w' v' → First p w₀ k x w' v' (j + 8)
  first_turn e s h size g =
      record {
        bound = (first_asks e s h).0;
        eighths = omega (arith, s.eighths);
        constants = s.constants;
        size = size;
        going = g.goes _ _ s.going;
      }

  pub first-end : {w₀ k w : List ℕ} {x v : Working} {j : ℕ} → First p w₀ k x w v j → p.further ≤ j
      → (length w ≡ 16 + p.further) × (w ≡ extended p p.further (take 16 w₀)) × (v ≡ rounds p w p.further x)
  first-end {w₀} {k} {w} {x} {v} {j} s h =
      let e : j ≡ p.further = omega (arith, s.bound) in
      let g = goes_full p (take 16 w₀) w x v j s.size e s.going in
      (s.size, g.0, g.1)

-- ---- the whole blocks of a byte string, one a turn: from the hash value hs, `whole` has been taken in, and `rest` is left

pub record Taking (p : Sha2) (hs m h rest : List ℕ) : Type 0 where
  pub taken : ℕ
  pub whole : List ℕ
  pub joined : m ≡ whole ++ rest
  pub size : length whole ≡ taken * block_size p
  pub value : h ≡ hash_blocks p hs taken whole

module _ (p : Sha2) where
  pub taking_start : (hs m : List ℕ) → Taking p hs m hs m
  unfolding hash_blocks
  taking_start hs m = record { taken = 0; whole = []; joined = refl; size = sym (zero-mul (block_size p)); value = refl }

  pub taking_turn : {hs m h h' rest rest' : List ℕ} (block : List ℕ) → Taking p hs m h rest → rest ≡ block ++ rest' → length block ≡ block_size p
      → h' ≡ compress p h block → Taking p hs m h' rest'
  taking_turn {hs} {m} {h} {h'} {rest} {rest'} block s e l eh =
      record {
        taken = s.taken + 1;
        whole = s.whole ++ block;
        joined = s.joined ∙ ap (λ (x : List ℕ). s.whole ++ x) e ∙ sym (append_assoc s.whole block rest');
        size = length-append s.whole block ∙ ap₂ ◌+◌ s.size l ∙ sym (ap (λ (n : ℕ). n * block_size p) (add-one s.taken) ∙ suc-mul s.taken (block_size p));
        value = eh ∙ ap (λ (x : List ℕ). compress p x block) s.value ∙ sym (one_more p hs s.taken s.whole block s.size l);
      }

  pub taking_end : {hs m h rest : List ℕ} → Taking p hs m h rest → length rest < block_size p → h ≡ hash_blocks p hs (length m / block_size p) m
  taking_end {hs} {m} {h} {rest} s l =
      let n : length m ≡ s.taken * block_size p + length rest = ap length s.joined ∙ length-append s.whole rest ∙ ap (λ (k : ℕ). k + length rest) s.size in
      let e : length m / block_size p ≡ s.taken = ap (λ (k : ℕ). k / block_size p) n ∙ div-mul-add s.taken (block_size p) (length rest) l in
      s.value
      ∙ sym (blocks-within p hs s.taken s.whole rest (le_of_eq (sym s.size)))
      ∙ ap₂ (λ (k : ℕ) (x : List ℕ). hash_blocks p hs k x) (sym e) (sym s.joined)

-- ---- the words of the digest, one a turn

pub record Digesting (p : Sha2) (hs out : List ℕ) (i : ℕ) : Type 0 where
  pub bound : i ≤ 8
  pub size : length out ≡ 8 * p.bytes
  pub words : take (i * p.bytes) out ≡ digest p i hs

module _ (p : Sha2) where
  pub digesting_start : (hs out : List ℕ) → length out ≡ 8 * p.bytes → Digesting p hs out 0
  unfolding digest
  digesting_start hs out e = record { bound = omega arith; size = e; words = ap (λ (n : ℕ). take n out) (zero-mul p.bytes) }

  pub digesting_turn : {hs out out' b : List ℕ} {i : ℕ} → Digesting p hs out i → (i + 1) * p.bytes ≤ 8 * p.bytes
      → i < 8 → b ≡ to_big_endian p.bytes (get_or hs i 0) → out' ≡ paste out (i * p.bytes) b (length b) → length out' ≡ length out
      → Digesting p hs out' (i + 1)
  digesting_turn {hs} {out} {out'} {b} {i} s r l eb eo el =
      record {
        bound = omega arith;
        size = el ∙ s.size;
        words = digest_turn p hs out out' b i s.words eb (omega (arith, s.size)) eo;
      }

  pub digesting_end : {hs out : List ℕ} {i : ℕ} → Digesting p hs out i → 8 ≤ i → out ≡ digest p 8 hs
  digesting_end {hs} {out} {i} s l = digest-done p hs out i 8 s.words (omega (arith, s.bound)) s.size
