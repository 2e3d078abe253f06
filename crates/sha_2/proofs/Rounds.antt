-- The rounds of a block, with the words of the schedule computed along with them: the laws of `Going`.
-- Assumes nothing.
use mathlib.Core.Path.{◌≡◌, refl, sym, ap, ap₂, ◌∙◌, subst}
use mathlib.Core.List.{List}
use Prim.Native.Nat.{ℕ, zero, suc, ◌+◌, ◌-◌, ◌≤◌, ◌<◌}
use native.Mathlib.Nat.{add-zero, add-suc, add_assoc}
use native.Mathlib.Numerals.{add-one}
use native.Mathlib.Omega.{arith}
use lib.ListN.{length, get_or, take, set, length-append, get_or-append}
use lib.Seq.{get_or-take, get_or-set_other, take-suc-set, take-length, length-take-le}
use Rattle.sha_2.specs.Sha2.{Sha2, Working, extended, schedule_word, rounds, round, parse, schedule, compress, sums, working}
use Rattle.sha_2.specs.Running.{Going, Goes}

module _ (p : Sha2) where
  length-extended : (m : List ℕ) (n : ℕ) → length (extended p n m) ≡ length m + n
  unfolding extended
  length-extended m zero = sym (add-zero (length m))
  length-extended m (suc n) = length-append (extended p n m) _ ∙ ap (λ (x : ℕ). x + 1) (length-extended m n) ∙ omega arith

  -- words that are there stay
  extended_keeps : (m : List ℕ) (n k i : ℕ) → i < length m + n → get_or (extended p (n + k) m) i 0 ≡ get_or (extended p n m) i 0
  unfolding extended
  extended_keeps m n zero i h = rw add-zero
  extended_keeps m n (suc k) i h =
      rw add-suc
      (get_or-append (extended p (n + k) m) _ 0 i (omega (arith, length-extended m (n + k))) ∙ extended_keeps m n k i h)

  -- a word more of the schedule, in the array that holds it
  word_more : (m w : List ℕ) (j : ℕ) → length m ≡ 16 → j + 16 < length w → take (j + 16) w ≡ extended p j m
      → take ((j + 1) + 16) (set w (j + 16) (schedule_word p (get_or w j 0) (get_or w (j + 1) 0) (get_or w (j + 9) 0) (get_or w (j + 14) 0)))
      ≡ extended p (j + 1) m
  unfolding extended
  word_more m w j e h g =
      let at : (q : ℕ) → q < 16 → get_or w (j + q) 0 ≡ get_or (extended p j m) (j + q) 0 =
      λ q hq. sym (get_or-take (j + 16) w (j + q) 0 (omega arith)) ∙ ap (λ (l : List ℕ). get_or l (j + q) 0) g in
      let at0 : get_or w j 0 ≡ get_or (extended p j m) j 0 = sym (get_or-take (j + 16) w j 0 (omega arith)) ∙ ap (λ (l : List ℕ). get_or l j 0) g in
      let x = schedule_word p (get_or w j 0) (get_or w (j + 1) 0) (get_or w (j + 9) 0) (get_or w (j + 14) 0) in
      let e1 : (j + 1) + 16 ≡ suc (j + 16) = omega arith in
      ap (λ (n : ℕ). take n (set w (j + 16) x)) e1
      ∙ take-suc-set w (j + 16) x h
      ∙ cc (at0, at 1 (omega arith), at 9 (omega arith), at 14 (omega arith))
      ∙ ap (λ (n : ℕ). extended p n m) (sym (add-one j))

  -- the word that round j takes, in the array
  word_at : (m w : List ℕ) (j : ℕ) → length m ≡ 16 → j ≤ p.further → take (j + 16) w ≡ extended p j m → get_or w j 0 ≡ get_or (extended p p.further m) j 0
  word_at m w j e h g =
      let q : j + (p.further - j) ≡ p.further = omega arith in
      sym (get_or-take (j + 16) w j 0 (omega arith))
      ∙ ap (λ (l : List ℕ). get_or l j 0) g
      ∙ sym (extended_keeps m j (p.further - j) j (omega arith))
      ∙ ap (λ (n : ℕ). get_or (extended p n m) j 0) q

  -- a round more
  round-more : (ws constants : List ℕ) (j : ℕ) (v v' x : Working) → v ≡ rounds p ws j x → constants ≡ p.constants
      → v' ≡ round p (get_or constants j 0) (get_or ws j 0) v → v' ≡ rounds p ws (j + 1) x
  unfolding rounds
  round-more ws constants j v v' x ev ek e = e ∙ rw (add-one, ev, ek)

  -- two rounds more
  pub two_more : (ws : List ℕ) (j : ℕ) {constants : List ℕ} {v v' v'' : Working} → constants ≡ p.constants
      → v' ≡ round p (get_or constants j 0) (get_or ws j 0) v
      → v'' ≡ round p (get_or constants (j + 1) 0) (get_or ws (j + 1) 0) v' → (x : Working) → v ≡ rounds p ws j x → v'' ≡ rounds p ws (j + 2) x
  two_more ws j {constants} {v} {v'} {v''} ek e₁ e₂ x e =
      round-more ws constants (j + 1) v' v'' x (round-more ws constants j v v' x e ek e₁) ek e₂ ∙ ap (λ (i : ℕ). rounds p ws i x) (add_assoc j 1 1)

  -- round j, and the word of the schedule sixteen places on
  pub goes_one : {constants w : List ℕ} {j y : ℕ} {v v' : Working} → j < p.further → length w ≡ 16 + p.further → constants ≡ p.constants
      → y ≡ schedule_word p (get_or w j 0) (get_or w (j + 1) 0) (get_or w (j + 9) 0) (get_or w (j + 14) 0)
      → v' ≡ round p (get_or constants j 0) (get_or (set w (j + 16) y) j 0) v
      → Goes p 1 j w v (set w (j + 16) y) v'
  goes_one {constants} {w} {j} {y} {v} {v'} h size ek ey ev = record {
    goes = λ m x g.
        let b : j + 16 < length w = omega arith in
        let ws : List ℕ = extended p p.further m in
        let ew : get_or (set w (j + 16) y) j 0 ≡ get_or ws j 0 =
        get_or-set_other w (j + 16) j y 0 (λ e. omega arith) ∙ word_at m w j g.block (omega arith) g.words in
        record {
          block = g.block;
          words = ap (λ (z : ℕ). take (j + 1 + 16) (set w (j + 16) z)) ey ∙ word_more m w j g.block b g.words;
          state = round-more ws constants j v v' x g.state ek (ev ∙ ap (λ (z : ℕ). round p (get_or constants j 0) z v) ew);
        };
  }

  -- k rounds more after n
  pub goes-more : {n k j : ℕ} {w w' w'' : List ℕ} {v v' v'' : Working} → Goes p n j w v w' v' → Goes p k (j + n) w' v' w'' v'' → Goes p (n + k) j w v w'' v''
  goes-more {n} {k} {j} {w} {w'} {w''} {v} {v'} {v''} f g =
      record { goes = λ m x s. subst (λ (i : ℕ). Going p m x w'' v'' i) (add_assoc j n k) (g.goes m x (f.goes m x s)) }

  pub goes-start : (w : List ℕ) (v : Working) → length w ≡ 16 + p.further → Going p (take 16 w) v w v 0
  unfolding extended rounds
  goes-start w v size =
      record { block = length-take-le 16 w (omega arith); words = refl; state = refl }

  -- the array is full: it is the schedule
  pub goes_full : (m w : List ℕ) (x v : Working) (j : ℕ) → length w ≡ 16 + p.further → j ≡ p.further → Going p m x w v j
      → (w ≡ extended p p.further m) × (v ≡ rounds p w p.further x)
  goes_full m w x v j size e g =
      let l : length w ≡ j + 16 = omega arith in
      let ew : w ≡ extended p p.further m =
      sym (take-length w) ∙ ap (λ (n : ℕ). take n w) l ∙ g.words ∙ ap (λ (n : ℕ). extended p n m) e in
      (ew, g.state ∙ ap₂ (λ (ws : List ℕ) (n : ℕ). rounds p ws n x) (sym ew) e)

  -- a block, from its words, its schedule and all rounds
  pub compressed : {w' r : List ℕ} {v v' : Working} (hs block w : List ℕ) → take 16 w ≡ parse p 16 block → v ≡ working hs
      → w' ≡ extended p p.further (take 16 w) → v' ≡ rounds p w' (16 + p.further) v → r ≡ sums p hs v'
      → r ≡ compress p hs block
  unfolding compress schedule
  compressed hs block w em ev ew ev' er = cc
