-- Each way out of an export, as a law on lists.
-- Assumes nothing.
use mathlib.Core.Bool.{Bool, true, false, cond, ◌&&◌}
use mathlib.Core.List.{List}
use mathlib.Core.Option.{Option, get_or}
use mathlib.Core.Path.{◌≡◌, ap, ap₂, ◌∙◌}
use Prim.Native.Nat.{ℕ, ◌<◌, ◌-◌, ◌^◌}
use native.Mathlib.Nat.{le_of_eq}
use native.Mathlib.Omega.{arith}
use borrow.Author.Tests.{eqb-true, ltb-true}
use lib.Dec.{eqb, ltb}
use lib.ListN.{length}
use lib.Seq.{paste, take_all}
use Rattle.octets.proofs.BoolLaws.{and_true}
use Rattle.aes.specs.KeySizes.{is_key_length}
use Rattle.octets.specs.Maybe.{is_some}
use Rattle.octets.specs.Numbers.{bytes_at}
use Rattle.octets.proofs.Paste.{paste_all}
use Rattle.test_primitives.specs.Exports.{Writes, Seals, Opens, bit, ctr_fits, ccm_fits, gcm_fits}

-- an array read off a slice of its length is the slice
pub whole : (n : ℕ) (b r : List ℕ) → length b ≡ n → r ≡ bytes_at 0 n b → r ≡ b
whole n b r h e = e ∙ take_all n b (le_of_eq h)

-- a place that a value fills whole
pub filled : (d v d' : List ℕ) → length d ≡ length v → d' ≡ paste d 0 v (length v) → d' ≡ v
filled d v d' h e = e ∙ paste_all d 0 v (omega arith)

module _ (b : Bool) where
  pub writes : (value out out' : List ℕ) → b ≡ true → out' ≡ value → Writes b value out out' 0
  writes value out out' t e = record { number = rw t; bytes = rw t e }

  pub writes_not : (value out : List ℕ) → b ≡ false → Writes b value out out 40
  writes_not value out f = record { number = rw f; bytes = rw f }

  pub seals : (body tag text text' place place' : List ℕ) → b ≡ true → text' ≡ body → place' ≡ tag → Seals b body tag text text' place place' 0
  seals body tag text text' place place' t e d = record { number = rw t; bytes = rw t e; tagged = rw t d }

  pub seals_not : (body tag text place : List ℕ) → b ≡ false → Seals b body tag text text place place 40
  seals_not body tag text place f = record { number = rw f; bytes = rw f; tagged = rw f }

  pub opens : (decrypted : Option (List ℕ)) (text text' : List ℕ) (flag flag' : ℕ) (r : Bool) → b ≡ true → text' ≡ get_or decrypted text
      → r ≡ is_some decrypted → flag' ≡ bit r → Opens b decrypted text text' flag flag' 0
  opens decrypted text text' flag flag' r t e d g = record { number = rw t; bytes = rw t e; right = rw t (g ∙ ap bit d) }

  pub opens_not : (decrypted : Option (List ℕ)) (text : List ℕ) (flag : ℕ) → b ≡ false → Opens b decrypted text text flag flag 40
  opens_not decrypted text flag f = record { number = rw f; bytes = rw f; right = rw f }

-- a value of n bytes, put to its place
pub writes_value : {v out out' : List ℕ} {r : ℕ} (n : ℕ) (value : List ℕ) → length v ≡ n → v ≡ value → Writes (eqb (length out) (length v)) v out out' r
    → Writes (eqb (length out) n) value out out' r
writes_value {v} {out} n value l e w =
    record {
      number = w.number ∙ ap (λ (k : ℕ). cond (eqb (length out) k) 0 40) l;
      bytes = w.bytes ∙ ap₂ (λ (k : ℕ) (x : List ℕ). cond (eqb (length out) k) x out) l e;
    }

-- ---- the tests of lengths

pub three : (a b c : Bool) → (a && b && c) ≡ true → (a ≡ true) × (b ≡ true) × (c ≡ true)
three a b c e =
    let p = and_true (a && b) c e in
    let q = and_true a b p.0 in
    (q.0, q.1, p.1)

five : (a b c d f : Bool) → (a && b && c && d && f) ≡ true → (a ≡ true) × (b ≡ true) × (c ≡ true) × (d ≡ true) × (f ≡ true)
five a b c d f e =
    let p = and_true (a && b && c && d) f e in
    let q = and_true (a && b && c) d p.0 in
    let t = three a b c q.0 in
    (t.0, t.1, t.2, q.1, p.1)

module _ (key nonce text : List ℕ) where
  pub ctr_sized : ctr_fits key nonce text ≡ true → (is_key_length (length key) ≡ true) × (length nonce ≡ 12) × (length text < 2 ^ 32 - 2 ^ 17)
  ctr_sized e =
      let p = three (is_key_length (length key)) (eqb (length nonce) 12) (ltb (length text) (2 ^ 32 - 2 ^ 17)) e in
      (p.0, eqb-true (length nonce) 12 p.1, ltb-true (length text) (2 ^ 32 - 2 ^ 17) p.2)

  module _ (aad tag : List ℕ) where
    pub ccm_sized : ccm_fits key nonce aad tag text ≡ true
        → (is_key_length (length key) ≡ true) × (length nonce ≡ 11) × (length aad ≡ 32) × (length tag ≡ 16) × (length text < 2 ^ 32 - 16)
    ccm_sized e =
        let p = five (is_key_length (length key)) (eqb (length nonce) 11) (eqb (length aad) 32) (eqb (length tag) 16) (ltb (length text) (2 ^ 32 - 16)) e in (
          p.0,
          eqb-true (length nonce) 11 p.1,
          eqb-true (length aad) 32 p.2,
          eqb-true (length tag) 16 p.3,
          ltb-true (length text) (2 ^ 32 - 16) p.4,
        )

    pub gcm_sized : gcm_fits key nonce aad tag text ≡ true
        → (is_key_length (length key) ≡ true) × (length nonce ≡ 12) × (length aad < 2 ^ 32 - 16) × (length tag ≡ 16) × (length text < 2 ^ 32 - 16)
    gcm_sized e =
        let p = five (is_key_length (length key)) (eqb (length nonce) 12) (ltb (length aad) (2 ^ 32 - 16)) (eqb (length tag) 16)
        (ltb (length text) (2 ^ 32 - 16)) e in (
          p.0,
          eqb-true (length nonce) 12 p.1,
          ltb-true (length aad) (2 ^ 32 - 16) p.2,
          eqb-true (length tag) 16 p.3,
          ltb-true (length text) (2 ^ 32 - 16) p.4,
        )
