-- The two ways out of opening: the tag is right, or the key stream is applied again.
use mathlib.Core.Bool.{Bool, true, false}
use mathlib.Core.List.{List}
use mathlib.Core.Path.{◌≡◌, sym, ap, ◌∙◌}
use Prim.Native.Nat.{ℕ}
use Rattle.octets.specs.Same.{same_bytes}
use Rattle.ccm.specs.Clauses.{Opened}
use Rattle.ccm.specs.Ccm.{encrypt, tag}
use Rattle.ccm.specs.General as general
use Rattle.ccm.proofs.CcmLaws.{encrypt_twice}

-- r says whether the tag received is u
module _ (E : List ℕ → List ℕ) (nonce aad received body mid u : List ℕ) (em : mid ≡ encrypt E nonce body) (eu : u ≡ tag E nonce aad mid)
    (r : Bool) (er : r ≡ same_bytes received u) where
  pub opened-right : r ≡ true → Opened E nonce aad received body mid r
  unfolding general.decrypt
  opened-right s =
      let q : same_bytes received (tag E nonce aad (encrypt E nonce body)) ≡ true = rw (← em, ← eu) (sym er ∙ s) in
      record { right = rw q s; bytes = rw q em }

  pub opened_wrong : (last : List ℕ) → r ≡ false → last ≡ encrypt E nonce mid → Opened E nonce aad received body last r
  unfolding general.decrypt
  opened_wrong last s el =
      let q : same_bytes received (tag E nonce aad (encrypt E nonce body)) ≡ false = rw (← em, ← eu) (sym er ∙ s) in
      record { right = rw q s; bytes = rw q (el ∙ ap (encrypt E nonce) em ∙ encrypt_twice E 4 nonce body) }
