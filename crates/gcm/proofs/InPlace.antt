-- What the contracts of sealing and opening follow from.
use mathlib.Core.Path.{◌≡◌, ap, ◌∙◌}
use mathlib.Core.Bool.{true, false}
use mathlib.Core.List.{List}
use Prim.Native.Nat.{ℕ}
use Rattle.octets.specs.Same.{same_bytes}
use Rattle.gcm.specs.Gcm.{encrypt, tag, decrypt}
use Rattle.gcm.specs.Clauses.{Sealed, Opened}

pub sealed : (E : List ℕ → List ℕ) (nonce aad text text' t : List ℕ) → text' ≡ encrypt E nonce text → t ≡ tag E nonce aad text'
    → Sealed E nonce aad text text' t
sealed E nonce aad text text' t e et = record { bytes = e; tagged = et ∙ ap (tag E nonce aad) e }

-- u is the tag that the code formed
module _ (E : List ℕ → List ℕ) (nonce aad t body u : List ℕ) (eu : u ≡ tag E nonce aad body) where
  pub opened-right : (body' : List ℕ) → same_bytes t u ≡ true → body' ≡ encrypt E nonce body → Opened E nonce aad t body body' true
  unfolding decrypt
  opened-right body' s e =
      let q : same_bytes t (tag E nonce aad body) ≡ true = rw (← eu) s in
      record { right = rw q; bytes = rw q e }

  pub opened_wrong : same_bytes t u ≡ false → Opened E nonce aad t body body false
  unfolding decrypt
  opened_wrong s =
      let q : same_bytes t (tag E nonce aad body) ≡ false = rw (← eu) s in
      record { right = rw q; bytes = rw q }
