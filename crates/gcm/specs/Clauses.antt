-- Helper definitions of the contracts: what sealing and opening in place do.
use Rattle.std.specs.Prelude.{◌≡◌, Bool, List, ℕ, ◌-◌, ◌^◌}
use Rattle.std.proofs.Math.Option.{get_or}
use Rattle.octets.specs.Maybe.{is_some}
use Rattle.gcm.specs.Gcm.{encrypt, tag, decrypt}

-- text and associated data are shorter than this (5.2.1.1 allows more)
abbrev pub longest : ℕ
longest = 2 ^ 32 - 16

module _ (E : List ℕ → List ℕ) (nonce aad : List ℕ) where
  -- what sealing does: the text becomes text', and r is the tag
  pub record Sealed (text text' r : List ℕ) : Type 0 where
    pub bytes : text' ≡ encrypt E nonce text
    pub tagged : r ≡ tag E nonce aad (encrypt E nonce text)

  -- what opening does: the body becomes body', and r says whether the tag received was right
  pub record Opened (received body body' : List ℕ) (r : Bool) : Type 0 where
    pub right : r ≡ is_some (decrypt E nonce aad received body)
    pub bytes : body' ≡ get_or (decrypt E nonce aad received body) body
