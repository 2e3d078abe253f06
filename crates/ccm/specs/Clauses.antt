-- Helper definitions of the contracts: what sealing and opening in place do.
use Rattle.std.specs.Prelude.{Bool, List, ◌≡◌, ℕ, ◌-◌, ◌^◌}
use Rattle.std.proofs.Math.Option.{get_or}
use Rattle.octets.specs.Maybe.{is_some}
use Rattle.ccm.specs.Ccm.{encrypt, tag, decrypt}

-- texts are shorter than this (A.1 allows 2^32 - 1): their length fits four octets, and so does the number of each counter block
abbrev pub longest : ℕ
longest = 2 ^ 32 - 16

module _ (E : List ℕ → List ℕ) (nonce aad : List ℕ) where
  -- what sealing does: the text becomes text', and r is the tag
  pub record Sealed (text text' r : List ℕ) : Type 0 where
    pub bytes : text' ≡ encrypt E nonce text
    pub tagged : r ≡ tag E nonce aad text

  -- what opening does: the body becomes body', and r says whether the tag received was right
  pub record Opened (received body body' : List ℕ) (r : Bool) : Type 0 where
    pub right : r ≡ is_some (decrypt E nonce aad received body)
    pub bytes : body' ≡ get_or (decrypt E nonce aad received body) body
