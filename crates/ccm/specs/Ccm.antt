-- CCM with a nonce of 11 bytes and a tag of 16: q is 4 and t is 16. What the layer above cites.
use Rattle.std.specs.Prelude.{List, ℕ}
use Rattle.std.proofs.Math.Option.{Option}
use Rattle.ccm.specs.General as general

abbrev pub encrypt : (List ℕ → List ℕ) → List ℕ → List ℕ → List ℕ
encrypt E nonce text = general.encrypt E 4 nonce text

abbrev pub tag : (List ℕ → List ℕ) → List ℕ → List ℕ → List ℕ → List ℕ
tag E nonce aad text = general.tag E 4 16 nonce aad text

abbrev pub decrypt : (List ℕ → List ℕ) → List ℕ → List ℕ → List ℕ → List ℕ → Option (List ℕ)
decrypt E nonce aad received body = general.decrypt E 4 16 nonce aad received body
