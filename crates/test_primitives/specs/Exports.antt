-- What the exports promise. A call whose buffers have the lengths asked for answers 0 and does its work; any other answers 40, the
-- number for a buffer of the wrong length, and changes nothing. A primed name is the value afterwards.
-- Assumes nothing.
use Rattle.std.specs.Prelude.{Bool, cond, ◌&&◌, List, ◌≡◌, ℕ, ◌^◌, ◌-◌, eqb, ltb, length}
use Rattle.std.proofs.Math.Option.{Option, get_or}
use Rattle.aes.specs.BlockCipher.{block_cipher, expanded_key}
use Rattle.aes.specs.KeySizes.{is_key_length}
use Rattle.octets.specs.Maybe.{is_some}

-- AES under a key
abbrev pub aes : List ℕ → List ℕ → List ℕ
aes key = block_cipher (expanded_key key)

-- out becomes `value` if `fits`
pub record Writes (fits : Bool) (value out out' : List ℕ) (r : ℕ) : Type 0 where
  pub number : r ≡ cond fits 0 40
  pub bytes : out' ≡ cond fits value out

-- the text becomes `body` and the place for the tag `tag`, if `fits`
pub record Seals (fits : Bool) (body tag text text' place place' : List ℕ) (r : ℕ) : Type 0 where
  pub number : r ≡ cond fits 0 40
  pub bytes : text' ≡ cond fits body text
  pub tagged : place' ≡ cond fits tag place

-- 1 for a truth
abbrev pub bit : Bool → ℕ
bit b = cond b 1 0

-- the text becomes what was decrypted, if anything was, and the flag says whether, if `fits`
pub record Opens (fits : Bool) (decrypted : Option (List ℕ)) (text text' : List ℕ) (flag flag' : ℕ) (r : ℕ) : Type 0 where
  pub number : r ≡ cond fits 0 40
  pub bytes : text' ≡ cond fits (get_or decrypted text) text
  pub right : flag' ≡ cond fits (bit (is_some decrypted)) flag

-- the lengths that counter mode asks for: the key's, the prefix's and the text's
abbrev pub ctr_fits : List ℕ → List ℕ → List ℕ → Bool
ctr_fits key prefix text = is_key_length (length key) && eqb (length prefix) 12 && ltb (length text) (2 ^ 32 - 2 ^ 17)

-- the lengths that CCM asks for
abbrev pub ccm_fits : List ℕ → List ℕ → List ℕ → List ℕ → List ℕ → Bool
ccm_fits key nonce aad tag text =
    is_key_length (length key) && eqb (length nonce) 11 && eqb (length aad) 32 && eqb (length tag) 16 && ltb (length text) (2 ^ 32 - 16)

-- the lengths that CMAC asks for: the key's and the place's
abbrev pub cmac_fits : List ℕ → List ℕ → Bool
cmac_fits key code = eqb (length key) 16 && eqb (length code) 16

-- the lengths that GCM asks for
abbrev pub gcm_fits : List ℕ → List ℕ → List ℕ → List ℕ → List ℕ → Bool
gcm_fits key nonce aad tag text =
    is_key_length (length key) && eqb (length nonce) 12 && ltb (length aad) (2 ^ 32 - 16) && eqb (length tag) 16 && ltb (length text) (2 ^ 32 - 16)
