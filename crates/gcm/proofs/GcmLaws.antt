-- Laws of GCM for the layer above: lengths, and that decryption undoes encryption.
use mathlib.Core.Path.{◌≡◌, sym, ap, ◌∙◌}
use mathlib.Core.List.{List}
use mathlib.Core.Option.{some}
use Prim.Native.Nat.{ℕ}
use lib.ListN.{length}
use Rattle.octets.specs.Numbers.{to_big_endian}
use Rattle.octets.specs.Same.{same_bytes}
use Rattle.octets.proofs.NumberLaws.{length-to_big_endian}
use Rattle.octets.proofs.XorWith.{length-xor}
use Rattle.octets.proofs.MaybeLaws.{given_by}
use Rattle.octets.proofs.SameLaws.{same_self}
use Rattle.ctr.specs.Ctr.{counter_blocks}
use Rattle.ctr.proofs.CtrLaws.{length-ctr, ctr_twice}
use Rattle.ghash.specs.Ghash.{ghash}
use Rattle.gcm.specs.Gcm.{encrypt, hash_subkey, hash_input, pre_counter_block, tag, decrypt}

module _ (E : List ℕ → List ℕ) (nonce : List ℕ) where
  pub length-encrypt : (text : List ℕ) → length (encrypt E nonce text) ≡ length text
  unfolding encrypt
  length-encrypt text = length-ctr E (counter_blocks nonce 2) text

  pub encrypt_twice : (text : List ℕ) → encrypt E nonce (encrypt E nonce text) ≡ text
  unfolding encrypt
  encrypt_twice text = ctr_twice E (counter_blocks nonce 2) text

  module _ (aad : List ℕ) where
    pub length-tag : (body : List ℕ) → length (tag E nonce aad body) ≡ 16
    unfolding tag
    length-tag body =
        let s : ℕ = ghash (hash_subkey E) (hash_input aad body) in
        length-xor (to_big_endian 16 s) (E (pre_counter_block nonce)) ∙ length-to_big_endian 16 s

    pub decrypts : (text : List ℕ) → decrypt E nonce aad (tag E nonce aad (encrypt E nonce text)) (encrypt E nonce text) ≡ some text
    unfolding decrypt
    decrypts text = rw (same_self (tag E nonce aad (encrypt E nonce text)), encrypt_twice text)

    module _ (t body : List ℕ) where
      -- what was decrypted, encrypted again, is the body
      pub encrypts-again : (text : List ℕ) → decrypt E nonce aad t body ≡ some text → encrypt E nonce text ≡ body
      unfolding decrypt
      encrypts-again text e =
          ap (encrypt E nonce) (sym (given_by (same_bytes t (tag E nonce aad body)) (encrypt E nonce body) text e).1) ∙ encrypt_twice body
