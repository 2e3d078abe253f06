-- A state of the code, any bytes of which C may lend: what the calls make of it, by its own fields, and the message that it stands for.
-- Assumes nothing.
use Rattle.std.specs.Prelude.{◌≡◌, Bool, true, false, cond, not, ◌&&◌, ◌||◌, List, [], ℕ, ◌+◌, ◌-◌, ◌≤◌, eqb, ltb, leb, length, take, drop, replicate}
use Rattle.std.proofs.Math.Seq.{paste}
use Rattle.octets.specs.Same.{same_bytes}
use Rattle.cmac.specs.declared.Mac.{Mac}
use Rattle.cmac.specs.Running as code
use Rattle.protocol.specs.Bytes.{Bytes}
use Rattle.protocol.specs.Ciphers.{aes}
use Rattle.protocol.specs.Connection.{longest_message}
use Rattle.protocol.specs.InnerHeader.{is_inner_header}
use Rattle.protocol.specs.Signing.{is_signed, signature_field, with_signed_flag, with_signature}
use Rattle.protocol.specs.Pieces.{Underway}
use Rattle.signing_pieces.specs.declared.SignState.{SignState}
use Rattle.signing_pieces.specs.declared.SignStep.{SignStep}

-- ---- any state

-- n bytes more go in
abbrev pub takes : SignState → ℕ → Bool
takes s n = not (eqb s.begun 0) && leb (s.length + n) longest_message

-- the bytes that are signed: the flag set, zeros for the signature
unfoldable pub covered : Bytes → Bytes
covered m = with_signature (replicate 16 0) (with_signed_flag m)

-- the state that a refused begin and a finish hand back: no key is left in it
unfoldable pub no_message : SignState
no_message = record { key = replicate 16 0; header = replicate 64 0; code = code.nothing_taken; length = 0; begun = 0 }

-- that of a begin under the key
unfoldable pub begun_under : Bytes → SignState
begun_under key = record { key = key; header = replicate 64 0; code = code.nothing_taken; length = 0; begun = 1 }

-- that of the piece p, with this header and this code
abbrev pub after : SignState → Bytes → List ℕ → Mac → SignState
after s p header mac = record { key = s.key; header = header; code = mac; length = s.length + length p; begun = s.begun }

-- the piece does not fill the header
unfoldable pub into_header : SignState → Bytes → SignState
into_header s p = after s p (paste s.header s.length p (length p)) s.code

-- it does: the code takes in the header as it is signed, and then the rest of the piece
unfoldable pub filling_header : SignState → Bytes → SignState
filling_header s p =
    let E = aes s.key in
    let front = take (64 - s.length) p in
    let header = paste s.header s.length front (length front) in
    after s p header (code.updated E (code.updated E code.nothing_taken (covered header)) (drop (64 - s.length) p))

-- it comes behind the header
unfoldable pub behind_header : SignState → Bytes → SignState
behind_header s p = after s p s.header (code.updated (aes s.key) s.code p)

abbrev pub in_header : SignState → Bytes → SignState
in_header s p = cond (ltb (length p) (64 - s.length)) (into_header s p) (filling_header s p)

unfoldable pub joined_by : SignState → Bytes → SignState
joined_by s p = cond (ltb s.length 64) (in_header s p) (behind_header s p)

-- what a finish answers of the joined bytes, signing and verifying alike: 11, 12, or else n
abbrev pub joined_else : SignState → ℕ → ℕ
joined_else s n = cond (eqb s.begun 0 || ltb s.length 64) 11 (cond (not (is_inner_header s.header 0)) 12 n)

-- the signature that it makes
unfoldable pub signature_from : SignState → Bytes
signature_from s = code.finished (aes s.key) s.code

-- what verifying answers then: 24, 25
unfoldable pub compared_number : SignState → ℕ
compared_number s = cond (not (is_signed s.header)) 24 (cond (not (same_bytes (signature_field s.header) (signature_from s))) 25 0)

-- what every call hands back
abbrev pub step_with : SignState → ℕ → SignStep
step_with s n = record { state = s; number = n; spare = 0 }

-- ---- the states that calls make

-- of a message under way: its key, its first bytes, and, once the header is whole, the code over what is there
pub record UnderWay (s : SignState) (key joined : Bytes) : Type 0 where
  pub its_key : s.key ≡ key
  pub room : length s.header ≡ 64
  pub front : take (length joined) s.header ≡ take 64 joined
  pub chained : 64 ≤ length joined → code.Holds s.code (aes key) (covered joined)

pub record StandsFor (s : SignState) (u : Underway) : Type 0 where
  pub flag : not (eqb s.begun 0) ≡ u.begun
  pub count : s.length ≡ length u.joined
  pub without_message : u.begun ≡ false → u.joined ≡ []
  pub under_way : u.begun ≡ true → UnderWay s u.start u.joined
