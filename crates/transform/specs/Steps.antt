-- What the steps of sealing and opening promise to each other. A primed name is the value afterwards.
-- Assumes nothing.
use Rattle.std.specs.Prelude.{◌≡◌, Bool, List, [], ◌∷◌, ◌++◌, ℕ, ◌+◌, ◌≤◌, ◌<◌, eqb, length, Result}
use Rattle.std.specs.Result.{IfOk}
use Rattle.std.proofs.Math.Option.{Option, get_or}
use Rattle.octets.specs.Maybe.{is_some}
use Rattle.protocol.specs.Bytes.{Bytes}
use Rattle.protocol.specs.Answer.{Answer, when_done, Test, first_else, first_of, judge}
use Rattle.protocol.specs.Connection.{Connection, longest_message}
use Rattle.protocol.specs.TransformHeader.{TransformHeader, header_of, session_id_of}
use Rattle.protocol.specs.InnerHeader.{Envelope}
use Rattle.protocol.specs.Compound.{walk}
use Rattle.protocol.specs.Refusals.{other_session, bad_tag, bad_size}
use Rattle.protocol.specs.Ciphers.{Cipher}
use Rattle.protocol.specs.Transform.{plaintext_under, opened_to}
use Rattle.protocol.specs.Calls.{key_tests, message_tests, header_tests, text_tests}
use Rattle.protocol.specs.Suite.{ciphers}
use Rattle.answer.specs.declared.refusal.Refusal.{Refusal}
use Rattle.answer.specs.Reading.{number_in}
use Rattle.transform_header.specs.declared.TransformHeader as code
use Rattle.transform_header.specs.Reading.{header_from, header_in}

-- ---- the ciphers by number, with the cipher x

-- sealing: the text becomes text', and r is the tag
pub record Enciphered (x : Cipher) (key nonce auth text text' r : Bytes) : Type 0 where
  pub bytes : text' ≡ x.encrypt key nonce auth text
  pub tagged : r ≡ x.tag key nonce auth text

-- opening: the body becomes body', and r says whether the tag received was right
pub record Deciphered (x : Cipher) (key nonce auth received body body' : Bytes) (r : Bool) : Type 0 where
  pub right : r ≡ is_some (x.decrypt key nonce auth received body)
  pub bytes : body' ≡ get_or (x.decrypt key nonce auth received body) body

-- ---- messages

-- 40, 1 to 5, 29, 6: the lines of opening before the tag
abbrev pub opening_lines : Connection → Bytes → ℕ → Bytes → List Test
opening_lines c key id m =
    key_tests c key ++ (message_tests c m ++ (header_tests c (header_of m) ++ (other_session (eqb (session_id_of m) id) ∷ [])))

-- the same as one chain with no guard, over a header that is all zeros where the message is too short for one
abbrev pub opening_chain : Connection → Bytes → ℕ → Bytes → ℕ
opening_chain c key id m =
    let h = header_in m in
    let line6 = first_of (other_session (eqb h.session_id id) ∷ []) in
    first_else (key_tests c key) (first_else (message_tests c m) (first_else (header_tests c h) line6))

-- what passes them has this header
pub record Opens (c : Connection) (key : Bytes) (id : ℕ) (m : Bytes) (r : Result code.TransformHeader Refusal) : Type 0 where
  pub number : number_in r ≡ first_of (opening_lines c key id m)
  pub chained : number_in r ≡ opening_chain c key id m
  pub header : IfOk r (λ h. header_from h ≡ header_of m)

-- lengths that 2 and 3 let pass
pub record Sized (m : Bytes) : Type 0 where
  pub long : 52 < length m
  pub short : length m ≤ 52 + longest_message

-- 10 and then the walk, of a text of n bytes
abbrev pub size_then_walk : TransformHeader → Envelope → ℕ → Bytes → Answer
size_then_walk h e n text = judge (bad_size h n ∷ []) (walk text e)

-- the plaintext of the body behind the header h, if the tag is right
abbrev pub deciphered : ℕ → Bytes → TransformHeader → Bytes → Option Bytes
deciphered cipher key h body = ciphers.decrypt cipher key h.nonce h.authenticated_data h.signature body

-- opening the body in place from the tag on: the answer is a
pub record OpensBody (cipher : ℕ) (key : Bytes) (h : TransformHeader) (e : Envelope) (body body' : Bytes) (a : Answer) : Type 0 where
  pub answer : a ≡ judge (bad_tag (deciphered cipher key h body) ∷ []) (size_then_walk h e (length body) (get_or (deciphered cipher key h body) []))
  pub bytes : body' ≡ when_done a (λ n. get_or (deciphered cipher key h body) []) body

-- the same of the message
pub record OpensMessage (cipher : ℕ) (key : Bytes) (e : Envelope) (m m' : Bytes) (a : Answer) : Type 0 where
  pub answer : a ≡ judge (text_tests m (plaintext_under ciphers cipher key m)) (walk (get_or (plaintext_under ciphers cipher key m) []) e)
  pub bytes : m' ≡ when_done a (λ n. opened_to m (plaintext_under ciphers cipher key m)) m
