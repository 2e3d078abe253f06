-- Opening, a way out at a time.
-- Assumes nothing.
use mathlib.Core.Path.{◌≡◌, refl, sym, ap, ◌∙◌}
use mathlib.Core.Bool.{Bool, true, false, cond, not}
use mathlib.Core.List.{List, [], ◌∷◌, ◌++◌}
use mathlib.Core.Option.{Option, none, some, get_or}
use Rattle.std.specs.Prelude.{Result, Ok, Err, IfOk}
use Rattle.std.proofs.lemmas.Result.{IfOk-at_ok}
use Prim.Native.Nat.{ℕ, ◌-◌}
use native.Mathlib.Omega.{arith}
use borrow.Author.Tests.{eq-eqb, ne_eqb}
use borrow.Rule.Slice.PartMut.{put_mid}
use lib.Dec.{eqb}
use lib.ListN.{length, take, drop}
use Rattle.octets.specs.Maybe.{is_some}
use Rattle.protocol.specs.Bytes.{Bytes}
use Rattle.protocol.specs.Answer.{Answer, refused, is_refused, Test, first_of, judge}
use Rattle.protocol.specs.Connection.{other, Connection, cipher_used}
use Rattle.protocol.specs.TransformHeader.{TransformHeader, header_of, inner, session_id_of}
use Rattle.protocol.specs.InnerHeader.{Envelope}
use Rattle.protocol.specs.Compound.{walk}
use Rattle.protocol.specs.Refusals.{other_session, bad_tag}
use Rattle.protocol.specs.Ciphers.{cipher_of}
use Rattle.protocol.specs.Transform.{plaintext_under, opened_to}
use Rattle.protocol.specs.Calls.{sent_by, opening_under, only_message, key_tests, message_tests, header_tests, text_tests, tests, effect}
use Rattle.protocol.specs.Contract.{Makes}
use Rattle.protocol.specs.Suite.{suite, ciphers}
use Rattle.protocol.proofs.AnswerLaws.{when_done_lem, when_refused, when_part, after_nothing}
use Rattle.protocol.proofs.CallLaws.{makes_when, makes_refused}
use Rattle.protocol.proofs.First.{First, first-passed}
use Rattle.protocol.proofs.FirstOf.{first-of_both}
use Rattle.protocol.proofs.Judging.{judge-passed, judge-append}
use Rattle.protocol.proofs.SuiteLaws.{suite_sound}
use Rattle.answer.specs.declared.refusal.Refusal.{Refusal}
use Rattle.answer.specs.Reading.{number_of, number_in}
use Rattle.answer.proofs.Results.{passed, refuses_with, stays, goes_on}
use Rattle.transform_header.specs.declared.TransformHeader as code
use Rattle.transform_header.specs.Reading.{header_from, header_in}
use Rattle.transform.specs.Steps.{opening_lines, Opens, Deciphered, size_then_walk, deciphered, OpensBody, OpensMessage}
use Rattle.transform.proofs.Chained.{lines-chained}
use Rattle.transform.proofs.Inner.{lent, back, when_inner}

module _ (h : TransformHeader) (e : Envelope) (n : ℕ) (text : Bytes) where
  pub size_differs : (h.size ≡ n → ⊥) → refused 10 ≡ size_then_walk h e n text
  size_differs d = sym (rw (ne_eqb h.size n d))

  pub size_agrees : h.size ≡ n → walk text e ≡ size_then_walk h e n text
  size_agrees d = sym (rw (eq-eqb h.size n d))

-- the body, from the tag on: text is what the cipher left, and r whether the tag was right
module _ (cipher : ℕ) (key : Bytes) (h : TransformHeader) (e : Envelope) (body text : Bytes) (r : Bool)
    (o : Deciphered (cipher_of cipher) key h.nonce h.authenticated_data h.signature body text r) where
  pub tag_wrong : r ≡ false → OpensBody cipher key h e body text (refused 9)
  unfolding suite
  tag_wrong q = go (deciphered cipher key h body) refl o.right o.bytes
    where
      go : (d : Option Bytes) → deciphered cipher key h body ≡ d → r ≡ is_some d → text ≡ get_or d body → OpensBody cipher key h e body text (refused 9)
      go none s f g = record { answer = rw s; bytes = g }
      go (some p) s f g = absurd (let z : ◌≡◌ {A = ℕ} 0 1 = cc in omega arith)

  -- the plaintext is the text
  tag-right : r ≡ true → deciphered cipher key h body ≡ some text
  unfolding suite
  tag-right q = go (deciphered cipher key h body) o.right o.bytes
    where
      go : (d : Option Bytes) → r ≡ is_some d → text ≡ get_or d body → d ≡ some text
      go none f g = absurd (let z : ◌≡◌ {A = ℕ} 0 1 = cc in omega arith)
      go (some p) f g = ap some (sym g)

  module _ (q : r ≡ true) (a : Answer) (ew : a ≡ size_then_walk h e (length text) text) where
    again : ciphers.encrypt cipher key h.nonce h.authenticated_data text ≡ body
    again = suite_sound.encrypts-again cipher key h.nonce h.authenticated_data h.signature body text (tag-right q)

    same_length : length text ≡ length body
    same_length = sym (suite_sound.encrypt-length cipher key h.nonce h.authenticated_data text) ∙ ap length again

    answered : a ≡ judge (bad_tag (deciphered cipher key h body) ∷ []) (size_then_walk h e (length body) (get_or (deciphered cipher key h body) []))
    answered = ew ∙ rw (same_length, tag-right q)

    pub opened : is_refused a ≡ false → OpensBody cipher key h e body text a
    opened n =
        record {
          answer = answered;
          bytes = sym (when_done_lem a (get_or (deciphered cipher key h body) []) body n ∙ rw (tag-right q));
        }

    -- the key stream, applied again, restores the body
    pub restored : is_refused a ≡ true → (text2 : Bytes) → text2 ≡ (cipher_of cipher).encrypt key h.nonce h.authenticated_data text
        → OpensBody cipher key h e body text2 a
    unfolding suite
    restored n text2 f =
        record {
          answer = answered;
          bytes = f ∙ again ∙ sym (when_refused a (get_or (deciphered cipher key h body) []) body n);
        }

-- the message, from the tag on
module _ (cipher : ℕ) (key : Bytes) (e : Envelope) (m : Bytes) where
  pub message-opened : (h : TransformHeader) (text' : Bytes) (a : Answer) → h ≡ header_of m
      → OpensBody cipher key h e (take (length m - 52) (drop 52 m)) text' a → OpensMessage cipher key e m (put_mid 52 (length m - 52) m text') a
  unfolding plaintext_under
  message-opened h text' a eh o =
      let o' : OpensBody cipher key (header_of m) e (inner m) text' a = rw (eh, lent m) at o in
      record {
        answer = o'.answer;
        bytes =
            back m text'
            ∙ ap (λ (z : Bytes). take 52 m ++ z) o'.bytes
            ∙ when_inner m a (get_or (deciphered cipher key (header_of m) (inner m)) []);
      }

-- ---- the whole: c is what the connection agreed on

module _ (c : Connection) (key : Bytes) (id : ℕ) (m : Bytes) where
  abbrev lines : List Test
  lines = opening_lines c key id m

  -- the number that the lines say is that of the chain
  pub opens-as : (r : Result code.TransformHeader Refusal) → number_in r ≡ first_of lines → IfOk r (λ h. header_from h ≡ header_of m) → Opens c key id m r
  opens-as r e h = record { number = e; chained = e ∙ sym (lines-chained c key id m (header_in m) _ _ _ _ refl refl refl refl refl); header = h }

  pub opens-not : (why : Refusal) → number_of why ≡ first_of lines → Opens c key id m (Err why)
  opens-not why e = opens-as (Err why) e tt

  -- r is what the lines say
  module _ (r : Result code.TransformHeader Refusal) (o : Opens c key id m r) where
    pub lines_refuse : (why : Refusal) → r ≡ Err why → Makes (opening_under c key id) (only_message m) (refused (number_of why)) (only_message m)
    unfolding tests
    lines_refuse why e = makes_refused (opening_under c key id) (only_message m) (refused (number_of why)) (sym (refuses_with lines refl r why _ o.number e)) refl

    module _ (h : code.TransformHeader) (e : r ≡ Ok h) where
      pub header_is : header_from h ≡ header_of m
      header_is = IfOk-at_ok (λ (x : code.TransformHeader). header_from x ≡ header_of m) e o.header

      pub lines-passed : First c key m
      lines-passed =
          first-passed c key m 0
          (sym (first-of_both (key_tests c key ++ message_tests c m) (header_tests c (header_of m) ++ (other_session (eqb (session_id_of m) id) ∷ []))
          (sym o.number ∙ ap number_in e))) refl

      pub message-opens : (used : ℕ) (env : Envelope) (m' : Bytes) (a : Answer) → used ≡ cipher_used c → env ≡ sent_by (other c.role) id → OpensMessage used key env m m' a
          → Makes (opening_under c key id) (only_message m) a (only_message m')
      unfolding tests effect
      message-opens used env m' a eu ee x =
          let x' : OpensMessage (cipher_used c) key (sent_by (other c.role) id) m m' a = rw (eu, ee) at x in
          let text = plaintext_under ciphers (cipher_used c) key m in
          let walked = walk (get_or text []) (sent_by (other c.role) id) in
          let none = passed lines refl r h o.number e in
          makes_when (opening_under c key id) (only_message m) a
          (x'.answer
          ∙ sym (judge-passed lines (judge (text_tests m text) walked) none)
          ∙ sym (judge-append lines (text_tests m text) walked)
          ∙ ap (judge (lines ++ text_tests m text)) (sym (after_nothing walked)))
          (only_message m')
          (ap only_message x'.bytes ∙ when_part only_message a (opened_to m text) m)

-- ---- the lines, a list after the other

module _ (c : Connection) (key : Bytes) (id : ℕ) (m : Bytes) where
  abbrev other_lines : List Test
  other_lines = other_session (eqb (session_id_of m) id) ∷ []

  abbrev front : List Test
  front = message_tests c m ++ header_tests c (header_of m)

  module _ (rk : Result (Unit {0}) Refusal) (k : number_in rk ≡ first_of (key_tests c key)) where
    pub key_refuses : (why : Refusal) → rk ≡ Err why → number_of why ≡ first_of (opening_lines c key id m)
    key_refuses why o = stays (key_tests c key) (front ++ other_lines) rk k why o

    module _ (xk : Unit {0}) (ok : rk ≡ Ok xk) (rh : Result code.TransformHeader Refusal) (t : number_in rh ≡ first_of front) where
      behind_key : first_of (opening_lines c key id m) ≡ first_of (front ++ other_lines)
      behind_key = goes_on (key_tests c key) (front ++ other_lines) rk k xk refl ok

      pub front_refuses : (why : Refusal) → rh ≡ Err why → number_of why ≡ first_of (opening_lines c key id m)
      front_refuses why o = stays front other_lines rh t why o ∙ sym behind_key

      pub all_say : (h : code.TransformHeader) → rh ≡ Ok h → header_from h ≡ header_of m → (ro : Result (Unit {0}) Refusal)
          → number_in ro ≡ cond (not (eqb h.session_id id)) 6 0 → number_in ro ≡ first_of (opening_lines c key id m)
      all_say h oh eh ro u =
          u
          ∙ ap (λ (x : TransformHeader). cond (not (eqb x.session_id id)) 6 0) eh
          ∙ sym (behind_key ∙ goes_on front other_lines rh t h refl oh)
