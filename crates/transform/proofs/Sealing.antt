-- Sealing, a way out at a time.
-- Assumes nothing.
use mathlib.Core.Path.{◌≡◌, refl, sym, ap, ap₂, ◌∙◌}
use mathlib.Core.Bool.{true, false, true≢false}
use mathlib.Core.List.{[], ◌∷◌, ◌++◌, append_assoc}
use Prim.Native.Nat.{ℕ, ◌+◌, ◌-◌}
use native.Mathlib.Omega.{arith}
use borrow.Author.Tests.{eq-eqb, ne_eqb}
use borrow.Rule.Slice.PartMut.{put_mid}
use lib.ListN.{length, take, drop, length-drop}
use lib.Seq.{paste, take_at, drop_at, take-length, length-take-le, drop-append-add, drop-drop}
use Rattle.std.specs.Prelude.{Result, Ok, Err}
use Rattle.protocol.specs.Bytes.{Bytes}
use Rattle.protocol.specs.Answer.{Answer, done, refused, is_refused, first_of, judge_after}
use Rattle.protocol.specs.Connection.{Connection, cipher_used, last_counter}
use Rattle.protocol.specs.TransformHeader.{protocol_id, nonce_of, authenticated, transform_message, inner}
use Rattle.protocol.specs.Compound.{walk}
use Rattle.protocol.specs.Refusals.{counter_used_up}
use Rattle.protocol.specs.Ciphers.{cipher_of}
use Rattle.protocol.specs.Transform.{sealed_under}
use Rattle.protocol.specs.Calls.{sent_by, sealing_under, message_and_counter, key_tests, message_tests, tests, effect, answer}
use Rattle.protocol.specs.Contract.{Makes}
use Rattle.protocol.specs.Suite.{suite, ciphers}
use Rattle.protocol.proofs.AnswerLaws.{after-done, after-refused}
use Rattle.protocol.proofs.CallLaws.{makes_done}
use Rattle.protocol.proofs.First.{First, first-passed}
use Rattle.protocol.proofs.FirstOf.{none_first}
use Rattle.protocol.proofs.Judging.{refused_judged, judge-passed, judge-done}
use Rattle.answer.specs.declared.refusal.Refusal.{Refusal}
use Rattle.answer.specs.Reading.{number_of, number_in}
use Rattle.answer.proofs.Results.{refuses_with}
use Rattle.transform.specs.Steps.{Sized, Enciphered}
use Rattle.transform.proofs.Inner.{lent, back}

-- writing the header, a field at a time: what is written so far, then the message from p on
written : (m pre s x x' : Bytes) (p q : ℕ) → length pre ≡ p → q ≡ p + length s → x ≡ pre ++ drop p m → x' ≡ paste x p s (length s) → x' ≡ (pre ++ s) ++ drop q m
written m pre s x x' p q lp eq ex e =
    e
    ∙ ap₂ (λ (u v : Bytes). u ++ take (length s) s ++ v) (ap (take p) ex ∙ take_at pre (drop p m) p lp) (ap (drop (p + length s)) ex ∙ rest)
    ∙ ap (λ (u : Bytes). pre ++ u ++ drop q m) (take-length s)
  where
    rest : drop (p + length s) (pre ++ drop p m) ≡ drop q m
    rest =
        ap (λ (k : ℕ). drop (k + length s) (pre ++ drop p m)) (sym lp)
        ∙ drop-append-add pre (drop p m) (length s)
        ∙ drop-drop (length s) p m
        ∙ ap (λ (k : ℕ). drop k m) (sym eq)

pub header-written : (m t auth x1 x2 x3 : Bytes) → length t ≡ 16 → length auth ≡ 32 → x1 ≡ paste m 0 protocol_id 4 → x2 ≡ paste x1 4 t (length t)
    → x3 ≡ paste x2 20 auth (length auth)
    → x3 ≡ transform_message t auth (inner m)
header-written m t auth x1 x2 x3 lt la e1 e2 e3 =
    let w1 : x1 ≡ protocol_id ++ drop 4 m = written m [] protocol_id m x1 0 4 refl refl refl e1 in
    let w2 : x2 ≡ (protocol_id ++ t) ++ drop 20 m = written m protocol_id t x1 x2 4 20 refl (omega arith) w1 e2 in
    let lw : length (protocol_id ++ t) ≡ 20 = omega arith in
    written m (protocol_id ++ t) auth x2 x3 20 52 lw (omega arith) w2 e3 ∙ simp append_assoc

module _ (cipher : ℕ) (key : Bytes) (counter id : ℕ) (m : Bytes) (sized : Sized m) where
  pub message-sealed : (nonce auth text' m2 t : Bytes) → nonce ≡ nonce_of counter → auth ≡ authenticated counter (length m - 52) id
      → Enciphered (cipher_of cipher) key nonce auth (take (length m - 52) (drop 52 m)) text' t
      → m2 ≡ transform_message t auth (inner (put_mid 52 (length m - 52) m text')) → m2 ≡ sealed_under ciphers cipher key counter id (inner m)
  unfolding suite sealed_under
  message-sealed nonce auth text' m2 t en ea s e2 =
      let l = sized.long in
      let s' : Enciphered (cipher_of cipher) key nonce auth (inner m) text' t = rw (lent m) at s in
      let body : inner (put_mid 52 (length m - 52) m text') ≡ text' = ap (drop 52) (back m text') ∙ drop_at (take 52 m) text' 52
      (length-take-le 52 m (omega arith)) in
      e2 ∙ rw (body, s'.bytes, s'.tagged, ea, en, length-drop 52 m)

-- ---- the whole: c is what the connection agreed on, k the counter

module _ (c : Connection) (key : Bytes) (id k : ℕ) (m : Bytes) where
  abbrev sealed : Answer
  sealed = answer suite (sealing_under c key id) (message_and_counter m k)

  module _ (r : Result (Unit {0}) Refusal) (says : number_in r ≡ first_of (key_tests c key ++ message_tests c m)) where
    pub lines_refuse : (why : Refusal) → r ≡ Err why → refused (number_of why) ≡ sealed
    unfolding tests
    lines_refuse why e = sym (refuses_with (key_tests c key ++ message_tests c m) refl r why _ says e)

    pub lines-passed : (x : Unit {0}) → r ≡ Ok x → First c key m
    lines-passed x e = first-passed c key m 0 (sym (ap number_in e) ∙ says) refl

  module _ (f : First c key m) (a : Answer) (w : a ≡ walk (inner m) (sent_by c.role id)) where
    so_far : sealed ≡ judge_after a (counter_used_up k ∷ [])
    unfolding tests
    so_far = judge-passed (key_tests c key ++ message_tests c m) _ f.none ∙ ap (λ (b : Answer). judge_after b (counter_used_up k ∷ [])) (sym w)

    pub walk-refuses : is_refused a ≡ true → a ≡ sealed
    walk-refuses r = sym (so_far ∙ after-refused a (counter_used_up k ∷ []) r)

    module _ (r : is_refused a ≡ false) where
      pub counter-refuses : k ≡ last_counter → refused 17 ≡ sealed
      counter-refuses h = sym (so_far ∙ after-done a (counter_used_up k ∷ []) r ∙ rw (eq-eqb k last_counter h))

      pub counter-passes : (k ≡ last_counter → ⊥) → a ≡ sealed
      counter-passes h = sym (so_far ∙ after-done a (counter_used_up k ∷ []) r ∙ rw (ne_eqb k last_counter h))

  -- what a seal that is done has passed
  module _ (a : Answer) (e : a ≡ sealed) (r : is_refused a ≡ false) where
    pub tests-passed : First c key m
    unfolding tests
    tests-passed = go a e r
      where
        go : (b : Answer) → b ≡ sealed → is_refused b ≡ false → First c key m
        go (done j) q s =
            first-passed c key m 0
            (sym (none_first (key_tests c key ++ message_tests c m) (judge-done (key_tests c key ++ message_tests c m) _ j (sym q)).0)) refl
        go (refused j) q s = absurd (let z : ◌≡◌ {A = ℕ} 0 1 = cc in omega arith)

    -- no seal is done at the last counter
    pub not_last : k ≡ last_counter → ⊥
    unfolding tests
    not_last h = go (walk (inner m) (sent_by c.role id)) refl
      where
        last : (b : Answer) → is_refused (judge_after b (counter_used_up k ∷ [])) ≡ true
        last (done j) = rw (eq-eqb k last_counter h)
        last (refused j) = refl

        go : (b : Answer) → walk (inner m) (sent_by c.role id) ≡ b → ⊥
        go b q = true≢false (sym (ap is_refused e ∙ refused_judged (key_tests c key ++ message_tests c m) _ (last (walk (inner m) (sent_by c.role id)))) ∙ r)

    pub seals : (used : ℕ) (m' : Bytes) → used ≡ cipher_used c → m' ≡ sealed_under ciphers used key k id (inner m)
        → Makes (sealing_under c key id) (message_and_counter m k) a (message_and_counter m' (k + 1))
    unfolding effect
    seals used m' eu em = makes_done (sealing_under c key id) (message_and_counter m k) a e r (message_and_counter m' (k + 1)) (rw (em, eu))
