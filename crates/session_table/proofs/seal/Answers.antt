-- Right because the record is that of the id, and its counter goes up by one where the answer is done (TableCalls).
-- Assumes nothing.
use mathlib.Core.Path.{refl, sym, ap, subst, ◌∙◌}
use Prim.Native.Nat.{ℕ, ◌<◌, ◌^◌}
use native.Mathlib.Omega.{arith}
use lib.ListN.{length, get_or, set}
use lib.Seq.{set_out}
use borrow.Author.Rules.{rules}
use Rattle.std.proofs.lemmas.Result.{err_from_is_err_and}
use Rattle.answer.specs.Reading.{answer_of}
use Rattle.connection.specs.Reading.{connection_of}
use Rattle.session_record.specs.declared.Session.{Session}
use Rattle.session_record.specs.Clauses.{SealsWith}
use Rattle.session_record.specs.Reading.{free, session_of, stepped}
use Rattle.session_table.specs.Place.{place_in}
use Rattle.session_table.proofs.StepLaws.{step-none}
use Rattle.session_table.proofs.TableLink.{keeps}
use Rattle.session_table.proofs.TableCalls.{sealed_says}
use Rattle.session_table.proofs.seal.Goals as goal

pub returns-in_err-headers : goal.returns-in_err-headers
returns-in_err-headers c =
    let a = c.args in
    let t = a.table.now in
    let m = a.message.now in
    let k = connection_of a.c in
    let s = c.record-s.result in
    let i = place_in t c.find-place.result in
    let at = c.find-place.ensures.place in
    let fits : s.counter < 2 ^ 64 = search rules in
    let told = subst (λ r. SealsWith (session_of s) k a.id m c.seal_record.new.message (answer_of r)) c.in_err-headers.was c.seal_record.ensures in
    let same = sym (ap (set t i) (step-none s ∙ c.record-s.ensures) ∙ keeps t i) in
    let no = sealed_says k a.id m t t c.seal_record.new.message i 0 s _ at c.record-s.ensures fits told refl same in
    let p = err_from_is_err_and c.from_residual.result c.from_residual.ensures.1 in
    rw (p.1, p.2) no

pub returns-in-Some : goal.returns-in-Some
returns-in-Some c =
    let a = c.args in
    let t = a.table.now in
    let m = a.message.now in
    let k = connection_of a.c in
    let s = c.record-s.result in
    let i = place_in t c.find-place.result in
    let at = c.find-place.ensures.place in
    let fits : s.counter < 2 ^ 64 = search rules in
    let told = subst (λ r. SealsWith (session_of s) k a.id m c.seal_record.new.message (answer_of r)) c.in_ok-headers.was c.seal_record.ensures in
    let put =
    c.step.ensures
    ∙ ap (λ (j : ℕ). set t j (stepped 1 (get_or t j free))) (sym (ap (place_in t) c.in-Some.is))
    ∙ ap (λ (x : Session). set t i (stepped 1 x)) (sym c.record-s.ensures) in
    sealed_says k a.id m t _ c.seal_record.new.message i 1 s _ at c.record-s.ensures fits told refl put

pub returns-in_default : goal.returns-in_default
returns-in_default c =
    let a = c.args in
    let t = a.table.now in
    let m = a.message.now in
    let k = connection_of a.c in
    let s = c.record-s.result in
    let i = place_in t c.find-place.result in
    let at = c.find-place.ensures.place in
    let fits : s.counter < 2 ^ 64 = search rules in
    let told = subst (λ r. SealsWith (session_of s) k a.id m c.seal_record.new.message (answer_of r)) c.in_ok-headers.was c.seal_record.ensures in
    let past =
    ap (λ o. set t (place_in t o) (stepped 1 s)) c.in_default.is ∙ set_out t (length t) (stepped 1 s) (omega arith) in
    sealed_says k a.id m t _ c.seal_record.new.message i 1 s _ at c.record-s.ensures fits told refl (sym past)
