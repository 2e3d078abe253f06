-- Right because the place of the id and the first free place are those of the rules, and the record put there is the one that adding makes (TableCalls).
-- Assumes nothing.
use mathlib.Core.Path.{sym, ap, subst, ◌∙◌}
use Prim.Native.Nat.{ℕ}
use lib.ListN.{set}
use Rattle.std.specs.Prelude.{Ok, Err}
use Rattle.std.specs.Option.{is_some}
use Rattle.std.proofs.lemmas.Result.{err_from_is_err_and}
use Rattle.answer.specs.Reading.{number_in}
use Rattle.session_record.specs.declared.Session.{Session}
use Rattle.session_record.specs.Adds.{adding_of, made_or, AddsWith}
use Rattle.session_table.specs.Place.{free_place}
use Rattle.session_table.proofs.TableLink.{keeps}
use Rattle.session_table.proofs.TableCalls.{added_says}
use Rattle.session_table.proofs.add.Goals as goal

pub returns-in_err-s : goal.returns-in_err-s
returns-in_err-s c =
    let a = c.args in
    let t = a.table.now in
    let x = adding_of a.a a.chain.now a.material.now in
    let has = c.is_some-taken.ensures ∙ ap is_some c.find.ensures.first in
    let room = c.is_some.ensures ∙ ap is_some (c.find_free-free.ensures.first 0) in
    let told = subst (λ r. (old : Session) → AddsWith x c.is_some-taken.result c.is_some.result old (number_in r) (made_or old r)) c.in_err-s.was c.add_record.ensures in
    let no = added_says t a.a a.material.now a.chain.now _ _ (Err c.in_err-s.field-0.0) t has room told (sym (keeps t (free_place t))) in
    let p = err_from_is_err_and c.from_residual.result c.from_residual.ensures.1 in
    rw (p.1, p.2) no

pub returns : goal.returns
returns c =
    let a = c.args in
    let t = a.table.now in
    let x = adding_of a.a a.chain.now a.material.now in
    let s = c.in_ok-s.s in
    let has = c.is_some-taken.ensures ∙ ap is_some c.find.ensures.first in
    let room = c.is_some.ensures ∙ ap is_some (c.find_free-free.ensures.first 0) in
    let told = subst (λ r. (old : Session) → AddsWith x c.is_some-taken.result c.is_some.result old (number_in r) (made_or old r)) c.in_ok-s.was c.add_record.ensures in
    let at = c.find_free-free.ensures.place 0 in
    added_says t a.a a.material.now a.chain.now _ _ (Ok s) _ has room told (c.put.ensures ∙ ap (λ (i : ℕ). set t i s) at)
