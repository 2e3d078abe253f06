-- Right because the place of the id is that of the rules, and a free record is put there (TableCalls).
-- Assumes nothing.
use mathlib.Core.Path.{refl, sym, ap, ◌∙◌}
use lib.ListN.{set}
use Rattle.std.specs.Option.{ok_or}
use Rattle.std.specs.Result.{result_ok}
use Rattle.std.proofs.lemmas.Result.{err_from_is_err_and}
use Rattle.answer.specs.declared.refusal.Refusal.TheVariants.{OtherSession}
use Rattle.answer.specs.Reading.{number_in}
use Rattle.session_table.proofs.TableCalls.{removed-none, removed_there}
use Rattle.session_table.proofs.remove.Goals as goal

pub returns-in_err-i : goal.returns-in_err-i
returns-in_err-i c =
    let a = c.args in
    let t = a.table.now in
    let none = c.ok_or.ensures.ok_part ∙ ap result_ok c.in_err-i.was in
    let six = sym (ap number_in c.in_err-i.was) ∙ ap number_in (c.ok_or.ensures.value ∙ ap (λ o. ok_or o OtherSession) none) in
    let p = err_from_is_err_and c.from_residual.result c.from_residual.ensures.1 in
    rw (p.1, p.2, six) (removed-none t t a.id (sym c.find.ensures.first ∙ none) refl)

pub returns : goal.returns
returns c =
    let a = c.args in
    let t = a.table.now in
    let there = sym c.find.ensures.first ∙ c.ok_or.ensures.ok_part ∙ ap result_ok c.in_ok-i.was in
    removed_there t _ a.id c.in_ok-i.i there (ap (set t c.in_ok-i.i) c.vacant.ensures)
