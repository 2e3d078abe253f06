-- Right because the search is for a record that is not used, whatever the id (PlaceLaws).
-- Assumes nothing.
use Rattle.std.proofs.Common.{rules, tests}
use mathlib.Core.Path.{◌≡◌, ap, ◌∙◌}
use mathlib.Core.Bool.{false}
use Rattle.std.specs.Prelude.{position}
use Rattle.std.proofs.lemmas.Iterator.{YieldsList-from_slice}
use Rattle.std.proofs.lemmas.Iterator.Search.{position_from_yields_List}
use Rattle.session_record.specs.Reading.{is_wanted}
use Rattle.session_table.specs.Place.{place_in}
use Rattle.session_table.proofs.PlaceLaws.{place_is}
use Rattle.session_table.proofs.find_free.Goals as goal

pub returns-clause-first : goal.returns-clause-first
returns-clause-first c =
    λ id. position_from_yields_List (is_wanted false id) _ _ _ c.position.ensures.ran (YieldsList-from_slice c.args.table.now cc) (λ x b q k. search (rules, tests))

pub returns-clause-place : goal.returns-clause-place
returns-clause-place c =
    let t = c.args.table.now in
    let found : c.position.result ≡ position (is_wanted false 0) t =
    position_from_yields_List (is_wanted false 0) _ _ c.position.result c.position.ensures.ran (YieldsList-from_slice t cc) (λ x b q k. search (rules, tests)) in
    λ id. ap (place_in t) found ∙ place_is (is_wanted false 0) t
