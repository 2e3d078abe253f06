-- Right because the place that is found is that of the rules, and where there is none the length is (PlaceLaws).
use mathlib.Core.Bool.{true}
use mathlib.Core.Path.{◌≡◌, refl, ap, ◌∙◌}
use mathlib.Core.List.{List}
use Prim.Native.Nat.{ℕ}
use lib.ListN.{length}
use Rattle.std.specs.Prelude.{Option, Some, None}
use Rattle.std.specs.Option.{unwrap_or}
use Rattle.session_record.specs.declared.Session.{Session}
use Rattle.session_record.specs.Reading.{is_wanted}
use Rattle.session_table.specs.Place.{place_in}
use Rattle.session_table.proofs.PlaceLaws.{place_is}
use Rattle.smb3seal.proofs.table.smb3seal_table_find.Goals as goal

unwrapped : (t : List Session) (o : Option ℕ) → unwrap_or o (length t) ≡ place_in t o
unwrapped t None = refl
unwrapped t (Some i) = refl

pub returns : goal.returns
returns c =
    let t = c.args.table.now in
    c.unwrap_or.ensures ∙ unwrapped t c.find.result ∙ ap (place_in t) c.find.ensures.first ∙ place_is (is_wanted true c.args.id) t
