-- What derivation answers, and what the place holds then.
-- Assumes nothing.
use mathlib.Core.Path.{◌≡◌, refl, sym, ap, ◌∙◌}
use mathlib.Core.Bool.{Bool}
use mathlib.Core.List.{List}
use Prim.Native.Nat.{ℕ}
use borrow.Author.Tests.{eqb-true, not-false}
use lib.Dec.{eqb}
use lib.ListN.{length}
use Rattle.std.specs.Prelude.{Result, Ok, Err}
use Rattle.octets.proofs.BoolLaws.{and_true}
use Rattle.protocol.specs.Bytes.{Bytes}
use Rattle.protocol.specs.Answer.{Test, first_of}
use Rattle.protocol.specs.Connection.{is_wide, place_bytes}
use Rattle.protocol.specs.Keys.{keys_in_order, derived_keys}
use Rattle.protocol.specs.Calls.{Call, derivation, Lent, only_keys, derivation_tests, tests, effect}
use Rattle.protocol.specs.Contract.{Returns}
use Rattle.protocol.specs.Suite.{kdf}
use Rattle.protocol.proofs.CallLaws.{lines_return, lines_return_done}
use Rattle.protocol.proofs.Judging.{line}
use Rattle.answer.specs.declared.refusal.Refusal.{Refusal}
use Rattle.answer.specs.Reading.{number_of, number_in}
use Rattle.answer.proofs.Results.{refusal_number, passed}
use Rattle.derived_keys.specs.Reading.{stored, keys_in}
use Rattle.derived_keys.proofs.LabelLaws.{derived_lengths}
use Rattle.derived_keys.proofs.Stored.{stored_back}

-- r is what the tests say
module _ {T : Type 0} (dialect cipher : ℕ) (chain material place : Bytes) (r : Result T Refusal)
    (says : number_in r ≡ first_of (derivation_tests dialect cipher chain material place)) where
  abbrev lines : List Test
  lines = derivation_tests dialect cipher chain material place

  abbrev call : Call
  call = derivation dialect cipher chain material

  pub place-fits : (x : T) (wide : Bool) → wide ≡ is_wide dialect cipher → r ≡ Ok x → length place ≡ place_bytes wide
  place-fits x wide w o =
      let none = passed lines refl r x says o in
      let fits = not-false _ (line lines none 40) in
      eqb-true (length place) _ (and_true (eqb (length chain) 64) (eqb (length place) (place_bytes (is_wide dialect cipher))) fits).1 ∙ ap place_bytes (sym w)

  pub left_alone : (why : Refusal) → r ≡ Err why → Returns call (only_keys place) (number_of why) (only_keys place)
  unfolding tests
  left_alone why o = lines_return call (only_keys place) lines 0 (number_of why) refl (sym (ap number_in o) ∙ says) (refusal_number why)

  pub filled : (x : T) (wide : Bool) (after : Bytes) → wide ≡ is_wide dialect cipher → r ≡ Ok x
      → after ≡ keys_in_order (keys_in wide (stored (derived_keys kdf dialect cipher chain material)))
      → Returns call (only_keys place) 0 (only_keys after)
  unfolding tests effect
  filled x wide after w o e =
      let keys = derived_keys kdf dialect cipher chain material in
      let lengths = derived_lengths dialect cipher chain material wide w in
      let read : keys_in wide (stored keys) ≡ keys = stored_back wide keys lengths.0 lengths.1 in
      lines_return_done call (only_keys place) lines 0 0 refl (sym (ap number_in o) ∙ says) refl refl (only_keys after)
      (ap only_keys (e ∙ ap keys_in_order read))
