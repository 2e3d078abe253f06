-- A message that passed the lines about its length has a header; and the lines about both, one list after the other.
-- Assumes nothing.
use mathlib.Core.Path.{◌≡◌, refl, sym, ap, ◌∙◌}
use mathlib.Core.List.{List, ◌++◌}
use Prim.Native.Nat.{ℕ}
use native.Mathlib.Omega.{arith}
use borrow.Author.Tests.{leb-false}
use lib.ListN.{length}
use Rattle.std.specs.Prelude.{Option, Some, None, Result, Ok, Err}
use Rattle.protocol.specs.Bytes.{Bytes}
use Rattle.protocol.specs.Answer.{Test, first_of}
use Rattle.protocol.specs.Connection.{Connection}
use Rattle.protocol.specs.TransformHeader.{TransformHeader, header_of}
use Rattle.protocol.specs.Calls.{message_tests, header_tests}
use Rattle.protocol.proofs.Judging.{line}
use Rattle.answer.specs.declared.refusal.Refusal.{Refusal}
use Rattle.answer.specs.Reading.{number_of, number_in}
use Rattle.answer.proofs.Results.{passed, stays, goes_on}
use Rattle.transform_header.specs.declared.TransformHeader as code
use Rattle.transform_header.specs.Reading.{header_from, ReadFrom}

module _ (c : Connection) (m : Bytes) (r : Result (Unit {0}) Refusal) (says : number_in r ≡ first_of (message_tests c m)) where
  abbrev lines : List Test
  lines = message_tests c m ++ header_tests c (header_of m)

  pub message_refuses : (why : Refusal) → r ≡ Err why → number_of why ≡ first_of lines
  message_refuses why o = stays (message_tests c m) (header_tests c (header_of m)) r says why o

  module _ (x : Unit {0}) (o : r ≡ Ok x) where
    pub has-header : (h : Option code.TransformHeader) → ReadFrom m h → h ≡ None → ⊥
    has-header None f e =
        let none = passed (message_tests c m) refl r x says o in
        let long = leb-false (length m) 52 (line (message_tests c m) none 2) in
        omega (arith, long, f)
    has-header (Some h) f e = absurd (let z : ◌≡◌ {A = ℕ} 0 1 = cc in omega arith)

    pub header_says : {n : ℕ} (h : code.TransformHeader) → header_from h ≡ header_of m → n ≡ first_of (header_tests c (header_from h)) → n ≡ first_of lines
    header_says h eh t =
        t
        ∙ ap (λ (y : TransformHeader). first_of (header_tests c y)) eh
        ∙ sym (goes_on (message_tests c m) (header_tests c (header_of m)) r says x refl o)
