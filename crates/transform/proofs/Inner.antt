-- The part of a message after the header, lent and back.
-- Assumes nothing.
use mathlib.Core.Path.{◌≡◌, refl, ap, ◌∙◌}
use mathlib.Core.List.{◌++◌, append-nil}
use Prim.Native.Nat.{◌-◌, ◌≤◌}
use native.Mathlib.Omega.{arith}
use lib.ListN.{length, take, drop, length-drop, drop_of_length-le, take-append-drop}
use lib.Seq.{take_all}
use borrow.Rule.Slice.PartMut.{put_mid}
use Rattle.protocol.specs.Bytes.{Bytes}
use Rattle.protocol.specs.Answer.{Answer, done, refused, when_done}
use Rattle.protocol.specs.TransformHeader.{inner}
use Rattle.protocol.specs.Connection.{Connection}
use Rattle.protocol.proofs.First.{First}
use Rattle.transform.specs.Steps.{Sized}

module _ (m : Bytes) where
  pub lent : take (length m - 52) (drop 52 m) ≡ inner m
  lent = take_all (length m - 52) (drop 52 m) (omega (arith, length-drop 52 m))

  pub back : (ys : Bytes) → put_mid 52 (length m - 52) m ys ≡ take 52 m ++ ys
  back ys =
      let h : length (drop 52 m) ≤ length m - 52 = omega (arith, length-drop 52 m) in
      ap (λ (z : Bytes). take 52 m ++ (ys ++ z)) (drop_of_length-le (drop 52 m) h)
      ∙ ap (λ (z : Bytes). take 52 m ++ z) (append-nil ys)

  -- what stands after the header is changed where the answer is done, and so is the message
  pub when_inner : (a : Answer) (p : Bytes) → take 52 m ++ when_done a (λ n. p) (inner m) ≡ when_done a (λ n. take 52 m ++ p) m
  when_inner (done n) p = refl
  when_inner (refused n) p = take-append-drop 52 m

-- what the first tests let pass
pub sized : (c : Connection) (key m : Bytes) → First c key m → Sized m
sized c key m f = record { long = f.long; short = f.short }
