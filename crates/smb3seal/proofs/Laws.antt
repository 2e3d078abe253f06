-- The number and the place for what the answer carries, out of what the crates below promise.
-- Assumes nothing.
use mathlib.Core.Path.{◌≡◌, ap, ◌∙◌}
use Prim.Native.Nat.{ℕ}
use Rattle.protocol.specs.Bytes.{Bytes}
use Rattle.protocol.specs.Answer.{Answer, answer_number, carried}
use Rattle.protocol.specs.Connection.{Connection}
use Rattle.protocol.specs.Preauth.{FoldKind}
use Rattle.protocol.specs.Calls.{Call, Lent, folding, only_chain}
use Rattle.protocol.specs.Contract.{Makes, Returns}
use Rattle.answer.specs.Reading.{marked}
use Rattle.preauth.proofs.FoldLaws.{fold_mark_lem}
use Rattle.smb3seal.specs.Exports.{Reports}

-- the call k c, of the connection that the code made, answered a
module _ (k : Connection → Call) (c c' : Connection) (same : c ≡ c') (w w' : Lent) (a : Answer) (m : Makes (k c) w a w') (n : ℕ) (en : n ≡ answer_number a) where
  made : Makes (k c') w a w'
  made = rw same at m

  pub returned : Returns (k c') w n w'
  returned = record { number = en ∙ ap answer_number made.answers; leaves = made.leaves }

  pub reported : (h h' : ℕ) → h' ≡ carried a h → Reports (k c') w n w' h h'
  reported h h' e = record { returns = returned; reports = e ∙ ap (λ (b : Answer). carried b h) made.answers }

-- and one that takes no connection
module _ (c : Call) (w w' : Lent) (a : Answer) (m : Makes c w a w') (n : ℕ) (en : n ≡ answer_number a) where
  pub returned_alone : Returns c w n w'
  returned_alone = record { number = en ∙ ap answer_number m.answers; leaves = m.leaves }

  pub reported_alone : (h h' : ℕ) → h' ≡ carried a h → Reports c w n w' h h'
  reported_alone h h' e = record { returns = returned_alone; reports = e ∙ ap (λ (b : Answer). carried b h) m.answers }
