use mathlib.Core.Path.{◌≡◌, ap, ◌∙◌}
use Prim.Native.Nat.{ℕ, ◌+◌, ◌-◌, ◌*◌, ◌/◌}
use native.Mathlib.Omega.{arith}
use lib.ListN.{length}
use lib.Seq.{paste}
use borrow.Rule.Slice.PartMut.{put_mid}
use Rattle.aes.specs.BlockCipher.{block_cipher}
use Rattle.ctr.specs.Ctr.{ctr, counter_blocks}
use Rattle.ctr.proofs.CtrLaws.{ctr_turn, ctr-end}
use Rattle.ctr.proofs.apply.Goals as goal

pub loop-j-preserved : goal.loop-j-preserved
loop-j-preserved c =
    let a = c.args in
    let E = block_cipher a.cipher.now in
    let T = counter_blocks a.prefix a.first in
    let d = a.text.now in
    let j = c.loop-j.j in
    let m : 16 * j + 16 - 16 * j ≡ 16 = omega arith in
    let next : 16 * j + 16 ≡ 16 * (j + 1) = omega arith in
    ctr_turn E T d j (16 * j + 16 - 16 * j) _ c.loop-j.text _ (omega arith) (omega arith) c.encrypt_counter-stream.ensures c.loop-j.invariant
    (ap (put_mid (16 * j) (16 * j + 16 - 16 * j) c.loop-j.text) c.xor_into.ensures)
    ∙ ap (paste d 0 (ctr E T d)) (ap (λ (n : ℕ). 16 * j + n) m ∙ next)

pub returns-then-whole-text : goal.returns-then-whole-text
returns-then-whole-text c =
    let a = c.args in
    let E = block_cipher a.cipher.now in
    let T = counter_blocks a.prefix a.first in
    let d = a.text.now in
    let j : ℕ = length d / 16 in
    let m : ℕ = length c.loop-j.text - 16 * j in
    let at : c.loop-j.j ≡ j = omega arith in
    ctr-end E T d (16 * j + m) _ (omega arith)
    (ctr_turn E T d j m _ c.loop-j.text _ (omega arith) (omega arith) c.encrypt_counter-stream-then-whole-text.ensures
    (c.loop-j.invariant ∙ ap (λ (n : ℕ). paste d 0 (ctr E T d) (16 * n)) at)
    (ap (put_mid (16 * j) m c.loop-j.text) c.xor_into-then-whole-text.ensures))

pub returns-else-whole-text : goal.returns-else-whole-text
returns-else-whole-text c =
    let a = c.args in
    ctr-end (block_cipher a.cipher.now) (counter_blocks a.prefix a.first) a.text.now (16 * c.loop-j.j) c.loop-j.text (omega arith) c.loop-j.invariant
