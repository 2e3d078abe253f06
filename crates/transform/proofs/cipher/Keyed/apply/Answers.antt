-- Right because the key stream of either mode does not depend on the authenticated data (ByNumber).
use Rattle.transform.proofs.ByNumber.{gcm_applied, ccm_applied}
use Rattle.transform.proofs.cipher.Keyed.apply.Goals as goal

pub returns-then-is_gcm : goal.returns-then-is_gcm
returns-then-is_gcm c = λ aad.
    let a = c.args in
    gcm_applied a.self.cipher a.self.key.now a.nonce aad _ _ c.is_gcm.ensures c.if-is_gcm.true c.bytes_at.ensures _ _
    c.apply.ensures

pub returns-else-is_gcm : goal.returns-else-is_gcm
returns-else-is_gcm c = λ aad.
    let a = c.args in
    ccm_applied a.self.cipher a.self.key.now a.nonce aad _ _ c.is_gcm.ensures c.if-is_gcm.false c.bytes_at-else-is_gcm.ensures _ _
    c.apply-else-is_gcm.ensures
