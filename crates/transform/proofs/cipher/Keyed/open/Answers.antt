-- Right because the mode that the number names promises it (ByNumber).
use Rattle.transform.proofs.ByNumber.{gcm_opened, ccm_opened}
use Rattle.transform.proofs.cipher.Keyed.open.Goals as goal

pub returns-then-is_gcm : goal.returns-then-is_gcm
returns-then-is_gcm c =
    let a = c.args in
    gcm_opened a.self.cipher a.self.key.now a.nonce a.aad _ _ c.is_gcm.ensures c.if-is_gcm.true c.bytes_at.ensures _ _ _ _
    c.«open».ensures

pub returns : goal.returns
returns c =
    let a = c.args in
    ccm_opened a.self.cipher a.self.key.now a.nonce a.aad _ _ c.is_gcm.ensures c.if-is_gcm.false c.bytes_at-2.ensures _ _ _ _
    c.open-2.ensures
