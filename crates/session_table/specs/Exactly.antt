-- What a call does to the lent table, every byte of it: spare bytes and the values of flags too, which the rules do not see.
-- Assumes nothing.
use Rattle.std.specs.Prelude.{◌≡◌, List, ◌+◌}
use Rattle.protocol.specs.Answer.{when_done}
use Rattle.protocol.specs.SessionTable.{new_record}
use Rattle.protocol.specs.Calls.{Call, derivation, folding, fold_beginning, fold_piece, fold_finishing, sealing_under, opening_under, signing_under, verifying_under}
use Rattle.protocol.specs.Calls.{adding, removing, stepping, sealing, opening, Lent, answer}
use Rattle.protocol.specs.Calls.{sign_beginning, sign_piece, sign_finishing, verify_finishing}
use Rattle.protocol.specs.Suite.{suite, kdf}
use Rattle.session_record.specs.declared.Session.{Session}
use Rattle.session_record.specs.Reading.{free, stored, with_counter, stepped}
use Rattle.session_table.specs.Place.{record_at, put_at, place_of, free_place}

-- the counter one up, and every other byte as it was
abbrev pub counted_up : Session → Session
counted_up s = with_counter (s.counter + 1) s

-- where it answers 0: at most one record is another, and all others are as they were
unfoldable pub changed : Call → List Session → List Session
changed (adding a) t = put_at (free_place t) (stored (new_record kdf a)) t
changed (removing id) t = put_at (place_of id t) free t
changed (stepping id by) t = put_at (place_of id t) (stepped by (record_at (place_of id t) t)) t
changed (sealing c id) t = put_at (place_of id t) (counted_up (record_at (place_of id t) t)) t
changed (opening c) t = t
changed (derivation dialect cipher chain material) t = t
changed (folding kind m) t = t
changed (fold_beginning v) t = t
changed (fold_piece p) t = t
changed (fold_finishing kind) t = t
changed (sealing_under c key id) t = t
changed (opening_under c key id) t = t
changed (signing_under key) t = t
changed (verifying_under key) t = t
changed (sign_beginning key) t = t
changed (sign_piece p) t = t
changed (sign_finishing u) t = t
changed (verify_finishing u) t = t

-- and in every other case nothing: t is lent, t' is left
abbrev pub Exactly : Call → Lent → List Session → List Session → Type 0
Exactly c w t t' = t' ≡ when_done (answer suite c w) (λ k. changed c t) t
