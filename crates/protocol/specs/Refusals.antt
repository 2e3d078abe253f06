-- The table of RULES 2: one definition for one line, in the table's order, under the name that
-- include/smb3seal.h has for the number. Which call tests which of them, and in which order, is said in Calls.
-- Assumes nothing.
use Rattle.std.specs.Prelude.{Bool, not, ◌&&◌, ◌||◌, ℕ, ◌+◌, ◌%◌, leb, ltb, eqb, length}
use Rattle.std.proofs.Math.Option.{Option}
use Rattle.octets.specs.Maybe.{is_some}
use Rattle.octets.specs.Same.{same_bytes}
use Rattle.protocol.specs.Bytes.{Bytes}
use Rattle.protocol.specs.Answer.{Test, refuse◌when◌}
use Rattle.protocol.specs.Connection.{Connection, known_dialect, encrypts, uses_gcm, uses_wide, cipher_key_bytes, longest_material, last_counter}
use Rattle.protocol.specs.TransformHeader.{TransformHeader}
use Rattle.protocol.specs.InnerHeader.{is_inner_header, is_related, Envelope, belongs}
use Rattle.protocol.specs.Signing.{is_signed, signature_field}
use Rattle.protocol.specs.SessionTable.{Session}

-- "dialect not one of the three, or encryption off, or cipher 0, or dialect 3.1.1 with a cipher other than" 1 to 4
abbrev pub not_encrypting : Connection → Test
not_encrypting c = refuse 1 when not (encrypts c)

-- "whole message at most 52 bytes"
abbrev pub too_short : Bytes → Test
too_short m = refuse 2 when leb (length m) 52

-- "more than 8,454,144 bytes after the transform header"; signing and verifying: "over the message's length", all of it; "A piece that would
-- pass the length limit is" 3 where it is signed or verified: whether the limit is passed
abbrev pub too_long : Bool → Test
too_long passed = refuse 3 when passed

-- "first four bytes not FD 53 4D 42"
abbrev pub not_transform : TransformHeader → Test
not_transform h = refuse 4 when not h.begins

-- "Flags not 0x0001"
abbrev pub bad_flags : TransformHeader → Test
bad_flags h = refuse 5 when not (eqb h.flags 1)

-- "On opening with a GCM cipher, any non-zero byte among" the last four of the Nonce field
abbrev pub dirty_nonce : Connection → TransformHeader → Test
dirty_nonce c h = refuse 29 when uses_gcm c && not (eqb h.nonce_end 0)

-- "no used record has this id", or, under one given key, "a transform header with another id"
abbrev pub other_session : Bool → Test
other_session known = refuse 6 when not known

-- "connection is constrained"
abbrev pub constrained : Connection → Test
constrained c = refuse 7 when c.constrained

-- "record is guest or anonymous"
abbrev pub guest : Session → Test
guest s = refuse 8 when s.guest || s.anonymous

-- "using it with a cipher of the other size"
abbrev pub other_key_size : Connection → Session → Test
other_key_size c s = refuse 35 when not (eqb (cipher_key_bytes s.wide) (cipher_key_bytes (uses_wide c)))

-- "tag differs": there is no plaintext
abbrev pub bad_tag : Option Bytes → Test
bad_tag text = refuse 9 when not (is_some text)

-- "OriginalMessageSize differs from the bytes after the header", which are n
abbrev pub bad_size : TransformHeader → ℕ → Test
bad_size h n = refuse 10 when not (eqb h.size n)

-- "inner message under 64 bytes", or the message that is signed or verified
abbrev pub inner_too_short : Bytes → Test
inner_too_short m = refuse 11 when ltb (length m) 64

-- "an inner header does not begin FE 53 4D 42": the one at p; signing and verifying look at the one at 0
abbrev pub not_header : Bytes → ℕ → Test
not_header m p = refuse 12 when not (is_inner_header m p)

-- "first inner header has the related flag"
abbrev pub first_related : Bytes → Test
first_related m = refuse 13 when is_related m 0

-- "inner SessionId differs from the transform's": of the header at p, where it is compared; a break notice from the server "must not be
-- tested for 14"
abbrev pub inner_session : Bool → Bytes → Envelope → ℕ → Test
inner_session compared m e p = refuse 14 when compared && not (belongs m e p)

-- "next header under 64 bytes away, or not wholly inside": d bytes after the one at p
abbrev pub next_outside : Bytes → ℕ → ℕ → Test
next_outside m p d = refuse 15 when ltb d 64 || ltb (length m) (p + d + 64)

-- "next header not on an 8-byte boundary"
abbrev pub next_unaligned : ℕ → Test
next_unaligned d = refuse 16 when not (eqb (d % 8) 0)

-- "send counter is 2^64 - 1"
abbrev pub counter_used_up : ℕ → Test
counter_used_up counter = refuse 17 when eqb counter last_counter

-- "adding: dialect not one of the three"
abbrev pub unknown_dialect : ℕ → Test
unknown_dialect dialect = refuse 18 when not (known_dialect dialect)

-- "adding: empty session key"; "for these ciphers on 3.1.1 .. also .. key material over 65,536 bytes"
abbrev pub bad_key_material : Bool → Bytes → Test
bad_key_material wide material = refuse 19 when eqb (length material) 0 || (wide && ltb longest_material (length material))

-- "adding: id 0"
abbrev pub id_zero : ℕ → Test
id_zero id = refuse 20 when eqb id 0

-- "adding: a used record has this id"
abbrev pub id_taken : Bool → Test
id_taken taken = refuse 21 when taken

-- "adding: no free record"
abbrev pub table_full : Bool → Test
table_full room = refuse 22 when not room

-- "folding: message under 64 or over 8,454,144 bytes"; "A piece that would pass the length limit is 23": whether the length is one to fold
abbrev pub fold_length : Bool → Test
fold_length fits = refuse 23 when not fits

-- "the signed flag is missing"
abbrev pub not_signed : Bytes → Test
not_signed m = refuse 24 when not (is_signed m)

-- "the signature differs" from the right one
abbrev pub bad_signature : Bytes → Bytes → Test
bad_signature right m = refuse 25 when not (same_bytes (signature_field m) right)

-- "a lent cipher or signing key (not key material) is not 16, a lent chain value not 64 (on every dialect), or the place for the four keys
-- not 64 bytes long"; "a cipher key is 32 and the place for the four keys 96 bytes exactly on 3.1.1 with cipher 3 or 4"; and, our answer,
-- the place for the signature of a message in pieces not 16: whether all that is lent has its length
abbrev pub bad_length : Bool → Test
bad_length fits = refuse 40 when not fits
