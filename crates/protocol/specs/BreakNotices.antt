-- Sums to check by hand: break notices in the walk (RULES 9.9), sealed for session 5.
-- Assumes nothing.
use Rattle.std.specs.Prelude.{◌≡◌, true, false, ◌∷◌, ◌++◌, ℕ, replicate}
use Rattle.octets.specs.Numbers.{to_little_endian}
use Rattle.protocol.specs.Bytes.{Bytes}
use Rattle.protocol.specs.Answer.{done, refused}
use Rattle.protocol.specs.Compound.{walk}
use Rattle.protocol.specs.PLines.{header, session5}

-- an inner header by its command, flags, next command, message id and session id
abbrev pub marked : ℕ → ℕ → ℕ → ℕ → ℕ → Bytes
marked command flags next message id =
    0xFE ∷ 0x53 ∷ 0x4D ∷ 0x42
    ∷ (replicate 8 0 ++ (to_little_endian 2 command ++ (0 ∷ 0 ∷ (to_little_endian 4 flags ++ (to_little_endian 4 next
    ++ (to_little_endian 8 message ++ (replicate 8 0 ++ (to_little_endian 8 id ++ replicate 16 0))))))))

abbrev all_ones : ℕ
all_ones = 0xFFFFFFFFFFFFFFFF

-- with these flags and this next command
abbrev pub notice : ℕ → ℕ → Bytes
notice flags next = marked 0x0012 flags next all_ones 0

pub record BreakNotices : Type 0 where
  pub from_server_is : walk (notice 0 0) (session5 true) ≡ done 1
  pub from_client : walk (notice 0 0) (session5 false) ≡ refused 14
  -- each mark missing alone
  pub other-command : walk (marked 0x0013 0 0 all_ones 0) (session5 true) ≡ refused 14
  pub other-message : walk (marked 0x0012 0 0 (0xFFFFFFFFFFFFFFFE) 0) (session5 true) ≡ refused 14
  pub other-session : walk (marked 0x0012 0 0 all_ones 6) (session5 true) ≡ refused 14
  -- as a later header, and before one
  pub later : walk (header 0 64 5 ++ notice 0 0) (session5 true) ≡ done 2
  pub later_from_client : walk (header 0 64 5 ++ notice 0 0) (session5 false) ≡ refused 14
  pub later_related : walk (header 0 64 5 ++ notice 4 0) (session5 false) ≡ done 2
  pub before : walk (notice 0 64 ++ header 0 0 5) (session5 true) ≡ done 2
  -- the other rules hold for it as for any header
  pub related_first : walk (notice 4 0) (session5 true) ≡ refused 13
  pub outside_next : walk (notice 0 65 ++ header 0 0 5) (session5 true) ≡ refused 15
  pub unaligned_next : walk (notice 0 68 ++ (replicate 8 0 ++ header 0 0 5)) (session5 true) ≡ refused 16
  pub next_no_header : walk (notice 0 64 ++ replicate 64 0) (session5 true) ≡ refused 12
