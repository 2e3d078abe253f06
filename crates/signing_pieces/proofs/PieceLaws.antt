-- A piece after a state that stands for the pieces before it: what the new state stands for, wherever the cut falls.
-- Assumes nothing.
use mathlib.Core.Path.{◌≡◌, refl, sym, ap, ap₂, subst, ◌∙◌}
use mathlib.Core.Bool.{Bool, true, false, cond, true≢false}
use mathlib.Core.List.{List, [], ◌++◌, append_assoc}
use Prim.Native.Nat.{ℕ, ◌+◌, ◌-◌, ◌≤◌, ◌<◌}
use native.Mathlib.Nat.{le_refl, le_of_eq}
use native.Mathlib.Omega.{arith}
use borrow.Author.Tests.{ltb-true, ltb-false}
use lib.Dec.{ltb}
use lib.ListN.{length, take, drop, replicate, length-append, take-append-drop}
use lib.Seq.{paste, take-length, take_all, take_at, take-append-le, take-paste, length-paste, length-take-le}
use Rattle.cmac.specs.declared.Mac.{Mac}
use Rattle.cmac.specs.Running as code
use Rattle.cmac.proofs.Beginning.{nothing_holds}
use Rattle.cmac.proofs.AnyState.{updated_holds}
use Rattle.protocol.specs.Bytes.{Bytes}
use Rattle.protocol.specs.Ciphers.{aes}
use Rattle.protocol.specs.Signing.{with_signed_flag, with_signature}
use Rattle.protocol.specs.Pieces.{Underway, with_piece}
use Rattle.protocol.proofs.SignedBytes.{flagged_length, flagged_append, stored-append}
use Rattle.signing_pieces.specs.declared.SignState.{SignState}
use Rattle.signing_pieces.specs.Running.{covered, after, into_header, filling_header, behind_header, joined_by, UnderWay, StandsFor}

-- what stands behind the header is signed as it is
pub covered-append : (a b : Bytes) → 64 ≤ length a → covered (a ++ b) ≡ covered a ++ b
unfolding covered
covered-append a b l =
    let lf = flagged_length a l in
    ap (with_signature (replicate 16 0)) (flagged_append a b l) ∙ stored-append (with_signed_flag a) b (omega arith) (replicate 16 0)

-- one message goes on
module _ (u : Underway) (b : u.begun ≡ true) (p : Bytes) where
  -- the state after it, by its parts
  module _ (s : SignState) (h : StandsFor s u) where
    abbrev at : ℕ
    at = length u.joined

    its : UnderWay s u.start u.joined
    its = h.under_way b

    total : s.length + length p ≡ length (u.joined ++ p)
    total = ap (λ (n : ℕ). n + length p) h.count ∙ sym (length-append u.joined p)

    size : length s.header ≡ 64
    size = its.room

    stands : (header : List ℕ) (mac : Mac) → length header ≡ 64 → take (length (u.joined ++ p)) header ≡ take 64 (u.joined ++ p)
        → (64 ≤ length (u.joined ++ p) → code.Holds mac (aes u.start) (covered (u.joined ++ p)))
        → StandsFor (after s p header mac) (with_piece p u)
    unfolding with_piece
    stands header mac l f k =
        record {
          flag = h.flag;
          count = total;
          without_message = λ e. absurd (true≢false (sym b ∙ e));
          under_way = λ e. record { its_key = its.its_key; room = l; front = f; chained = k };
        }

    -- behind the header
    after-header : 64 ≤ s.length → StandsFor (behind_header s p) (with_piece p u)
    unfolding behind_header
    after-header long =
        let c = h.count in
        let l : 64 ≤ at = omega arith in
        let t = total in
        let r = size in
        let mac : Mac = code.updated (aes s.key) s.code p in
        let held : code.Holds mac (aes u.start) (covered u.joined ++ p) =
        subst (λ (k : Bytes). code.Holds (code.updated (aes k) s.code p) (aes u.start) (covered u.joined ++ p)) (sym its.its_key)
        (updated_holds (aes u.start) s.code (covered u.joined) p (its.chained l)) in
        stands s.header mac r
        (take_all (length (u.joined ++ p)) s.header (omega arith)
        ∙ sym (take_all at s.header (omega arith))
        ∙ its.front
        ∙ sym (take-append-le 64 u.joined p l))
        (λ e. rw (covered-append u.joined p l) held)

    module _ (short : s.length < 64) where
      -- what the header has is the message so far
      begins : take s.length s.header ≡ u.joined
      begins =
          let c = h.count in
          ap (λ (n : ℕ). take n s.header) c ∙ its.front ∙ take_all 64 u.joined (omega arith)

      -- with a, which fits, copied behind it
      module _ (a : Bytes) (fits : s.length + length a ≤ 64) where
        abbrev filled : Bytes
        filled = paste s.header s.length a (length a)

        filled_length : length filled ≡ 64
        filled_length = let l = size in length-paste s.header s.length a (length a) (omega (arith, fits, l)) (le_refl (length a)) ∙ l

        filled_front : take (s.length + length a) filled ≡ u.joined ++ a
        filled_front =
            let l = size in
            take-paste s.header s.length a (length a) (omega (arith, fits, l)) (le_refl (length a)) ∙ ap₂ ◌++◌ begins (take-length a)

      -- the header is not whole yet
      still_short : length p < 64 - s.length → StandsFor (into_header s p) (with_piece p u)
      unfolding into_header
      still_short less =
          let t = total in
          let fits : s.length + length p ≤ 64 = omega (arith, less, short) in
          stands (filled p fits) s.code (filled_length p fits)
          (ap (λ (n : ℕ). take n (filled p fits)) (sym t)
          ∙ filled_front p fits
          ∙ sym (take_all 64 (u.joined ++ p) (omega arith)))
          (λ k. absurd (omega arith))

      -- the piece fills it, with its first bytes
      module _ (fills : 64 - s.length ≤ length p) where
        abbrev a : Bytes
        a = take (64 - s.length) p

        abbrev rest : Bytes
        rest = drop (64 - s.length) p

        front_length : s.length + length a ≡ 64
        front_length = let l = length-take-le (64 - s.length) p fills in omega (arith, l, short)

        fit : s.length + length a ≤ 64
        fit = le_of_eq front_length

        header_is : filled a fit ≡ u.joined ++ a
        header_is =
            let l = filled_length a fit in
            let f = front_length in
            sym (take_all (s.length + length a) (filled a fit) (omega arith)) ∙ filled_front a fit

        whole : length (u.joined ++ a) ≡ 64
        whole = length-append u.joined a ∙ ap (λ (n : ℕ). n + length a) (sym h.count) ∙ front_length

        all_is : u.joined ++ p ≡ (u.joined ++ a) ++ rest
        all_is = ap (λ (x : Bytes). u.joined ++ x) (sym (take-append-drop (64 - s.length) p)) ∙ sym (append_assoc u.joined a rest)

        now_whole : StandsFor (filling_header s p) (with_piece p u)
        unfolding filling_header
        now_whole =
            let E = aes s.key in
            let header : Bytes = filled a fit in
            let mac : Mac = code.updated E (code.updated E code.nothing_taken (covered header)) rest in
            let l = whole in
            let la = length-append (u.joined ++ a) rest in
            let lp : length (u.joined ++ p) ≡ length ((u.joined ++ a) ++ rest) = ap length all_is in
            let lh = filled_length a fit in
            let signed : covered header ++ rest ≡ covered (u.joined ++ p) =
            ap (λ (x : Bytes). covered x ++ rest) header_is
            ∙ sym (covered-append (u.joined ++ a) rest (omega arith))
            ∙ ap covered (sym all_is) in
            let one : code.Holds (code.updated E code.nothing_taken (covered header)) E (covered header) =
            updated_holds E code.nothing_taken [] (covered header) (nothing_holds E) in
            let held : code.Holds mac E (covered header ++ rest) =
            updated_holds E (code.updated E code.nothing_taken (covered header)) (covered header) rest one in
            let kept : code.Holds mac (aes u.start) (covered header ++ rest) =
            subst (λ (k : Bytes). code.Holds mac (aes k) (covered header ++ rest)) its.its_key held in
            stands header mac lh
            (take_all (length (u.joined ++ p)) header (omega arith)
            ∙ header_is
            ∙ sym (take_at (u.joined ++ a) rest 64 l)
            ∙ ap (take 64) (sym all_is))
            (λ k. rw signed at kept)

    pub joined-stands : StandsFor (joined_by s p) (with_piece p u)
    unfolding joined_by
    joined-stands = go (ltb s.length 64) (ltb (length p) (64 - s.length)) refl refl
      where
        go : (x y : Bool) → ltb s.length 64 ≡ x → ltb (length p) (64 - s.length) ≡ y
            → StandsFor (cond x (cond y (into_header s p) (filling_header s p)) (behind_header s p)) (with_piece p u)
        go true true ex ey = still_short (ltb-true s.length 64 ex) (ltb-true (length p) (64 - s.length) ey)
        go true false ex ey = now_whole (ltb-true s.length 64 ex) (ltb-false (length p) (64 - s.length) ey)
        go false y ex ey = after-header (ltb-false s.length 64 ex)
