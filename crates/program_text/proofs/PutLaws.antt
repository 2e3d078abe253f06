-- Runs of bytes, put one behind the other.
-- Assumes nothing.
use mathlib.Core.Path.{◌≡◌, refl, sym, ap, ap₂, subst, ◌∙◌}
use mathlib.Core.Bool.{Bool, true, cond}
use mathlib.Core.List.{[], ◌++◌}
use Prim.Native.Nat.{ℕ, ◌+◌, ◌-◌, ◌*◌, ◌<◌, ◌≤◌}
use native.Mathlib.Numerals.{add-one}
use native.Mathlib.Omega.{arith}
use borrow.Author.Tests.{leb-true, le-leb}
use lib.Dec.{leb}
use lib.ListN.{length, take, drop, get_or, length-append}
use lib.Seq.{paste, paste-zero, length-paste, take_at, drop_at, take-length}
use Rattle.octets.proofs.BoolLaws.{and_true}
use Rattle.octets.proofs.Paste.{paste_more}
use Rattle.program_text.specs.Lines.{Bytes, two_numbers, gap_lines}
use Rattle.program_text.specs.Puts.{Put, PutIf, roomy, gaps_fit, PutLine}
use Rattle.program_text.proofs.DecimalLaws.{length-decimal}

pub paste_two : (d : Bytes) (at : ℕ) (a b : Bytes) → at + length a ≤ length d
    → paste (paste d at a (length a)) (at + length a) b (length b) ≡ paste d at (a ++ b) (length (a ++ b))
paste_two d at a b h =
    let l = length-append a b in
    let m : take (length a) a ≡ take (length a) (a ++ b) = take-length a ∙ sym (take_at a b (length a) refl) in
    ap (λ (x : Bytes). paste (take at d ++ x ++ drop (at + length a) d) (at + length a) b (length b)) m
    ∙ paste_more d at (a ++ b) b (length a) (length b) (omega arith) (omega arith) (ap (take (length b)) (sym (drop_at a b (length a) refl)))
    ∙ ap (paste d at (a ++ b)) (sym l)

module _ {a b text text' after : Bytes} {at q r : ℕ} where
  pub put_then : at + length a ≤ length text → Put a text at q text' → Put b text' q r after → Put (a ++ b) text at r after
  put_then h p n =
      record {
        place = omega (arith, p.place, n.place, length-append a b);
        bytes = n.bytes ∙ ap₂ (λ (x : Bytes) (y : ℕ). paste x y b (length b)) p.bytes p.place ∙ paste_two text at a b h;
      }

module _ {b text text' : Bytes} {at r : ℕ} where
  pub put-length : at + length b ≤ length text → Put b text at r text' → length text' ≡ length text
  put-length h p = ap length p.bytes ∙ length-paste text at b (length b) h (omega arith)

  -- how much room is left behind it
  pub left : (n m : ℕ) → length b ≤ n → at + (n + m) ≤ length text → Put b text at r text' → r + m ≤ length text'
  left n m h i p = let l = put-length (omega arith) p in omega (arith, p.place)

  module _ {ok : Bool} where
    pub put-done : ok ≡ true → Put b text at r text' → PutIf ok b text at r text'
    put-done e p = record { place = rw e p.place; bytes = rw e p.bytes }

    pub put-there : ok ≡ true → PutIf ok b text at r text' → Put b text at r text'
    put-there e p =
        record {
          place = p.place ∙ ap (λ (t : Bool). cond t (at + length b) at) e;
          bytes = p.bytes ∙ ap (λ (t : Bool). cond t (paste text at b (length b)) text) e;
        }

pub put_as : {a b text text' : Bytes} {at r : ℕ} → a ≡ b → Put a text at r text' → Put b text at r text'
put_as {a} {b} {text} {text'} {at} {r} e p = subst (λ (x : Bytes). Put x text at r text') e p

-- ---- room

pub room_le : (text : Bytes) (at : ℕ) → roomy text at ≡ true → at + 42 ≤ length text
room_le text at e = leb-true (at + 42) (length text) e

-- ---- gaps

pub gaps-room : (text list gaps : ℕ) → gaps_fit text list gaps ≡ true → (42 * gaps ≤ text) × (2 * gaps ≤ list)
gaps-room text list gaps e =
    let b = and_true (leb (42 * gaps) text) (leb (2 * gaps) list) e in
    (leb-true (42 * gaps) text b.0, leb-true (2 * gaps) list b.1)

pub short : (a b : ℕ) → length (two_numbers a b) ≤ 42
unfolding two_numbers
short a b = let p = length-decimal a in let q = length-decimal b in simp length-append (omega arith)

-- before a turn: i lines are put behind place p
pub record Listing (list text : Bytes) (gaps p at i : ℕ) (text' : Bytes) : Type 0 where
  pub lines : Put (gap_lines i list) text p at text'
  pub inside : at ≤ p + 42 * i
  pub some : i ≤ gaps
  pub kept : length text' ≡ length text

pub listing_start : (list text : Bytes) (gaps p : ℕ) → Listing list text gaps p p 0 text
unfolding gap_lines
listing_start list text gaps p =
    record { lines = record { place = omega arith; bytes = paste-zero text p [] }; inside = omega arith; some = omega arith; kept = refl }

pub listing_turn : {list text text' after : Bytes} {gaps p at i r : ℕ} → Listing list text gaps p at i text' → i < gaps → 42 * gaps ≤ length text - p
    → PutLine (two_numbers (get_or list (2 * i) 0) (get_or list (2 * i + 1) 0)) text' at r after → Listing list text gaps p r (i + 1) after
unfolding gap_lines
listing_turn {list} {text} {text'} {after} {gaps} {p} {at} {i} {r} s h room q =
    let line : Bytes = two_numbers (get_or list (2 * i) 0) (get_or list (2 * i + 1) 0) in
    let m = short (get_or list (2 * i) 0) (get_or list (2 * i + 1) 0) in
    let n = s.inside in
    let k = s.kept in
    let fits : at + 42 ≤ length text' = omega arith in
    let there : Put line text' at r after = put-there (le-leb (at + 42) (length text') fits) q in
    let z : at ≡ p + length (gap_lines i list) = s.lines.place in
    let both : Put (gap_lines i list ++ line) text p r after = put_then (omega arith) s.lines there in
    record {
      lines = subst (λ (j : ℕ). Put (gap_lines j list) text p r after) (sym (add-one i)) both;
      inside = omega (arith, there.place);
      some = omega arith;
      kept = put-length (omega arith) there ∙ k;
    }
