-- The piece at a place, as the code finds it.
-- Assumes nothing.
use mathlib.Core.Path.{◌≡◌, refl, sym, ap, ap₂, ◌∙◌}
use mathlib.Core.Bool.{Bool, true, false, cond, ◌&&◌}
use mathlib.Core.Logic.{◌⊎◌, inl, inr}
use mathlib.Core.List.{◌∷◌}
use Prim.Native.Nat.{ℕ, suc, ◌+◌, ◌-◌, ◌<◌, ◌≤◌}
use native.Mathlib.Numerals.{add-one}
use native.Mathlib.Omega.{arith}
use borrow.Author.Tests.{leb-true, le-leb, lt-leb}
use lib.Dec.{leb}
use lib.ListN.{length, take, drop, get_or, length-drop, drop_of_length-le}
use lib.Seq.{drop-cons, drop-drop}
use Rattle.trace_format.specs.Format.{Bytes, Edition, head_in, length_in, readable, Reading, found, end, unreadable, read_at}
use Rattle.trace_reader.specs.Answers.{reading_of}
use Rattle.trace_format.specs.declared.Unreadable.{Unreadable}
use Rattle.trace_reader.specs.declared.Record.{Record}
use Rattle.std.specs.Result.{result_unwrap_or}
use Rattle.std.proofs.Common.{Option, Some, None, Result, Ok, Err}
use Rattle.trace_format.proofs.FormatLaws.{was, readable-good}
use Rattle.trace_rescue.specs.Rescue.{begins_message, is_found, passed}
use Rattle.trace_rescue.specs.Answers.{IsRecord, RecordAt}

-- ---- what a reading says of the bytes

ended : (a b : Bool) (x : Reading) (k p n q : ℕ) (d : Bool) → (a ≡ true → b ≡ false) → (x ≡ end) ⊎ (x ≡ unreadable)
    → cond a end (cond b (found k d p n q) unreadable) ≡ x → b ≡ false
ended true b x k p n q d h w e = h refl
ended false true x k p n q d h (inl w) e = absurd (let z : ◌≡◌ {A = ℕ} 0 1 = cc in omega arith)
ended false true x k p n q d h (inr w) e = absurd (let z : ◌≡◌ {A = ℕ} 0 1 = cc in omega arith)
ended false false x k p n q d h w e = refl

module _ (e : Edition) (f : Bytes) (p : ℕ) where
  none_left : length f ≤ p → readable e (drop p f) ≡ false
  none_left h = by (readable e (drop p f)) refl
    where
      by : (t : Bool) → readable e (drop p f) ≡ t → t ≡ false
      by true q =
          let g = readable-good e (drop p f) q in
          let l = length-drop p f in
          let i = g.1 in
          absurd (omega arith)
      by false q = refl

  -- it was no record
  pub was_not : (r : Result (Option Record) Unreadable) → reading_of r ≡ read_at e f p → ((x : Record) → r ≡ Ok (Some x) → ⊥) → readable e (drop p f) ≡ false
  unfolding read_at
  was_not (Ok (Some x)) t o = absurd (o x refl)
  was_not (Ok None) t o = ended (leb (length f) p) (readable e (drop p f)) end _ _ _ _ _ (λ q. none_left (leb-true (length f) p q)) (inl refl) (sym t)
  was_not (Err u) t o =
      ended (leb (length f) p) (readable e (drop p f)) unreadable _ _ _ _ _ (λ q. none_left (leb-true (length f) p q)) (inr refl) (sym t)

  pub not_found : readable e (drop p f) ≡ false → false ≡ is_found e (drop p f)
  unfolding is_found
  not_found t = rw t

  -- what the reader answered, as the record at the place
  pub record_there : (r : Result (Option Record) Unreadable) → reading_of r ≡ read_at e f p → RecordAt e f p (result_unwrap_or r None)
  record_there (Ok (Some x)) t =
      let w = was e f p _ _ _ _ _ t in
      let n = w.next in
      let z = w.size in
      let i = w.inside in
      record { can_be_read = w.is_readable; its_kind = sym w.kind; from = w.from; to = omega arith; inside = omega arith }
  record_there (Ok None) t = was_not (Ok None) t (λ x q. cc)
  record_there (Err u) t = was_not (Err u) t (λ x q. cc)

  -- whether the reader takes up again here, by the payload as the code lends it
  module _ (r : Record) (is : IsRecord e f p r) where
    judged : is_found e (drop p f) ≡ (leb r.kind 2 && begins_message (take (r.next - r.start) (drop r.start f)))
    unfolding is_found
    judged =
        let from = is.from in
        let to = is.to in
        let len : length_in e (head_in (drop p f)) ≡ r.next - r.start = omega arith in
        let payload = ap₂ (λ (i : ℕ) (x : Bytes). begins_message (take i x)) len (drop-drop 4 p f ∙ ap (λ (i : ℕ). drop i f) (sym from)) in
        rw is.can_be_read (ap₂ (λ (i : ℕ) (x : Bool). leb i 2 && x) (sym is.its_kind) payload)

    pub found_by_mark : (b : Bool) → b ≡ begins_message (take (r.next - r.start) (drop r.start f)) → r.kind ≤ 2 → b ≡ is_found e (drop p f)
    found_by_mark b t k = rw (judged, le-leb r.kind 2 k) t

    pub not_by_kind : 2 < r.kind → leb r.kind 2 ≡ is_found e (drop p f)
    not_by_kind k = rw (judged, lt-leb r.kind 2 k)

-- ---- the search

pass_at : (e : Edition) (s xs : Bytes) (x : ℕ) (t : Bool) → s ≡ x ∷ xs → is_found e s ≡ t → passed e s ≡ cond t 0 (passed e xs + 1)
unfolding passed
pass_at e s xs x t q h = ap (passed e) q ∙ ap (λ (u : Bool). cond u 0 (passed e xs + 1)) (ap (is_found e) (sym q) ∙ h)

module _ (e : Edition) (f : Bytes) where
  -- the search from `from` on has come to p
  pub record Seeking (from p : ℕ) : Type 0 where
    pub low : from ≤ p
    pub high : p ≤ length f
    pub same : from + passed e (drop from f) ≡ p + passed e (drop p f)

  pub seek_begins : (from : ℕ) → from ≤ length f → Seeking from from
  seek_begins from h = record { low = omega arith; high = h; same = refl }

  module _ (from p : ℕ) (s : Seeking from p) where
    pub seek_end : length f ≤ p → length f - from ≡ passed e (drop from f)
    unfolding passed
    seek_end h =
        let z : passed e (drop p f) ≡ 0 = ap (passed e) (drop_of_length-le f {i = p} h) in
        let a = s.same in
        let b = s.low in
        let d = s.high in
        omega arith

    module _ (t : Bool) (inside : p < length f) (says : t ≡ is_found e (drop p f)) where
      pub seek_found : t ≡ true → p - from ≡ passed e (drop from f)
      seek_found q =
          let z : passed e (drop p f) ≡ 0 = pass_at e (drop p f) (drop (suc p) f) (get_or f p 0) true (drop-cons f p 0 inside) (sym says ∙ q) in
          let a = s.same in
          let b = s.low in
          omega arith

      pub seek_on : t ≡ false → Seeking from (p + 1)
      seek_on q =
          let z : passed e (drop p f) ≡ passed e (drop (suc p) f) + 1 =
          pass_at e (drop p f) (drop (suc p) f) (get_or f p 0) false (drop-cons f p 0 inside) (sym says ∙ q) in
          let y : passed e (drop (p + 1) f) ≡ passed e (drop (suc p) f) = ap (λ (i : ℕ). passed e (drop i f)) (add-one p) in
          let a = s.same in
          let b = s.low in
          record { low = omega arith; high = omega arith; same = omega arith }
