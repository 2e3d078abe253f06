-- The model's table and the places of the code's table: what the walks say by `place_of`, `get_or` and `set` is what the model says by `record_of`, `change_record`, `fill_free` and `has_free`.
--     reads    lookup.        changes     a change at the session of an id.        fills, has_free_lem     a new record at the first free place
--     keeps    a record put back where it stood leaves the table as it was
-- Assumes nothing.
use mathlib.Core.Path.{◌≡◌, refl, sym, ◌∙◌, ap}
use mathlib.Core.Bool.{Bool, true, false, cond, not, ◌||◌}
use mathlib.Core.List.{List, [], ◌∷◌}
use Prim.Native.Nat.compare
use Prim.Native.Nat.{ℕ, zero, suc}
use native.Mathlib.Nat.{zero-lt-suc}
use borrow.Author.Tests.{lt-ltb}
use lib.ListN.{length, get_or, set}
use lib.Dec.{eqb, ltb, is_le}
use Rattle.octets.proofs.BoolLaws.{and_true}
use Rattle.session_record.specs.declared.Session.{Session}
use Rattle.connection.specs.Reading.{flag}
use Rattle.session_record.specs.Reading.{free, is_wanted, session_of}
use Rattle.session_record.proofs.StoredLaws.{free_read}
use Rattle.session_table.specs.Place.{first, place_of, free_place}
use Rattle.protocol.specs.SessionTable as model
use Rattle.session_table.specs.Reading.{table_of}

pub reads : (id : ℕ) (t : List Session) → model.record_of id (table_of t) ≡ session_of (get_or t (place_of id t) free)
unfolding first
reads id [] = sym free_read
reads id (x ∷ xs) = go (is_wanted true id x) (reads id xs)
  where
    go : (b : Bool) → model.record_of id (table_of xs) ≡ session_of (get_or xs (place_of id xs) free)
        → cond b (session_of x) (model.record_of id (table_of xs)) ≡ session_of (get_or (x ∷ xs) (cond b 0 (suc (place_of id xs))) free)
    go true below = refl
    go false below = below

pub changes : (f : model.Session → model.Session) (id : ℕ) (t : List Session) (new : Session) → session_of new ≡ f (session_of (get_or t (place_of id t) free))
    → model.change_record f id (table_of t) ≡ table_of (set t (place_of id t) new)
unfolding first
changes f id [] new e = refl
changes f id (x ∷ xs) new e = go (is_wanted true id x) (changes f id xs new) e
  where
    go : (b : Bool) → (session_of new ≡ f (session_of (get_or xs (place_of id xs) free)) → model.change_record f id (table_of xs) ≡ table_of (set xs (place_of id xs) new))
        → session_of new ≡ f (session_of (get_or (x ∷ xs) (cond b 0 (suc (place_of id xs))) free))
        → cond b (f (session_of x) ∷ table_of xs) (session_of x ∷ model.change_record f id (table_of xs)) ≡ table_of (set (x ∷ xs) (cond b 0 (suc (place_of id xs))) new)
    go true below e' = ap (λ (s : model.Session). s ∷ table_of xs) (sym e')
    go false below e' = ap (λ (r : List model.Session). session_of x ∷ r) (below e')

pub fills : (new : Session) (t : List Session) → model.fill_free (session_of new) (table_of t) ≡ table_of (set t (free_place t) new)
unfolding first
fills new [] = refl
fills new (x ∷ xs) = go (flag x.used) (fills new xs)
  where
    go : (b : Bool) → model.fill_free (session_of new) (table_of xs) ≡ table_of (set xs (free_place xs) new)
        → cond b (session_of x ∷ model.fill_free (session_of new) (table_of xs)) (session_of new ∷ table_of xs) ≡ table_of (set (x ∷ xs) (cond (not b) 0 (suc (free_place xs))) new)
    go true below = ap (λ (r : List model.Session). session_of x ∷ r) below
    go false below = refl

pub has_free_lem : (t : List Session) → model.has_free (table_of t) ≡ ltb (free_place t) (length t)
unfolding first
has_free_lem [] = refl
has_free_lem (x ∷ xs) = go (flag x.used) (has_free_lem xs)
  where
    go : (b : Bool) → model.has_free (table_of xs) ≡ ltb (free_place xs) (length xs) → (not b || model.has_free (table_of xs)) ≡ ltb (cond (not b) 0 (suc (free_place xs))) (suc (length xs))
    go true below = below ∙ sym (ap is_le (compare.suc-suc (suc (free_place xs)) (length xs)))
    go false below = sym (lt-ltb 0 (suc (length xs)) (zero-lt-suc (length xs)))

-- whether there is a session of an id
pub has_session : (id : ℕ) (t : List Session) → (model.record_of id (table_of t)).used ≡ ltb (place_of id t) (length t)
unfolding first
has_session id [] = refl
has_session id (x ∷ xs) = go (is_wanted true id x) refl (has_session id xs)
  where
    go : (b : Bool) → is_wanted true id x ≡ b → (model.record_of id (table_of xs)).used ≡ ltb (place_of id xs) (length xs)
        → (cond b (session_of x) (model.record_of id (table_of xs))).used ≡ ltb (cond b 0 (suc (place_of id xs))) (suc (length xs))
    go true e below = (and_true (flag x.used) (eqb x.id id) e).0 ∙ sym (lt-ltb 0 (suc (length xs)) (zero-lt-suc (length xs)))
    go false e below = below ∙ sym (ap is_le (compare.suc-suc (suc (place_of id xs)) (length xs)))

-- the record of a place put back there: the case of a refusal
pub keeps : (t : List Session) (i : ℕ) → set t i (get_or t i free) ≡ t
keeps [] i = refl
keeps (x ∷ xs) zero = refl
keeps (x ∷ xs) (suc i) = ap (λ (r : List Session). x ∷ r) (keeps xs i)
