-- What lookup of one id takes after a change of a record, or a new record: of another id it makes no difference.
-- Assumes nothing.
use mathlib.Core.Path.{◌≡◌, refl, sym, ◌∙◌}
use mathlib.Core.Logic.{◌≢◌}
use mathlib.Core.Bool.{Bool, true, false, ◌&&◌, true≢false}
use mathlib.Core.List.{List, [], ◌∷◌}
use Prim.Native.Nat.{ℕ}
use borrow.Author.Tests.{eqb-true, ne_eqb}
use lib.Dec.{eqb}
use Rattle.protocol.specs.SessionTable.{Session, is_session, record_of, change_record, has_free, fill_free}

-- a used record with another id
pub not_this : (i : ℕ) (s : Session) → s.id ≢ i → is_session i s ≡ false
not_this i s h = rw (ne_eqb s.id i h) (and_false s.used)
  where
    and_false : (b : Bool) → (b && false) ≡ false
    and_false true = refl
    and_false false = refl

-- a free record
not_free : (i : ℕ) (s : Session) → s.used ≡ false → is_session i s ≡ false
not_free i s h = rw h

pub is_used : (i : ℕ) (s : Session) → is_session i s ≡ true → s.used ≡ true
is_used i s e = go s.used refl
  where
    go : (b : Bool) → s.used ≡ b → s.used ≡ true
    go true u = u
    go false u = absurd (true≢false (sym e ∙ not_free i s u))

pub is_id : (i : ℕ) (s : Session) → is_session i s ≡ true → s.id ≡ i
is_id i s e = eqb-true s.id i (sym (rw (is_used i s e) refl) ∙ e)

module _ (i j : ℕ) (other-id : i ≢ j) where
  -- a change of the record of another id
  pub change_other : (f : Session → Session) → ((s : Session) → is_session j s ≡ true → is_session i (f s) ≡ false)
      → (t : List Session) → record_of i (change_record f j t) ≡ record_of i t
  change_other f keeps [] = refl
  change_other f keeps (s ∷ t) = go (is_session j s) refl (change_other f keeps t)
    where
      go : (b : Bool) → is_session j s ≡ b → record_of i (change_record f j t) ≡ record_of i t
          → record_of i (change_record f j (s ∷ t)) ≡ record_of i (s ∷ t)
      go true e below =
          let mine : is_session i s ≡ false = not_this i s (λ q. other-id (sym q ∙ is_id j s e)) in
          rw (e, keeps s e, mine)
      go false e below = rw (e, below)

  -- a new record of another id, in the first free place
  pub fill_other : (new : Session) → new.id ≡ j → (t : List Session) → record_of i (fill_free new t) ≡ record_of i t
  fill_other new q [] = refl
  fill_other new q (s ∷ t) = go s.used refl (fill_other new q t)
    where
      go : (b : Bool) → s.used ≡ b → record_of i (fill_free new t) ≡ record_of i t → record_of i (fill_free new (s ∷ t)) ≡ record_of i (s ∷ t)
      go true u below = rw (u, below)
      go false u below = rw (u, not_this i new (λ p. other-id (sym p ∙ q)))

-- a change of the record itself, which leaves it the session's
pub change_same : (i : ℕ) (f : Session → Session) → ((s : Session) → is_session i s ≡ true → is_session i (f s) ≡ true)
    → (t : List Session) → (record_of i t).used ≡ true → record_of i (change_record f i t) ≡ f (record_of i t)
change_same i f keeps [] u = absurd (true≢false (sym u))
change_same i f keeps (s ∷ t) u = go (is_session i s) refl (change_same i f keeps t) u
  where
    go : (b : Bool) → is_session i s ≡ b → ((record_of i t).used ≡ true → record_of i (change_record f i t) ≡ f (record_of i t))
        → (record_of i (s ∷ t)).used ≡ true → record_of i (change_record f i (s ∷ t)) ≡ f (record_of i (s ∷ t))
    go true e below = rw (e, keeps s e) (λ u'. refl)
    go false e below = rw (e, e) below

-- the new record is found, where none was and there is room
pub fill_same : (i : ℕ) (new : Session) → is_session i new ≡ true
    → (t : List Session) → (record_of i t).used ≡ false → has_free t ≡ true → record_of i (fill_free new t) ≡ new
fill_same i new is [] u room = absurd (true≢false (sym room))
fill_same i new is (s ∷ t) u room = go (is_session i s) refl s.used refl (fill_same i new is t) u room
  where
    go : (b : Bool) → is_session i s ≡ b → (c : Bool) → s.used ≡ c
        → ((record_of i t).used ≡ false → has_free t ≡ true → record_of i (fill_free new t) ≡ new)
        → (record_of i (s ∷ t)).used ≡ false → has_free (s ∷ t) ≡ true → record_of i (fill_free new (s ∷ t)) ≡ new
    go true e c w below = rw e (λ u'. absurd (true≢false (sym (is_used i s e) ∙ u')))
    go false e true w below = let e' : eqb s.id i ≡ false = rw w at e in rw (e, w, e') below
    go false e false w below = rw (e, w, is) (λ u' r'. refl)
