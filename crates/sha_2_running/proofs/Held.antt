-- A state whose words are numbers, as those of u32 and of u64 are: what the code's clauses say of the bytes that it holds.
-- Assumes nothing.
use Rattle.std.proofs.Common.{◌≡◌, ℕ, ◌%◌, ◌^◌, ◌<◌, List, [], ◌++◌, length, sym, ◌∙◌, subst}
use Rattle.std.proofs.lemmas.List.{map-id}
use Rattle.sha_2.specs.Sha2.{Sha2, block_size, padding, hash}
use Rattle.sha_2.specs.Running.{State, Holds, nothing_taken, updated, finished}
use Rattle.sha_2.proofs.AnyState.{StateHolds, nothing_holds, updated_holds, finished_is}
use Rattle.sha_2_running.specs.declared.Running.{Running}
use Rattle.sha_2_running.specs.Code.{state}

module _ {rounds block digest : ℕ} where
  -- the fields as they stand
  abbrev pub fields : Running ℕ rounds block digest → State
  fields s = record { hash = s.hash; buffer = s.buffer; count = s.count }

  pub state_is : (s : Running ℕ rounds block digest) → state (λ (x : ℕ). x) s ≡ fields s
  state_is s = λ i. record { hash = map-id s.hash i; buffer = s.buffer; count = s.count }

module _ (p : Sha2) {rounds block digest : ℕ} where
  abbrev HeldBy : Running ℕ rounds block digest → List ℕ → Type 0
  HeldBy s m = Holds p s.count s.buffer s.hash m

  pub begins : (s : Running ℕ rounds block digest) → state (λ (x : ℕ). x) s ≡ nothing_taken p → HeldBy s []
  begins s e = subst (λ (t : State). StateHolds p t []) (sym e ∙ state_is s) (nothing_holds p)

  module _ (pos : 0 < block_size p) (wraps : (c : ℕ) → c % 2 ^ 64 % block_size p ≡ c % block_size p)
      (s : Running ℕ rounds block digest) (m : List ℕ) (h : HeldBy s m) where
    held : StateHolds p (state (λ (x : ℕ). x) s) m
    held = subst (λ (t : State). StateHolds p t m) (sym (state_is s)) h

    pub takes : (x : List ℕ) (s' : Running ℕ rounds block digest) → state (λ (y : ℕ). y) s' ≡ updated p (state (λ (y : ℕ). y) s) x → HeldBy s' (m ++ x)
    takes x s' e =
        subst (λ (t : State). StateHolds p t (m ++ x)) (sym e ∙ state_is s') (updated_holds p pos wraps (state (λ (y : ℕ). y) s) m x held)

    pub ends : {r : List ℕ} → padding p s.count ≡ padding p (length m) → r ≡ finished p (state (λ (x : ℕ). x) s) → r ≡ hash p m
    ends f e = e ∙ finished_is p pos wraps (state (λ (x : ℕ). x) s) m held f
