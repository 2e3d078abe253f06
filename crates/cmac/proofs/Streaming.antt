-- A code taken in pieces, wherever the cuts fall: the laws of `Running`.
use mathlib.Core.Path.{◌≡◌, refl, sym, ap, ap₂, ◌∙◌, subst}
use mathlib.Core.List.{List, [], ◌++◌, append_assoc}
use Prim.Native.Nat.{ℕ, ◌+◌, ◌-◌, ◌*◌, ◌/◌, ◌≤◌, ◌<◌, min}
use native.Mathlib.Nat.{add-zero, le_refl}
use native.Mathlib.Omega.{arith}
use lib.ListN.{length, take, drop, replicate, length-append, length-drop, take-append-drop}
use lib.Seq.{paste, take-paste, take-length, length-paste, length-take-le, drop_at}
use Rattle.octets.specs.Blocks.{block_count, over_blocks}
use Rattle.octets.specs.Xor.{xor}
use Rattle.octets.proofs.BlockLaws.{over-append}
use Rattle.octets.proofs.Paste.{paste_all, part_all}
use Rattle.cbc_mac.specs.CbcMac.{cbc_mac}
use Rattle.cmac.specs.Cmac.{blocks_before, last_block, cmac}
use Rattle.cmac.specs.Running.{Running}

-- a buffer into which x was copied behind its first n bytes
filled_with : (buffer x : List ℕ) (n : ℕ) → n + length x ≤ length buffer → take (n + length x) (paste buffer n x (length x)) ≡ take n buffer ++ x
filled_with buffer x n r =
    take-paste buffer n x (length x) (omega arith) (le_refl (length x)) ∙ ap (λ (l : List ℕ). take n buffer ++ l) (take-length x)

module _ (E : List ℕ → List ℕ) where
  abbrev zeros : List ℕ
  zeros = replicate 16 0

  abbrev over : List ℕ → List ℕ → ℕ → List ℕ
  over y xs n = cbc_mac E y xs n

  -- whole blocks a, then k blocks of b
  chain-append : (y a b : List ℕ) (n k : ℕ) → length a ≡ 16 * n → over y (a ++ b) (n + k) ≡ over (over y a n) b k
  chain-append y a b n k e = over-append (λ y x. E (xor y x)) y a b n k e

  pub chain-front : (y a b : List ℕ) (n : ℕ) → length a ≡ 16 * n → over y (a ++ b) n ≡ over y a n
  unfolding over_blocks
  chain-front y a b n e = ap (over y (a ++ b)) (sym (add-zero n)) ∙ chain-append y a b n 0 e

  -- the message is cut into n blocks and what waits behind them
  record Cut (chain part m : List ℕ) : Type 0 where
    n : ℕ
    whole : List ℕ
    joined : m ≡ whole ++ part
    size : length whole ≡ 16 * n
    number : n ≡ blocks_before (length m)
    chained : chain ≡ over zeros whole n

  cut_of : {chain buffer : List ℕ} {filled : ℕ} {m : List ℕ} → Running E chain buffer filled m → Cut chain (take filled buffer) m
  cut_of {chain} {buffer} {filled} {m} s =
      let n = blocks_before (length m) in
      let l : length (take (16 * n) m) ≡ 16 * n = length-take-le (16 * n) m (omega arith) in
      let j : m ≡ take (16 * n) m ++ drop (16 * n) m = sym (take-append-drop (16 * n) m) in
      record {
        n = n;
        whole = take (16 * n) m;
        joined = j ∙ ap (λ (x : List ℕ). take (16 * n) m ++ x) (sym s.waits);
        size = l;
        number = refl;
        chained = s.chained ∙ ap (λ (x : List ℕ). over zeros x n) j ∙ chain-front zeros (take (16 * n) m) (drop (16 * n) m) n l;
      }

  running_of : {chain buffer : List ℕ} {filled : ℕ} {m : List ℕ} → Cut chain (take filled buffer) m → length buffer ≡ 16
      → filled ≡ length (take filled buffer) → Running E chain buffer filled m
  running_of {chain} {buffer} {filled} {m} c size e =
      let part = take filled buffer in
      let there : drop (16 * blocks_before (length m)) m ≡ part =
      ap (λ (k : ℕ). drop (16 * k) m) (sym c.number) ∙ ap (drop (16 * c.n)) c.joined ∙ drop_at c.whole part (16 * c.n) c.size in
      record {
        chained =
            c.chained
            ∙ sym (chain-front zeros c.whole part c.n c.size)
            ∙ ap₂ (λ (x : List ℕ) (k : ℕ). over zeros x k) (sym c.joined) c.number;
        room = size;
        waits = sym there;
        count = e ∙ ap length (sym there);
      }

  pub running_start : (buffer : List ℕ) → length buffer ≡ 16 → Running E zeros buffer 0 []
  unfolding over_blocks
  running_start buffer size = record { chained = refl; room = size; waits = refl; count = refl }

  -- how many bytes wait: none only where there was none
  filled_fits : {chain buffer m : List ℕ} {filled : ℕ} → Running E chain buffer filled m → filled ≤ 16
  filled_fits {chain} {buffer} {m} {filled} s = let l = length-drop (16 * blocks_before (length m)) m in omega (arith, s.count)

  -- the code asks how many bytes wait, and takes no more than 16 for an answer
  pub recounted : {chain buffer m : List ℕ} {filled : ℕ} (n : ℕ) → n ≡ min filled 16 → Running E chain buffer filled m → Running E chain buffer n m
  recounted {chain} {buffer} {m} {filled} n e s =
      let same : filled ≡ n = omega (arith, filled_fits s) in
      subst (λ (k : ℕ). Running E chain buffer k m) same s

  module _ {chain buffer m : List ℕ} {filled : ℕ} (s : Running E chain buffer filled m) (x : List ℕ) where
    room : length buffer ≡ 16
    room = s.room

    abbrev part : List ℕ
    part = take filled buffer

    part_length : length part ≡ filled
    part_length = ap length s.waits ∙ sym s.count

    size_of : length m ≡ 16 * blocks_before (length m) + filled
    size_of = let l = length-drop (16 * blocks_before (length m)) m in omega (arith, s.count)

    -- a piece that the buffer has room for
    pub running_within : filled + length x ≤ 16 → (buffer' : List ℕ) → buffer' ≡ paste buffer filled x (length x)
        → Running E chain buffer' (filled + length x) (m ++ x)
    running_within fits buffer' e =
        let c = cut_of s in
        let now : take (filled + length x) buffer' ≡ part ++ x =
        ap (take (filled + length x)) e ∙ filled_with buffer x filled (omega (arith, room)) in
        let size : length buffer' ≡ 16 = ap length e ∙ length-paste buffer filled x (length x) (omega (arith, room)) (le_refl (length x)) ∙ room in
        let cut : Cut chain (part ++ x) (m ++ x) =
        record {
          n = c.n;
          whole = c.whole;
          joined = ap (λ (l : List ℕ). l ++ x) c.joined ∙ append_assoc c.whole part x;
          size = c.size;
          number = let l = length-append m x in let k = c.number in omega (arith, size_of);
          chained = c.chained;
        } in
        let l : filled + length x ≡ length (part ++ x) = sym (length-append part x ∙ ap (λ (k : ℕ). k + length x) part_length) in
        running_of (subst (λ (p : List ℕ). Cut chain p (m ++ x)) (sym now) cut) size (l ∙ ap length (sym now))

    -- a piece that goes beyond it: x₁ fills the block, then the blocks of the rest x₂ before its last, and x₃ which waits
    pub running_beyond : {buffer₁ buffer₂ first next : List ℕ}
        → let x₁ : List ℕ = take (16 - filled) x in
        let x₂ : List ℕ = take (length x - (16 - filled)) (drop (16 - filled) x) in
        let w : ℕ = (length x₂ - 1) / 16 * 16 in
        let x₃ : List ℕ = take (length x₂ - w) (drop w x₂) in
        16 < filled + length x
        → buffer₁ ≡ paste buffer filled x₁ (length x₁)
        → first ≡ over chain buffer₁ (block_count (length buffer₁))
        → next ≡ over first (take w x₂) (block_count (length (take w x₂)))
        → buffer₂ ≡ paste buffer₁ 0 x₃ (length x₃)
        → Running E next buffer₂ (length x₂ - w) (m ++ x)
    running_beyond {buffer₁} {buffer₂} {first} {next} beyond e₁ ef en e₂ =
        let c = cut_of s in
        let k = filled_fits s in
        let r : ℕ = 16 - filled in
        let x₁ : List ℕ = take r x in
        let x₂ : List ℕ = take (length x - r) (drop r x) in
        let w : ℕ = (length x₂ - 1) / 16 * 16 in
        let y : List ℕ = take w x₂ in
        let x₃ : List ℕ = take (length x₂ - w) (drop w x₂) in
        let d₂ : x₂ ≡ drop r x = part_all x r in
        let d₃ : x₃ ≡ drop w x₂ = part_all x₂ w in
        let l₁ : length x₁ ≡ r = length-take-le r x (omega arith) in
        let l₂ : length x₂ ≡ length x - r = ap length d₂ ∙ length-drop r x in
        let ly : length y ≡ w = length-take-le w x₂ (omega arith) in
        let l₃ : length x₃ ≡ length x₂ - w = ap length d₃ ∙ length-drop w x₂ in
        -- the block that the buffer holds, and those of y
        let f₁ : buffer₁ ≡ part ++ x₁ = e₁ ∙ paste_all buffer filled x₁ (omega (arith, room)) in
        let lb : length buffer₁ ≡ 16 = ap length f₁ ∙ length-append part x₁ ∙ omega (arith, part_length) in
        let front : List ℕ = c.whole ++ buffer₁ in
        let lf : length front ≡ 16 * (c.n + 1) = length-append c.whole buffer₁ ∙ omega (arith, c.size) in
        let q : ℕ = (length x₂ - 1) / 16 in
        let n₁ : block_count (length buffer₁) ≡ 1 = ap block_count lb in
        let n₂ : block_count (length y) ≡ q = omega arith in
        let v₁ : first ≡ over zeros front (c.n + 1) =
        ef ∙ ap₂ (λ (v : List ℕ) (i : ℕ). over v buffer₁ i) c.chained n₁ ∙ sym (chain-append zeros c.whole buffer₁ c.n 1 c.size) in
        let v₂ : next ≡ over zeros (front ++ y) (c.n + 1 + q) =
        en ∙ ap₂ (λ (v : List ℕ) (i : ℕ). over v y i) v₁ n₂ ∙ sym (chain-append zeros front y (c.n + 1) q lf) in
        -- what waits
        let there : length x₂ - w ≡ 0 + length x₃ = omega arith in
        let now : take (length x₂ - w) buffer₂ ≡ x₃ =
        ap₂ take there e₂ ∙ filled_with buffer₁ x₃ 0 (omega arith) in
        let size : length buffer₂ ≡ 16 = ap length e₂ ∙ length-paste buffer₁ 0 x₃ (length x₃) (omega arith) (le_refl (length x₃)) ∙ lb in
        let j : m ++ x ≡ (front ++ y) ++ x₃ =
        ap₂ ◌++◌ c.joined (sym (take-append-drop r x))
        ∙ append_assoc c.whole part (x₁ ++ drop r x)
        ∙ ap (λ (l : List ℕ). c.whole ++ l) (sym (append_assoc part x₁ (drop r x)))
        ∙ ap₂ (λ (a b : List ℕ). c.whole ++ (a ++ b)) (sym f₁) (sym d₂ ∙ sym (take-append-drop w x₂) ∙ ap (λ (l : List ℕ). y ++ l) (sym d₃))
        ∙ sym (append_assoc c.whole buffer₁ (y ++ x₃))
        ∙ sym (append_assoc front y x₃) in
        let cut : Cut next x₃ (m ++ x) =
        record {
          n = c.n + 1 + q;
          whole = front ++ y;
          joined = j;
          size = length-append front y ∙ omega arith;
          number = let l = length-append m x in let i = c.number in omega (arith, size_of);
          chained = v₂;
        } in
        running_of (subst (λ (p : List ℕ). Cut next p (m ++ x)) (sym now) cut) size (sym l₃ ∙ ap length (sym now))

  -- the last block
  pub running_end : {chain buffer m : List ℕ} {filled : ℕ} → Running E chain buffer filled m → (r : List ℕ)
      → r ≡ over chain (last_block E (take filled buffer)) 1 → r ≡ cmac E m
  unfolding cmac
  running_end {chain} {buffer} {m} {filled} s r er =
      let n = blocks_before (length m) in
      let l : length (take (16 * n) m) ≡ 16 * n = length-take-le (16 * n) m (omega arith) in
      let v : chain ≡ over zeros (take (16 * n) m) n =
      s.chained ∙ ap (λ (x : List ℕ). over zeros x n) (sym (take-append-drop (16 * n) m)) ∙ chain-front zeros (take (16 * n) m) (drop (16 * n) m) n l in
      er
      ∙ ap₂ (λ (a b : List ℕ). over a (last_block E b) 1) v s.waits
      ∙ sym (chain-append zeros (take (16 * n) m) (last_block E (drop (16 * n) m)) n 1 l)
