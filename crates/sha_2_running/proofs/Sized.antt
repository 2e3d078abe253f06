-- The laws of a hash under way, where the code's own number of bytes of a block stands for the algorithm's.
-- Assumes nothing.
use Rattle.std.proofs.Common.{◌≡◌, ℕ, ◌+◌, ◌-◌, ◌*◌, ◌/◌, ◌%◌, ◌^◌, ◌<◌, ◌≤◌, List, length, take, drop, replicate}
use Rattle.std.proofs.Common.{sym, refl, ap, ◌∙◌, subst, le_refl, arith, length-set}
use Rattle.std.proofs.Math.ListN.{set}
use Rattle.std.proofs.Math.Nat.{mod-lt}
use lib.Seq.{paste, length-paste, drop_at}
use Rattle.std.proofs.lemmas.List.{length-replicate}
use Rattle.octets.specs.Numbers.{to_big_endian}
use Rattle.octets.proofs.NumberLaws.{length-to_big_endian, big_split}
use Rattle.octets.proofs.Paste.{part_all}
use Rattle.sha_2.specs.Sha2.{Sha2, block_size, hash_blocks}
use Rattle.sha_2.specs.Running.{State, updated, ended}
use Rattle.sha_2.proofs.AnyState.{updated-within, updated-beyond}
use Rattle.sha_2.proofs.Blocks.{one_and_one}
use Rattle.sha_2.proofs.Padding.{one_block, two_blocks}

-- ---- a piece

module _ (p : Sha2) (s : State) (x : List ℕ) where
  abbrev pub Within : ℕ → Type 0
  Within b =
      (buffer' : List ℕ) → length x < b - s.count % b → buffer' ≡ paste s.buffer (s.count % b) x (length x)
      → ◌≡◌ {A = State} (record { hash = s.hash; buffer = buffer'; count = (s.count + length x) % 2 ^ 64 }) (updated p s x)

  pub within_at : {b : ℕ} → b ≡ block_size p → Within b
  within_at e = subst Within (sym e) (λ buffer' h eb. updated-within p s x refl h refl eb)

  abbrev pub Beyond : ℕ → Type 0
  Beyond b =
      (buffer₁ buffer₂ hs₁ hs₂ : List ℕ)
      → let x₁ : List ℕ = take (b - s.count % b) x in
      let x₂ : List ℕ = take (length x - (b - s.count % b)) (drop (b - s.count % b) x) in
      let x₃ : List ℕ = take (length x₂ - length x₂ / b * b) (drop (length x₂ / b * b) x₂) in
      length s.buffer ≡ b → b - s.count % b ≤ length x
      → buffer₁ ≡ paste s.buffer (s.count % b) x₁ (length x₁)
      → hs₁ ≡ hash_blocks p s.hash (length buffer₁ / block_size p) buffer₁ → hs₂ ≡ hash_blocks p hs₁ (length x₂ / block_size p) x₂
      → buffer₂ ≡ paste buffer₁ 0 x₃ (length x₃)
      → ◌≡◌ {A = State} (record { hash = hs₂; buffer = buffer₂; count = (s.count + length x) % 2 ^ 64 }) (updated p s x)

  pub beyond_at : {b : ℕ} → b ≡ block_size p → 0 < block_size p → Beyond b
  beyond_at e pos = subst Beyond (sym e) (λ buffer₁ buffer₂ hs₁ hs₂ size fills eb₁ eh₁ eh₂ eb₂. updated-beyond p s x refl pos size fills eb₁ eh₁ eh₂ eb₂)

-- ---- the end

-- of the sixteen bytes of a length the last k, as the code lends them
low_bytes : {field : List ℕ} (k x : ℕ) → k ≤ 16 → field ≡ to_big_endian 16 x → take (16 - (16 - k)) (drop (16 - k) field) ≡ to_big_endian k x
low_bytes {field} k x h e =
    let l : length field ≡ 16 = ap length e ∙ length-to_big_endian 16 x in
    let q : 16 ≡ 16 - k + k = omega arith in
    ap (λ (i : ℕ). take (i - (16 - k)) (drop (16 - k) field)) (sym l)
    ∙ part_all field (16 - k)
    ∙ ap (drop (16 - k)) (e ∙ ap (λ (i : ℕ). to_big_endian i x) q ∙ big_split (16 - k) k x)
    ∙ drop_at (to_big_endian (16 - k) (x / 2 ^ (k * 8))) (to_big_endian k x) (16 - k) (length-to_big_endian (16 - k) (x / 2 ^ (k * 8)))

module _ (p : Sha2) (hs part : List ℕ) (n : ℕ) where
  abbrev pub One : ℕ → Type 0
  One b =
      (t₁ t₃ field hs' : List ℕ)
      → let length' : List ℕ = take (16 - (16 - b / 8)) (drop (16 - b / 8) field) in
      length part ≡ n % b → length part < b - b / 8 → t₁ ≡ paste (replicate b 0) 0 part (length part) → field ≡ to_big_endian 16 (8 * n)
      → t₃ ≡ paste (set t₁ (length part) 128) (b - b / 8) length' (length length')
      → hs' ≡ hash_blocks p hs (length t₃ / block_size p) t₃ → hs' ≡ ended p hs part n

  abbrev pub Two : ℕ → Type 0
  Two b =
      (t₁ t₃ field hs₁ hs₂ : List ℕ)
      → let length' : List ℕ = take (16 - (16 - b / 8)) (drop (16 - b / 8) field) in
      let t₂ : List ℕ = set t₁ (length part) 128 in
      length part ≡ n % b → b - b / 8 ≤ length part → t₁ ≡ paste (replicate b 0) 0 part (length part) → field ≡ to_big_endian 16 (8 * n)
      → hs₁ ≡ hash_blocks p hs (length t₂ / block_size p) t₂
      → t₃ ≡ paste (replicate b 0) (b - b / 8) length' (length length')
      → hs₂ ≡ hash_blocks p hs₁ (length t₃ / block_size p) t₃ → hs₂ ≡ ended p hs part n

  module _ (few : p.bytes < 9) (pos : 0 < block_size p) where
    abbrev B : ℕ
    B = block_size p

    -- the length, and the buffer with the bytes and the byte 128
    abbrev F : ℕ
    F = 2 * p.bytes

    eighth : B / 8 ≡ F
    eighth = omega arith

    field-is : {field : List ℕ} → field ≡ to_big_endian 16 (8 * n) → take (16 - (16 - B / 8)) (drop (16 - B / 8) field) ≡ to_big_endian F (8 * n)
    field-is ef = low_bytes (B / 8) (8 * n) (omega arith) ef ∙ ap (λ (i : ℕ). to_big_endian i (8 * n)) eighth

    laid : {t : List ℕ} → length part < B → t ≡ paste (replicate B 0) 0 part (length part) → length (set t (length part) 128) ≡ B
    laid {t} h e =
        length-set t (length part) 128
        ∙ ap length e
        ∙ length-paste (replicate B 0) 0 part (length part) (omega (arith, length-replicate {A = ℕ} B 0)) (le_refl (length part))
        ∙ length-replicate {A = ℕ} B 0

    put : (t : List ℕ) {f : List ℕ} → length t ≡ B → f ≡ to_big_endian F (8 * n) → length (paste t (B - F) f (length f)) ≡ B
    put t {f} l ef =
        let lf : length f ≡ F = ap length ef ∙ length-to_big_endian F (8 * n) in
        length-paste t (B - F) f (length f) (omega arith) (le_refl (length f)) ∙ l

    one : One B
    unfolding ended
    one t₁ t₃ field hs' ek h e₁ ef e₃ eh =
        let f = field-is ef in
        let bits : List ℕ = take (16 - (16 - B / 8)) (drop (16 - B / 8) field) in
        let at = e₃ ∙ ap (λ (i : ℕ). paste (set t₁ (length part) 128) (B - i) bits (length bits)) eighth in
        let size = ap length at ∙ put (set t₁ (length part) 128) (laid (omega arith) e₁) f in
        eh ∙ ap (λ (t : List ℕ). hash_blocks p hs (length t / B) t) (one_block p n part pos ek (omega (arith, ek)) e₁ refl f at size)

    two : Two B
    unfolding ended
    two t₁ t₃ field hs₁ hs₂ ek h e₁ ef eh₁ e₃ eh₂ =
        let f = field-is ef in
        let room = mod-lt n pos in
        let bits : List ℕ = take (16 - (16 - B / 8)) (drop (16 - B / 8) field) in
        let at = e₃ ∙ ap (λ (i : ℕ). paste (replicate B 0) (B - i) bits (length bits)) eighth in
        let size₂ = laid (omega (arith, ek)) e₁ in
        let size₃ = ap length at ∙ put (replicate B 0) (length-replicate {A = ℕ} B 0) f in
        eh₂
        ∙ ap (λ (v : List ℕ). hash_blocks p v (length t₃ / B) t₃) eh₁
        ∙ sym (one_and_one p hs (set t₁ (length part) 128) t₃ pos size₂ size₃)
        ∙ ap (λ (t : List ℕ). hash_blocks p hs (length t / B) t) (two_blocks p n part pos ek (omega (arith, ek)) e₁ refl f at)

    pub one_at : {b : ℕ} → b ≡ B → One b
    one_at e = subst One (sym e) one

    pub two_at : {b : ℕ} → b ≡ B → Two b
    two_at e = subst Two (sym e) two
