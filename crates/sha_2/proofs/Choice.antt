-- `Ch` in three operations.
-- Assumes nothing.
use mathlib.Core.Path.{◌≡◌, refl, sym, ap, ap₂, ◌∙◌, subst}
use Prim.Native.Nat.{ℕ, zero, suc, ◌+◌, ◌-◌, ◌*◌, ◌/◌, ◌%◌, ◌^◌, ◌<◌, min}
use native.Mathlib.Nat.{mod-lt, zero-lt-suc, div-add-mod', pow-suc, min-le_left, lt_of_le_of_lt, div-lt_iff_lt-mul}
use native.Mathlib.Omega.{arith}
use lib.Arith.{digits_mod, lt-one}
use lib.Bits.{bit_xor, bit_and, differ, xor_shr, and_shr, and_step}
use Rattle.octets.proofs.BitXor.{xor_odd}
use Rattle.sha_2.specs.Sha2.{ch}

two_pos : zero < 2
two_pos = zero-lt-suc 1

and_odd : (a b : ℕ) → bit_and a b % 2 ≡ min (a % 2) (b % 2)
and_odd a b =
    ap (λ (x : ℕ). x % 2) (and_step a b)
    ∙ digits_mod (bit_and (a / 2) (b / 2)) (lt_of_le_of_lt (min-le_left (a % 2) (b % 2)) (mod-lt a two_pos))

-- on bits
choose : (a b c : ℕ) → a < 2 → b < 2 → c < 2 → differ (min (differ b c) a) c ≡ differ (min a b) (min (1 - a) c)
choose zero zero zero ha hb hc = refl
choose zero zero (suc zero) ha hb hc = refl
choose zero zero (suc (suc c)) ha hb hc = omega arith
choose zero (suc zero) zero ha hb hc = refl
choose zero (suc zero) (suc zero) ha hb hc = refl
choose zero (suc zero) (suc (suc c)) ha hb hc = omega arith
choose zero (suc (suc b)) c ha hb hc = omega arith
choose (suc zero) zero zero ha hb hc = refl
choose (suc zero) zero (suc zero) ha hb hc = refl
choose (suc zero) zero (suc (suc c)) ha hb hc = omega arith
choose (suc zero) (suc zero) zero ha hb hc = refl
choose (suc zero) (suc zero) (suc zero) ha hb hc = refl
choose (suc zero) (suc zero) (suc (suc c)) ha hb hc = omega arith
choose (suc zero) (suc (suc b)) c ha hb hc = omega arith
choose (suc (suc a)) b c ha hb hc = omega arith

complement_half : (m x : ℕ) → x < m * 2 → (m * 2 - 1 - x) / 2 ≡ m - 1 - x / 2
complement_half m x h = omega arith

complement_odd : (m x : ℕ) → x < m * 2 → (m * 2 - 1 - x) % 2 ≡ 1 - x % 2
complement_odd m x h = omega arith

half : (w x : ℕ) → x < 2 ^ suc w → x / 2 < 2 ^ w
half w x h = (div-lt_iff_lt-mul two_pos).1 (subst (λ (i : ℕ). x < i) (pow-suc 2 w) h)

pub ch_eq : (w x y z : ℕ) → x < 2 ^ w → y < 2 ^ w → z < 2 ^ w → bit_xor (bit_and (bit_xor y z) x) z ≡ ch w x y z
ch_eq zero x y z hx hy hz = rw (lt-one hx, lt-one hy, lt-one hz)
ch_eq (suc w) x y z hx hy hz =
    let m = 2 ^ w in
    let v = (2 ^ suc w - 1) - x in
    let hm : x < m * 2 = subst (λ (i : ℕ). x < i) (pow-suc 2 w) hx in
    let vh : v / 2 ≡ m - 1 - x / 2 = ap (λ (i : ℕ). (i - 1 - x) / 2) (pow-suc 2 w) ∙ complement_half m x hm in
    let vo : v % 2 ≡ 1 - x % 2 = ap (λ (i : ℕ). (i - 1 - x) % 2) (pow-suc 2 w) ∙ complement_odd m x hm in
    let l = bit_xor (bit_and (bit_xor y z) x) z in
    let r = bit_xor (bit_and x y) (bit_and v z) in
    let lh : l / 2 ≡ bit_xor (bit_and (bit_xor (y / 2) (z / 2)) (x / 2)) (z / 2) =
    xor_shr (bit_and (bit_xor y z) x) z 1 ∙ ap (λ (i : ℕ). bit_xor i (z / 2)) (and_shr (bit_xor y z) x 1 ∙ ap (λ (i : ℕ). bit_and i (x / 2)) (xor_shr y z 1)) in
    let lo : l % 2 ≡ differ (min (differ (y % 2) (z % 2)) (x % 2)) (z % 2) =
    xor_odd (bit_and (bit_xor y z) x) z ∙ ap (λ (i : ℕ). differ i (z % 2)) (and_odd (bit_xor y z) x ∙ ap (λ (i : ℕ). min i (x % 2)) (xor_odd y z)) in
    let rh : r / 2 ≡ bit_xor (bit_and (x / 2) (y / 2)) (bit_and (m - 1 - x / 2) (z / 2)) =
    xor_shr (bit_and x y) (bit_and v z) 1 ∙ ap₂ bit_xor (and_shr x y 1) (and_shr v z 1 ∙ ap (λ (i : ℕ). bit_and i (z / 2)) vh) in
    let ro : r % 2 ≡ differ (min (x % 2) (y % 2)) (min (1 - x % 2) (z % 2)) =
    xor_odd (bit_and x y) (bit_and v z) ∙ ap₂ differ (and_odd x y) (and_odd v z ∙ ap (λ (i : ℕ). min i (z % 2)) vo) in
    sym (div-add-mod' l 2)
    ∙ ap₂ (λ (i j : ℕ). i * 2 + j)
    (lh ∙ ch_eq w (x / 2) (y / 2) (z / 2) (half w x hx) (half w y hy) (half w z hz) ∙ sym rh)
    (lo ∙ choose (x % 2) (y % 2) (z % 2) (mod-lt x two_pos) (mod-lt y two_pos) (mod-lt z two_pos) ∙ sym ro)
    ∙ div-add-mod' r 2
