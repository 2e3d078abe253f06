-- Two maps that keep exclusive or are equal below 2ⁿ if they are equal at the n powers of two there.
use Rattle.std.proofs.Common.{◌≡◌, ℕ, zero, suc, ◌*◌, ◌/◌, ◌%◌, ◌^◌, ◌<◌, sym, ap, ◌∙◌, subst, ap₂, add-zero, mod-lt, lt-suc_self, mul_comm}
use Rattle.std.proofs.Common.{div-lt_iff_lt-mul, one-mul, pow-suc, div-add-mod', zero-mul, arith, pow_pos}
use lib.Arith.{lt-one}
use lib.Bits.{bit_xor, xor_shifted, xor_self, xor_shr, xor_mod, xor_block}
use Rattle.octets.proofs.BitXor.{xor_swap}

abbrev pub Linear : (ℕ → ℕ) → Type 0
Linear f = (a b : ℕ) → f (bit_xor a b) ≡ bit_xor (f a) (f b)

at_zero : (f : ℕ → ℕ) → Linear f → f 0 ≡ 0
at_zero f l = l 0 0 ∙ xor_self (f 0)

bit_times : (f g : ℕ → ℕ) → Linear f → Linear g → (b m : ℕ) → b < 2 → f m ≡ g m → f (b * m) ≡ g (b * m)
bit_times f g lf lg zero m h e = ap f (zero-mul m) ∙ at_zero f lf ∙ sym (at_zero g lg) ∙ ap g (sym (zero-mul m))
bit_times f g lf lg (suc zero) m h e = ap f (one-mul m) ∙ e ∙ ap g (sym (one-mul m))
bit_times f g lf lg (suc (suc b)) m h e = absurd (omega arith)

parts : (f : ℕ → ℕ) → Linear f → (n x : ℕ) → f x ≡ bit_xor (f (x / 2 ^ n * 2 ^ n)) (f (x % 2 ^ n))
parts f l n x =
    ap f (sym (div-add-mod' x (2 ^ n)) ∙ sym (xor_shifted (x / 2 ^ n) n (x % 2 ^ n) (mod-lt x (pow_pos n))))
    ∙ l (x / 2 ^ n * 2 ^ n) (x % 2 ^ n)

pub equal : (f g : ℕ → ℕ) → Linear f → Linear g → (n : ℕ) → ((i : ℕ) → i < n → f (2 ^ i) ≡ g (2 ^ i)) → (x : ℕ) → x < 2 ^ n → f x ≡ g x
equal f g lf lg zero e x h = ap f (lt-one h) ∙ at_zero f lf ∙ sym (at_zero g lg) ∙ ap g (sym (lt-one h))
equal f g lf lg (suc n) e x h =
    let t : x / 2 ^ n < 2 = (div-lt_iff_lt-mul (pow_pos n)).1 (subst (λ (m : ℕ). x < m) (pow-suc 2 n ∙ mul_comm (2 ^ n) 2) h) in
    parts f lf n x
    ∙ ap₂ bit_xor (bit_times f g lf lg (x / 2 ^ n) (2 ^ n) t (e n (lt-suc_self n)))
    (equal f g lf lg n (λ i a. e i (omega arith)) (x % 2 ^ n) (mod-lt x (pow_pos n)))
    ∙ sym (parts g lg n x)

-- what keeps exclusive or: sums, quotients and remainders by powers of two, products with them, and one after the other
pub sum : (f g : ℕ → ℕ) → Linear f → Linear g → Linear (λ x. bit_xor (f x) (g x))
sum f g lf lg a b = ap₂ bit_xor (lf a b) (lg a b) ∙ xor_swap (f a) (f b) (g a) (g b)

pub after : (f g : ℕ → ℕ) → Linear f → Linear g → Linear (λ x. f (g x))
after f g lf lg a b = ap f (lg a b) ∙ lf (g a) (g b)

pub shr : (k : ℕ) → Linear (λ x. x / 2 ^ k)
shr k a b = xor_shr a b k

pub low : (k : ℕ) → Linear (λ x. x % 2 ^ k)
low k a b = xor_mod a b k

pub shl : (k : ℕ) → Linear (λ x. x * 2 ^ k)
shl k a b =
    sym (ap₂ bit_xor (sym (add-zero (a * 2 ^ k))) (sym (add-zero (b * 2 ^ k)))
    ∙ xor_block k a b 0 0 (pow_pos k) (pow_pos k) ∙ add-zero (bit_xor a b * 2 ^ k))
