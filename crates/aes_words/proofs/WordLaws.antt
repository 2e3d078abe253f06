-- Words and their bytes.
use mathlib.Core.Path.{◌≡◌, refl, ◌∙◌, ap, ap₂, sym}
use mathlib.Core.List.{List, ◌∷◌}
use Prim.Native.Nat.{ℕ, ◌+◌, ◌*◌, ◌/◌, ◌%◌, ◌<◌}
use native.Mathlib.Nat.{div-div-eq-div-mul, div-add-mod', mod-eq_of_lt}
use native.Mathlib.Omega.{arith}
use lib.Bits.{bit_xor, bit_or, xor_mod, xor_shr, or_shifted, or_shifted_r}
use Rattle.aes_words.specs.Words.{Bytes, bytes_of, byte0, byte1, byte2, byte3}

-- every word is made of its bytes
pub own : (w : ℕ) → Bytes w (byte0 w) (byte1 w) (byte2 w) (byte3 w)
own w = record { at0 = refl; at1 = refl; at2 = refl; at3 = refl }

-- the bytes by other names
pub named : {w a b c d e f g h : ℕ} → Bytes w a b c d → a ≡ e → b ≡ f → c ≡ g → d ≡ h → Bytes w e f g h
named p q r s t = record { at0 = p.at0 ∙ q; at1 = p.at1 ∙ r; at2 = p.at2 ∙ s; at3 = p.at3 ∙ t }

pub cons : {a b : ℕ} {l r : List ℕ} → a ≡ b → l ≡ r → a ∷ l ≡ b ∷ r
cons p q = cc

-- a list that begins with a word's bytes
pub begins : {w a b c d : ℕ} {l r : List ℕ} → Bytes w a b c d → l ≡ r → bytes_of w l ≡ a ∷ b ∷ c ∷ d ∷ r
unfolding bytes_of
begins p e = cc

-- the bytes of w xor v
pub xor : {w v a b c d e f g h : ℕ} → Bytes w a b c d → Bytes v e f g h → Bytes (bit_xor w v) (bit_xor a e) (bit_xor b f) (bit_xor c g) (bit_xor d h)
xor {w} {v} p q = record {
  at0 = xor_mod w v 8 ∙ ap₂ bit_xor p.at0 q.at0;
  at1 = ap (λ (x : ℕ). x % 256) (xor_shr w v 8) ∙ xor_mod (w / 256) (v / 256) 8 ∙ ap₂ bit_xor p.at1 q.at1;
  at2 = ap (λ (x : ℕ). x % 256) (xor_shr w v 16) ∙ xor_mod (w / 65536) (v / 65536) 8 ∙ ap₂ bit_xor p.at2 q.at2;
  at3 = ap (λ (x : ℕ). x % 256) (xor_shr w v 24) ∙ xor_mod (w / 16777216) (v / 16777216) 8 ∙ ap₂ bit_xor p.at3 q.at3;
}

-- the sum of four bytes has those bytes
four : (a b c d : ℕ) → a < 256 → b < 256 → c < 256 → d < 256 → Bytes (d * 16777216 + (c * 65536 + (b * 256 + a))) a b c d
four a b c d ha hb hc hd = record { at0 = omega arith; at1 = omega arith; at2 = omega arith; at3 = omega arith }

-- a word made of its bytes
pub joined : (a b c d : ℕ) → a < 256 → b < 256 → c < 256 → d < 256
    → Bytes (bit_or (bit_or (bit_or a (b * 256 % 4294967296)) (c * 65536 % 4294967296)) (d * 16777216 % 4294967296)) a b c d
joined a b c d ha hb hc hd =
    let eb : b * 256 % 4294967296 ≡ b * 256 = omega arith in
    let ec : c * 65536 % 4294967296 ≡ c * 65536 = omega arith in
    let ed : d * 16777216 % 4294967296 ≡ d * 16777216 = omega arith in
    let e1 : bit_or a (b * 256) ≡ b * 256 + a = or_shifted_r b 8 a ha in
    let e2 : bit_or (b * 256 + a) (c * 65536) ≡ c * 65536 + (b * 256 + a) = or_shifted_r c 16 (b * 256 + a) (omega arith) in
    let e3 : bit_or (c * 65536 + (b * 256 + a)) (d * 16777216) ≡ d * 16777216 + (c * 65536 + (b * 256 + a)) =
    or_shifted_r d 24 (c * 65536 + (b * 256 + a)) (omega arith) in
    rw (eb, ec, ed, e1, e2, e3) (four a b c d ha hb hc hd)

-- a word is the sum of its bytes
chained : (x q1 q2 q3 a b c : ℕ) → q1 * 256 + a ≡ x → q2 * 256 + b ≡ q1 → q3 * 256 + c ≡ q2 → q3 * 16777216 + (c * 65536 + (b * 256 + a)) ≡ x
chained x q1 q2 q3 a b c e1 e2 e3 = omega arith

top_byte : (x : ℕ) → x < 4294967296 → x / 16777216 % 256 ≡ x / 16777216
top_byte x h = mod-eq_of_lt (omega arith)

sum : (x : ℕ) → x < 4294967296 → byte3 x * 16777216 + (byte2 x * 65536 + (byte1 x * 256 + byte0 x)) ≡ x
sum x h =
    rw (top_byte x h)
    (chained x (x / 256) (x / 65536) (x / 16777216) (byte0 x) (byte1 x) (byte2 x) (div-add-mod' x 256)
    (ap (λ (y : ℕ). y * 256 + byte1 x) (sym (div-div-eq-div-mul x 256 256)) ∙ div-add-mod' (x / 256) 256)
    (ap (λ (y : ℕ). y * 256 + byte2 x) (sym (div-div-eq-div-mul x 65536 256)) ∙ div-add-mod' (x / 65536) 256))

turned_sum : (a b c d : ℕ) → c * 16777216 + (b * 65536 + (a * 256 + d)) ≡ (c * 65536 + (b * 256 + a)) * 256 + d
turned_sum a b c d = omega arith

turned_four : (a b c d : ℕ) → a < 256 → b < 256 → c < 256 → d < 256 → (w : ℕ) → d * 16777216 + (c * 65536 + (b * 256 + a)) ≡ w
    → Bytes (bit_or (w * 256 % 4294967296) (w / 16777216)) d a b c
turned_four a b c d ha hb hc hd w e =
    let l : w * 256 % 4294967296 ≡ (c * 65536 + (b * 256 + a)) * 256 = omega arith in
    let h : w / 16777216 ≡ d = omega arith in
    let o : bit_or ((c * 65536 + (b * 256 + a)) * 256) d ≡ (c * 65536 + (b * 256 + a)) * 256 + d = or_shifted (c * 65536 + (b * 256 + a)) 8 d hd in
    rw (l, h, o, ← turned_sum a b c d) (four d a b c hd ha hb hc)

-- a word with each byte one place on, and the last first
pub turned : (x : ℕ) → x < 4294967296 → Bytes (bit_or (x * 256 % 4294967296) (x / 16777216)) (byte3 x) (byte0 x) (byte1 x) (byte2 x)
turned x h = turned_four (byte0 x) (byte1 x) (byte2 x) (byte3 x) (omega arith) (omega arith) (omega arith) (omega arith) x (sum x h)
