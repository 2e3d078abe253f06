-- Helper definitions of the contracts: elements of the field in words, the table of a hash key, and sums that are not reduced yet.
use Rattle.std.specs.Prelude.{◌≡◌, ℕ, zero, suc, ◌+◌, ◌*◌, ◌/◌, ◌%◌, ◌^◌, ◌<◌, List, bit_xor, slice_index_or}
use Rattle.ghash_field.specs.declared.Element.{Element}
use Rattle.ghash_field.specs.declared.wide.Wide.{Wide}
use Rattle.ghash_field.specs.Field.{times_x, mul}

-- two words of 64 bits as one number
abbrev pub join : ℕ → ℕ → ℕ
join hi lo = hi * 2 ^ 64 + lo

abbrev pub element_of : Element → ℕ
element_of e = join e.hi e.lo

-- the element whose first four bits are n, and whose others are zero
abbrev pub four_bits : ℕ → ℕ
four_bits n = n * 2 ^ 124

-- element number n of a table
abbrev pub entry : List Element → ℕ → ℕ
entry t n = element_of (slice_index_or t n (record { hi = 0; lo = 0 }))

-- t holds the sixteen products of the four-bit values with h
pub record Products (t : List Element) (h : ℕ) : Type 0 where
  pub product : (n : ℕ) → n < 16 → entry t n ≡ mul (four_bits n) h

-- the element whose products t holds, since 8 is the element 1
abbrev pub subkey : List Element → ℕ
subkey t = entry t 8

-- the sum of those of a, b, c and d for which n has a bit, a for the highest of four
abbrev pub terms : ℕ → ℕ → ℕ → ℕ → ℕ → ℕ
terms n a b c d = bit_xor (bit_xor (n / 8 % 2 * a) (n / 4 % 2 * b)) (bit_xor (n / 2 % 2 * c) (n % 2 * d))

-- four words of 64 bits as one number
abbrev pub wide_of : Wide → ℕ
wide_of w = join (join (join w.w3 w.w2) w.w1) w.w0

-- v · xᵏ. A number of more than 128 bits is an element with a remainder to its right, which k steps take in
unfoldable pub times_power : ℕ → ℕ → ℕ
times_power zero v = v
times_power (suc k) v = times_power k (times_x v)
