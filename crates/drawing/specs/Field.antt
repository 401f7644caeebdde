-- The rule of the substitution table: inverse in the field of 256 elements, then an affine map of the bits. Assumes nothing.
use Rattle.std.specs.Prelude.{◌≡◌, ℕ, zero, suc, ◌+◌, ◌*◌, ◌/◌, ◌%◌, ◌^◌, ◌<◌, cond, ◌⊎◌, ◌==◌, bit_xor, nat_lt}

-- A byte is a polynomial of degree below 8 over the field of two elements: bit i is the coefficient of x^i. The sum of
-- two is bit_xor.

-- times x, reduced by x^8 + x^4 + x^3 + x + 1, whose bits are 11Bh
abbrev pub times_x : ℕ → ℕ
times_x a = cond (nat_lt a 128) (2 * a) (bit_xor (2 * a) 0x11b)

-- a times the polynomial of the lowest k bits of b: the sum of a times x^i over the bits i that are set in b
abbrev pub times_bits : ℕ → ℕ → ℕ → ℕ
times_bits zero a b = 0
times_bits (suc k) a b = bit_xor (cond (b % 2 == 1) a 0) (times_bits k (times_x a) (b / 2))

-- the product of two elements of the field
abbrev pub times : ℕ → ℕ → ℕ
times a b = times_bits 8 a b

-- y is the inverse of x: zero for zero, and else x times y is 1
abbrev pub Inverse : ℕ → ℕ → Type 0
Inverse x y = ((x ≡ 0) × (y ≡ 0)) ⊎ (times x y ≡ 1)

abbrev pub bit : ℕ → ℕ → ℕ
bit b i = b / 2 ^ i % 2

-- bit i of the image of b: the sum modulo 2 of the bits i, i + 4, i + 5, i + 6 and i + 7 of b, counted round the
-- byte, and of bit i of 63h
abbrev pub affine_bit : ℕ → ℕ → ℕ
affine_bit b i =
    (bit b i + bit b ((i + 4) % 8) + bit b ((i + 5) % 8) + bit b ((i + 6) % 8) + bit b ((i + 7) % 8) + bit 0x63 i) % 2

-- the lowest k bits of the image of b
abbrev pub affine_bits : ℕ → ℕ → ℕ
affine_bits zero b = 0
affine_bits (suc k) b = affine_bits k b + affine_bit b k * 2 ^ k

-- the affine map of a byte
abbrev pub affine : ℕ → ℕ
affine b = affine_bits 8 b

-- r is what the standard puts for the byte x: the affine image of the inverse of x
abbrev pub Standard : ℕ → ℕ → Type 0
Standard x r = (y : ℕ) × (y < 256) × Inverse x y × (r ≡ affine y)
