-- Sets of facts, held in a number: document 01, "Masks are unsigned 64-bit ..; bit i stands for fact i".
-- Nothing here depends on the number of facts: a set is a number of any size.
use Rattle.std.specs.Prelude.{Bool, not, ℕ, zero, suc, ◌-◌, ◌/◌, ◌%◌, ◌^◌, eqb, ltb}
use Rattle.std.specs.Int.Bits.{bit_and, bit_or}

-- 1 where fact i is in the set, 0 where it is not
unfoldable pub bit : ℕ → ℕ → ℕ
bit a zero = a % 2
bit a (suc i) = bit (a / 2) i

-- each fact of a is a fact of b; document 01: a is a part of b, "equal counts"
unfoldable pub subset : ℕ → ℕ → Bool
subset a b = eqb (bit_and a b) a

-- document 01: a and b share a fact
unfoldable pub intersects : ℕ → ℕ → Bool
intersects a b = not (eqb (bit_and a b) 0)

-- document 01: a with (or together with) b
unfoldable pub union : ℕ → ℕ → ℕ
union a b = bit_or a b

-- document 01: a without b
unfoldable pub difference : ℕ → ℕ → ℕ
difference a b = a - bit_and a b

-- every fact that a mask can hold, but those of a
unfoldable pub others : ℕ → ℕ
others a = difference (2 ^ 64 - 1) a

-- document 01: a has no bit at or above F
unfoldable pub within : ℕ → ℕ → Bool
within f a = ltb a (2 ^ f)
