-- The fields of a printed line, in bytes: words, decimal numbers and masks (document 01, "A trailer on the hitch").
-- Definitions only.
use Rattle.std.specs.Prelude.{List, [], ◌∷◌, ℕ, zero, suc, ◌+◌, ◌-◌, ◌/◌, ◌%◌, ◌^◌, ltb, if◌then◌else◌}
use Prim.Native.Char.{code}
use Prim.Native.String as S

-- a quoted text of ASCII characters, in bytes
abbrev pub ascii : S.String → List ℕ
ascii S.[] = []
ascii (S.◌∷◌ c s) = code c ∷ ascii s

-- a digit: `0` to `9`, then `a` to `f`; "hexadecimal digits with small letters"
abbrev pub digit : ℕ → ℕ
digit d = if ltb d 10 then 0x30 + d else 0x61 + (d - 10)

-- the lowest `count` digits of a number, the highest of them first
unfoldable pub digits : (base count n : ℕ) → List ℕ
digits base zero n = []
digits base (suc k) n = digit (n / base ^ k % base) ∷ digits base k n

-- how many decimal digits a number has; the first argument bounds the count from above
unfoldable pub places_in : (most n : ℕ) → ℕ
places_in zero n = 1
places_in (suc most) n = let more = suc (places_in most (n / 10)) in if ltb n 10 then 1 else more

unfoldable pub places : ℕ → ℕ
places n = places_in n n

-- "all else in decimal"
abbrev pub decimal : ℕ → List ℕ
decimal n = digits 10 (places n) n

-- "A mask is printed as 16 hexadecimal digits with small letters"
abbrev pub mask_text : ℕ → List ℕ
mask_text mask = digits 16 16 mask
