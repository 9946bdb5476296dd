-- What putting a part of a text into a lent slice leaves there: as much of it as the slice has room for.
-- Definitions only.
use Rattle.std.specs.Prelude.{◌≡◌, List, ℕ, suc, ◌+◌, ◌^◌, min, length}
use Rattle.std.proofs.lemmas.List.Edits.{sets}
use Rattle.text_fields.specs.Fields.{places}

-- a part of a text, put from an offset on; `next` is where the part after it goes. What has no room is dropped: past the end `sets` stores
-- nothing, and the next part goes to the end.
pub record Put (before after : List ℕ) (at next : ℕ) (text : List ℕ) : Type 0 where
  pub stored : after ≡ sets before at text
  pub ends : next ≡ min (at + length text) (length before)

-- the power of ten that the first digit of a number stands for
pub record Highest (n power : ℕ) : Type 0 where
  pub exponent : ℕ
  pub is_power : power ≡ 10 ^ exponent
  pub is_places : places n ≡ suc exponent
