-- What writing a text into a lent slice leaves there: as much of it as the slice has room for.
-- Definitions only.
use Rattle.std.specs.Prelude.{◌≡◌, Bool, List, ◌++◌, ℕ, min, length, take, drop, if◌then◌else◌}

-- a whole text, put from the beginning: how many bytes of it stand there, and that nothing past it is touched
pub record Wrote (text before after : List ℕ) (count : ℕ) : Type 0 where
  pub counted : count ≡ min (length text) (length before)
  pub lent : after ≡ take (length before) text ++ drop (length text) before

-- how many entries there are in a list: no more than asked for, and no more than each column holds
abbrev pub listed : (entries : ℕ) → (conditions actions parents depths : List ℕ) → ℕ
listed entries conditions actions parents depths = min entries (min (length conditions) (min (length actions) (min (length parents) (length depths))))

-- of so many entries those that have a second mask, where it is shown
abbrev pub with_absences : (paired : Bool) → (entries absences : ℕ) → ℕ
with_absences paired entries absences = if paired then min entries absences else entries

-- how many there are to show
abbrev pub shown : (paired : Bool) → (entries : ℕ) → (conditions absences actions parents depths : List ℕ) → ℕ
shown paired entries conditions absences actions parents depths = with_absences paired (listed entries conditions actions parents depths) (length absences)
