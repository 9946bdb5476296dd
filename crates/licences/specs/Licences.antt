-- Two fitters at one vehicle: document 02, W12. "Each job gets a licence byte: 1 first fitter, 2 second, 3 both."
-- Definitions only.
use Rattle.std.specs.Prelude.{ℕ, Bool, true, false, ◌&&◌, List, eqb, leb, length, get_or, if◌then◌else◌}
use Rattle.refusal.specs.Checked.{Checked, accepted, refused, and_then, checked_each}
use Rattle.licences.specs.declared.Fitter.{Fitter}
use Rattle.licences.specs.declared.Fitter.TheVariants.{First, Second}
use Rattle.licences.specs.declared.Owner.{Owner}

abbrev pub FIRST : ℕ
FIRST = 1

abbrev pub SECOND : ℕ
SECOND = 2

abbrev pub BOTH : ℕ
BOTH = 3

-- ---- 24: "A row of another length than the jobs is refused as 24 with place 0, then a licence of 0 or above 3 as 24 with its index"

unfoldable pub is_licence : ℕ → Bool
is_licence licence = leb FIRST licence && leb licence BOTH

abbrev pub checked_licence : (index : ℕ) → ℕ → Checked ℕ
checked_licence index licence = if is_licence licence then accepted licence else refused 24 index

module _ (jobs : ℕ) where
  abbrev pub as_many : List ℕ → Checked (List ℕ)
  as_many licences = if eqb (length licences) jobs then accepted licences else refused 24 0

  abbrev pub each_sound : List ℕ → Checked (List ℕ)
  each_sound licences = checked_each checked_licence 0 licences

  unfoldable pub checked_licences : List ℕ → Checked (List ℕ)
  checked_licences licences = and_then (as_many licences) each_sound

-- ---- whose job it is

-- "Jobs with 3 belong to the first fitter."
abbrev pub owner_of : (licence : ℕ) → Fitter
owner_of licence = if eqb licence SECOND then Second else First

abbrev pub is_fitter : Fitter → Fitter → Bool
is_fitter First First = true
is_fitter First Second = false
is_fitter Second First = false
is_fitter Second Second = true

-- A job without a licence is the first fitter's, so that without licences all are.
abbrev pub owns : List ℕ → Fitter → (job : ℕ) → Bool
owns licences fitter job = is_fitter fitter (owner_of (get_or licences job FIRST))

-- the same of an owner as the code holds him
abbrev pub owned_by : Owner → (job : ℕ) → Bool
owned_by owner job = owns owner.licences.now owner.fitter job

abbrev pub other_than : Fitter → Fitter
other_than First = Second
other_than Second = First
