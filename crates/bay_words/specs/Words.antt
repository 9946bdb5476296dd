-- The answers of the C functions, in the words that include/bay.h gives them.
-- Definitions only.
use Rattle.std.specs.Prelude.{◌≡◌, Bool, true, false, List, ◌∷◌, ℕ, ◌-◌, get_or, replicate, Result, Ok, Err}
use Rattle.refusal.specs.declared.Refusal.{Refusal}
use Rattle.refusal.specs.Numbers.{number_of}
use Rattle.refusal.specs.Checked.{Checked, accepted, refused}

-- 0, then what the call gives; of a refusal its number, its place, and 0 in every further word
abbrev pub words : {A : Type 0} (size : ℕ) (values : A → List ℕ) → Checked A → List ℕ
words size values (accepted a) = 0 ∷ values a
words size values (refused number place) = number ∷ place ∷ replicate (size - 2) 0

-- yes or no
abbrev pub flag_word : Bool → ℕ
flag_word false = 0
flag_word true = 1

-- the words that are due stand in the lent answer, and the first of them is the result
pub record Answered (due lent : List ℕ) (result : ℕ) : Type 0 where
  pub lends : lent ≡ due
  pub gives : result ≡ get_or due 0 0

-- the words of a call's result
abbrev pub words_of : (size : ℕ) → Result (List ℕ) Refusal → List ℕ
words_of size (Ok given) = given
words_of size (Err x) = number_of x.reason ∷ x.place ∷ replicate (size - 2) 0
