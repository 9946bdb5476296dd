-- What a call answers: a value, or a refusal with document 01's number and place ("Stops, in checking order").
-- Assumes nothing.
use Rattle.std.specs.Prelude.{ℕ, suc, List, [], ◌∷◌, Result, Ok, Err}
use Rattle.refusal.specs.declared.Refusal.{Refusal}
use Rattle.refusal.specs.Numbers.{number_of}

pub data Checked (A : Type 0) : Type 0 where
  accepted : A → Checked A
  refused : (number place : ℕ) → Checked A

-- the first refusal stands; without one, go on with the value
abbrev pub and_then : {A B : Type 0} → Checked A → (A → Checked B) → Checked B
and_then (accepted a) next = next a
and_then (refused n p) next = refused n p

-- the same of each element of a list, with its index, the first of which is `at`
abbrev pub checked_each : {A B : Type 0} → (ℕ → A → Checked B) → (at : ℕ) → List A → Checked (List B)
checked_each check at [] = accepted []
checked_each check at (x ∷ l) = and_then (check at x) λ y. and_then (checked_each check (suc at) l) λ ys. accepted (y ∷ ys)

-- a refusal of the code, in document 01's terms
abbrev pub refused_by : {A : Type 0} → Refusal → Checked A
refused_by x = refused (number_of x.reason) x.place

-- what the code answers, in these terms
abbrev pub answer_of : {A : Type 0} → Result A Refusal → Checked A
answer_of (Ok a) = accepted a
answer_of (Err x) = refused_by x

-- the same where it answers no value: that which was checked
abbrev pub answer_as : {A : Type 0} → A → Result (Unit {0}) Refusal → Checked A
answer_as a (Ok tt) = accepted a
answer_as a (Err x) = refused_by x

-- the same of a part of what it answers, or of that by another name
abbrev pub answer_by : {A B : Type 0} → (A → B) → Result A Refusal → Checked B
answer_by f (Ok a) = accepted (f a)
answer_by f (Err x) = refused_by x
