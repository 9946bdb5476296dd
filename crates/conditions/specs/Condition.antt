-- Conditions, and what an action does to a state and to a condition: document 01, "Expansion" and "Work on a vehicle" (source document 000,
-- equation 4 and Algorithm 1); document 02, W10: "Conditions become pairs: facts to hold and facts to be absent."
-- Definitions only.
use Rattle.std.specs.Prelude.{Bool, not, ◌&&◌, ◌||◌, List, ℕ, get_or, T}
use Rattle.masks.specs.Sets.{subset, intersects, union, difference, within}
use Rattle.conditions.specs.declared.Condition.{Condition}
use Rattle.conditions.specs.declared.Action.{Action}

-- a condition of document 01, and of every table without a 0x21: nothing is to be absent
abbrev pub plain : ℕ → Condition
plain m = record { present = m; absent = 0 }

-- all facts that a condition speaks of
abbrev pub mentioned : Condition → ℕ
mentioned c = union c.present c.absent

-- "one pair is part of another when both masks are", "equal counts"
unfoldable pub weaker : Condition → Condition → Bool
weaker c d = subset c.present d.present && subset c.absent d.absent

-- "A pair that wants a fact both ways is dropped": this is what the others are
unfoldable pub consistent : Condition → Bool
consistent c = not (intersects c.present c.absent)

-- "A state meets a pair .. when it holds all of the first and none of the second."
unfoldable pub satisfied : Condition → ℕ → Bool
satisfied c s = subset c.present s && not (intersects c.absent s)

-- what an action needs, as a condition: "It is applicable when all its needs are held"; "in demand 3 each job done has its absent facts absent too"
abbrev pub needed : Action → Condition
needed a = record { present = a.needs; absent = a.absent }

-- "Finished job: held becomes (held with adds) without deletes."
unfoldable pub applied : Action → ℕ → ℕ
applied a s = difference (union s a.adds) a.deletes

-- "A job serves a pair when it adds one of the first or deletes one of the second and undoes neither."
unfoldable pub relevant : Action → Condition → Bool
relevant a c =
    not (intersects a.deletes c.present || intersects a.adds c.absent)
    && (intersects a.adds c.present || intersects a.deletes c.absent)

-- "The new pair joins its needs to the first without its adds, and its absent facts to the second without its deletes."
unfoldable pub regressed : Action → Condition → Condition
regressed a c =
    record {
      present = union a.needs (difference c.present a.adds);
      absent = union a.absent (difference c.absent a.deletes);
    }

-- ---- within the facts of a table

-- the condition speaks of no fact at or above f
abbrev pub condition_within : ℕ → Condition → Bool
condition_within f c = within f c.present && within f c.absent

-- The action asks for and adds no fact at or above f. Of its deletes nothing is asked: they only take facts away.
pub record ActionWithin (f : ℕ) (a : Action) : Type 0 where
  pub needs_within : T (condition_within f (needed a))
  pub adds_within : T (within f a.adds)

-- ---- columns of masks, which hold no facts past their ends

-- condition i of two columns: where the second is not lent, nothing is to be absent
abbrev pub condition_at : List ℕ → List ℕ → ℕ → Condition
condition_at conditions absences i = record { present = get_or conditions i 0; absent = get_or absences i 0 }

-- action i of four columns
abbrev pub action_at : List ℕ → List ℕ → List ℕ → List ℕ → ℕ → Action
action_at needs absent adds deletes i = record { needs = get_or needs i 0; absent = get_or absent i 0; adds = get_or adds i 0; deletes = get_or deletes i 0 }
