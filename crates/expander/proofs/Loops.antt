-- The two loops of the expansion: what holds at the head of each, and why a turn keeps it. What the definition still has to do, from where a
-- loop stands, gives the outcome of the whole.
-- Assumes nothing.
use mathlib.Core.Path.{◌≡◌, refl, sym, ap, ◌∙◌}
use mathlib.Core.Bool.{Bool, true, false, not, ◌&&◌}
use mathlib.Core.List.{List, [], ◌∷◌, ◌++◌}
use Prim.Native.Nat.{ℕ, ◌+◌, ◌-◌, ◌≤◌, ◌<◌}
use native.Mathlib.Omega.{arith}
use native.Mathlib.Numerals.{add-one}
use lib.Dec.{T, T_not, not_T, ltb, lt→ltb}
use lib.ListN.{length, get_or}
use lib.Seq.{get_or-set_other}
use Rattle.base.specs.Bools.{and_intro, and_right}
use Rattle.conditions.specs.declared.Action.{Action}
use Rattle.conditions.specs.declared.Condition.{Condition}
use Rattle.conditions.specs.Condition.{consistent, relevant, regressed, condition_at}
use Rattle.conditions.specs.Search.{newest_weaker}
use Rattle.conditions.specs.ConditionLaws.{plain_regressed}
use Rattle.planning.specs.Domain.{Domain}
use Rattle.planning.specs.Expansion.{Entry, exhausted, covered, full, root, entry_in, new_condition, new_entry, wanted, remaining_from, remaining_at}
use Rattle.planning.proofs.ExpansionSteps.{start_full, start_covered, start_going, enter_entry, leave_entry, last_entry, skip_action, list_full, list_ends}
use Rattle.planning.proofs.ExpansionSteps.{list_grows}
use Rattle.planning.proofs.SearchLaws.{wanted_intro, unwanted_irrelevant, unwanted_unsatisfiable, unwanted_listed}
use Rattle.planning.proofs.ColumnLaws.{length_prefix, get_d_prefix, entries_store}
use Rattle.planning.specs.Facts.{Actions, unit_domain, fact_plan}
use Rattle.planning.proofs.FactLaws.{fact_same, from_same, at_same}
use Rattle.expander.specs.Expands.{Columns, actions_in, actions_for, room, held, Unlent, Unasked}
use Rattle.expander.specs.ExpandsLaws.{counted_unasked, entry_of, nowhere_unlisted}
use Rattle.expander.proofs.Tables.{Holds, store, holds_none, holds_store, holds_self, holds_on, second_nothing, second_read}
use Rattle.std.specs.Prelude.{None}

-- ---- what holds at the head of each loop

-- Where the loop began, the tables were t₀ and held n₀ entries; now they are t and hold n, and those below e are expanded.
pub record AtEntry (paired : Bool) (A : Actions) (goal : Condition) (stop : Condition → Bool) (capacity : ℕ) (t₀ : Columns) (n₀ : ℕ) (t : Columns)
    (n e : ℕ) : Type 0 where
  pub holds : Holds paired capacity n t₀ t
  pub grown : n₀ ≤ n
  pub inside : e ≤ n
  pub same : remaining_from (unit_domain A goal) A.count capacity stop e (held t n) ≡ fact_plan A goal capacity stop

-- Besides, the actions below a were tried at entry e, whose condition is c and whose depth is d.
pub record AtAction (paired : Bool) (A : Actions) (goal : Condition) (stop : Condition → Bool) (capacity : ℕ) (t₀ : Columns) (n₀ e : ℕ)
    (c : Condition) (d : ℕ) (t : Columns) (n a : ℕ) : Type 0 where
  pub holds : Holds paired capacity n t₀ t
  pub grown : n₀ ≤ n
  pub inside : e < n
  pub its_condition : c ≡ condition_at t.conditions t.absences e
  pub its_depth : d ≡ get_or t.depths e 0
  pub same : remaining_at (unit_domain A goal) A.count capacity stop e a (held t n) ≡ fact_plan A goal capacity stop

-- Where the search found nothing: action a serves c, what it makes of c wants no fact both ways, and no listed condition is a part of that.
pub record Wanted (A : Actions) (t : Columns) (n : ℕ) (c : Condition) (a : ℕ) (new : Condition) : Type 0 where
  pub below : a < A.count
  pub serves : T (relevant (A.action a) c)
  pub made : new ≡ regressed (A.action a) c
  pub possible : T (consistent new)
  pub searched : newest_weaker t.conditions t.absences n new ≡ None

-- ---- before the loops

-- entry 0 is stored
pub root_held : {paired : Bool} {capacity : ℕ} (goal : Condition) (t : Columns) → Unlent paired t.absences → capacity ≡ room t paired → 0 < capacity
    → Holds paired capacity 1 t (store t 0 goal 255 0 0)
root_held goal t u e h = holds_store (holds_none t u e) h goal 255 0 0 (omega arith)

module _ (paired : Bool) (A : Actions) (goal : Condition) (stop : Condition → Bool) {capacity : ℕ} (t : Columns) (u : Unlent paired t.absences)
    (e : capacity ≡ room t paired) where
  abbrev D₀ : Domain ℕ Condition ℕ
  D₀ = unit_domain A goal

  pub no_room : capacity ≡ 0 → full (held t 0) ≡ fact_plan A goal capacity stop
  no_room z = sym (start_full D₀ A.count capacity stop z)

  module _ (nothing : goal.absent ≡ 0) (h : 0 < capacity) where
    root_list : held (store t 0 goal 255 0 0) 1 ≡ root D₀ ∷ []
    root_list =
        let H = holds_none t u e in
        entries_store t.conditions t.absences t.actions t.parents t.depths 0 goal 255 0 0 (omega (arith, H.conditions.roomy))
        (second_read H.absences goal.absent (λ p. nothing) h) (omega (arith, H.actions.roomy)) (omega (arith, H.parents.roomy)) (omega (arith, H.depths.roomy))

    pub goal_met : T (stop goal) → covered (held (store t 0 goal 255 0 0) 1) ≡ fact_plan A goal capacity stop
    goal_met s = ap covered root_list ∙ sym (start_covered D₀ A.count capacity stop h s)

    pub first_entry : T (not (stop goal)) → AtEntry paired A goal stop capacity (store t 0 goal 255 0 0) 1 (store t 0 goal 255 0 0) 1 0
    first_entry s =
        record {
          holds = holds_self (root_held goal t u e h);
          grown = omega arith;
          inside = omega arith;
          same = rw root_list (sym (start_going D₀ A.count capacity stop h s));
        }

-- ---- the entries

module _ {paired : Bool} {A : Actions} {goal : Condition} {stop : Condition → Bool} {capacity : ℕ} {t₀ t : Columns} {n₀ n e : ℕ}
    (I : AtEntry paired A goal stop capacity t₀ n₀ t n e) where
  abbrev D₁ : Domain ℕ Condition ℕ
  D₁ = unit_domain A goal

  held_length : length (held t n) ≡ n
  held_length = length_prefix (entry_of t) n

  -- every entry is expanded
  pub exhausts : e ≡ n → exhausted (held t n) ≡ fact_plan A goal capacity stop
  exhausts h = sym (last_entry D₁ A.count capacity stop e (held t n) (omega (arith, held_length))) ∙ I.same

  -- entry e is one of them
  module _ (other : e ≡ n → ⊥) where
    less : e < n
    less = omega (arith, I.inside)

    pub enter : {c : Condition} → c ≡ condition_at t.conditions t.absences e
        → AtAction paired A goal stop capacity t n e c (get_or t.depths e 0) t n 0
    enter q =
        record {
          holds = holds_self I.holds;
          grown = omega arith;
          inside = less;
          its_condition = q;
          its_depth = refl;
          same =
              sym (enter_entry D₁ A.count capacity stop e (held t n) (omega (arith, less, held_length))
              (omega (arith, held_length, I.holds.fits)))
              ∙ I.same;
        }

    -- every action was tried at it
    pub leave : {c : Condition} {d : ℕ} {u : Columns} {m a : ℕ} → AtAction paired A goal stop capacity t n e c d u m a → a ≡ A.count
        → AtEntry paired A goal stop capacity t₀ n₀ u m (e + 1)
    leave {c} {d} {u} {m} {a} J all =
        record {
          holds = holds_on I.holds J.holds J.grown;
          grown = omega (arith, I.grown, J.grown);
          inside = omega (arith, J.inside);
          same = rw (add-one e) (sym (leave_entry D₁ A.count capacity stop e (held u m)) ∙ rw all at J.same);
        }

-- ---- the actions at an entry

module _ {paired : Bool} {A : Actions} {goal : Condition} {stop : Condition → Bool} {capacity : ℕ} {t₀ t : Columns} {n₀ n e : ℕ} {c : Condition}
    {d a : ℕ} (I : AtAction paired A goal stop capacity t₀ n₀ e c d t n a) where
  abbrev D : Domain ℕ Condition ℕ
  D = unit_domain A goal

  -- the entry in hand, as the definition lists it
  abbrev it : Entry Condition
  it = entry_in D (held t n) e

  it_is : it ≡ entry_of t e
  it_is = get_d_prefix (entry_of t) n e (root D) I.inside

  its_condition_is : it.condition ≡ c
  its_condition_is = ap (λ x. x.condition) it_is ∙ sym I.its_condition

  its_length : length (held t n) ≡ n
  its_length = length_prefix (entry_of t) n

  module _ (below : a < A.count) where
    skip : T (not (wanted D a it (held t n))) → AtAction paired A goal stop capacity t₀ n₀ e c d t n (a + 1)
    skip w =
        record {
          holds = I.holds;
          grown = I.grown;
          inside = I.inside;
          its_condition = I.its_condition;
          its_depth = I.its_depth;
          same = rw (add-one a) (sym (skip_action D A.count capacity stop e a (held t n) below w) ∙ I.same);
        }

    -- the action does not serve the condition
    pub skip_irrelevant : T (not (relevant (A.action a) c)) → AtAction paired A goal stop capacity t₀ n₀ e c d t n (a + 1)
    skip_irrelevant r =
        skip (unwanted_irrelevant D a it (held t n)
        (rw its_condition_is (not_T (ltb a A.count && relevant (A.action a) c)
        (λ s. T_not (relevant (A.action a) c) r (and_right (ltb a A.count) _ s)))))

    module _ (new : Condition) (made : new ≡ regressed (A.action a) c) where
      -- what it makes of it wants a fact both ways
      pub skip_inconsistent : T (not (consistent new)) → AtAction paired A goal stop capacity t₀ n₀ e c d t n (a + 1)
      skip_inconsistent s = skip (unwanted_unsatisfiable D a it (held t n) (rw (its_condition_is, ← made) s))

      -- a listed condition is a part of what it makes of it
      pub skip_listed : (newest_weaker t.conditions t.absences n new ≡ None → ⊥) → AtAction paired A goal stop capacity t₀ n₀ e c d t n (a + 1)
      skip_listed found =
          skip (unwanted_listed D a it (held t n) (λ u. found ((nowhere_unlisted A goal t n new).1 (rw (its_condition_is, ← made) at u))))

  module _ {new : Condition} (W : Wanted A t n c a new) where
    new_is : new_condition D a it ≡ new
    new_is = rw its_condition_is (sym W.made)

    is_wanted : T (wanted D a it (held t n))
    is_wanted =
        wanted_intro D a it (held t n) (rw its_condition_is (and_intro (ltb a A.count) _ (lt→ltb a A.count W.below) W.serves))
        (rw new_is W.possible) (rw new_is ((nowhere_unlisted A goal t n new).0 W.searched))

    -- there is no room for it
    pub fills : n ≡ capacity → full (held t n) ≡ fact_plan A goal capacity stop
    fills h =
        sym (list_full D A.count capacity stop e a (held t n) W.below is_wanted (omega (arith, its_length))) ∙ I.same

    module _ (z : Unasked paired A) (other : n ≡ capacity → ⊥) where
      free : n < capacity
      free = omega (arith, I.holds.fits)

      abbrev after : Columns
      after = store t n new a e (d + 1)

      -- where no action needs a fact absent, the new condition does not
      new_plain : T (not paired) → new.absent ≡ 0
      new_plain p =
          ap (λ x. x.absent) W.made
          ∙ plain_regressed (A.action a) c (z p a W.below) (ap (λ x. x.absent) I.its_condition ∙ second_nothing I.holds.absences p e)

      pub holds_new : Holds paired capacity (n + 1) t₀ after
      holds_new = holds_store I.holds free new a e (d + 1) (omega (arith, I.its_depth, I.holds.shallow e I.inside, I.inside))

      list_is : held t n ++ (new_entry D a e it ∷ []) ≡ held after (n + 1)
      list_is =
          rw (it_is, ← I.its_condition, ← W.made, ← I.its_depth, ← add-one d, add-one n)
          (sym (entries_store t.conditions t.absences t.actions t.parents t.depths n new a e (d + 1)
          (omega (arith, free, I.holds.conditions.roomy)) (second_read I.holds.absences new.absent new_plain free)
          (omega (arith, free, I.holds.actions.roomy))
          (omega (arith, free, I.holds.parents.roomy)) (omega (arith, free, I.holds.depths.roomy))))

      -- it ends the list
      pub ends : T (stop new) → covered (held after (n + 1)) ≡ fact_plan A goal capacity stop
      ends s =
          sym (list_ends D A.count capacity stop e a (held t n) W.below is_wanted (omega (arith, free, its_length))
          (rw new_is s)
          ∙ ap covered list_is)
          ∙ I.same

      -- it does not
      pub grows : T (not (stop new)) → AtAction paired A goal stop capacity t₀ n₀ e c d after (n + 1) (a + 1)
      grows s =
          record {
            holds = holds_new;
            grown = omega (arith, I.grown);
            inside = omega (arith, I.inside);
            its_condition =
                I.its_condition
                ∙ rw (
                  get_or-set_other t.conditions n e new.present 0 (omega (arith, I.inside)),
                  get_or-set_other t.absences n e new.absent 0 (omega (arith, I.inside)),
                );
            its_depth = I.its_depth ∙ sym (get_or-set_other t.depths n e (d + 1) 0 (omega (arith, I.inside)));
            same =
                rw (add-one a, ← list_is)
                (sym (list_grows D A.count capacity stop e a (held t n) W.below is_wanted (omega (arith, free, its_length))
                (rw new_is s) (omega (arith, I.inside, its_length)))
                ∙ I.same);
          }

-- ---- where no action that counts needs a fact absent, what holds at the head of each loop holds of the actions as they are

module _ {goal : Condition} {stop : Condition → Bool} {capacity : ℕ} {t₀ t : Columns} {n₀ n e : ℕ} where
  pub entry_unasked : (paired : Bool) (actions : List Action) → Unasked paired (actions_in actions)
      → AtEntry paired (actions_for paired actions) goal stop capacity t₀ n₀ t n e → AtEntry paired (actions_in actions) goal stop capacity t₀ n₀ t n e
  entry_unasked true actions u I = I
  entry_unasked false actions u I =
      let same = counted_unasked actions u in
      record {
        holds = I.holds;
        grown = I.grown;
        inside = I.inside;
        same = sym (from_same same goal capacity stop (capacity - e) e (held t n)) ∙ I.same ∙ fact_same same goal capacity stop;
      }

  module _ {c : Condition} {d a : ℕ} where
    pub action_unasked : (paired : Bool) (actions : List Action) → Unasked paired (actions_in actions)
        → AtAction paired (actions_for paired actions) goal stop capacity t₀ n₀ e c d t n a → AtAction paired (actions_in actions) goal stop capacity t₀ n₀ e c d t n a
    action_unasked true actions u I = I
    action_unasked false actions u I =
        let same = counted_unasked actions u in
        record {
          holds = I.holds;
          grown = I.grown;
          inside = I.inside;
          its_condition = I.its_condition;
          its_depth = I.its_depth;
          same = sym (at_same same goal capacity stop e a (held t n)) ∙ I.same ∙ fact_same same goal capacity stop;
        }
