-- What the answer of a plan tells, and what the code leaves comes to it, whatever the kind of plan.
-- Assumes nothing.
use Rattle.std.specs.Prelude.{ℕ, ◌≡◌, refl, Bool, true, false, List, ◌⊎◌, length, if◌then◌else◌}
use Rattle.std.proofs.Common.{sym, ap, ◌∙◌, inl, inr}
use Rattle.refusal.specs.Checked.{Checked, accepted, refused}
use Rattle.refusal.specs.CheckedLaws.{not_both, accepted_same}
use Rattle.conditions.specs.declared.Condition.{Condition}
use Rattle.planning.specs.Expansion.{Entry, Outcome, exhausted, covered, full, entries}
use Rattle.expander.specs.declared.Until.{Until}
use Rattle.expander.specs.declared.Until.TheVariants as U
use Rattle.expander.specs.Expands.{Columns, written, listed_by}
use Rattle.builder.specs.Finish.{PlanOf, Finish, no_plan_of, list_alone, list_and_trees, with_trees, finished, planned, WritesTrees, WritesLists}

-- the list of an expansion that ended as was asked is all that it stored
pub listed_entries : (until : Until) (o : Outcome Condition) (l : List (Entry Condition)) → listed_by until o ≡ accepted l → l ≡ entries o
listed_entries until (full m) l e = absurd (not_both e)
listed_entries (U.Covers start) (exhausted m) l e = absurd (not_both e)
listed_entries U.Never (exhausted m) l e = sym (accepted_same e)
listed_entries (U.Covers start) (covered m) l e = sym (accepted_same e)
listed_entries U.Never (covered m) l e = sym (accepted_same e)

module _ {Told Trees : Type 0} (F : Finish Told Trees) (paired : Bool) where
  abbrev Either : Bool → List (Entry Condition) → PlanOf Told Trees
  Either fits l = if fits then list_and_trees F paired l else list_alone F paired 12 (length l) l

  module _ (until : Until) (o : Outcome Condition) where
    -- whatever its answer, the list is that of the expansion, with both masks where it is paired
    pub planned_list : ((planned F paired until o).list ≡ entries o) × ((planned F paired until o).paired ≡ paired)
    planned_list = by_end (listed_by until o) refl
      where
        by_room : (fits : Bool) (l : List (Entry Condition)) → ((Either fits l).list ≡ l) × ((Either fits l).paired ≡ paired)
        by_room true l = (refl, refl)
        by_room false l = (refl, refl)

        by_end : (c : Checked (List (Entry Condition))) → listed_by until o ≡ c
            → ((finished F paired (entries o) c).list ≡ entries o) × ((finished F paired (entries o) c).paired ≡ paired)
        by_end (accepted m) e = let w = by_room (F.fit m) m in (w.0 ∙ listed_entries until o m e, w.1)
        by_end (refused n p) e = (refl, refl)

    -- an accepted answer: its list, which ended as was asked, and whose trees fit
    pub record WholeOf (p : Told) : Type 0 where
      pub list : List (Entry Condition)
      pub listed : listed_by until o ≡ accepted list
      pub plan_is : planned F paired until o ≡ list_and_trees F paired list
      pub told_is : p ≡ F.tell list

    pub planned_whole : (p : Told) → (planned F paired until o).answer ≡ accepted p → WholeOf p
    planned_whole p a = by_end (listed_by until o) refl a
      where
        by_room : (fits : Bool) (l : List (Entry Condition)) → (Either fits l).answer ≡ accepted p → (Either fits l ≡ list_and_trees F paired l) × (p ≡ F.tell l)
        by_room true l a = (refl, sym (accepted_same a))
        by_room false l a = absurd (not_both a)

        by_end : (c : Checked (List (Entry Condition))) → listed_by until o ≡ c → (finished F paired (entries o) c).answer ≡ accepted p → WholeOf p
        by_end (accepted l) e a =
            let w = by_room (F.fit l) l a in
            record { list = l; listed = e; plan_is = ap (finished F paired (entries o)) e ∙ w.0; told_is = w.1 }
        by_end (refused n q) e a = absurd (not_both a)

    -- a refusal: the list did not end as was asked, or its trees do not fit
    abbrev pub UnfinishedOf : ℕ → ℕ → Type 0
    UnfinishedOf n p =
        (listed_by until o ≡ refused n p) ⊎ ((l : List (Entry Condition)) × (listed_by until o ≡ accepted l) × (n ≡ 12) × (p ≡ length l) × (F.fit l ≡ false))

    pub planned_refused : (n p : ℕ) → (planned F paired until o).answer ≡ refused n p → UnfinishedOf n p
    planned_refused n p a = by_end (listed_by until o) refl a
      where
        by_room : (l : List (Entry Condition)) → listed_by until o ≡ accepted l → (fits : Bool) → F.fit l ≡ fits → (Either fits l).answer ≡ refused n p → UnfinishedOf n p
        by_room l e true f a = absurd (not_both (sym a))
        by_room l e false f a = inr (l, e, cc, cc, f)

        by_end : (c : Checked (List (Entry Condition))) → listed_by until o ≡ c → (finished F paired (entries o) c).answer ≡ refused n p → UnfinishedOf n p
        by_end (accepted l) e a = by_room l e (F.fit l) refl a
        by_end (refused m q) e a = let x : m ≡ n = cc in let y : q ≡ p = cc in inl (rw (x, y) at e)

    -- and it has no tree
    pub refused_tree : (n p : ℕ) → (planned F paired until o).answer ≡ refused n p → (planned F paired until o).tree ≡ F.none
    refused_tree n p a = by_end (listed_by until o) a
      where
        by_room : (fits : Bool) (l : List (Entry Condition)) → (Either fits l).answer ≡ refused n p → (Either fits l).tree ≡ F.none
        by_room true l a = absurd (not_both (sym a))
        by_room false l a = refl

        by_end : (c : Checked (List (Entry Condition))) → (finished F paired (entries o) c).answer ≡ refused n p → (finished F paired (entries o) c).tree ≡ F.none
        by_end (accepted l) a = by_room (F.fit l) l a
        by_end (refused m q) a = refl

  -- ---- what the code leaves

  module _ (Wrote : Trees → Type 0) (told : Checked Told) where
    -- 12: no tree is written
    pub trees_short : (l : List (Entry Condition)) → F.fit l ≡ false → Wrote F.none → told ≡ refused 12 (length l) → WritesTrees Wrote (with_trees F paired l) told
    trees_short l f w a = rw f (record { answer = a; tree_written = w })

    pub trees_fit : (l : List (Entry Condition)) → F.fit l ≡ true → Wrote (F.trees l) → told ≡ accepted (F.tell l) → WritesTrees Wrote (with_trees F paired l) told
    trees_fit l f w a = rw f (record { answer = a; tree_written = w })

    module _ (until : Until) (o : Outcome Condition) (before after : Columns) (tables : after ≡ written paired (entries o) before) where
      tables_are : after ≡ written (planned F paired until o).paired (planned F paired until o).list before
      tables_are = let w = planned_list until o in tables ∙ rw (w.0, w.1)

      -- 10 or 11
      pub lists_refused : (n p : ℕ) → listed_by until o ≡ refused n p → Wrote F.none → told ≡ refused n p → WritesLists Wrote (planned F paired until o) before after told
      lists_refused n p e w a =
          record { tables = tables_are; answer_and_tree = rw (ap (finished F paired (entries o)) e) (record { answer = a; tree_written = w }) }

      pub lists_finished : (l : List (Entry Condition)) → listed_by until o ≡ accepted l → WritesTrees Wrote (with_trees F paired l) told
          → WritesLists Wrote (planned F paired until o) before after told
      lists_finished l e W = record { tables = tables_are; answer_and_tree = rw (ap (finished F paired (entries o)) e) W }

-- nothing is written
pub lists_untouched : {Told Trees : Type 0} (Wrote : Trees → Type 0) (none : Trees) → Wrote none → (n p : ℕ) (before : Columns) (told : Checked Told) → told ≡ refused n p
    → WritesLists Wrote (no_plan_of none n p) before before told
lists_untouched Wrote none w n p before told a = record { tables = refl; answer_and_tree = record { answer = a; tree_written = w } }
