-- Document 02, W4, on document 01's trailer and on the trailer with one fact less: what one call asks and what it gives, computed from the definitions
-- that the contract of `tick_all` cites.
-- Assumes nothing.
use Rattle.std.specs.Prelude.{ℕ, ◌≡◌, refl, List, [], ◌∷◌, map, take, set}
use Rattle.masks.specs.Sets.{subset, intersects, union, within}
use Rattle.refusal.specs.Checked.{Checked, accepted, refused}
use Rattle.commands.specs.Commands.{width_of, command_at}
use Rattle.numbers.specs.Numbers.{from_bytes, to_bytes, number_at}
use Rattle.reading.specs.declared.Reading.{Reading}
use Rattle.reading.specs.Reading.{sound, checked_at}
use Rattle.conditions.specs.declared.Condition.{Condition}
use Rattle.conditions.specs.OnReading.{possible, evaluated}
use Rattle.job.specs.Job.{job_at}
use Rattle.job.specs.Validation.{validated_job}
use Rattle.table.specs.Table.{has_pair}
use Rattle.table.specs.Read as Table
use Rattle.tree.specs.declared.Status.{Status}
use Rattle.tree.specs.declared.Status.TheVariants.{Success, Failure, Running, Unsettled}
use Rattle.tree.specs.ReadTree as Tree
use Rattle.tree.specs.Tick.{tick_by}
use Rattle.tree.specs.TickBytes.{tick_checked, tick_bytes}
use Rattle.planning.specs.Expansion.{Entry}
use Rattle.flat.specs.TreeBytes.{condition_bytes, leaf_bytes, first_bytes, entry_bytes, later_entries, own_tree}
use Rattle.batch_walk.specs.Batch.{read_by, entries_read}
use Rattle.batch_checks.specs.Checks.{entry_fits, checked_list}
use Rattle.batch_tick.specs.BatchTick.{entries_lent, BatchAnswer, checked_batch, batch_ticked}
use Rattle.marked_cases.specs.Trailer.{trailer_bytes}
use Rattle.marked_cases.specs.OneFactLess.{one_fact_less_bytes}
use Rattle.marked_cases.specs.Cases.{reading, whole, less_whole}

-- ---- what is lent

abbrev presents : List (Entry Condition) → List ℕ
presents l = map (λ x. x.condition.present) l

abbrev absents : List (Entry Condition) → List ℕ
absents l = map (λ x. x.condition.absent) l

abbrev jobs : List (Entry Condition) → List ℕ
jobs l = map (λ x. x.action) l

-- P1's list, and that of the plan with one fact less
abbrev p1 : List (Entry Condition)
p1 = take 8 whole

abbrev less : List (Entry Condition)
less = take 7 less_whole

abbrev on_trailer : (conditions jobs : List ℕ) → List Reading → Checked BatchAnswer
on_trailer conditions jobs rs = batch_ticked trailer_bytes conditions [] jobs rs

abbrev on_less : (absences : List ℕ) → List Reading → Checked BatchAnswer
on_less absences rs = batch_ticked one_fact_less_bytes (presents less) absences (jobs less) rs

abbrev told : List Status → ℕ → Checked BatchAnswer
told statuses read = accepted (record { statuses = statuses; read = read })

-- the readings of P7, P8, P9 and P10
abbrev marked : List Reading
marked = reading 0x02 0x01 ∷ reading 0x02 0x08 ∷ reading 0x03 0x00 ∷ reading 0x08 0x00 ∷ []

-- ---- what is given

pub record YardComputed : Type 0 where
  -- P7 to P10 in one call; the last vehicle fails every entry
  pub in_one_call : on_trailer (presents p1) (jobs p1) marked ≡ told (Unsettled 0x01 ∷ Unsettled 0x08 ∷ Running 3 ∷ Failure ∷ []) 8
  -- without it, the furthest stop is at entry 5
  pub furthest : on_trailer (presents p1) (jobs p1) (take 3 marked) ≡ told (Unsettled 0x01 ∷ Unsettled 0x08 ∷ Running 3 ∷ []) 6
  -- "0 for no vehicles"
  pub none : on_trailer (presents p1) (jobs p1) [] ≡ told [] 0
  pub sealed : on_trailer (presents p1) (jobs p1) (reading 0x10 0x00 ∷ []) ≡ told (Success ∷ []) 1
  -- "as many entries as the shorter has"
  pub shorter : on_trailer (presents p1) (take 2 (jobs p1)) (reading 0x0c 0x00 ∷ reading 0x02 0x00 ∷ []) ≡ told (Running 4 ∷ Failure ∷ []) 2
  -- second masks are of no account to a table without a 0x21
  pub ignored : batch_ticked trailer_bytes (presents p1) (0xff ∷ []) (jobs p1) marked ≡ on_trailer (presents p1) (jobs p1) marked
  -- 8 with the vehicle, before the list is judged; 13; 15 with the entry
  pub bad_reading : on_trailer [] [] (reading 0x02 0x00 ∷ reading 0x02 0x02 ∷ reading 0x20 0x00 ∷ []) ≡ refused 8 1
  pub no_list : on_trailer (presents p1) [] marked ≡ refused 13 0
  pub bad_fact : on_trailer (set (presents p1) 3 0x20) (jobs p1) [] ≡ refused 15 3
  pub bad_job : on_trailer (presents p1) (set (jobs p1) 2 5) [] ≡ refused 15 2
  -- the table's own stops come before all
  pub cut : batch_ticked (take 146 trailer_bytes) [] [] [] (reading 0x02 0x02 ∷ []) ≡ refused 1 146
  -- pairs: both weights known and the trailer unread; then the loaded one known, with the trailer unread, off and on
  pub pairs : on_less (absents less) (reading 0x06 0x01 ∷ reading 0x04 0x01 ∷ reading 0x04 0x00 ∷ reading 0x05 0x00 ∷ [])
      ≡ told (Running 4 ∷ Unsettled 0x01 ∷ Running 2 ∷ Running 1 ∷ []) 5
  -- the shortest of three, and a fact that the table has not in a second mask
  pub shortest : on_less (take 2 (absents less)) (reading 0x05 0x00 ∷ []) ≡ told (Failure ∷ []) 2
  pub bad_absent : on_less (set (absents less) 4 0x10) [] ≡ refused 15 4

pub yard_computed : YardComputed
unfolding batch_ticked checked_batch checked_list entry_fits entries_lent read_by entries_read possible evaluated subset intersects union within sound checked_at
    condition_bytes leaf_bytes first_bytes entry_bytes later_entries own_tree width_of command_at from_bytes to_bytes number_at has_pair Table.read_table Table.read_jobs
    Table.read_goal Table.read_end Table.due job_at validated_job tick_bytes tick_checked tick_by Tree.whole_at Tree.operands_of Tree.node_at Tree.read_row Tree.read_node
    Tree.read_tree Tree.read_end
yard_computed =
    record {
      in_one_call = refl;
      furthest = refl;
      none = refl;
      sealed = refl;
      shorter = refl;
      ignored = refl;
      bad_reading = refl;
      no_list = refl;
      bad_fact = refl;
      bad_job = refl;
      cut = refl;
      pairs = refl;
      shortest = refl;
      bad_absent = refl;
    }
