-- Document 02, W14, on document 01's trailer and on the trailer with one fact less: cards taken over to the other table, each refusal in its order, and
-- later calls on such a card and on one that is opened on its reading, computed from the definitions that the contracts cite.
-- Assumes nothing.
use Rattle.std.specs.Prelude.{ℕ, ◌≡◌, refl, List, [], ◌∷◌, map, take}
use Rattle.masks.specs.Sets.{bit, subset, intersects, union, difference, within}
use Rattle.refusal.specs.Checked.{Checked, accepted, refused}
use Rattle.commands.specs.Commands.{width_of, command_at}
use Rattle.numbers.specs.Numbers.{from_bytes, number_at}
use Rattle.reading.specs.Reading.{sound, checked_at}
use Rattle.fact_map.specs.FactMap.{sent, sends, is_map, source_of, set_of, carried_over, mapped_reading}
use Rattle.conditions.specs.Condition.{applied}
use Rattle.conditions.specs.OnReading.{applicable, finished}
use Rattle.job.specs.Job.{job_at}
use Rattle.job.specs.Validation.{validated_job}
use Rattle.table.specs.Read as Table
use Rattle.card.specs.declared.Card.{Card}
use Rattle.card.specs.Card.{with_report, exhausted, booked}
use Rattle.card_calls.specs.Calls.{table_for, opened, reported}
use Rattle.card_migration.specs.Migration.{migrated_masks, migrated}
use Rattle.marked_cases.specs.Trailer.{trailer_bytes}
use Rattle.marked_cases.specs.OneFactLess.{one_fact_less_bytes}

-- ---- what is asked

abbrev card : ℕ → ℕ → ℕ → ℕ → ℕ → Card
card h u n t p = record { held = h; unread = u; reports = n; taken = t; planned = p }

-- "trailer off" is dropped, and the others are one lower; and back
abbrev to_less : List ℕ
to_less = 255 ∷ 0 ∷ 1 ∷ 2 ∷ 3 ∷ []

abbrev to_trailer : List ℕ
to_trailer = 1 ∷ 2 ∷ 3 ∷ 4 ∷ []

abbrev over : List ℕ → Card → Checked Card
over facts c = migrated trailer_bytes one_fact_less_bytes facts c

abbrev back : Card → Checked Card
back c = migrated one_fact_less_bytes trailer_bytes to_trailer c

-- a card that no table with five facts has, with counts that 18 would refuse
abbrev bad : Card
bad = card 0x20 0x20 65535 0 1

-- ---- what is given

pub record MigrationComputed : Type 0 where
  -- trailer on and loaded known are held, unloaded known and trailer off are unread; one report
  pub carried : over to_less (card 0x0a 0x05 1 630 600) ≡ accepted (card 0x05 0x02 1 630 600)
  -- back again trailer off has no source: it is unread, whatever it was
  pub back_again : map back (card 0x05 0x02 1 630 600 ∷ card 0x00 0x00 0 0 0 ∷ []) ≡ accepted (card 0x0a 0x05 1 630 600) ∷ accepted (card 0x00 0x01 0 0 0) ∷ []
  -- of a dropped fact nothing is kept, held or unread; any number of them may be dropped
  pub dropped : map (over to_less) (card 0x01 0x00 0 0 0 ∷ card 0x00 0x01 0 0 0 ∷ []) ≡ accepted (card 0 0 0 0 0) ∷ accepted (card 0 0 0 0 0) ∷ []
  pub all_dropped : over (255 ∷ 255 ∷ 255 ∷ 255 ∷ 255 ∷ []) (card 0x1f 0x00 0 0 0) ≡ accepted (card 0x00 0x0f 0 0 0)
  -- two facts change places; all of them do
  pub exchanged : migrated trailer_bytes trailer_bytes (1 ∷ 0 ∷ 2 ∷ 3 ∷ 4 ∷ []) (card 0x01 0x08 0 0 0) ≡ accepted (card 0x02 0x08 0 0 0)
  pub turned : migrated trailer_bytes trailer_bytes (4 ∷ 3 ∷ 2 ∷ 1 ∷ 0 ∷ []) (card 0x03 0x10 0 0 0) ≡ accepted (card 0x18 0x01 0 0 0)
  -- "not judged by 18 here": by its count, and by each sum
  pub exhausted_too : map (over to_less) (card 0x02 0 65535 0 0 ∷ card 0x02 0 0 1 0 ∷ card 0x02 0 0 0 4294967295 ∷ [])
      ≡ accepted (card 0x01 0 65535 0 0) ∷ accepted (card 0x01 0 0 1 0) ∷ accepted (card 0x01 0 0 0 4294967295) ∷ []
  -- the old table's stops come first, then the new one's, then 8, then 27
  pub old_first : migrated (take 146 trailer_bytes) [] [] bad ≡ refused 1 146
  pub then_new : migrated trailer_bytes (take 162 one_fact_less_bytes) [] bad ≡ refused 1 162
  pub then_masks : over [] bad ≡ refused 8 0
  pub then_map : over [] (card 0x02 0 65535 0 1) ≡ refused 27 0
  -- the masks are judged under the old table: fact 4 is no fact of the new one, and no bit at or above 5 is one of the old
  pub under_old : map (over to_less) (card 0x10 0 0 0 0 ∷ card 0x20 0 0 0 0 ∷ card 0 0x20 0 0 0 ∷ card 0x02 0x02 0 0 0 ∷ [])
      ≡ accepted (card 0x08 0 0 0 0) ∷ refused 8 0 ∷ refused 8 0 ∷ refused 8 0 ∷ []
  pub under_old_back : back (card 0x10 0 0 0 0) ≡ refused 8 0
  -- 27: a byte less and one more; the number of the new facts, the last one that is no fact; two to one, first and last
  pub no_map : map (λ facts. over facts (card 0x02 0 0 0 0)) (
      (255 ∷ 0 ∷ 1 ∷ 2 ∷ []) ∷ (255 ∷ 0 ∷ 1 ∷ 2 ∷ 3 ∷ 255 ∷ []) ∷ (255 ∷ 0 ∷ 1 ∷ 2 ∷ 4 ∷ []) ∷ (254 ∷ 0 ∷ 1 ∷ 2 ∷ 3 ∷ []) ∷ (0 ∷ 255 ∷ 255 ∷ 255 ∷ 0 ∷ []) ∷ [])
      ≡ refused 27 0 ∷ refused 27 0 ∷ refused 27 0 ∷ refused 27 0 ∷ refused 27 0 ∷ []
  -- Afterwards, on the card with its 65,534 reports and on a new one: the opening, then couple, which needs the trailer absent, is 17 for both; measure
  -- loaded is done for both; once more it is 18, on the first alone.
  pub opens : opened one_fact_less_bytes (record { held = 0x01; unread = 0x02 }) ≡ accepted (card 0x01 0x02 0 0 0)
  pub both_17 : map (reported one_fact_less_bytes (record { job = 0; taken = 300 })) (card 0x01 0x02 65534 0 0 ∷ card 0x01 0x02 0 0 0 ∷ []) ≡ refused 17 0 ∷ refused 17 0 ∷ []
  pub both_done : map (reported one_fact_less_bytes (record { job = 3; taken = 600 })) (card 0x01 0x02 65534 0 0 ∷ card 0x01 0x02 0 0 0 ∷ [])
      ≡ accepted (card 0x05 0x02 65535 600 600) ∷ accepted (card 0x05 0x02 1 600 600) ∷ []
  pub then_18 : map (reported one_fact_less_bytes (record { job = 3; taken = 600 })) (card 0x05 0x02 65535 600 600 ∷ card 0x05 0x02 1 600 600 ∷ [])
      ≡ refused 18 0 ∷ accepted (card 0x05 0x02 2 1200 1200) ∷ []

pub migration_computed : MigrationComputed
unfolding migrated migrated_masks mapped_reading carried_over is_map sends sent source_of set_of bit opened reported table_for booked applicable exhausted with_report finished applied subset intersects
    union difference within sound checked_at width_of command_at from_bytes number_at Table.read_table Table.read_jobs Table.read_goal Table.read_end Table.due Table.named_job job_at validated_job
migration_computed =
    record {
      carried = refl;
      back_again = refl;
      dropped = refl;
      all_dropped = refl;
      exchanged = refl;
      turned = refl;
      exhausted_too = refl;
      old_first = refl;
      then_new = refl;
      then_masks = refl;
      then_map = refl;
      under_old = refl;
      under_old_back = refl;
      no_map = refl;
      opens = refl;
      both_17 = refl;
      both_done = refl;
      then_18 = refl;
    }
