-- Document 01, "The marked cases, P1 to P10", and document 02's, W2 and W10: one table of what each asks and what it gives. P7 to P10 are ticks of
-- the very bytes that P1's plan writes; W10's ticks are of those of the plan on the trailer with one fact less.
-- Definitions only; Computed.antt and PairsComputed.antt compute them from the definitions that the contracts of `plan`, `plan_shift` and `tick` cite.
use Rattle.std.specs.Prelude.{ℕ, ◌≡◌, Bool, true, false, List, [], ◌∷◌, ◌++◌, map, take}
use Rattle.refusal.specs.Checked.{Checked, accepted, refused}
use Rattle.reading.specs.declared.Reading.{Reading}
use Rattle.conditions.specs.declared.Condition.{Condition}
use Rattle.conditions.specs.Condition.{plain}
use Rattle.table.specs.Table.{Table, table_bytes}
use Rattle.tree.specs.declared.Status.{Status}
use Rattle.tree.specs.declared.Status.TheVariants.{Success, Failure, Running, Unsettled}
use Rattle.tree.specs.TickBytes.{answered, tick_bytes}
use Rattle.planning.specs.Expansion.{Entry}
use Rattle.builder.specs.declared.Size.{Size}
use Rattle.builder.specs.Plan.{Plan}
use Rattle.planner.specs.declared.Summary.{Summary}
use Rattle.planner.specs.Plan.{plan_for}
use Rattle.shift_planner.specs.Shift.{plan_shift}
use Rattle.marked_cases.specs.Trailer.{job, trailer_bytes}
use Rattle.marked_cases.specs.OneFactLess.{paired_job, mask, one_fact_less_bytes}

abbrev entry : ℕ → ℕ → ℕ → ℕ → Entry Condition
entry c a p d = record { condition = plain c; action = a; parent = p; depth = d }

-- of facts to hold and facts to be absent
abbrev pair : ℕ → ℕ → ℕ → ℕ → ℕ → Entry Condition
pair present absent a p d = record { condition = record { present = present; absent = absent }; action = a; parent = p; depth = d }

abbrev pub reading : ℕ → ℕ → Reading
reading held unread = record { held = held; unread = unread }

abbrev summary_by : Bool → ℕ → ℕ → ℕ → ℕ → Checked Summary
summary_by paired entries bytes jobs minutes = accepted (record { entries = entries; bytes = bytes; jobs = jobs; minutes = minutes; paired = paired })

abbrev size_by : Bool → ℕ → ℕ → Checked Size
size_by paired entries bytes = accepted (record { entries = entries; bytes = bytes; paired = paired })

-- of a table without a 0x21
abbrev summary : ℕ → ℕ → ℕ → ℕ → Checked Summary
summary = summary_by false

abbrev size : ℕ → ℕ → Checked Size
size = size_by false

-- so many entries, of either kind: how many fit lent tables is `capacity_of`'s, which the printed texts go by
abbrev pub lists : ℕ → Bool → ℕ
lists n paired = n

-- `bayplan` "lends lists of 4,096 and a tree of 65,535 bytes"
abbrev pub all : ℕ
all = 65535

abbrev pub p1_plan : Plan Summary
p1_plan = plan_for trailer_bytes (reading 0x02 0) (lists 4096) all

-- the trailer is on, as in P1
abbrev pub less_plan : Plan Summary
less_plan = plan_for one_fact_less_bytes (reading 0x01 0) (lists 2978) all

-- ---- what a case can ask

pub data Told : Type 0 where
  -- the answer of a plan, and the list that it stores
  plan : Checked Summary → List (Entry Condition) → Told
  shift : Checked Size → List (Entry Condition) → Told
  -- the tree that it writes
  tree : List ℕ → Told
  -- how a tick of a tree answers
  tick : Checked Status → Told

-- from a state that is wholly read, with room for so many entries and so many bytes of a tree
abbrev plan_of : List ℕ → ℕ → ℕ → ℕ → Told
plan_of table held capacity room = let P = plan_for table (reading held 0) (lists capacity) room in plan P.answer P.list

abbrev shift_of : List ℕ → ℕ → ℕ → Told
shift_of table capacity room = let P = plan_shift table (lists capacity) room in shift P.answer P.list

-- on the bytes of a tree
abbrev tick_of : (table bytes : List ℕ) → ℕ → ℕ → Told
tick_of table bytes held unread = tick (answered (tick_bytes table bytes (reading held unread)))

abbrev tick_at : ℕ → ℕ → Told
tick_at = tick_of trailer_bytes p1_plan.tree

-- ---- the table

pub record Case : Type 0 where
  pub found : Told
  pub expected : Told

infix 4 ◌is◌
abbrev ◌is◌ : Told → Told → Case
a is b = record { found = a; expected = b }

-- each is what it has to be
abbrev pub Right : List Case → Type 0
Right cases = map (λ c. c.found) cases ≡ map (λ c. c.expected) cases

-- the list of P1 and P2: the plan for each start is a beginning of it
abbrev pub whole : List (Entry Condition)
whole =
    entry 0x10 255 0 0 ∷ entry 0x0c 4 0 1 ∷ entry 0x09 2 1 2 ∷ entry 0x06 3 1 2 ∷ entry 0x0a 1 2 3 ∷ entry 0x03 3 2 3 ∷ entry 0x05 0 3 3
    ∷ entry 0x02 3 4 4 ∷ entry 0x01 2 6 4 ∷ []

abbrev pub plans : List Case
plans =
    -- P1 the list that `bayplan` prints, with `plan 8 111` and, since document 02's W1, `way 4 26`
    (plan_of trailer_bytes 0x02 4096 all is plan (summary 8 111 4 26) (take 8 whole))
    -- P2 start 01: 9 entries, 4 jobs
    ∷ (plan_of trailer_bytes 0x01 4096 all is plan (summary 9 125 4 28) whole)
    -- P3 start 08, capacity 9: 11, place 9
    ∷ (plan_of trailer_bytes 0x08 9 all is plan (refused 11 9) whole)
    -- P4 the same, capacity 8: 10, place 8
    ∷ (plan_of trailer_bytes 0x08 8 all is plan (refused 10 8) (take 8 whole))
    -- P5 start 10: one entry, 13 tree bytes
    ∷ (plan_of trailer_bytes 0x10 4096 all is plan (summary 1 13 0 0) (take 1 whole))
    -- P6 capacity 0: 10, place 0
    ∷ (plan_of trailer_bytes 0x02 0 all is plan (refused 10 0) [])
    -- P1's tree has room to the last byte, or none of it is written
    ∷ (plan_of trailer_bytes 0x02 8 111 is plan (summary 8 111 4 26) (take 8 whole))
    ∷ (plan_of trailer_bytes 0x02 8 110 is plan (refused 12 8) (take 8 whole))
    ∷ []

abbrev pub ticks : List Case
ticks =
    -- P7 held 02 unread 01 is Unsettled 01
    (tick_at 0x02 0x01 is tick (accepted (Unsettled 0x01)))
    -- P8 held 02 unread 08 is Unsettled 08
    ∷ (tick_at 0x02 0x08 is tick (accepted (Unsettled 0x08)))
    -- P9 held 03 names job 3
    ∷ (tick_at 0x03 0x00 is tick (accepted (Running 3)))
    -- P10 held 08 fails
    ∷ (tick_at 0x08 0x00 is tick (accepted Failure))
    ∷ []

-- W2: the plan for the whole shift lists what P2's plan lists, since start 01 meets its last entry alone; one entry less of room is 10, one byte
-- less is 12; a table that is cut is refused as every reader of it refuses it
abbrev pub shifts : List Case
shifts =
    (shift_of trailer_bytes 4096 all is shift (size 9 125) whole)
    ∷ (shift_of trailer_bytes 9 125 is shift (size 9 125) whole)
    ∷ (shift_of trailer_bytes 9 124 is shift (refused 12 9) whole)
    ∷ (shift_of trailer_bytes 8 125 is shift (refused 10 8) (take 8 whole))
    ∷ (shift_of trailer_bytes 0 0 is shift (refused 10 0) [])
    ∷ (shift_of (take 146 trailer_bytes) 4096 all is shift (refused 1 146) [])
    ∷ (tree (plan_shift trailer_bytes (lists 4096) all).tree is tree (plan_for trailer_bytes (reading 0x01 0) (lists 4096) all).tree)
    ∷ []

-- ---- a condition is listed "unless some listed condition is a subset of it"

-- three jobs that add the goal: the first and the third need more facts than the second, one listed before it, one after
abbrev wider : Table
wider = record { facts = 4; jobs = job 0x06 0x01 0x00 60 ∷ job 0x02 0x01 0x00 60 ∷ job 0x0a 0x01 0x00 60 ∷ []; goal = 0x01 }

-- 06 stands, since it is no superset of a condition listed before it; 0a is a strict superset of 02, and is not listed
abbrev pub dropped : List Case
dropped =
    (plan_of (table_bytes wider) 0x00 9 all is plan (refused 11 3) (entry 0x01 255 0 0 ∷ entry 0x06 0 0 1 ∷ entry 0x02 1 0 1 ∷ []))
    ∷ (plan_of (table_bytes wider) 0x0a 9 all is plan (summary 3 41 1 1) (entry 0x01 255 0 0 ∷ entry 0x06 0 0 1 ∷ entry 0x02 1 0 1 ∷ []))
    ∷ []

-- ---- W10: conditions are pairs

-- the list from either start: in P1's and P2's, 03 wants the trailer both on and off, and here such a pair is dropped
abbrev pub less_whole : List (Entry Condition)
less_whole =
    pair 0x08 0x00 255 0 0 ∷ pair 0x06 0x00 4 0 1 ∷ pair 0x04 0x01 2 1 2 ∷ pair 0x03 0x00 3 1 2 ∷ pair 0x05 0x00 1 2 3 ∷ pair 0x02 0x01 0 3 3
    ∷ pair 0x01 0x00 3 4 4 ∷ pair 0x00 0x01 2 5 4 ∷ []

-- the tree for the trailer on: each condition with both masks
abbrev pub less_tree : List ℕ
less_tree =
    0x41 ∷ 0x07 ∷ 0x00 ∷ 0x45 ∷ mask 0x08 ++ mask 0x00
    ++ 0x42 ∷ 0x02 ∷ 0x00 ∷ 0x45 ∷ mask 0x06 ++ mask 0x00 ++ 0x44 ∷ 0x04
    ∷ 0x42 ∷ 0x02 ∷ 0x00 ∷ 0x45 ∷ mask 0x04 ++ mask 0x01 ++ 0x44 ∷ 0x02
    ∷ 0x42 ∷ 0x02 ∷ 0x00 ∷ 0x45 ∷ mask 0x03 ++ mask 0x00 ++ 0x44 ∷ 0x03
    ∷ 0x42 ∷ 0x02 ∷ 0x00 ∷ 0x45 ∷ mask 0x05 ++ mask 0x00 ++ 0x44 ∷ 0x01
    ∷ 0x42 ∷ 0x02 ∷ 0x00 ∷ 0x45 ∷ mask 0x02 ++ mask 0x01 ++ 0x44 ∷ 0x00
    ∷ 0x42 ∷ 0x02 ∷ 0x00 ∷ 0x45 ∷ mask 0x01 ++ mask 0x00 ++ 0x44 ∷ 0x03
    ∷ 0x4f ∷ []

-- the trailer's own table with its last job as a 0x21 that needs no fact absent
abbrev with_pair : Table
with_pair =
    record {
      facts = 5;
      jobs = job 0x01 0x02 0x01 300 ∷ job 0x02 0x01 0x02 240 ∷ job 0x01 0x04 0x00 600 ∷ job 0x02 0x08 0x00 600 ∷ paired_job 0x0c 0x00 0x10 0x00 150 ∷ [];
      goal = 0x10;
    }

-- an action that adds the whole goal where fact 0 is absent, and one that adds fact 0
abbrev dead_line : Table
dead_line = record { facts = 2; jobs = paired_job 0x00 0x01 0x03 0x00 60 ∷ job 0x00 0x01 0x00 60 ∷ []; goal = 0x03 }

abbrev pub pair_plans : List Case
pair_plans =
    -- the trailer on, and off: "Such a tree has 22 × n − 1 bytes"
    (plan_of one_fact_less_bytes 0x01 2978 all is plan (summary_by true 7 153 4 26) (take 7 less_whole))
    ∷ (plan_of one_fact_less_bytes 0x00 2978 all is plan (summary_by true 8 175 4 28) less_whole)
    ∷ (tree less_plan.tree is tree less_tree)
    -- one entry less of room is 10, one byte less is 12
    ∷ (plan_of one_fact_less_bytes 0x00 7 all is plan (refused 10 7) (take 7 less_whole))
    ∷ (plan_of one_fact_less_bytes 0x01 7 152 is plan (refused 12 7) (take 7 less_whole))
    -- every state is covered: the last two entries ask for the trailer on, and for the trailer off
    ∷ (shift_of one_fact_less_bytes 2978 all is shift (size_by true 8 175) less_whole)
    -- a 0x21 without absent facts: "used by the planner once the table has a 0x21"
    ∷ (plan_of (table_bytes with_pair) 0x02 2978 all is plan (summary_by true 8 175 4 26) (take 8 whole))
    -- a dead line: who meets the last entry meets one before it, and "absence of dead lines" is "for tables without 0x21"
    ∷ (shift_of (table_bytes dead_line) 2978 all is shift (size_by true 3 65) (pair 0x03 0x00 255 0 0 ∷ pair 0x00 0x01 0 0 1 ∷ pair 0x02 0x00 1 0 1 ∷ []))
    ∷ []

abbrev less_at : ℕ → ℕ → Told
less_at = tick_of one_fact_less_bytes less_tree

abbrev pub pair_ticks : List Case
pair_ticks =
    -- sealed; both circumferences known: seal; one known, with the trailer off and on: measure unloaded, uncouple
    (less_at 0x08 0x00 is tick (accepted Success))
    ∷ (less_at 0x06 0x00 is tick (accepted (Running 4)))
    ∷ (less_at 0x04 0x00 is tick (accepted (Running 2)))
    ∷ (less_at 0x05 0x00 is tick (accepted (Running 1)))
    -- the trailer off and nothing known: this list, from a start with the trailer on, does not cover it
    ∷ (less_at 0x00 0x00 is tick (accepted Failure))
    -- "An unread fact of either mask leaves a condition open", with the unread facts of both
    ∷ (less_at 0x04 0x01 is tick (accepted (Unsettled 0x01)))
    ∷ (less_at 0x00 0x05 is tick (accepted (Unsettled 0x05)))
    -- "unless a read one fails it": the trailer is on, so that the third entry fails, and the fifth is open
    ∷ (less_at 0x01 0x04 is tick (accepted (Unsettled 0x04)))
    ∷ []
