-- The table reader: from bytes to the table, or to the number and place of the first stop (document 01, "Stops, in checking order", 1 to 7;
-- document 02, W3, 19, and W10, 22).
-- "In a table, earlier commands come first; within one, the command byte (1, 2), then its operands' presence (1), then 3 to 6."
-- Definitions only.
use Rattle.std.specs.Prelude.{ℕ, zero, suc, ◌+◌, Bool, ◌&&◌, ◌||◌, List, [], ◌∷◌, ◌++◌, eqb, leb, ltb, length, get_or, if◌then◌else◌, Result}
use Rattle.masks.specs.Sets.{within}
use Rattle.refusal.specs.declared.Refusal.{Refusal}
use Rattle.refusal.specs.Checked.{Checked, accepted, refused, and_then, answer_by}
use Rattle.commands.specs.declared.Found.{Found}
use Rattle.commands.specs.declared.Found.TheVariants.{Missing, Unknown, Cut, Whole}
use Rattle.commands.specs.Commands.{FACTS, JOB, PAIRED_JOB, GOAL, END_OF_TABLE, OPERANDS_AT, Past, command_at}
use Rattle.numbers.specs.Numbers.{number_at}
use Rattle.job.specs.declared.Job.{Job}
use Rattle.job.specs.Job.{no_job, job_at}
use Rattle.job.specs.Validation.{validated_job}
use Rattle.table.specs.declared.Header.{Header}
use Rattle.table.specs.declared.Stage.{Stage}
use Rattle.table.specs.declared.Stage.TheVariants.{First, Middle, Last}
use Rattle.table.specs.declared.Due.{Due}
use Rattle.table.specs.Table.{Table, max_facts, max_jobs, has_pair}

-- which command may stand there: FACTS first, then JOBs, of either kind, up to GOAL, then END
abbrev pub allowed : Stage → ℕ → Bool
allowed First byte = eqb byte FACTS
allowed Middle byte = eqb byte JOB || (eqb byte PAIRED_JOB || eqb byte GOAL)
allowed Last byte = eqb byte END_OF_TABLE

-- A command byte, with the offset past its operands. 1: "The table ends where a command or operand is due." 2: "A table command is unknown or not
-- allowed there." The place is the command's offset, and "the length where a command byte is missing".
abbrev pub due_in : Stage → List ℕ → ℕ → Found → Checked (Past ℕ)
due_in stage s at Missing = refused 1 (length s)
due_in stage s at Unknown = refused 2 at
due_in stage s at (Cut byte) = if allowed stage byte then refused 1 at else refused 2 at
due_in stage s at (Whole byte next) = if allowed stage byte then accepted (record { value = byte; next = next }) else refused 2 at

unfoldable pub due : Stage → List ℕ → ℕ → Checked (Past ℕ)
due stage s at = due_in stage s at (command_at s at)

-- END: 7: "Bytes follow the table's END."; the place is "the first extra byte where bytes follow END"
unfoldable pub read_end : List ℕ → Table → ℕ → Checked Table
read_end s t at = and_then (due Last s at) λ c. if eqb c.next (length s) then accepted t else refused 7 c.next

-- GOAL at an offset, whose operand ends before `next`. 5: "A table mask has a bit at or above F."
unfoldable pub read_goal : List ℕ → ℕ → List Job → ℕ → ℕ → Checked Table
read_goal s facts js at next =
    let goal = number_at 8 s (at + OPERANDS_AT) in
    if within facts goal then read_end s (record { facts = facts; jobs = js; goal = goal }) next else refused 5 at

-- the JOBs from an offset on, up to GOAL, after those of `js`; `left` more may follow. 4: "A 129th JOB stands in the table."
unfoldable pub read_jobs : List ℕ → ℕ → ℕ → List Job → ℕ → Checked Table
read_jobs s facts zero js at = and_then (due Middle s at) λ c. if eqb c.value GOAL then read_goal s facts js at c.next else refused 4 at
read_jobs s facts (suc left) js at =
    and_then (due Middle s at) λ c.
    let job = and_then (validated_job facts at (job_at s at)) (λ j. read_jobs s facts left (js ++ (j ∷ [])) c.next) in
    if eqb c.value GOAL then read_goal s facts js at c.next else job

-- F is 1 to 64
abbrev pub facts_in_range : ℕ → Bool
facts_in_range facts = leb 1 facts && leb facts max_facts

-- FACTS, then the rest. 3: "F is outside 1 to 64."
unfoldable pub read_table : List ℕ → Checked Table
read_table s =
    and_then (due First s 0) λ c.
    let facts = get_or s OPERANDS_AT 0 in
    if facts_in_range facts then read_jobs s facts max_jobs [] c.next else refused 3 0

-- the jobs of a table; bytes that are no table have none
abbrev pub jobs_of : Checked Table → List Job
jobs_of (accepted t) = t.jobs
jobs_of (refused n p) = []

-- the job with a number. 16: "A report names no job of the table."; the place is its caller's
unfoldable pub named_job : Table → (index place : ℕ) → Checked Job
named_job t index place = if ltb index (length t.jobs) then accepted (get_or t.jobs index no_job) else refused 16 place

-- ---- the answers of the code, in these terms

abbrev pub due_of : Result Due Refusal → Checked (Past ℕ)
due_of = answer_by λ d. record { value = d.byte; next = d.next }

abbrev pub header_of : Table → Header
header_of t = record { facts = t.facts; jobs = length t.jobs; goal = t.goal; paired = has_pair t.jobs }

abbrev pub headed : Checked Table → Checked Header
headed r = and_then r λ t. accepted (header_of t)
