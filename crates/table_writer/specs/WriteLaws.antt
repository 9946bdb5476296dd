-- The table writer's definition, way by way, and what a run of stores leaves.
-- Assumes nothing.
use Prim.Native.Nat.{ℕ, zero, suc, ◌+◌, ◌-◌, ◌*◌, ◌^◌, ◌≤◌, ◌<◌}
use Rattle.std.proofs.Math.Nat.{add-zero}
use Rattle.std.proofs.Common.{zero-add, sym, ap, ◌∙◌, append_assoc, length-append, drop_of_length-le}
use Rattle.std.proofs.Math.Numerals.{add-one}
use Rattle.std.proofs.Math.Decide.{dec_lt}
use native.Mathlib.Omega.{arith}
use Rattle.std.specs.Prelude.{◌≡◌, Bool, true, false, ◌&&◌, List, [], ◌∷◌, ◌++◌, T, eqb, leb, get_or, set, take, drop, if◌then◌else◌, Option, Some, None, Result, Ok, Err, IsErrAnd}
use Rattle.std.proofs.Math.Path.{refl}
use borrow.Author.Tests.{eqb-true, le-leb, lt-leb, leb-true}
use Rattle.std.proofs.Math.ListN.{length, get_or-eq_default}
use Rattle.std.proofs.lemmas.List.Edits.{sets, sets-eq}
use Rattle.std.proofs.Math.Seq.{length-sets, drop-cons, take-suc, take_all}
use Rattle.base.specs.Bools.{holds, is_true, and_left, and_right}
use Rattle.base.specs.Lists.{length_prefix, get_d_prefix}
use Rattle.masks.specs.Sets.{within}
use Rattle.refusal.specs.declared.Refusal.{Refusal}
use Rattle.refusal.specs.Checked.{Checked, accepted, refused, refused_by}
use Rattle.refusal.specs.CheckedLaws.{not_both, accepted_same}
use Rattle.commands.specs.Commands.{FACTS, JOB, PAIRED_JOB, GOAL, END_OF_TABLE, FACTS_SIZE, JOB_SIZE, PAIRED_JOB_SIZE, GOAL_SIZE, END_OF_TABLE_SIZE, OPERANDS_AT, ABSENT_AT, ADDS_AT, PAIRED_ADDS_AT, MASK_WIDTH}
use Rattle.numbers.specs.Numbers.{to_bytes}
use Rattle.numbers.specs.NumberLaws.{sets_after, to_length}
use Rattle.job.specs.declared.Job.{Job}
use Rattle.job.specs.Job.{no_job, effect_bytes, command_by, operands_by, job_bytes, job_size, StorableJob}
use Rattle.job.specs.Validation.{validated_job}
use Rattle.job.proofs.JobLaws.{size_by, job_size_is, size_least}
use Rattle.table.specs.Table.{Table, max_facts, max_jobs, jobs_bytes, goal_bytes, table_bytes, offset_of, goal_offset}
use Rattle.table.specs.Read.{facts_in_range}
use Rattle.table.specs.Sound.{Storable, validated_from, validated_table}
use Rattle.table.proofs.RoundTripLaws.{read_written, validated_table_sound}
use Rattle.table.proofs.OffsetLaws.{first_offset, offset_within, jobs_snoc, last_offset, next_offset, offset_small}
use Rattle.table_writer.specs.declared.NotWritten.{NotWritten}
use Rattle.table_writer.specs.Columns.{JobColumns, ColumnsFit, EvenColumns, writable, unwritable_from, even, first_unwritable, row_at, rows}
use Rattle.table_writer.specs.Write.{table_of, writing, lent_after, table_written_of, Wrote, placed}

-- ---- even columns

pub even_told : (c : JobColumns) → true ≡ even c → EvenColumns c
unfolding even
even_told c e =
    let as_long : List ℕ → Bool = λ column. eqb (length column) (length c.commands) in
    let needs = holds _ (sym e) in
    let absent = and_right (as_long c.needs) _ needs in
    let adds = and_right (as_long c.absent) _ absent in
    let deletes = and_right (as_long c.adds) _ adds in
    let is_long : (column : List ℕ) → T (as_long column) → length column ≡ length c.commands = λ column t. eqb-true _ _ (is_true _ t) in
    record {
      needs_long = is_long c.needs (and_left (as_long c.needs) _ needs);
      absent_long = is_long c.absent (and_left (as_long c.absent) _ absent);
      adds_long = is_long c.adds (and_left (as_long c.adds) _ adds);
      deletes_long = is_long c.deletes (and_left (as_long c.deletes) _ deletes);
      seconds_long = is_long c.seconds (and_right (as_long c.deletes) _ deletes);
    }

-- ---- the first row that cannot be written

nowhere_if : (t : Bool) (later : Option ℕ) (i : ℕ) → (if t then later else Some i) ≡ None → (t ≡ true) × (later ≡ None)
nowhere_if true later i e = (refl, e)
nowhere_if false later i e = let z : ◌≡◌ {A = ℕ} 0 1 = cc in absurd (omega arith)

module _ (commands absent : List ℕ) where
  -- the first one from row i on, up to the last row
  abbrev pub unwritable_left : ℕ → Option ℕ
  unwritable_left i = unwritable_from commands absent (length commands - i) i

  module _ (i : ℕ) (h : i < length commands) where
    one_left : length commands - i ≡ suc (length commands - (i + 1))
    one_left = omega arith

    pub row_unwritable : writable (get_or commands i 0) (get_or absent i 0) ≡ false → Some i ≡ unwritable_left i
    unfolding unwritable_from
    row_unwritable e = rw (one_left, e)

    pub row_writable : writable (get_or commands i 0) (get_or absent i 0) ≡ true → unwritable_left (i + 1) ≡ unwritable_left i
    unfolding unwritable_from
    row_writable e = rw (one_left, e, add-one i)

  pub none_left : (i : ℕ) → length commands ≤ i → None ≡ unwritable_left i
  unfolding unwritable_from
  none_left i h = let z : length commands - i ≡ 0 = omega arith in rw z

  -- where none is found, every row can be written
  pub all_writable : (count i k : ℕ) → unwritable_from commands absent count i ≡ None → k < count → writable (get_or commands (i + k) 0) (get_or absent (i + k) 0) ≡ true
  unfolding unwritable_from
  all_writable zero i k e h = absurd (omega arith)
  all_writable (suc count) i zero e h = rw add-zero (nowhere_if _ _ i e).0
  all_writable (suc count) i (suc k) e h =
      let z : i + suc k ≡ suc i + k = omega arith in
      rw z (all_writable count (suc i) k (nowhere_if (writable (get_or commands i 0) (get_or absent i 0)) _ i e).1 (omega arith))

-- a job that is no 0x21 has no absent facts
pub plain_absent : (command absent : ℕ) → writable command absent ≡ true → eqb command PAIRED_JOB ≡ false → absent ≡ 0
plain_absent command absent e p =
    let plain : (eqb command JOB && eqb absent 0) ≡ true = rw p at e in
    eqb-true absent 0 (is_true _ (and_right (eqb command JOB) _ (holds _ plain)))

-- ---- stores, one run after another

effects_written : (l : List ℕ) (at : ℕ) (j : Job)
    → sets (sets (sets l at (to_bytes 8 j.adds)) (at + MASK_WIDTH) (to_bytes 8 j.deletes)) (at + MASK_WIDTH + MASK_WIDTH) (to_bytes 2 j.seconds) ≡ sets l at (effect_bytes j)
effects_written l at j =
    rw (
      sets_after l (to_bytes 8 j.adds) (to_bytes 8 j.deletes) at (at + MASK_WIDTH) (omega (arith, to_length 8 j.adds)),
      sets_after l (to_bytes 8 j.adds ++ to_bytes 8 j.deletes) (to_bytes 2 j.seconds) at (at + MASK_WIDTH + MASK_WIDTH)
          (omega (arith, to_length 8 j.adds, to_length 8 j.deletes, length-append (to_bytes 8 j.adds) (to_bytes 8 j.deletes))),
    )
    (simp append_assoc)

pub effects_stored : (l adds deletes out : List ℕ) (at : ℕ) (j : Job) → adds ≡ sets l at (to_bytes 8 j.adds)
    → deletes ≡ sets adds (at + MASK_WIDTH) (to_bytes 8 j.deletes) → out ≡ sets deletes (at + MASK_WIDTH + MASK_WIDTH) (to_bytes 2 j.seconds) → out ≡ sets l at (effect_bytes j)
effects_stored l adds deletes out at j a d s = rw (s, d, a) (effects_written l at j)

pub plain_size : (j : Job) → j.paired ≡ false → job_size j ≡ JOB_SIZE
plain_size j p = job_size_is j ∙ ap size_by p

pub paired_size : (j : Job) → j.paired ≡ true → job_size j ≡ PAIRED_JOB_SIZE
paired_size j p = job_size_is j ∙ ap size_by p

pub least_size : (j : Job) → JOB_SIZE ≤ job_size j
least_size j = rw job_size_is (size_least j.paired)

-- the bytes of a job of either kind, after its command's byte and its needs
module _ (l needs : List ℕ) (at command : ℕ) (j : Job) (n : needs ≡ sets (set l at command) (at + OPERANDS_AT) (to_bytes 8 j.needs)) (c : command ≡ command_by j.paired) where
  begun : needs ≡ sets l at (command ∷ to_bytes 8 j.needs)
  begun = n ∙ sets_after l (command ∷ []) (to_bytes 8 j.needs) at (at + OPERANDS_AT) refl

  -- what is stored after them closes the job
  closed : (rest out : List ℕ) → out ≡ sets needs (at + ADDS_AT) rest → to_bytes 8 j.needs ++ rest ≡ operands_by j.paired j → out ≡ sets l at (job_bytes j)
  unfolding job_bytes
  closed rest out o e =
      o
      ∙ rw (begun, sets_after l (command ∷ to_bytes 8 j.needs) rest at (at + ADDS_AT) (omega (arith, to_length 8 j.needs)), c, e)

  pub plain_stored : (out : List ℕ) → j.paired ≡ false → out ≡ sets needs (at + ADDS_AT) (effect_bytes j) → out ≡ sets l at (job_bytes j)
  plain_stored out p o = closed (effect_bytes j) out o (rw p)

  pub paired_stored : (absent out : List ℕ) → j.paired ≡ true → absent ≡ sets needs (at + ABSENT_AT) (to_bytes 8 j.absent) → out ≡ sets absent (at + PAIRED_ADDS_AT) (effect_bytes j)
      → out ≡ sets l at (job_bytes j)
  paired_stored absent out p a o =
      closed (to_bytes 8 j.absent ++ effect_bytes j) out
      (o ∙ rw (a, sets_after needs (to_bytes 8 j.absent) (effect_bytes j) (at + ABSENT_AT) (at + PAIRED_ADDS_AT) (omega (arith, to_length 8 j.absent))))
      (rw p)

pub goal_written : (l : List ℕ) (at goal : ℕ) → set (sets (set l at GOAL) (at + OPERANDS_AT) (to_bytes 8 goal)) (at + GOAL_SIZE) END_OF_TABLE ≡ sets l at (goal_bytes goal)
unfolding goal_bytes
goal_written l at goal =
    rw (sets_after l (GOAL ∷ []) (to_bytes 8 goal) at (at + OPERANDS_AT) refl)
    (sets_after l (GOAL ∷ to_bytes 8 goal) (END_OF_TABLE ∷ []) at (at + GOAL_SIZE) (omega (arith, to_length 8 goal)))

-- where the job after a row stands
pub row_ends : (js : List Job) (row : Job) (i at : ℕ) → i < length js → at ≡ offset_of js i → row ≡ get_or js i no_job → at + job_size row ≡ offset_of js (i + 1)
row_ends js row i at h e r = rw (r, e, add-one i) (sym (next_offset js i h))

-- ---- the jobs of the rows

module _ (c : JobColumns) where
  pub rows_length : length (rows c) ≡ length c.commands
  rows_length = length_prefix (row_at c) (length c.commands)

  pub row_of : (i : ℕ) → i < length c.commands → row_at c i ≡ get_or (rows c) i no_job
  row_of i h = sym (get_d_prefix (row_at c) (length c.commands) i no_job h)

  -- the same of a row of the columns
  next_stands : (i at : ℕ) (row : Job) → i < length c.commands → at ≡ offset_of (rows c) i → row ≡ row_at c i → at + job_size row ≡ offset_of (rows c) (i + 1)
  next_stands i at row h e r = row_ends (rows c) row i at (omega (arith, rows_length)) e (r ∙ row_of i h)

-- what is stored before a row: the bytes of the rows before it, and its own would stand at the offset
pub record StoredTo (c : JobColumns) (before out : List ℕ) (i at : ℕ) : Type 0 where
  pub stands : at ≡ offset_of (rows c) i
  pub stored : out ≡ sets before FACTS_SIZE (jobs_bytes (take i (rows c)))

pub none_stored : (c : JobColumns) (before : List ℕ) → StoredTo c before before 0 FACTS_SIZE
unfolding jobs_bytes
none_stored c before = record { stands = sym (first_offset (rows c)); stored = refl }

module _ {c : JobColumns} {before out : List ℕ} {i at : ℕ} (s : StoredTo c before out i at) where
  pub stored_all : length c.commands ≤ i → out ≡ sets before FACTS_SIZE (jobs_bytes (rows c))
  stored_all h = s.stored ∙ rw (take_all i (rows c) (omega (arith, rows_length c)))

  module _ (h : i < length c.commands) (row : Job) (r : row ≡ row_at c i) where
    pub row_inside : FACTS_SIZE + length (jobs_bytes (rows c)) ≤ length before → at + job_size row ≤ length out
    row_inside l = omega (arith, next_stands c i at row h s.stands r, offset_within (rows c) (i + 1), ap length s.stored, length-sets before FACTS_SIZE (jobs_bytes (take i (rows c))))

    pub row_stored : (next : ℕ) → next ≡ at + job_size row → (after : List ℕ) → after ≡ sets out at (job_bytes row) → StoredTo c before after (i + 1) next
    unfolding offset_of
    row_stored next n after a =
        let inside : i < length (rows c) = omega (arith, rows_length c) in
        record {
          stands = n ∙ next_stands c i at row h s.stands r;
          stored =
              a
              ∙ rw (s.stored, add-one i, take-suc (rows c) i no_job inside, ← row_of c i h, r, jobs_snoc (take i (rows c)) (row_at c i))
              (sets_after before (jobs_bytes (take i (rows c))) (job_bytes (row_at c i)) FACTS_SIZE at (sym s.stands));
        }

goal_length : (goal : ℕ) → length (goal_bytes goal) ≡ GOAL_SIZE + END_OF_TABLE_SIZE
unfolding goal_bytes to_bytes
goal_length goal = refl

table_length : (t : Table) → length (table_bytes t) ≡ goal_offset t + GOAL_SIZE + END_OF_TABLE_SIZE
unfolding table_bytes goal_offset
table_length t = omega (arith, length-append (jobs_bytes t.jobs) (goal_bytes t.goal), goal_length t.goal)

pub table_written : (l jobs out : List ℕ) (t : Table) (at size : ℕ) → at ≡ goal_offset t → at + GOAL_SIZE + END_OF_TABLE_SIZE ≡ size → size ≤ length l
    → jobs ≡ sets (set (set l 0 FACTS) OPERANDS_AT t.facts) FACTS_SIZE (jobs_bytes t.jobs) → out ≡ sets jobs at (goal_bytes t.goal) → out ≡ table_bytes t ++ drop size l
unfolding table_bytes goal_offset
table_written l jobs out t at size e z h j g =
    let all : 0 + length (table_bytes t) ≡ size = omega (arith, table_length t) in
    g
    ∙ rw j (sets_after (set (set l 0 FACTS) OPERANDS_AT t.facts) (jobs_bytes t.jobs) (goal_bytes t.goal) FACTS_SIZE at (sym e))
    ∙ sets-eq (table_bytes t) l 0 (omega (arith, all))
    ∙ ap (λ (k : ℕ). table_bytes t ++ drop k l) all

-- ---- the checks, one job after another

-- what the checks come to from job i on, which would stand at the offset
abbrev pub remaining : ℕ → ℕ → List Job → ℕ → ℕ → Checked Table
remaining facts goal js i at = validated_from facts goal (max_jobs - i) (take i js) (drop i js) at

-- the rows before this one passed: the checks from it on come to what those of the whole table come to
pub record PassedTo (c : JobColumns) (facts goal i at : ℕ) : Type 0 where
  pub few : i ≤ max_jobs
  pub stands : at ≡ offset_of (rows c) i
  pub comes_to : remaining facts goal (rows c) i at ≡ validated_table (table_of c facts goal)

pub no_facts : (t : Table) → facts_in_range t.facts ≡ false → refused 3 0 ≡ placed (validated_table t)
unfolding validated_table
no_facts t e = rw e

pub none_passed : (c : JobColumns) (facts goal : ℕ) → true ≡ facts_in_range facts → PassedTo c facts goal 0 FACTS_SIZE
unfolding validated_table
none_passed c facts goal e = record { few = omega arith; stands = sym (first_offset (rows c)); comes_to = rw (← e) }

module _ {c : JobColumns} {facts goal i at : ℕ} (p : PassedTo c facts goal i at) where
  module _ (h : i < length c.commands) where
    more : drop i (rows c) ≡ row_at c i ∷ drop (suc i) (rows c)
    more = let inside : i < length (rows c) = omega (arith, rows_length c) in drop-cons (rows c) i no_job inside ∙ rw (← row_of c i h)

    pub too_many : i ≡ max_jobs → refused 4 at ≡ placed (validated_table (table_of c facts goal))
    unfolding validated_from
    too_many e = let z : max_jobs - i ≡ 0 = omega arith in rw (← p.comes_to, z, more)

    module _ (l : i ≡ max_jobs → ⊥) (row : Job) (r : row ≡ row_at c i) where
      left : max_jobs - i ≡ suc (max_jobs - (i + 1))
      left = omega (arith, p.few)

      pub row_refused : (x : Refusal) → refused_by x ≡ validated_job facts at row → refused_by x ≡ placed (validated_table (table_of c facts goal))
      unfolding validated_from
      row_refused x e = rw (← p.comes_to, left, more, ← r, ← e)

      pub row_passed : accepted row ≡ validated_job facts at row → PassedTo c facts goal (i + 1) (at + job_size row)
      unfolding validated_from
      row_passed e =
          let inside : i < length (rows c) = omega (arith, rows_length c) in
          record {
            few = omega (arith, p.few);
            stands = next_stands c i at row h p.stands r;
            comes_to = rw (← p.comes_to, left, more, ← r, ← e, add-one i, take-suc (rows c) i no_job inside, ← row_of c i h, ← r);
          }

  pub passed_small : at ≤ FACTS_SIZE + PAIRED_JOB_SIZE * max_jobs
  passed_small = omega (arith, p.few, p.stands, offset_small (rows c) i)

  module _ (h : length c.commands ≤ i) (n : i ≤ length c.commands) where
    over : drop i (rows c) ≡ []
    over = drop_of_length-le (rows c) {i = i} (omega (arith, rows_length c))

    pub goal_refused : within facts goal ≡ false → refused 5 at ≡ placed (validated_table (table_of c facts goal))
    unfolding validated_from
    goal_refused e = rw (← p.comes_to, over, e)

    pub all_passed : within facts goal ≡ true → accepted at ≡ placed (validated_table (table_of c facts goal))
    unfolding validated_from
    all_passed e =
        let whole : i ≡ length (rows c) = omega (arith, rows_length c) in
        rw (← p.comes_to, over, e, take_all i (rows c) (omega (arith, whole)), p.stands, whole, last_offset (table_of c facts goal))

-- a number of facts in range fits its byte
pub facts_small : (facts : ℕ) → facts_in_range facts ≡ true → facts ≤ max_facts
facts_small facts e = leb-true facts max_facts (is_true _ (and_right (leb 1 facts) (leb facts max_facts) (holds _ e)))

-- what the checks tell of a table that passed them, and of its goal's place
pub record Passed (t : Table) (at : ℕ) : Type 0 where
  pub is_sound : accepted t ≡ validated_table t
  pub is_place : at ≡ goal_offset t
  pub few_facts : t.facts ≤ max_facts
  pub is_small : at ≤ FACTS_SIZE + PAIRED_JOB_SIZE * max_jobs

pub placed_sound : (t : Table) (at : ℕ) → accepted at ≡ placed (validated_table t) → Passed t at
placed_sound t at e = by (validated_table t) refl e
  where
    by : (r : Checked Table) → validated_table t ≡ r → accepted at ≡ placed r → Passed t at
    by (accepted u) q p =
        let v = validated_table_sound t u q in
        let place : at ≡ goal_offset t = accepted_same p ∙ ap goal_offset (sym v.0) in
        record {
          is_sound = ap accepted v.0 ∙ sym q;
          is_place = place;
          few_facts = facts_small t.facts v.1.facts_range_held;
          is_small = omega (arith, place, last_offset t, offset_small t.jobs (length t.jobs), v.1.few);
        }
    by (refused n p) q r = absurd (not_both (sym r))

pub placed_refused : (t : Table) (n p : ℕ) → refused n p ≡ placed (validated_table t) → refused n p ≡ validated_table t
placed_refused t n p e = by (validated_table t) e
  where
    by : (r : Checked Table) → refused n p ≡ placed r → refused n p ≡ r
    by (accepted u) q = absurd (not_both q)
    by (refused n p) q = cc

-- ---- jobs out of columns

module _ (c : JobColumns) where
  -- rows that can be written make a table that can be stored
  pub columns_storable : (facts goal : ℕ) → ColumnsFit c → goal < 2 ^ 64 → first_unwritable c ≡ None → facts < 256 → Storable (table_of c facts goal)
  columns_storable facts goal f g w hf = record { facts_fit = hf; jobs_fit = each; goal_fits = g }
    where
      row : (i : ℕ) → i < length c.commands → StorableJob (row_at c i)
      row i h =
          record {
            needs_fit = f.needs_fit i;
            absent_fit = f.absent_fit i;
            adds_fit = f.adds_fit i;
            deletes_fit = f.deletes_fit i;
            seconds_fit = f.seconds_fit i;
            unpaired = plain_absent (get_or c.commands i 0) (get_or c.absent i 0) (rw zero-add at (all_writable c.commands c.absent (length c.commands) 0 i w h));
          }

      blank : StorableJob no_job
      blank =
          record {
            needs_fit = omega arith;
            absent_fit = omega arith;
            adds_fit = omega arith;
            deletes_fit = omega arith;
            seconds_fit = omega arith;
            unpaired = λ e. refl;
          }

      each : (i : ℕ) → StorableJob (get_or (rows c) i no_job)
      each i =
          elim (dec_lt i (length c.commands)) [
            | yes h ↦ rw (← row_of c i h) (row i h)
            | no h ↦ rw (get_or-eq_default (rows c) no_job {n = i} (rw rows_length (omega arith))) blank
          ]

-- ---- what comes of it, each way with the lent slice

module _ (c : JobColumns) (facts goal : ℕ) (l : List ℕ) (fits : first_unwritable c ≡ None → facts < 256 → Storable (table_of c facts goal)) where
  wrote : (r : Result ℕ NotWritten) (after : List ℕ) → table_written_of r ≡ writing c facts goal (length l)
      → after ≡ lent_after (table_written_of r) (table_bytes (table_of c facts goal)) l → Wrote c facts goal l after r
  wrote r after e a = record { answer = e; lent = rw (← e) a; as_read = λ w h. sym (read_written (table_of c facts goal) (fits w h)) }

  pub wrote_uneven : even c ≡ false → Wrote c facts goal l l (Err NotWritten.Uneven)
  unfolding writing
  wrote_uneven e = wrote (Err NotWritten.Uneven) l (rw e) refl

  module _ (e : even c ≡ true) where
    pub wrote_unwritable : (i : ℕ) → first_unwritable c ≡ Some i → Wrote c facts goal l l (Err (NotWritten.Unwritable i))
    unfolding writing
    wrote_unwritable i w = wrote (Err (NotWritten.Unwritable i)) l (rw (e, w)) refl

    module _ (w : first_unwritable c ≡ None) where
      pub wrote_unsound : (x : Refusal) → refused_by x ≡ validated_table (table_of c facts goal) → Wrote c facts goal l l (Err (NotWritten.Refused x))
      unfolding writing
      wrote_unsound x j = wrote (Err (NotWritten.Refused x)) l (rw (e, w, ← j)) refl

      -- the refusal of the checks is handed on
      pub wrote_refused : (x : Refusal) → refused_by x ≡ placed (validated_table (table_of c facts goal)) → (r : Result ℕ NotWritten)
          → IsErrAnd r (λ e. e ≡ NotWritten.Refused x) → Wrote c facts goal l l r
      wrote_refused x j (Ok n) h = absurd h
      wrote_refused x j (Err y) h = rw h (wrote_unsound x (placed_refused (table_of c facts goal) _ _ j))

      module _ (at size : ℕ) (j : Passed (table_of c facts goal) at) (z : at + GOAL_SIZE + END_OF_TABLE_SIZE ≡ size) where
        is_size : length (table_bytes (table_of c facts goal)) ≡ size
        is_size = omega (arith, table_length (table_of c facts goal), j.is_place)

        pub wrote_short : length l < size → Wrote c facts goal l l (Err (NotWritten.TooShort size))
        unfolding writing
        wrote_short s = wrote (Err (NotWritten.TooShort size)) l (rw (e, w, ← j.is_sound, is_size, lt-leb size (length l) s)) refl

        pub wrote_whole : size ≤ length l → (after : List ℕ) → after ≡ table_bytes (table_of c facts goal) ++ drop size l → Wrote c facts goal l after (Ok size)
        unfolding writing
        wrote_whole s after a = wrote (Ok size) after (rw (e, w, ← j.is_sound, is_size, le-leb size (length l) s)) a
