-- The files are judged by their first bytes: no stop of a table depends on what follows FACTS, 128 JOBs, GOAL and END, or a 129th JOB, and a
-- start that is longer than a start is one of another length. So what the buffers hold of long files gives the text of the whole files.
-- Assumes nothing.
use borrow.Author.Tests.{lt-ltb, le-leb, ne_eqb, eqb-true, eqb-false}
use Rattle.std.proofs.Math.Decide.{dec_le}
use Rattle.std.proofs.Common.{arith, sym, ◌∙◌, length-append, take-append-drop, take_all, length-take-le}
use Rattle.std.specs.Prelude.{◌≡◌, Bool, eqb, leb, get_or, take, drop, if◌then◌else◌, None, Option, Some}
use Rattle.std.proofs.Math.Path.{refl, ap}
use Rattle.std.proofs.Math.Bool.{true, false}
use mathlib.Core.List.{List, [], ◌∷◌, ◌++◌}
use Prim.Native.Nat.{ℕ, zero, suc, ◌+◌, ◌*◌, ◌≤◌}
use Rattle.std.proofs.Math.ListN.{length, length-drop, get_or-append}
use Rattle.std.proofs.Math.Seq.{take-append-le}
use Rattle.std.proofs.lemmas.List.{drop-append-le}
use Rattle.refusal.specs.Checked.{Checked, accepted, refused, and_then}
use Rattle.commands.specs.declared.Command.{Command}
use Rattle.commands.specs.declared.Found.TheVariants.{Whole, Cut}
use Rattle.commands.specs.Commands.{PAIRED_JOB, GOAL, OPERANDS_AT, ABSENT_AT, ADDS_AT, PAIRED_ADDS_AT, MASK_WIDTH, EFFECTS_WIDTH, commands, width_in, width_of, operands_at, command_at}
use Rattle.numbers.specs.Numbers.{from_bytes, number_at}
use Rattle.job.specs.declared.Job.{Job}
use Rattle.table.specs.declared.Stage.{Stage}
use Rattle.table.specs.declared.Stage.TheVariants.{First, Middle, Last}
use Rattle.table.specs.Table.{Table, max_jobs}
use Rattle.job.specs.Job.{job_with, job_by, job_at}
use Rattle.job.proofs.JobLaws.{size_most}
use Rattle.job.specs.Validation.{validated_job}
use Rattle.table.specs.Read.{allowed, due_in, due, read_end, read_goal, read_jobs, read_table, facts_in_range}
use Rattle.table.proofs.ReadLaws.{facts_inside, end_inside, goal_inside, job_due}
use Rattle.planner.specs.PlanLaws.{plan_same}
use Rattle.program_text.specs.Program.{capacity, tree_room, start_size, start_of, files_plan, program_text}
use Rattle.program_text.specs.Files.{widest_in, widest, table_front, start_front, Holds}

-- ---- no command that may stand at a stage is wider than the widest

fits_in : (stage : Stage) (cs : List Command) (b w : ℕ) → allowed stage b ≡ true → width_in cs b ≡ Some w → 1 + w ≤ widest_in stage cs
fits_in stage [] b w a e = let z : ◌≡◌ {A = ℕ} 0 1 = cc in absurd (omega arith)
fits_in stage (c ∷ cs) b w a e = by (eqb c.byte b) refl (fits_in stage cs b w a) e
  where
    by : (x : Bool) → eqb c.byte b ≡ x → (width_in cs b ≡ Some w → 1 + w ≤ widest_in stage cs) → (if x then Some c.width else width_in cs b) ≡ Some w
        → 1 + w ≤ widest_in stage (c ∷ cs)
    by true h rest q =
        let k : c.width ≡ w = cc in
        let m : allowed stage c.byte ≡ true = ap (allowed stage) (eqb-true _ _ h) ∙ a in
        rw m (omega arith)
    by false h rest q = omega (arith, rest q)

fits : (stage : Stage) (b w : ℕ) → allowed stage b ≡ true → width_of b ≡ Some w → 1 + w ≤ widest stage
unfolding width_of
fits stage b w a e = fits_in stage commands b w a e

-- ---- the same answer by the same way

then_same : {A B : Type 0} (x : Checked A) (f g : A → Checked B) → ((a : A) → accepted a ≡ x → f a ≡ g a) → and_then x f ≡ and_then x g
then_same (accepted a) f g h = h a refl
then_same (refused n p) f g h = refl

if_same : {A : Type 0} (b : Bool) (x y u v : A) → (b ≡ true → x ≡ u) → (b ≡ false → y ≡ v) → (if b then x else y) ≡ (if b then u else v)
if_same true x y u v h k = h refl
if_same false x y u v h k = k refl

-- ---- a table that goes on

module _ (p r : List ℕ) where
  longer : length p ≤ length (p ++ r)
  longer = omega (arith, length-append p r)

  -- a command that may stand there is whole in both, and any other is 2 in both
  due_same : (stage : Stage) (at : ℕ) → 1 ≤ widest stage → at + widest stage ≤ length p → due stage (p ++ r) at ≡ due stage p at
  unfolding due command_at
  due_same stage at one h =
      rw (lt-ltb at (length (p ++ r)) (omega (arith, longer)), lt-ltb at (length p) (omega arith), get_or-append p r 0 at (omega arith))
      (by (width_of (get_or p at 0)) refl)
    where
      by : (w : (Option ℕ)) → width_of (get_or p at 0) ≡ w → due_in stage (p ++ r) at (operands_at (p ++ r) at w) ≡ due_in stage p at (operands_at p at w)
      by None e = refl
      by (Some w) e = rw (get_or-append p r 0 at (omega arith)) (judged_same (allowed stage (get_or p at 0)) refl)
        where
          other : (s : List ℕ) (x : Bool) → allowed stage (get_or p at 0) ≡ false
              → due_in stage s at (if x then Whole (get_or p at 0) (at + 1 + w) else Cut (get_or p at 0)) ≡ refused 2 at
          other s true a = rw a
          other s false a = rw a

          judged_same : (a : Bool) → allowed stage (get_or p at 0) ≡ a
              → due_in stage (p ++ r) at (if leb (at + 1 + w) (length (p ++ r)) then Whole (get_or p at 0) (at + 1 + w) else Cut (get_or p at 0))
              ≡ due_in stage p at (if leb (at + 1 + w) (length p) then Whole (get_or p at 0) (at + 1 + w) else Cut (get_or p at 0))
          judged_same true a =
              let n = fits stage (get_or p at 0) w a e in
              rw (le-leb (at + 1 + w) (length (p ++ r)) (omega (arith, n, longer)), le-leb (at + 1 + w) (length p) (omega (arith, n)))
          judged_same false a = other (p ++ r) (leb (at + 1 + w) (length (p ++ r))) a ∙ sym (other p (leb (at + 1 + w) (length p)) a)

  number_same : (k at : ℕ) → at + k ≤ length p → number_at k (p ++ r) at ≡ number_at k p at
  unfolding number_at
  number_same k at h =
      ap from_bytes (ap (take k) (drop-append-le at p r (omega arith)) ∙ take-append-le k (drop at p) r (rw length-drop (omega arith)))

  -- of a job of the wider kind, and so of the other
  job_same : (at : ℕ) → at + widest Middle ≤ length p → job_at (p ++ r) at ≡ job_at p at
  unfolding job_at
  job_same at h = rw (get_or-append p r 0 at (omega arith)) (by (eqb (get_or p at 0) PAIRED_JOB))
    where
      with_same : (paired : Bool) (absent absent' adds : ℕ) → absent ≡ absent' → at + (adds + EFFECTS_WIDTH) ≤ length p → ADDS_AT ≤ adds
          → job_with paired absent adds (p ++ r) at ≡ job_with paired absent' adds p at
      with_same paired absent absent' adds e k l =
          rw (
            e,
            number_same 8 (at + OPERANDS_AT) (omega arith),
            number_same 8 (at + adds) (omega arith),
            number_same 8 (at + (adds + MASK_WIDTH)) (omega arith),
            number_same 2 (at + (adds + MASK_WIDTH + MASK_WIDTH)) (omega arith),
          )

      by : (paired : Bool) → job_by paired (p ++ r) at ≡ job_by paired p at
      by false = with_same false 0 0 ADDS_AT refl (omega arith) (omega arith)
      by true = with_same true _ _ PAIRED_ADDS_AT (number_same 8 (at + ABSENT_AT) (omega arith)) (omega arith) (omega arith)

  -- END, with a byte after it
  end_same : (t : Table) (at : ℕ) → at + widest Last + 1 ≤ length p → read_end (p ++ r) t at ≡ read_end p t at
  unfolding read_end
  end_same t at h =
      rw (due_same Last at (omega arith) (omega arith))
      (then_same (due Last p at) _ _
      (λ c e. let n = (end_inside p at c e).0 in
      rw (ne_eqb c.next (length (p ++ r)) (λ q. omega (arith, n, longer)), ne_eqb c.next (length p) (λ q. omega (arith, n)))))

  -- GOAL stands where a JOB would have room
  goal_same : (facts : ℕ) (js : List Job) (at next : ℕ) → at + widest Middle ≤ length p → next + widest Last + 1 ≤ length p
      → read_goal (p ++ r) facts js at next ≡ read_goal p facts js at next
  unfolding read_goal
  goal_same facts js at next h k =
      rw (number_same 8 (at + 1) (omega arith), end_same (record { facts = facts; jobs = js; goal = number_at 8 p (at + 1) }) next k)

  jobs_same : (facts left : ℕ) (js : List Job) (at : ℕ) → at + widest Middle * (left + 1) ≤ length p → read_jobs (p ++ r) facts left js at ≡ read_jobs p facts left js at
  unfolding read_jobs
  jobs_same facts zero js at h =
      rw (due_same Middle at (omega arith) (omega arith))
      (then_same (due Middle p at) _ _
      (λ c e. if_same (eqb c.value GOAL) _ _ _ _
      (λ q. goal_same facts js at c.next (omega arith) (omega (arith, (goal_inside p at c e (eqb-true _ _ q)).0)))
      (λ _. refl)))
  jobs_same facts (suc left) js at h =
      rw (due_same Middle at (omega arith) (omega arith))
      (then_same (due Middle p at) _ _
      (λ c e. if_same (eqb c.value GOAL) _ _ _ _
      (λ q. goal_same facts js at c.next (omega arith) (omega (arith, (goal_inside p at c e (eqb-true _ _ q)).0)))
      (λ q. rw (job_same at (omega arith))
      (then_same (validated_job facts at (job_at p at)) _ _
      (λ j _. jobs_same facts left (js ++ (j ∷ [])) c.next (let d = job_due p at c e (eqb-false _ _ q) in omega (arith, d.is_next, size_most d.paired)))))))

  read_front : table_front ≤ length p → read_table (p ++ r) ≡ read_table p
  unfolding read_table
  read_front h =
      rw (due_same First 0 (omega arith) (omega arith), get_or-append p r 0 1 (omega arith))
      (then_same (due First p 0) _ _
      (λ c e. if_same (facts_in_range (get_or p 1 0)) _ _ _ _ (λ _. jobs_same (get_or p 1 0) max_jobs [] c.next (omega (arith, (facts_inside p 0 c e).0))) (λ _. refl)))

-- ---- what a buffer holds of a file

-- every count within the buffer is that of some file
pub holds_some : (buffer : List ℕ) (count : ℕ) → count ≤ length buffer → Holds buffer count (take count buffer)
holds_some buffer count h =
    record { counted = omega (arith, length-take-le count buffer h); held = sym (take_all count (take count buffer) (omega (arith, length-take-le count buffer h))) }

module _ (buffer file : List ℕ) (count : ℕ) (k : Holds buffer count file) where
  -- the file in two parts: what the buffer holds, and what follows where the buffer is full
  file_parts : take count buffer ++ drop count file ≡ file
  file_parts = rw k.held (take-append-drop count file)

  held_whole : length file ≤ length buffer → take count buffer ≡ file
  held_whole h = k.held ∙ take_all count file (omega (arith, k.counted))

  held_length : length (take count buffer) ≡ count
  held_length = length-take-le count buffer (omega (arith, k.counted))

  pub table_held : table_front ≤ length buffer → read_table (take count buffer) ≡ read_table file
  table_held h =
      elim (dec_le (length file) (length buffer)) [
        | yes l ↦ ap read_table (held_whole l)
        | no l ↦ sym (read_front (take count buffer) (drop count file) (omega (arith, held_length, k.counted))) ∙ ap read_table file_parts
      ]

-- the text of the whole files, from what the buffers hold of them
module _ {table start table_file start_file : List ℕ} {n m : ℕ} where
  pub text_held : Holds table n table_file → Holds start m start_file → table_front ≤ length table → start_front ≤ length start
      → program_text (take n table) (take m start) ≡ program_text table_file start_file
  unfolding program_text files_plan
  text_held t s h k =
      let same = table_held table table_file n t h in
      rw (plan_same (take n table) table_file same (start_of (take m start)) capacity tree_room, same)
      (elim (dec_le (length start_file) (length start)) [
        | yes l ↦ rw (held_whole start start_file m s l)
        | no l ↦
            rw (
              ne_eqb (length (take m start)) start_size (λ q. omega (arith, held_length start start_file m s, s.counted)),
              ne_eqb (length start_file) start_size (λ q. omega arith),
            )
      ])
