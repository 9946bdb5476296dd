-- `program_text::write_program_text` meets its contract: the plan is made from the bytes that were read, and they decide on the files.
use borrow.Author.Rules.{rules}
use mathlib.Core.Path.{refl, sym, ◌∙◌}
use lib.Seq.{length-take-le}
use lib.ListN.{take}
use Rattle.program_text.specs.ProgramLaws.{planned_told}
use Rattle.program_text.specs.FrontLaws.{text_held}
use Rattle.program_text.proofs.write_program_text.Goals as goal
use Rattle.program_text.proofs.write_program_text.Lts as Lts
use Rattle.program_text.proofs.write_program_text.Tie as Tie
use Rattle.program_text.proofs.write_program_text.Reads as Reads

abbrev AtAfterDepths3 : Type 0
AtAfterDepths3 = Lts.After-depths3 Tie.the-claims Reads.Pre Reads.Post

abbrev AtAfterPlan : Type 0
AtAfterPlan = Lts.After-plan Tie.the-claims Reads.Pre Reads.Post

abbrev AtAfterSliceKnown : Type 0
AtAfterSliceKnown = Lts.After-slice_known Tie.the-claims Reads.Pre Reads.Post

abbrev AtAfterStartOf : Type 0
AtAfterStartOf = Lts.After-start_of Tie.the-claims Reads.Pre Reads.Post

abbrev AtStart : Type 0
AtStart = Lts.Start Tie.the-claims Reads.Pre Reads.Post

-- ---- the places that several answers look back at: the function's entry, the start that was read, and the plan

abbrev entry_here : AtAfterSliceKnown → AtStart
entry_here c = c.before.before.before

abbrev read_of : AtAfterPlan → AtAfterStartOf
read_of c = c.before.before.before.before.before.before.before

abbrev lent_of : AtAfterPlan → AtStart
lent_of c = entry_here (read_of c).before

-- the list tables are lent once more
abbrev plan_of : AtAfterDepths3 → AtAfterPlan
plan_of c = c.before.before.before.before.before.before.before.before.before.before.before

-- ---- the answers, in the order of the code

pub slice_bounds-plan-end : goal.slice_bounds-plan-end
slice_bounds-plan-end c = sym (length-take-le _ _ (entry_here c.before).requires.table_count)

pub slice_bounds-start_of-end : goal.slice_bounds-start_of-end
slice_bounds-start_of-end c = sym (length-take-le _ _ (entry_here c.before).requires.start_count)

pub returns : goal.returns
returns c =
    let p = plan_of c.before.before.before.before.before in
    let s = lent_of p in
    let l = s.requires in
    let told =
    planned_told (take s.args.n s.args.table.now) (take s.args.m s.args.start.now) _ (read_of p).start_of.ensures
    (record { conditions_lent = refl; absences_lent = refl; actions_lent = refl; parents_lent = refl; depths_lent = refl; tree_lent = refl }) _ p.plan-planned.ensures in
    let a = c.write_answer.ensures (record { entries = told.entries; text_room_fits = l.text_room_fits }) in
    record {
      within = a.within;
      counted = a.counted;
      prints = λ tableFile startFile t u. a.shows ∙ told.is_text ∙ text_held t u l.table_room l.start_room;
    }
