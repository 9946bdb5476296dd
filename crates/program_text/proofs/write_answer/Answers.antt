-- `program_text::write_answer` meets its contract: either text has room in `out`.
use Rattle.std.proofs.Common.{ℕ, List, ◌^◌, ◌≤◌, ◌<◌, get_or, length, arith}
use Rattle.refusal.specs.Numbers.{number_of}
use Rattle.expander.specs.Expands.{Columns, columns}
use Rattle.expander.specs.ExpandsLaws.{entry_of}
use Rattle.plan_text.specs.Writes.{listed}
use Rattle.plan_text.specs.WriteLaws.{with_fewer}
use Rattle.plan_text.specs.TextLaws.{refused_length, plan_length, Small}
use Rattle.program_text.specs.Program.{lent_entries}
use Rattle.program_text.specs.Shows.{shown_in}
use Rattle.program_text.specs.ProgramLaws.{shown_whole}
use Rattle.program_text.proofs.write_answer.Goals as goal

-- the numbers in the columns are small
small : (conditions absences actions parents depths : List ℕ) → ((i : ℕ) → get_or actions i 0 < 256) → ((i : ℕ) → get_or parents i 0 < 65536)
    → ((i : ℕ) → get_or depths i 0 < 65536) → (i : ℕ) → Small (entry_of (columns conditions absences actions parents depths) i)
small conditions absences actions parents depths a p d i = record { action_small = a i; parent_small = p i; depth_small = d i }

pub returns-in-Err : goal.returns-in-Err
returns-in-Err c fits =
    let x = c.in-Err.x in
    let number : number_of x.reason < 2 ^ 8 = omega (arith, c.from.type_inv, c.from.ensures) in
    let place : x.place < 2 ^ 64 = omega (arith, c.in-Err.known_told-1-own.given) in
    rw c.in-Err.is
    (shown_whole (rw c.from.ensures at c.write_refused_text.ensures) (omega (arith, refused_length (number_of x.reason) x.place number place, fits.text_room_fits)) c.write_refused_text.auto.out)

pub returns-in-Ok : goal.returns-in-Ok
returns-in-Ok c fits =
    let a = c.args in
    let s = c.in-Ok.s in
    let l = columns a.conditions.now a.absences.now a.actions.now a.parents.now a.depths.now in
    let n = shown_in s l in
    let fewer = with_fewer s.paired (listed s.entries l.conditions l.actions l.parents l.depths) (length l.absences) in
    let most : n ≤ lent_entries = omega (arith, fewer, rw c.in-Ok.is at fits.entries) in
    let g = c.in-Ok.known_told-in-Ok-1-own.given in
    let numbers = small l.conditions l.absences l.actions l.parents l.depths (λ i. (c.type_inv.actions i).fits) (λ i. (c.type_inv.parents i).fits) (λ i. (c.type_inv.depths i).fits) in
    let size = plan_length s.paired (entry_of l) s.entries s.bytes n s.jobs s.minutes (omega (arith, g)) (omega (arith, g)) (omega (arith, g)) (omega (arith, g)) (omega (arith, most)) (λ i h. numbers i) in
    rw c.in-Ok.is (shown_whole c.write_plan_text.ensures (omega (arith, fits.text_room_fits, most, size)) c.write_plan_text.auto.out)
