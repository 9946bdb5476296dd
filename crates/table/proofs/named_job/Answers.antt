-- `table::named_job` meets its contract: the header has as many jobs as the table.
use Rattle.std.proofs.Common.{◌≡◌, length, ap, ◌∙◌, sym, arith}
use Rattle.refusal.specs.Checked.{Checked, accepted}
use Rattle.refusal.specs.CheckedLaws.{accepted_same}
use Rattle.table.specs.declared.Header.{Header}
use Rattle.table.specs.Table.{Table}
use Rattle.table.specs.Read.{read_table, headed}
use Rattle.table.proofs.ReadLaws.{headed_sound, named_job_is, named_none}
use Rattle.table.proofs.named_job.Goals as goal

jobs_told : {h : Header} {r : Checked Table} → accepted h ≡ headed r → (t : Table) → accepted t ≡ r → h.jobs ≡ length t.jobs
jobs_told e t q = ap (λ h. h.jobs) (accepted_same (e ∙ ap headed (sym q)))

pub job_at-requires : goal.job_at-requires
job_at-requires c =
    let t = headed_sound (read_table _) c.requires in
    rw (← t.1) (omega (arith, jobs_told c.requires t.0 t.1))

pub returns-then-index-header : goal.returns-then-index-header
returns-then-index-header c t e = rw c.at.ensures (named_none t _ _ (omega (arith, jobs_told c.requires t e)))

pub returns : goal.returns
returns c t e = ap accepted c.job_at.ensures ∙ rw (← e) (named_job_is t _ _ (omega (arith, jobs_told c.requires t e)))
