-- `job::masks_in_range` meets its contract: the one test of all masks is the definition's four.
use Rattle.job.proofs.ValidationLaws.{all_within}
use Rattle.job.proofs.masks_in_range.Goals as goal

pub returns : goal.returns
returns c =
    rw (c.join.ensures, c.join-changed.ensures, c.join-asked.ensures, all_within) at c.is_within.ensures
