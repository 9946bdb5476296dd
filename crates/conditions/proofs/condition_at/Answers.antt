use Rattle.conditions.proofs.condition_at.Goals as goal

pub returns : goal.returns
returns c = rw (c.mask_at-present.ensures, c.mask_at-absent.ensures)
