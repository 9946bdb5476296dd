-- `bay_migration::bay_migrate` meets its contract.
use Rattle.bay_card_parts.specs.CardPartLaws.{step_stored}
use Rattle.bay_migration.specs.MigrationWordLaws.{migrated_any}
use Rattle.bay_migration.proofs.bay_migrate.Goals as goal

pub returns : goal.returns
returns c =
    let step = c.migrated-migrated in
    migrated_any _ _ _ _ _ _ _ _ _ (step_stored step.ensures.updates c.store.ensures)
