-- `card_migration::migrated` meets its contract: the card's masks under the new table, and what they promise.
use mathlib.Core.Path.{◌≡◌}
use Prim.Native.Nat.{ℕ}
use native.Mathlib.Omega.{arith}
use denote.Struct.Laws as LL
use Rattle.refusal.specs.declared.Refusal.{Refusal}
use Rattle.card.specs.contracts.Card as T
use Rattle.card.proofs.Card.TheLaws as T'
use Rattle.card.specs.CardLaws.{updated_refused, updated_accepted}
use Rattle.card_migration.specs.MigrationLaws.{migrated_refused, migrated_done}
use Rattle.card_migration.specs.PromiseLaws.{migrated_goes_on}
use Rattle.card_migration.proofs.migrated.Goals as goal
use Rattle.std.specs.Prelude.{Err, Ok, Result}

never : {x : Refusal} → (let r : Result (Unit {0}) Refusal = Err x in r ≡ Ok tt) → ⊥
never e = let z : ◌≡◌ {A = ℕ} 0 1 = cc in omega arith

pub returns-in-Err : goal.returns-in-Err
returns-in-Err c =
    let e = rw c.masks_of-masks.ensures at c.in-Err.ensures in
    rw c.refuse.ensures (record { updates = updated_refused (migrated_refused _ _ _ _ e); goes_on = λ q. absurd (never q) })

pub returns-in-Ok : goal.returns-in-Ok
returns-in-Ok c =
    let e = rw c.masks_of-masks.ensures at c.in-Ok.ensures in
    let reports-fit = (LL.owed T.the_type T'.the_laws c.args.card _ c.well_formed.0).1.1.0.1 in
    rw (c.accept.ensures, c.with_masks.ensures) (record { updates = updated_accepted (migrated_done _ _ _ _ e); goes_on = λ q. migrated_goes_on _ _ _ _ reports-fit _ e })
