-- `card_migration::migrate_masks` meets its contract: each check's refusal stands, and what passes all of them is carried over by the map.
use Rattle.std.proofs.Common.{sym, ap, ◌∙◌, arith}
use Rattle.refusal.specs.CheckedLaws.{passed_on}
use Rattle.reading.specs.Reading.{checked_at}
use Rattle.fact_map.specs.FactMap.{mapped_reading}
use Rattle.table.specs.declared.Header.{Header}
use Rattle.table.specs.Read.{read_table}
use Rattle.table.proofs.ReadLaws.{headed_refused, headed_sound}
use Rattle.card_migration.specs.MigrationLaws.{facts_few, old_refused, new_refused, masks_bad, masks_mapped}
use Rattle.card_migration.proofs.migrate_masks.Goals as goal

pub map_reading-requires : goal.map_reading-requires
map_reading-requires c =
    let u = headed_sound (read_table _) c.in_ok-to.ensures in
    omega (arith, facts_few c.args.new.now (λ i. (c.type_inv.new i).fits) u.0 u.1, ap (λ (h : Header). h.facts) u.2)

pub returns-in_err-from : goal.returns-in_err-from
returns-in_err-from c = passed_on _ _ c.from_residual.ensures (old_refused _ _ _ _ (headed_refused (read_table _) c.in_err-from.ensures))

pub returns-in_err-to : goal.returns-in_err-to
returns-in_err-to c =
    let t = headed_sound (read_table _) c.in_ok-from.ensures in
    passed_on _ _ c.from_residual-in_err-to.ensures (new_refused _ _ _ _ t.0 t.1 (headed_refused (read_table _) c.in_err-to.ensures))

pub returns-in_err-sound : goal.returns-in_err-sound
returns-in_err-sound c =
    let t = headed_sound (read_table _) c.in_ok-from.ensures in
    let u = headed_sound (read_table _) c.in_ok-to.ensures in
    let bad = c.in_err-sound.ensures ∙ ap (λ (h : Header). checked_at h.facts 0 c.args.masks) (sym t.2) in
    passed_on _ _ c.from_residual-in_err-sound.ensures (masks_bad _ _ _ _ t.0 t.1 u.0 u.1 bad)

pub returns : goal.returns
returns c =
    let t = headed_sound (read_table _) c.in_ok-from.ensures in
    let u = headed_sound (read_table _) c.in_ok-to.ensures in
    let good = c.in_ok-sound.ensures ∙ ap (λ (h : Header). checked_at h.facts 0 c.args.masks) (sym t.2) in
    c.map_reading.ensures
    ∙ ap (λ (h : Header). mapped_reading h.facts c.in_ok-to.to.facts c.args.map.now c.in_ok-sound.sound) (sym t.2)
    ∙ ap (λ (h : Header). mapped_reading t.0.facts h.facts c.args.map.now c.in_ok-sound.sound) (sym u.2)
    ∙ masks_mapped c.args.old.now c.args.new.now c.args.map.now c.args.masks t.0 t.1 u.0 u.1 good
