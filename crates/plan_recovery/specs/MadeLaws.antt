-- The plan that is made for the last condition that a tree shows: what it leaves in tables with room for as many entries as the tree shows, and its bytes.
-- Assumes nothing.
use Rattle.std.specs.Prelude.{ℕ, ◌≤◌, ◌≡◌, Bool, false, List, length, take, drop, Result, Ok, Err}
use Rattle.std.proofs.Common.{arith, sym, ap, ◌∙◌, length-append, take_at}
use Rattle.refusal.specs.declared.Refusal.{Refusal}
use Rattle.refusal.specs.Checked.{answer_of}
use Rattle.table.specs.Table.{Table}
use Rattle.planning.specs.Columns.{max_entries}
use Rattle.flat.specs.TreeBytes.{tree_size}
use Rattle.expander.specs.declared.Until.TheVariants.{Covers}
use Rattle.expander.specs.Expands.{Columns, capacity_of, room}
use Rattle.builder.specs.declared.Size.{Size}
use Rattle.builder.specs.Plan.{pairs, table_list, Plan, one_tree, table_plan, size_of, WritesPlan}
use Rattle.builder.specs.FinishLaws.{refused_tree}
use Rattle.builder.specs.PlanLaws.{plan_paired, whole_told}
use Rattle.recovery_parts.specs.Parts.{bytes_of}
use Rattle.tree_shows.specs.Shown.{last_mask, same_bytes}
use Rattle.plan_recovery.specs.Made.{made_for, Made, Compares}

module _ {t : Table} {tree : List ℕ} {n : ℕ} {after : Columns} {bytes : List ℕ} {k : ℕ} (M : Made t tree n after bytes k) where
  room_is : room M.before false ≡ n
  unfolding capacity_of
  room_is = omega (arith, M.shown.few)

  plan_is : table_plan (Covers (last_mask tree)) t (room M.before) (length M.lent) (size_of (pairs t)) ≡ made_for t tree n
  unfolding table_plan
  plan_is = rw (M.shown.no_pair, room_is, M.enough)

  writes_it : WritesPlan (made_for t tree n) M.before after M.lent bytes (answer_of M.built)
  writes_it = rw plan_is at M.writes

  unpaired : (made_for t tree n).paired ≡ false
  unfolding table_plan
  unpaired = plan_paired (pairs t) (size_of (pairs t)) (Covers (last_mask tree)) (tree_size false (max_entries false)) (table_list (Covers (last_mask tree)) t (λ paired. n)) ∙ M.shown.no_pair

  -- as many bytes are told as the tree has, and none where there is none
  bytes_told : k ≡ length (made_for t tree n).tree
  unfolding table_plan
  bytes_told = by_answer M.built M.told (sym writes_it.answer_and_tree.answer)
    where
      by_answer : (r : Result Size Refusal) → k ≡ bytes_of (answer_of r) → (made_for t tree n).answer ≡ answer_of r
          → k ≡ length (made_for t tree n).tree
      by_answer (Ok size) told a =
          let w = whole_told (pairs t) (Covers (last_mask tree)) (tree_size false (max_entries false)) (size_of (pairs t)) (table_list (Covers (last_mask tree)) t (λ paired. n)) size a in
          told ∙ ap (λ (s : Size). s.bytes) w.told_is ∙ ap (λ (P : Plan Size). length P.tree) (sym w.plan_is)
      by_answer (Err x) told a =
          told ∙ ap length (sym (refused_tree (one_tree (pairs t) (tree_size false (max_entries false)) (size_of (pairs t))) (pairs t) (Covers (last_mask tree))
          (table_list (Covers (last_mask tree)) t (λ paired. n)) _ _ a))

  pub bytes_fit : k ≤ length bytes
  bytes_fit =
      let own = (made_for t tree n).tree in
      omega (arith, bytes_told, ap length writes_it.answer_and_tree.tree_written, length-append own (drop (length own) M.lent))

  pub compares : {same : Bool} → same ≡ same_bytes (take k bytes) tree → Compares t tree n after same
  compares e =
      let own = (made_for t tree n).tree in
      let front : take k bytes ≡ own = rw writes_it.answer_and_tree.tree_written (take_at own (drop (length own) M.lent) k (sym bytes_told)) in
      record { shown = M.shown; before = M.before; tables = rw unpaired at writes_it.tables; is_same = e ∙ ap (λ (s : List ℕ). same_bytes s tree) front }
