-- One law for each way through the functions that tell what a tree shows.
-- Assumes nothing.
use Rattle.std.specs.Prelude.{ℕ, ◌+◌, ◌-◌, ◌≤◌, ◌≡◌, refl, true, false, List, leb, length}
use Rattle.std.proofs.Math.Decide.{dec_le}
use Rattle.std.proofs.Common.{arith, sym, le-leb}
use Rattle.std.proofs.lemmas.Bool.{lt-leb}
use Rattle.masks.specs.Laws.{within_empty}
use Rattle.refusal.specs.Checked.{Checked, accepted, refused, and_then}
use Rattle.refusal.specs.CheckedLaws.{not_both}
use Rattle.commands.specs.Commands.{MASK_WIDTH}
use Rattle.numbers.specs.Numbers.{number_at}
use Rattle.reading.specs.Reading.{state}
use Rattle.table.specs.Table.{Table}
use Rattle.table.specs.Read.{read_table}
use Rattle.tree.specs.declared.Status.{Status}
use Rattle.tree.specs.Tree.{Tree}
use Rattle.tree.specs.ReadTree.{read_tree}
use Rattle.tree.specs.Tick.{tick_tree}
use Rattle.tree.specs.TickBytes.{tick_checked, answered}
use Rattle.tree.specs.TickBytesLaws.{state_checked}
use Rattle.flat.specs.TreeBytes.{tree_size}
use Rattle.tree_shows.specs.Shown.{sound_tree, last_mask}

-- ---- the table, and the tree under it

module _ (table tree : List ℕ) where
  pub table_bad : (n p : ℕ) → refused n p ≡ read_table table → refused n p ≡ sound_tree table tree
  unfolding sound_tree
  table_bad n p e = rw (← e)

  -- a tick of a vehicle on which nothing is held tells whether the tree is sound
  module _ (t : Table) (e : accepted t ≡ read_table table) where
    abbrev ticked : Checked Status
    ticked = answered (tick_checked t.facts (length t.jobs) tree 0 (state 0))

    by_tree : (Q : Checked Status → Checked Table → Type 0) → ((x : Tree) → Q (accepted (tick_tree (state 0) x).answer) (accepted t))
        → ((n p : ℕ) → Q (refused n p) (refused n p)) → Q ticked (sound_tree table tree)
    unfolding sound_tree
    by_tree Q good bad = rw (← e, state_checked t.facts (length t.jobs) tree 0 0 (within_empty t.facts)) (by (read_tree tree t.facts (length t.jobs)))
      where
        by : (c : Checked Tree) → Q (answered (and_then c λ x. accepted (tick_tree (state 0) x))) (and_then c λ x. accepted t)
        by (accepted x) = good x
        by (refused n p) = bad n p

    pub tree_bad : (n p : ℕ) → refused n p ≡ ticked → refused n p ≡ sound_tree table tree
    tree_bad n p = by_tree (λ c d. refused n p ≡ c → refused n p ≡ d) (λ x q. absurd (not_both q)) (λ m q r. cc)

    pub tree_good : (s : Status) → accepted s ≡ ticked → accepted t ≡ sound_tree table tree
    tree_good s = by_tree (λ c d. accepted s ≡ c → accepted t ≡ d) (λ x q. refl) (λ m q r. absurd (not_both (sym r)))

-- ---- where the last mask stands

pub mask_there : (tree : List ℕ) (n after : ℕ) → 1 ≤ n → tree_size false n ≡ length tree → ((n ≡ 1) → after ≡ 1) → ((n ≡ 1 → ⊥) → after ≡ 3)
    → number_at MASK_WIDTH tree (length tree - (after + MASK_WIDTH)) ≡ last_mask tree
unfolding last_mask
mask_there tree n after some size one more =
    elim (dec_le n 1) [
      | yes h ↦
          let z : n ≡ 1 = omega arith in
          let short : leb (length tree) 13 ≡ true = le-leb (length tree) 13 (omega (arith, size, z)) in
          rw (one z, short)
      | no h ↦
          let long : leb (length tree) 13 ≡ false = lt-leb (length tree) 13 (omega (arith, size)) in
          rw (more (λ z. omega arith), long)
    ]
