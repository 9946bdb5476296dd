-- Behaviour trees: document 01, "Ticking". Each leaf keeps the offset of its command byte, which tells it from every other leaf.
-- Definitions only.
use Rattle.std.specs.Prelude.{ℕ}
use Rattle.tree.specs.declared.Kind.{Kind}
use Rattle.tree.specs.declared.Leaf.{Leaf}

mutual
  pub data Tree : Type 0 where
    leaf : Leaf → (at : ℕ) → Tree
    -- a fallback or a sequence, with its children from the left
    node : Kind → Row → Tree

  -- children, of which there is at least one
  pub data Row : Type 0 where
    one : Tree → Row
    more : Tree → Row → Row
