-- The tree reader: from bytes to the tree, or to the number and place of the first stop (document 01, "Stops, in checking order", 13 to 15;
-- document 02, W10 and W12).
-- "In a tree, its length first, then nodes in byte order, then END." Within a node 13 comes before 14, and 14 before 15.
-- Definitions only.
use Rattle.std.specs.Prelude.{ℕ, zero, suc, ◌+◌, ◌-◌, Bool, true, ◌&&◌, List, eqb, ltb, leb, length, get_or, if◌then◌else◌, Result}
use Rattle.refusal.specs.declared.Refusal.{Refusal}
use Rattle.refusal.specs.Checked.{answer_by, Checked, accepted, refused, and_then}
use Rattle.commands.specs.declared.Found.{Found}
use Rattle.commands.specs.declared.Found.TheVariants.{Missing, Unknown, Cut, Whole}
use Rattle.commands.specs.Commands.{FALLBACK, SEQUENCE, CONDITION, JOB_LEAF, PAIR, WAITING, END_OF_TREE, OPERANDS_AT, ABSENT_AT, MASK_WIDTH, Past, command_at}
use Rattle.numbers.specs.Numbers.{number_at}
use Rattle.conditions.specs.declared.Condition.{Condition as Asked}
use Rattle.conditions.specs.Condition.{plain, condition_within}
use Rattle.tree.specs.declared.Kind.{Kind}
use Rattle.tree.specs.declared.Kind.TheVariants.{Fallback, Sequence}
use Rattle.tree.specs.declared.Leaf.{Leaf}
use Rattle.tree.specs.declared.Leaf.TheVariants.{Condition, Action, Wait}
use Rattle.tree.specs.declared.NodeRead.{NodeRead}
use Rattle.tree.specs.Tree.{Tree, Row, node, one, more}

abbrev pub max_tree_bytes : ℕ
max_tree_bytes = 65_535

abbrev pub max_children : ℕ
max_children = 4_096

-- "16 nodes deep at most with the root as 1"
abbrev pub max_depth : ℕ
max_depth = 16

-- a node's command with its operands
pub data Node : Type 0 where
  -- how many children follow
  branch : Kind → (count : ℕ) → Node
  leaf : Leaf → Node

-- ---- 13: "A tree is over 65,535 bytes, is cut, has a table command, an unknown one or a child count outside 1 to 4,096, has END where a node is
-- due, lacks END after its root, or goes on after it."

-- The command at an offset, with its operands all there. The place is the command's offset, and "the length where a command byte is missing".
abbrev pub whole_in : List ℕ → ℕ → Found → Checked (Past ℕ)
whole_in s at Missing = refused 13 (length s)
whole_in s at Unknown = refused 13 at
whole_in s at (Cut byte) = refused 13 at
whole_in s at (Whole byte next) = accepted (record { value = byte; next = next })

unfoldable pub whole_at : List ℕ → ℕ → Checked (Past ℕ)
whole_at s at = whole_in s at (command_at s at)

abbrev pub kind_byte : Kind → ℕ
kind_byte Fallback = FALLBACK
kind_byte Sequence = SEQUENCE

-- "child count, 2"
abbrev pub count_width : ℕ
count_width = 2

abbrev pub count_at : List ℕ → ℕ → ℕ
count_at s at = number_at count_width s (at + OPERANDS_AT)

abbrev pub child_count : Kind → ℕ → ℕ → Checked Node
child_count kind at n = if leb 1 n && leb n max_children then accepted (branch kind n) else refused 13 at

-- "mask, 8"; by W10 "both masks"
abbrev pub mask_at : List ℕ → ℕ → ℕ
mask_at s at = number_at MASK_WIDTH s (at + OPERANDS_AT)

abbrev pub pair_at : List ℕ → ℕ → Asked
pair_at s at = record { present = mask_at s at; absent = number_at MASK_WIDTH s (at + ABSENT_AT) }

-- a node's command, and its operands after it
unfoldable pub operands_of : List ℕ → ℕ → ℕ → Checked Node
operands_of s at byte =
    if eqb byte FALLBACK then child_count Fallback at (count_at s at)
    else if eqb byte SEQUENCE then child_count Sequence at (count_at s at)
    else if eqb byte CONDITION then accepted (leaf (Condition (plain (mask_at s at))))
    else if eqb byte JOB_LEAF then accepted (leaf (Action (get_or s (at + OPERANDS_AT) 0)))
    else if eqb byte PAIR then accepted (leaf (Condition (pair_at s at)))
    else if eqb byte WAITING then accepted (leaf Wait)
    else refused 13 at

unfoldable pub node_at : List ℕ → ℕ → Checked (Past Node)
node_at s at = and_then (whole_at s at) λ c. and_then (operands_of s at c.value) λ n. accepted (record { value = n; next = c.next })

-- END after the root, and nothing after it; the place is "the first extra byte where bytes follow END"
unfoldable pub read_end : List ℕ → Tree → ℕ → Checked Tree
read_end s t at =
    and_then (whole_at s at) λ c.
    if eqb c.value END_OF_TREE then (if eqb c.next (length s) then accepted t else refused 13 c.next) else refused 13 at

-- ---- the nodes, in byte order

-- 15: "A tree mask has a bit at or above F, or a job number is not below the job count."
abbrev pub in_range : ℕ → ℕ → Leaf → Bool
in_range facts jobs (Condition c) = condition_within facts c
in_range facts jobs (Action job) = ltb job jobs
in_range facts jobs Wait = true

-- a row of one child and n more, each read by `child`
unfoldable pub read_row : (ℕ → Checked (Past Tree)) → ℕ → ℕ → Checked (Past Row)
read_row child zero at = and_then (child at) λ t. accepted (record { value = one t.value; next = t.next })
read_row child (suc n) at =
    and_then (child at) λ t.
    and_then (read_row child n t.next) λ row.
    accepted (record { value = more t.value row.value; next = row.next })

-- a node that is not too deep, at an offset, with the offset past its operands
abbrev pub read_operands : (ℕ → Checked (Past Tree)) → ℕ → ℕ → ℕ → ℕ → Node → Checked (Past Tree)
read_operands child facts jobs at next (branch kind n) = and_then (read_row child (n - 1) next) λ row. accepted (record { value = node kind row.value; next = row.next })
read_operands child facts jobs at next (leaf x) = if in_range facts jobs x then accepted (record { value = Tree.leaf x at; next = next }) else refused 15 at

-- The node at an offset, with so many levels left for it and what is below it. 14: "A tree node is deeper than 16."
unfoldable pub read_node : List ℕ → ℕ → ℕ → ℕ → ℕ → Checked (Past Tree)
read_node s facts jobs zero at = and_then (node_at s at) λ n. refused 14 at
read_node s facts jobs (suc levels) at = and_then (node_at s at) λ n. read_operands (read_node s facts jobs levels) facts jobs at n.next n.value

-- the whole tree, for a table with so many facts and jobs
unfoldable pub read_tree : List ℕ → ℕ → ℕ → Checked Tree
read_tree s facts jobs =
    let nodes = and_then (read_node s facts jobs max_depth 0) (λ root. read_end s root.value root.next) in
    if leb (length s) max_tree_bytes then nodes else refused 13 0

-- ---- the answer of the code, in these terms

abbrev pub past_node_of : NodeRead → Past Node
past_node_of (NodeRead.Branch kind count next) = record { value = branch kind count; next = next }
past_node_of (NodeRead.Leaf x next) = record { value = leaf x; next = next }

abbrev pub node_read_of : Result NodeRead Refusal → Checked (Past Node)
node_read_of = answer_by past_node_of
