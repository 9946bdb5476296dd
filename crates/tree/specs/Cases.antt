-- Which stop a bad tree meets first, and what a condition with both masks answers, computed from the definitions: document 01, "Stops, in checking
-- order", 13 to 15, and "Ticking"; document 02, W10 and W12.
use Rattle.std.specs.Prelude.{ℕ, zero, suc, ◌≡◌, refl, List, [], ◌∷◌, ◌++◌, map}
use Rattle.masks.specs.Sets.{subset, intersects, union, within}
use Rattle.refusal.specs.Checked.{accepted, refused}
use Rattle.commands.specs.Commands.{FACTS, GOAL, END_OF_TABLE, FALLBACK, SEQUENCE, CONDITION, JOB_LEAF, PAIR, WAITING, END_OF_TREE, MASK_WIDTH, width_of, command_at}
use Rattle.numbers.specs.Numbers.{from_bytes, to_bytes, number_at}
use Rattle.reading.specs.declared.Reading.{Reading}
use Rattle.reading.specs.Reading.{sound, checked_at}
use Rattle.conditions.specs.OnReading.{possible, evaluated}
use Rattle.table.specs.Read.{due, read_end, read_goal, read_jobs, read_table}
use Rattle.tree.specs.declared.Status.TheVariants.{Success, Failure, Running, Unsettled, Waiting}
use Rattle.tree.specs.ReadTree.{count_width, whole_at, operands_of, node_at, read_row, read_node, read_tree, read_end as read_tree_end}
use Rattle.tree.specs.Tick.{tick_by}
use Rattle.tree.specs.TickBytes.{tick_checked, tick_bytes}

abbrev asks : ℕ → List ℕ
asks mask = CONDITION ∷ to_bytes MASK_WIDTH mask

abbrev asks_pair : ℕ → ℕ → List ℕ
asks_pair present absent = PAIR ∷ to_bytes MASK_WIDTH present ++ to_bytes MASK_WIDTH absent

abbrev does : ℕ → List ℕ
does number = JOB_LEAF ∷ number ∷ []

abbrev branch : ℕ → ℕ → List ℕ
branch byte count = byte ∷ to_bytes count_width count

-- so many sequences of one child, each in the one before it
abbrev under : ℕ → List ℕ → List ℕ
under zero s = s
under (suc n) s = branch SEQUENCE 1 ++ under n s

abbrev empty : Reading
empty = record { held = 0; unread = 0 }

-- each tree, and the stop that it meets first, for five facts and five jobs
pub stops : map (λ s. tick_checked 5 5 s 0 empty) (
    []
    ∷ does 4
    ∷ (does 4 ++ (END_OF_TREE ∷ 0 ∷ []))
    ∷ (does 5 ++ (END_OF_TREE ∷ []))
    ∷ (asks 0x20 ++ (END_OF_TREE ∷ []))
    -- a bit at or above F in the first mask of a pair, and in its second
    ∷ (asks_pair 0x20 0 ++ (END_OF_TREE ∷ []))
    ∷ (asks_pair 0 0x20 ++ (END_OF_TREE ∷ []))
    -- a pair with one mask, and one that lacks its last byte
    ∷ (PAIR ∷ to_bytes MASK_WIDTH 0 ++ (END_OF_TREE ∷ []))
    ∷ (PAIR ∷ to_bytes MASK_WIDTH 0 ++ to_bytes 7 0)
    -- a pair alone
    ∷ (asks_pair 0 0x10 ++ (END_OF_TREE ∷ []))
    ∷ (branch FALLBACK 0 ++ (END_OF_TREE ∷ []))
    ∷ (branch FALLBACK 4097 ++ (END_OF_TREE ∷ []))
    -- the tick is decided by the first child, and the second is looked at all the same
    ∷ (branch FALLBACK 2 ++ (does 4 ++ (does 5 ++ (END_OF_TREE ∷ []))))
    ∷ (branch FALLBACK 2 ++ (does 4 ++ (END_OF_TREE ∷ [])))
    -- an earlier node's 15 before a later one's 13
    ∷ (branch FALLBACK 2 ++ (does 5 ++ (0x99 ∷ [])))
    -- at depth 17: 13 before 14, and 14 before 15
    ∷ under 16 (branch SEQUENCE 0)
    ∷ under 16 (asks 0x20)
    ∷ under 15 (does 4 ++ (END_OF_TREE ∷ []))
    ∷ []
    )
    ≡ refused 13 0 ∷ refused 13 2 ∷ refused 13 3 ∷ refused 15 0 ∷ refused 15 0 ∷ refused 15 0 ∷ refused 15 0 ∷ refused 13 0 ∷ refused 13 0
    ∷ accepted (record { answer = Success; leaf = 0 }) ∷ refused 13 0 ∷ refused 13 0 ∷ refused 15 5 ∷ refused 13 5 ∷ refused 15 3
    ∷ refused 13 48 ∷ refused 14 48 ∷ accepted (record { answer = Running 4; leaf = 45 }) ∷ []
unfolding tick_checked command_at width_of number_at from_bytes to_bytes checked_at sound subset intersects union within possible evaluated whole_at operands_of node_at read_row
    read_node read_tree read_tree_end tick_by
stops = refl

-- Fact 0 is to hold and fact 1 to be absent: what a tick answers on each reading. "An unread fact of either mask leaves a condition open unless a read
-- one fails it."
pub pairs : map (λ r. tick_checked 2 0 (asks_pair 1 2 ++ (END_OF_TREE ∷ [])) 0 r) (
    record { held = 1; unread = 0 }
    ∷ record { held = 0; unread = 0 }
    ∷ record { held = 3; unread = 0 }
    ∷ record { held = 0; unread = 1 }
    ∷ record { held = 1; unread = 2 }
    ∷ record { held = 0; unread = 3 }
    -- a read fact fails it, whatever is unread
    ∷ record { held = 0; unread = 2 }
    ∷ record { held = 2; unread = 1 }
    ∷ []
    )
    ≡ map (λ a. accepted (record { answer = a; leaf = 0 }))
    (Success ∷ Failure ∷ Failure ∷ Unsettled 1 ∷ Unsettled 2 ∷ Unsettled 3 ∷ Failure ∷ Failure ∷ [])
unfolding tick_checked command_at width_of number_at from_bytes to_bytes checked_at sound subset intersects union within possible evaluated whole_at operands_of node_at read_node
    read_tree read_tree_end tick_by
pairs = refl

-- a pair that wants a fact both ways is no stop: it fails where the fact is read, and is unsettled where it is not
pub contrary : map (λ r. tick_checked 2 0 (asks_pair 1 1 ++ (END_OF_TREE ∷ [])) 0 r) (
    record { held = 1; unread = 0 } ∷ record { held = 0; unread = 0 } ∷ record { held = 0; unread = 1 } ∷ []
    )
    ≡ map (λ a. accepted (record { answer = a; leaf = 0 })) (Failure ∷ Failure ∷ Unsettled 1 ∷ [])
unfolding tick_checked command_at width_of number_at from_bytes to_bytes checked_at sound subset intersects union within possible evaluated whole_at operands_of node_at read_node
    read_tree read_tree_end tick_by
contrary = refl

-- A waiting leaf: alone; at depth 16, and 17; where a sequence and a fallback do not go on after it, though all that follows is looked at; after what
-- they go on after; and with a byte more. It is allowed under a table with no job.
pub waits : map (λ s. tick_checked 1 0 s 0 empty) (
    (WAITING ∷ END_OF_TREE ∷ [])
    ∷ under 15 (WAITING ∷ END_OF_TREE ∷ [])
    ∷ under 16 (WAITING ∷ END_OF_TREE ∷ [])
    ∷ (branch SEQUENCE 2 ++ (WAITING ∷ asks 0 ++ (END_OF_TREE ∷ [])))
    ∷ (branch FALLBACK 2 ++ (WAITING ∷ asks 0 ++ (END_OF_TREE ∷ [])))
    ∷ (branch FALLBACK 2 ++ (WAITING ∷ asks 2 ++ (END_OF_TREE ∷ [])))
    ∷ (branch SEQUENCE 2 ++ (asks 0 ++ (WAITING ∷ END_OF_TREE ∷ [])))
    ∷ (branch FALLBACK 2 ++ (asks 1 ++ (WAITING ∷ END_OF_TREE ∷ [])))
    ∷ (branch SEQUENCE 2 ++ (asks 1 ++ (WAITING ∷ END_OF_TREE ∷ [])))
    ∷ (WAITING ∷ 0 ∷ END_OF_TREE ∷ [])
    ∷ []
    )
    ≡ accepted (record { answer = Waiting; leaf = 0 }) ∷ accepted (record { answer = Waiting; leaf = 45 }) ∷ refused 14 48
    ∷ accepted (record { answer = Waiting; leaf = 3 }) ∷ accepted (record { answer = Waiting; leaf = 3 }) ∷ refused 15 4
    ∷ accepted (record { answer = Waiting; leaf = 12 }) ∷ accepted (record { answer = Waiting; leaf = 12 }) ∷ accepted (record { answer = Failure; leaf = 3 })
    ∷ refused 13 1 ∷ []
unfolding tick_checked command_at width_of number_at from_bytes to_bytes checked_at sound subset intersects union within possible evaluated whole_at operands_of node_at read_row
    read_node read_tree read_tree_end tick_by
waits = refl

-- one fact, no job, an empty goal
abbrev table : List ℕ
table = FACTS ∷ 1 ∷ GOAL ∷ to_bytes MASK_WIDTH 0 ++ (END_OF_TABLE ∷ [])

abbrev unsound : Reading
unsound = record { held = 2; unread = 0 }

-- the table first, then the reading, then the tree
pub order : (tick_bytes [] [] unsound ≡ refused 1 0) × (tick_bytes table [] unsound ≡ refused 8 0) × (tick_bytes table [] empty ≡ refused 13 0)
unfolding tick_bytes tick_checked read_table read_jobs read_goal read_end due command_at width_of number_at from_bytes to_bytes checked_at sound intersects within whole_at node_at read_node read_tree
order = (refl, refl, refl)
