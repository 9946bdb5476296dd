-- Document 01, "Commands": "Each command is one byte with operands of fixed width. One table gives the operand width of every command."
-- Definitions only.
use Rattle.std.specs.Prelude.{ℕ, ◌+◌, List, [], ◌∷◌, eqb, ltb, leb, length, get_or, if◌then◌else◌, None, Option, Some}
use Rattle.commands.specs.declared.Command.{Command}
use Rattle.commands.specs.declared.Found.{Found}
use Rattle.commands.specs.declared.Found.TheVariants.{Missing, Unknown, Cut, Whole}

abbrev pub FACTS : ℕ
FACTS = 0x10

abbrev pub JOB : ℕ
JOB = 0x20

-- document 02, W10: "A second JOB command 0x21 has needs, absent, adds, deletes and seconds, 34 bytes."
abbrev pub PAIRED_JOB : ℕ
PAIRED_JOB = 0x21

abbrev pub GOAL : ℕ
GOAL = 0x30

abbrev pub END_OF_TABLE : ℕ
END_OF_TABLE = 0x3F

abbrev pub FALLBACK : ℕ
FALLBACK = 0x41

abbrev pub SEQUENCE : ℕ
SEQUENCE = 0x42

abbrev pub CONDITION : ℕ
CONDITION = 0x43

abbrev pub JOB_LEAF : ℕ
JOB_LEAF = 0x44

-- document 02, W10: "The tree gets 0x45 with both masks"
abbrev pub PAIR : ℕ
PAIR = 0x45

-- document 02, W12: "a waiting leaf 0x46, without operand"
abbrev pub WAITING : ℕ
WAITING = 0x46

abbrev pub END_OF_TREE : ℕ
END_OF_TREE = 0x4F

-- the table: each command byte with the bytes that its operands take
abbrev pub commands : List Command
commands =
    record { byte = FACTS; width = 1 }
    ∷ record { byte = JOB; width = 26 }
    ∷ record { byte = GOAL; width = 8 }
    ∷ record { byte = END_OF_TABLE; width = 0 }
    ∷ record { byte = FALLBACK; width = 2 }
    ∷ record { byte = SEQUENCE; width = 2 }
    ∷ record { byte = CONDITION; width = 8 }
    ∷ record { byte = JOB_LEAF; width = 1 }
    ∷ record { byte = END_OF_TREE; width = 0 }
    ∷ record { byte = PAIRED_JOB; width = 34 }
    ∷ record { byte = PAIR; width = 16 }
    ∷ record { byte = WAITING; width = 0 }
    ∷ []

-- the bytes that a command takes, its own and its operands'
abbrev pub size_in : List Command → ℕ → ℕ
size_in [] byte = 0
size_in (c ∷ cs) byte = if eqb c.byte byte then 1 + c.width else size_in cs byte

abbrev pub FACTS_SIZE : ℕ
FACTS_SIZE = size_in commands FACTS

abbrev pub JOB_SIZE : ℕ
JOB_SIZE = size_in commands JOB

abbrev pub GOAL_SIZE : ℕ
GOAL_SIZE = size_in commands GOAL

abbrev pub END_OF_TABLE_SIZE : ℕ
END_OF_TABLE_SIZE = size_in commands END_OF_TABLE

abbrev pub FALLBACK_SIZE : ℕ
FALLBACK_SIZE = size_in commands FALLBACK

abbrev pub SEQUENCE_SIZE : ℕ
SEQUENCE_SIZE = size_in commands SEQUENCE

abbrev pub CONDITION_SIZE : ℕ
CONDITION_SIZE = size_in commands CONDITION

abbrev pub JOB_LEAF_SIZE : ℕ
JOB_LEAF_SIZE = size_in commands JOB_LEAF

abbrev pub END_OF_TREE_SIZE : ℕ
END_OF_TREE_SIZE = size_in commands END_OF_TREE

abbrev pub PAIRED_JOB_SIZE : ℕ
PAIRED_JOB_SIZE = size_in commands PAIRED_JOB

abbrev pub PAIR_SIZE : ℕ
PAIR_SIZE = size_in commands PAIR

abbrev pub WAITING_SIZE : ℕ
WAITING_SIZE = size_in commands WAITING

-- where the first operand of a command stands, from its byte on
abbrev pub OPERANDS_AT : ℕ
OPERANDS_AT = 1

-- "mask, 8"
abbrev pub MASK_WIDTH : ℕ
MASK_WIDTH = 8

-- where the second mask of a PAIRED-JOB or a PAIR stands, from its byte on
abbrev pub ABSENT_AT : ℕ
ABSENT_AT = OPERANDS_AT + MASK_WIDTH

-- where the adds stand, from the command's byte on: of a JOB "needs, adds, deletes (8 bytes each), seconds (2 bytes)", of a PAIRED-JOB "needs,
-- absent, adds, deletes and seconds"
abbrev pub ADDS_AT : ℕ
ADDS_AT = OPERANDS_AT + MASK_WIDTH

abbrev pub PAIRED_ADDS_AT : ℕ
PAIRED_ADDS_AT = ABSENT_AT + MASK_WIDTH

-- the bytes of the adds, deletes and seconds
abbrev pub EFFECTS_WIDTH : ℕ
EFFECTS_WIDTH = MASK_WIDTH + MASK_WIDTH + 2

-- the width that a list of commands gives a byte
abbrev pub width_in : List Command → ℕ → (Option ℕ)
width_in [] byte = None
width_in (c ∷ cs) byte = if eqb c.byte byte then Some c.width else width_in cs byte

unfoldable pub width_of : ℕ → (Option ℕ)
width_of byte = width_in commands byte

-- what was read at an offset, and the offset past it
pub record Past (A : Type 0) : Type 0 where
  pub value : A
  pub next : ℕ

-- a command byte at an offset, by the bytes that are left for its operands
abbrev pub operands_at : List ℕ → ℕ → (Option ℕ) → Found
operands_at s at None = Unknown
operands_at s at (Some w) = if leb (at + 1 + w) (length s) then Whole (get_or s at 0) (at + 1 + w) else Cut (get_or s at 0)

-- what stands at an offset: a command with its operands and the offset past them, or what is amiss
unfoldable pub command_at : List ℕ → ℕ → Found
command_at s at = if ltb at (length s) then operands_at s at (width_of (get_or s at 0)) else Missing
