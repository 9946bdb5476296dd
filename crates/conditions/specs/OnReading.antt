-- Conditions and actions on a reading, some of whose facts may be unread: document 01, "Ticking" and "Job card"; document 02, W10.
-- Definitions only.
use Rattle.std.specs.Prelude.{Bool, not, ◌&&◌, T, if◌then◌else◌}
use Rattle.std.specs.Int.Bits.{bit_and}
use Rattle.masks.specs.Sets.{subset, intersects, union, difference}
use Rattle.reading.specs.declared.Reading.{Reading}
use Rattle.conditions.specs.declared.Action.{Action}
use Rattle.conditions.specs.declared.Condition.{Condition}
use Rattle.conditions.specs.declared.Evaluation.{Evaluation}
use Rattle.conditions.specs.declared.Evaluation.TheVariants.{Met, Missed, Open}
use Rattle.conditions.specs.Condition.{mentioned, applied}

-- no fact that is to hold is read and absent, and none that is to be absent is read and held
unfoldable pub possible : Reading → Condition → Bool
possible r c = subset c.present (union r.held r.unread) && not (intersects c.absent r.held)

-- "A condition fails if one of its facts is read and absent; otherwise it is unsettled, with the mask of its unread facts, if it has any; otherwise
-- it succeeds." "An unread fact of either mask leaves a condition open unless a read one fails it."
unfoldable pub evaluated : Reading → Condition → Evaluation
evaluated r c =
    if possible r c
    then (if intersects (mentioned c) r.unread then Open (bit_and (mentioned c) r.unread) else Met)
    else Missed

-- "It is applicable when all its needs are held"; "One whose absent fact is held or unread is not applicable".
unfoldable pub applicable : Action → Reading → Bool
applicable a r = subset a.needs r.held && not (intersects a.absent (union r.held r.unread))

-- "the effect is applied, added and deleted facts become read"
unfoldable pub finished : Action → Reading → Reading
finished a r =
    record {
      held = applied a r.held;
      unread = difference (difference r.unread a.adds) a.deletes;
    }

-- each fact of the condition is read, and it is held or absent as the condition asks, not only as far as was read
pub record Confirmed (r : Reading) (c : Condition) : Type 0 where
  pub held : T (subset c.present r.held)
  pub absent : T (not (intersects c.absent r.held))
  pub read : T (not (intersects (mentioned c) r.unread))
