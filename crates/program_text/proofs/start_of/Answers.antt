-- `program_text::start_of` meets its contract.
use mathlib.Core.Path.{refl}
use Rattle.masks.specs.Sets.{intersects}
use Rattle.program_text.specs.ProgramLaws.{shared_unsound}
use Rattle.program_text.proofs.start_of.Goals as goal

pub returns-then-start-ne-START_SIZE : goal.returns-then-start-ne-START_SIZE
unfolding intersects
returns-then-start-ne-START_SIZE c = record { of_start = λ e. absurd (c.if-start-ne-START_SIZE.true e); of_other = λ _. shared_unsound _ refl }

pub returns : goal.returns
returns c =
    record {
      of_start = λ _. rw (c.read_u64-held.ensures, c.read_u64-unread.ensures);
      of_other = λ n. absurd (n c.if-start-ne-START_SIZE.false);
    }
