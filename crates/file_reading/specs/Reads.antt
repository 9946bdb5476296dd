-- What reading a file into a buffer leaves there.
-- Definitions only.
use Rattle.std.specs.Prelude.{◌≡◌, ◌≤◌, ◌<◌, Option, Result, Ok, Err, List, ℕ, zero, suc, ◌+◌, ◌-◌, min, length, take}
use Rattle.std.specs.declared.ops.ControlFlow.{ControlFlow}
use Rattle.std.specs.declared.ops.ControlFlow.TheVariants.{Break, Continue}
use Rattle.std.specs.Io.KnownBytes.{Consumes, IsAtEnd}

-- so many bytes of a buffer are its front, and there are so many
abbrev pub IsPrefixLen : ℕ → List ℕ → Type 0
IsPrefixLen n xs = (n ≤ length xs) × (n ≡ length (take n xs))

-- `done` bytes of a buffer's `size` were read when the system answers a read. An error: no more of the file is read. 0: the file ends here. Else: so
-- many bytes more, no more than there is room for.
abbrev pub after_read : {E : Type 0} → (done size : ℕ) → Result ℕ E → Result (ControlFlow ℕ ℕ) E
after_read done size (Err error) = Err error
after_read done size (Ok zero) = Ok (Break done)
after_read done size (Ok (suc k)) = Ok (Continue (done + min (suc k) (size - done)))

-- A buffer's first n bytes were read out of a file. What was to be read before and what is to be read after are known or not; where they are known,
-- the n bytes are the next ones. They are fewer than the buffer has room for only where the file ends, so that a file of which a read fails has no
-- such front: it counts as empty, as "A file that cannot be opened counts as empty" (docs/DECISIONS.md, D30).
pub record ReadsFront (before after : Option (List ℕ)) (buf : List ℕ) (n : ℕ) : Type 0 where
  pub front : IsPrefixLen n buf
  pub bytes : Consumes before after (take n buf)
  pub end : n < length buf → IsAtEnd after
