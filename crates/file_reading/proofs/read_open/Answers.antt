-- `file_reading::read_open` meets its contract: a read puts the file's next bytes after those that were read before.
use Rattle.std.proofs.Common.{◌≡◌, refl, sym, ap, ◌∙◌, ℕ, ◌+◌, ◌≤◌, ◌<◌, List, ◌++◌, Option, Result, Ok, arith, length, take, length-take-le, take_at, drop_at, take-add}
use Rattle.std.specs.Io.{ReadsAtMost}
use Rattle.std.specs.Io.KnownBytes.{Consumes, ReadConsumes, IsAtEnd}
use Rattle.std.proofs.KnownBytes.{Consumes-trans}
use borrow.Rule.Slice.PartMut.{put_mid, post_of}
use lib.Seq.{take-append-le}
use Rattle.file_reading.specs.ReadLaws.{ended, went_on}
use Rattle.file_reading.proofs.read_open.Goals as goal

take_both : (a k n : ℕ) (xs ys : List ℕ) → a ≤ length xs → n ≤ length ys → take (a + n) (put_mid a k xs ys) ≡ take a xs ++ take n ys
take_both a k n xs ys h l =
    let size : length (take a xs) ≡ a = length-take-le a xs h in
    let rest : List ℕ = ys ++ post_of a k xs in
    rw (take-add a n (put_mid a k xs ys), take_at (take a xs) rest a size, drop_at (take a xs) rest a size, take-append-le n ys (post_of a k xs) l)

-- a read into a part that begins past the bytes that were read before, however long the part is
next_read : (before here after : Option (List ℕ)) (at k done n sum : ℕ) (xs ys : List ℕ) → at ≡ done → sum ≡ done + n → done ≤ length xs → n ≤ length ys
    → Consumes before here (take done xs) → Consumes here after (take n ys) → Consumes before after (take sum (put_mid at k xs ys))
next_read before here after at k done n sum xs ys e s h l first next = rw (e, s, take_both done k n xs ys h l) (Consumes-trans _ _ _ _ _ first next)

-- a read that gave so many bytes, by its answer
one_read : {E : Type 0} (before after : Option (List ℕ)) (buf : List ℕ) (r : Result ℕ E) (n : ℕ) → r ≡ Ok n → ReadsAtMost r buf → ReadConsumes before after r buf
    → (n ≤ length buf) × Consumes before after (take n buf) × (n ≡ 0 → 0 < length buf → IsAtEnd after)
one_read before after buf r n e = rw e (λ b c. (b.0, c.0, c.1))

pub loop-done-preserved : goal.loop-done-preserved
loop-done-preserved g c =
    let l = c.loop-done in
    let told = sym (ap Ok c.in-Continue.is) ∙ sym (c.in_ok-n.was) ∙ c.after_read.ensures in
    let (more, is, some, z) = went_on l.done (length c.args.buf.now) c.read.result c.in-Continue.n told in
    let (few, next, end) = one_read _ _ c.read.new.buf c.read.result more is c.read.ensures.bound c.read.ensures.bytes in
    let sum : c.in-Continue.n ≡ l.done + more = omega arith in
    record {
      within = omega arith;
      bytes =
          next_read _ _ _ _ _ l.done more c.in-Continue.n l.buf c.read.new.buf (omega arith) sum (omega arith) few l.invariant.bytes next;
    }

pub returns-in-Break : goal.returns-in-Break
returns-in-Break g c =
    let l = c.loop-done in
    let told = sym (ap Ok c.in-Break.is) ∙ sym (c.in_ok-n.was) ∙ c.after_read.ensures in
    let (is, z) = ended l.done (length c.args.buf.now) c.read.result c.in-Break.n told in
    let (few, next, end) = one_read _ _ c.read.new.buf c.read.result 0 is c.read.ensures.bound c.read.ensures.bytes in
    let sum : c.in-Break.n ≡ l.done + 0 = omega arith in
    record {
      front = (omega arith, sym (length-take-le c.in-Break.n _ (omega arith)));
      bytes =
          next_read _ _ _ _ _ l.done 0 c.in-Break.n l.buf c.read.new.buf (omega arith) sum (omega arith) few l.invariant.bytes next;
      end = λ h. end refl (omega arith);
    }
