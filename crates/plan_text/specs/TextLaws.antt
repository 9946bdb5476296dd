-- How long the texts are, and that a slice with room for a text holds it whole.
-- Assumes nothing.
use native.Mathlib.Omega.{arith}
use Rattle.std.specs.Prelude.{◌≡◌, Bool, true, false, take, drop}
use Rattle.std.proofs.Common.{sym, ◌∙◌, take_all, take_at}
use mathlib.Core.List.{List, [], ◌∷◌, ◌++◌}
use Prim.Native.Nat.{ℕ, zero, suc, ◌+◌, ◌*◌, ◌^◌, ◌≤◌, ◌<◌}
use Rattle.std.proofs.Math.ListN.{length, length-append}
use Rattle.base.specs.Lists.{prefix, length_prefix}
use Rattle.conditions.specs.declared.Condition.{Condition}
use Rattle.planning.specs.Expansion.{Entry}
use Rattle.text_fields.specs.Fields.{ascii, decimal, mask_text}
use Rattle.text_fields.specs.DigitLaws.{digits_length, decimal_length}
use Rattle.plan_text.specs.Text.{line, condition_text, job_text, entry_text, entries_text, plan_text, refused_text, entry_line, other_lines, refused_line}
use Rattle.plan_text.specs.Writes.{Wrote}
use Rattle.plan_text.specs.WriteLaws.{entries_snoc}

-- ---- a text that fits

pub wrote_whole : {text a b : List ℕ} {r : ℕ} → Wrote text a b r → length text ≤ length a → (r ≡ length text) × (take r b ≡ text)
wrote_whole {text} {a} {b} {r} w h =
    let e : r ≡ length text = omega (arith, w.counted) in
    (e, rw (w.lent, take_all (length a) text h) (take_at text (drop (length text) a) r (sym e)))

-- ---- lines

-- the fields' bytes, each with the separator or line feed after it
total : List (List ℕ) → ℕ
total [] = 0
total (f ∷ fs) = suc (length f) + total fs

line_length : (f : List ℕ) (fs : List (List ℕ)) → length (line f fs) ≡ suc (length f) + total fs
unfolding total
line_length f [] = length-append f (ascii "\n") ∙ omega arith
line_length f (g ∷ gs) = length-append f (ascii " " ++ line g gs) ∙ omega (arith, line_length g gs)

-- ---- numbers of the widths that the program prints

word_length : (n : ℕ) → n < 2 ^ 64 → length (decimal n) ≤ 20
word_length n h = decimal_length 19 n (omega arith)

-- an entry whose number has 4 digits at most, and whose action, parent and depth have 8, 16 and 16 bits
pub record Small (e : Entry Condition) : Type 0 where
  pub action_small : e.action < 2 ^ 8
  pub parent_small : e.parent < 2 ^ 16
  pub depth_small : e.depth < 2 ^ 16

job_length : (i a : ℕ) → a < 2 ^ 8 → length (job_text i a) ≤ 3
job_length zero a h = omega arith
job_length (suc i) a h = decimal_length 2 a (omega arith)

condition_length : (paired : Bool) (c : Condition) → length (condition_text paired c) ≤ 16 + 1 + 16
condition_length false c = omega (arith, digits_length 16 16 c.present)
condition_length true c =
    omega (
      arith,
      length-append (mask_text c.present) (ascii " " ++ mask_text c.absent),
      digits_length 16 16 c.present,
      digits_length 16 16 c.absent,
    )

pub refused_length : (number place : ℕ) → number < 2 ^ 8 → place < 2 ^ 64 → length (refused_text number place) ≤ refused_line
unfolding refused_text total
refused_length number place h k =
    omega (arith, line_length (ascii "refused") (decimal number ∷ decimal place ∷ []), decimal_length 2 number (omega arith), word_length place k)

module _ (paired : Bool) where
  entry_length : (i : ℕ) (e : Entry Condition) → i < 10000 → Small e → length (entry_text paired i e) ≤ entry_line
  unfolding total
  entry_length i e h s =
      let fields = condition_text paired e.condition ∷ job_text i e.action ∷ decimal e.parent ∷ decimal e.depth ∷ [] in
      omega (
        arith,
        line_length (decimal i) fields,
        decimal_length 3 i h,
        condition_length paired e.condition,
        job_length i e.action s.action_small,
        decimal_length 4 e.parent (omega (arith, s.parent_small)),
        decimal_length 4 e.depth (omega (arith, s.depth_small)),
      )

  module _ (f : ℕ → Entry Condition) where
    entries_length : (n : ℕ) → n ≤ 10000 → ((i : ℕ) → i < n → Small (f i)) → length (entries_text paired 0 (prefix f n)) ≤ entry_line * n
    unfolding entries_text
    entries_length zero h s = omega arith
    entries_length (suc n) h s =
        let e : 0 + length (prefix f n) ≡ n = omega (arith, length_prefix f n) in
        rw (entries_snoc paired 0 (prefix f n) (f n), e)
        (omega (
          arith,
          length-append (entries_text paired 0 (prefix f n)) (entry_text paired n (f n)),
          entries_length n (omega arith) (λ i l. s i (omega arith)),
          entry_length n (f n) (omega arith) (s n (omega arith)),
        ))

    pub plan_length : (entries bytes n jobs minutes : ℕ) → entries < 2 ^ 64 → bytes < 2 ^ 64 → jobs < 2 ^ 64 → minutes < 2 ^ 32
        → n ≤ 10000 → ((i : ℕ) → i < n → Small (f i)) → length (plan_text paired entries bytes (prefix f n) jobs minutes) ≤ other_lines + entry_line * n
    unfolding plan_text total
    plan_length entries bytes n jobs minutes e b j m h s =
        let first = line (ascii "plan") (decimal entries ∷ decimal bytes ∷ []) in
        let last = line (ascii "way") (decimal jobs ∷ decimal minutes ∷ []) in
        omega (
          arith,
          length-append first (entries_text paired 0 (prefix f n) ++ last),
          length-append (entries_text paired 0 (prefix f n)) last,
          line_length (ascii "plan") (decimal entries ∷ decimal bytes ∷ []),
          line_length (ascii "way") (decimal jobs ∷ decimal minutes ∷ []),
          entries_length n h s,
          word_length entries e,
          word_length bytes b,
          word_length jobs j,
          decimal_length 9 minutes (omega arith),
        )
