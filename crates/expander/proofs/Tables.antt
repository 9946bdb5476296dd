-- The lent list tables while entries are stored in them: past the list they stay as they were lent, so an answer whose entries they hold
-- leaves what `Expands` says.
-- Assumes nothing.
use Rattle.std.specs.Prelude.{if◌then◌else◌}
use mathlib.Core.Path.{◌≡◌, refl, sym, ap, ◌∙◌}
use mathlib.Core.Bool.{Bool, true, false, not}
use mathlib.Core.List.{List, [], ◌∷◌, ◌++◌, map}
use Prim.Native.Nat.{ℕ, zero, suc, ◌+◌, ◌-◌, ◌≤◌, ◌<◌}
use native.Mathlib.Nat.{not-suc-le-zero}
use native.Mathlib.Omega.{arith}
use borrow.Author.Count.{below_more}
use lib.Dec.{T}
use lib.ListN.{length, get_or, set, take, drop, length-set, take-append-drop}
use lib.Seq.{take-suc, get_or-set_same, get_or-set_other, drop-drop, drop-set-lt}
use Rattle.base.specs.Bools.{by_cases}
use Rattle.refusal.specs.Checked.{accepted, and_then}
use Rattle.conditions.specs.declared.Condition.{Condition}
use Rattle.planning.specs.Expansion.{Entry, entries}
use Rattle.planning.specs.Columns.{prefix}
use Rattle.planning.proofs.ColumnLaws.{length_prefix}
use Rattle.planning.specs.Facts.{Actions, fact_plan}
use Rattle.expander.specs.declared.Expanded.{Expanded}
use Rattle.expander.specs.declared.Until.{Until}
use Rattle.expander.specs.Expands.{Columns, columns, room, held, over, written, Unlent, ended_by, plan_in, listed_by, outcome_of, Expands}
use Rattle.expander.specs.ExpandsLaws.{capacity_conditions, capacity_absences, capacity_actions, capacity_parents, capacity_depths, capacity_most}
use Rattle.expander.specs.ExpandsLaws.{stored, outcome_entries, answer_listed, entry_of}

-- ---- one column

-- It has room for the capacity, and from n on it is as it was.
pub record Kept (capacity n : ℕ) (xs₀ xs : List ℕ) : Type 0 where
  pub same_length : length xs ≡ length xs₀
  pub roomy : capacity ≤ length xs
  pub rest : drop n xs ≡ drop n xs₀

-- lists that agree from n on agree from m on
drop_later : (n m : ℕ) (xs ys : List ℕ) → n ≤ m → drop n xs ≡ drop n ys → drop m xs ≡ drop m ys
drop_later n m xs ys h e =
    let z : n + (m - n) ≡ m = omega arith in
    rw (drop-drop (m - n) n xs, drop-drop (m - n) n ys, z) at (ap (drop (m - n)) e)

kept_self : {capacity n : ℕ} {xs : List ℕ} → capacity ≤ length xs → Kept capacity n xs xs
kept_self h = record { same_length = refl; roomy = h; rest = refl }

module _ {capacity n : ℕ} {xs₀ xs : List ℕ} (k : Kept capacity n xs₀ xs) where
  kept_store : (v : ℕ) → Kept capacity (n + 1) xs₀ (set xs n v)
  kept_store v =
      record {
        same_length = simp length-set k.same_length;
        roomy = simp length-set k.roomy;
        rest = drop-set-lt (n + 1) xs n v (omega arith) ∙ drop_later n (n + 1) xs xs₀ (omega arith) k.rest;
      }

  kept_on : {m : ℕ} {ys : List ℕ} → Kept capacity m xs ys → n ≤ m → Kept capacity m xs₀ ys
  kept_on {m} {ys} l h =
      record { same_length = l.same_length ∙ k.same_length; roomy = l.roomy; rest = l.rest ∙ drop_later n m xs xs₀ h k.rest }

-- ---- the column of second masks, which is lent where the list is paired

pub record Second (paired : Bool) (capacity n : ℕ) (xs₀ xs : List ℕ) : Type 0 where
  pub same_length : length xs ≡ length xs₀
  pub lent : T paired → Kept capacity n xs₀ xs
  pub unlent : T (not paired) → xs ≡ []

second_none : {paired : Bool} {capacity : ℕ} {xs : List ℕ} → (T paired → capacity ≤ length xs) → Unlent paired xs → Second paired capacity 0 xs xs
second_none h u = record { same_length = refl; lent = λ p. kept_self (h p); unlent = u }

module _ {paired : Bool} {capacity n : ℕ} {xs₀ xs : List ℕ} (k : Second paired capacity n xs₀ xs) where
  second_self : Second paired capacity n xs xs
  second_self = record { same_length = refl; lent = λ p. kept_self (k.lent p).roomy; unlent = k.unlent }

  second_on : {m : ℕ} {ys : List ℕ} → Second paired capacity m xs ys → n ≤ m → Second paired capacity m xs₀ ys
  second_on l h = record { same_length = l.same_length ∙ k.same_length; lent = λ p. kept_on (k.lent p) (l.lent p) h; unlent = l.unlent }

  second_store : (v : ℕ) → Second paired capacity (n + 1) xs₀ (set xs n v)
  second_store v =
      record { same_length = simp length-set k.same_length; lent = λ p. kept_store (k.lent p) v; unlent = λ p. rw (k.unlent p) }

  -- nothing is to be absent where none is lent
  pub second_nothing : T (not paired) → (i : ℕ) → get_or xs i 0 ≡ 0
  second_nothing p i = rw (k.unlent p)

  -- a mask that was stored is read back
  pub second_read : (v : ℕ) → (T (not paired) → v ≡ 0) → n < capacity → get_or (set xs n v) n 0 ≡ v
  second_read v plain h =
      by_cases paired (λ p. get_or-set_same xs n v 0 (omega (arith, (k.lent p).roomy))) (λ p. rw (k.unlent p, plain p))

-- ---- the five columns

-- They hold n entries, where they were t₀.
pub record Holds (paired : Bool) (capacity n : ℕ) (t₀ t : Columns) : Type 0 where
  pub conditions : Kept capacity n t₀.conditions t.conditions
  pub absences : Second paired capacity n t₀.absences t.absences
  pub actions : Kept capacity n t₀.actions t.actions
  pub parents : Kept capacity n t₀.parents t.parents
  pub depths : Kept capacity n t₀.depths t.depths
  pub fits : n ≤ capacity
  pub small : capacity ≤ 4096
  -- an entry is no deeper than its place, so that a depth fits its column
  pub shallow : (i : ℕ) → i < n → get_or t.depths i 0 ≤ i

-- an entry is written at n
abbrev pub store : Columns → ℕ → Condition → ℕ → ℕ → ℕ → Columns
store t n c a p d =
    columns (set t.conditions n c.present) (set t.absences n c.absent) (set t.actions n a) (set t.parents n p) (set t.depths n d)

-- as they are lent, they hold none
pub holds_none : {paired : Bool} {capacity : ℕ} (t : Columns) → Unlent paired t.absences → capacity ≡ room t paired → Holds paired capacity 0 t t
holds_none {paired} t u e =
    let c = length t.conditions in
    let s = length t.absences in
    let a = length t.actions in
    let p = length t.parents in
    let d = length t.depths in
    record {
      conditions = kept_self (omega (arith, capacity_conditions c s a p d paired));
      absences = second_none (λ q. omega (arith, capacity_absences c s a p d paired q)) u;
      actions = kept_self (omega (arith, capacity_actions c s a p d paired));
      parents = kept_self (omega (arith, capacity_parents c s a p d paired));
      depths = kept_self (omega (arith, capacity_depths c s a p d paired));
      fits = omega arith;
      small = omega (arith, capacity_most c s a p d paired);
      shallow = λ i h. absurd (not-suc-le-zero h);
    }

module _ {paired : Bool} {capacity n : ℕ} {t₀ t : Columns} (H : Holds paired capacity n t₀ t) where
  pub holds_store : n < capacity → (c : Condition) (a p d : ℕ) → d ≤ n → Holds paired capacity (n + 1) t₀ (store t n c a p d)
  holds_store h c a p d s =
      record {
        conditions = kept_store H.conditions c.present;
        absences = second_store H.absences c.absent;
        actions = kept_store H.actions a;
        parents = kept_store H.parents p;
        depths = kept_store H.depths d;
        fits = omega arith;
        small = H.small;
        shallow =
            below_more (λ (i : ℕ). get_or (set t.depths n d) i 0 ≤ i) n
            (λ i l. rw (get_or-set_other t.depths n i d 0 (omega arith)) (H.shallow i l))
            (rw (get_or-set_same t.depths n d 0 (omega (arith, H.depths.roomy))) s);
      }

  -- A loop's invariant speaks of the tables where the loop began. They held what they hold, and what is stored since then is stored since t₀.
  pub holds_self : Holds paired capacity n t t
  holds_self =
      record {
        conditions = kept_self H.conditions.roomy;
        absences = second_self H.absences;
        actions = kept_self H.actions.roomy;
        parents = kept_self H.parents.roomy;
        depths = kept_self H.depths.roomy;
        fits = H.fits;
        small = H.small;
        shallow = H.shallow;
      }

  pub holds_on : {m : ℕ} {u : Columns} → Holds paired capacity m t u → n ≤ m → Holds paired capacity m t₀ u
  holds_on K h =
      record {
        conditions = kept_on H.conditions K.conditions h;
        absences = second_on H.absences K.absences h;
        actions = kept_on H.actions K.actions h;
        parents = kept_on H.parents K.parents h;
        depths = kept_on H.depths K.depths h;
        fits = K.fits;
        small = K.small;
        shallow = K.shallow;
      }

-- ---- the answer

map_snoc : {A B : Type 0} (f : A → B) (l : List A) (x : A) → map f (l ++ (x ∷ [])) ≡ map f l ++ (f x ∷ [])
map_snoc f [] x = refl
map_snoc f (y ∷ l) x = ap (λ l. f y ∷ l) (map_snoc f l x)

-- what is read from a column entry by entry is the beginning of it
map_prefix : {A : Type 0} (f : A → ℕ) (g : ℕ → A) (xs : List ℕ) → ((i : ℕ) → f (g i) ≡ get_or xs i 0) → (n : ℕ) → n ≤ length xs
    → map f (prefix g n) ≡ take n xs
map_prefix f g xs e zero h = refl
map_prefix f g xs e (suc n) h = map_snoc f (prefix g n) (g n) ∙ rw (map_prefix f g xs e n (omega arith), e n, take-suc xs n 0 (omega arith))

-- a column is its entries, and past them what it was
kept_over : {capacity n : ℕ} {xs₀ xs : List ℕ} → Kept capacity n xs₀ xs → n ≤ capacity → (f : Entry Condition → ℕ) (g : ℕ → Entry Condition)
    → ((i : ℕ) → f (g i) ≡ get_or xs i 0) → xs ≡ over f (prefix g n) xs₀
kept_over {capacity} {n} {xs₀} {xs} k h f g e =
    rw (map_prefix f g xs e n (omega (arith, k.roomy)), length_prefix g n, ← k.rest) (sym (take-append-drop n xs))

-- the second masks too, where they are lent; where they are not, nothing is
second_written : (paired : Bool) {capacity n : ℕ} {xs₀ xs : List ℕ} → Second paired capacity n xs₀ xs → n ≤ capacity → (g : ℕ → Entry Condition)
    → ((i : ℕ) → (g i).condition.absent ≡ get_or xs i 0) → xs ≡ (if paired then over (λ x. x.condition.absent) (prefix g n) xs₀ else xs₀)
second_written true k h g e = kept_over (k.lent tt) h (λ x. x.condition.absent) g e
second_written false {capacity} {n} {xs₀} {xs} k h g e = k.unlent tt ∙ sym (empty xs₀ (omega (arith, k.same_length, ap length (k.unlent tt))))
  where
    empty : (ys : List ℕ) → length ys ≡ 0 → ys ≡ []
    empty [] z = refl
    empty (y ∷ ys) z = absurd (omega arith)

same_columns : {c c' s s' a a' p p' d d' : List ℕ} → c ≡ c' → s ≡ s' → a ≡ a' → p ≡ p' → d ≡ d' → columns c s a p d ≡ columns c' s' a' p' d'
same_columns e q f g h = rw (e, q, f, g, h)

holds_written : {paired : Bool} {capacity n : ℕ} {t₀ t : Columns} → Holds paired capacity n t₀ t → t ≡ written paired (held t n) t₀
holds_written {paired} {capacity} {n} {t₀} {t} H =
    same_columns (kept_over H.conditions H.fits (λ x. x.condition.present) (entry_of t) (λ i. refl))
    (second_written paired H.absences H.fits (entry_of t) (λ i. refl))
    (kept_over H.actions H.fits (λ x. x.action) (entry_of t) (λ i. refl))
    (kept_over H.parents H.fits (λ x. x.parent) (entry_of t) (λ i. refl))
    (kept_over H.depths H.fits (λ x. x.depth) (entry_of t) (λ i. refl))

-- the tables hold the entries of the answer, and its outcome is the plan's
pub expands : {paired : Bool} {A : Actions} {goal : Condition} {until : Until} {capacity : ℕ} {t₀ t : Columns} → capacity ≡ room t₀ paired → (r : Expanded)
    → Holds paired capacity (stored r) t₀ t → outcome_of r t ≡ fact_plan A goal capacity (ended_by until) → Expands paired A goal until t₀ t r
expands {paired} {A} {goal} {until} {capacity} {t₀} {t} e r H o =
    let plan : outcome_of r t ≡ plan_in paired t₀ A goal until = o ∙ ap (λ (m : ℕ). fact_plan A goal m (ended_by until)) e in
    record {
      answer = answer_listed until r t ∙ ap (λ x. and_then (listed_by until x) (λ l. accepted (length l))) plan;
      outcome = plan;
      tables = holds_written H ∙ ap (λ (l : List (Entry Condition)). written paired l t₀) (sym (outcome_entries r t) ∙ ap entries plan);
    }
