-- After its last entry the walk has the answers of single ticks, and has fetched as many entries as the vehicles read.
-- Assumes nothing.
use Prim.Native.Nat.{ℕ, zero, suc, ◌+◌, ◌≤◌, ◌<◌}
use Rattle.std.proofs.Math.Decide.{dec_le}
use native.Mathlib.Omega.{arith}
use Rattle.std.specs.Prelude.{◌≡◌, Bool, get_or, drop}
use Rattle.std.proofs.Math.Path.{refl, sym, ap}
use Rattle.std.proofs.Common.{◌∙◌, subst}
use Rattle.std.proofs.Math.Bool.{true, false}
use Rattle.std.proofs.lemmas.Bool.{false≢true}
use mathlib.Core.List.{List, [], ◌∷◌, ◌++◌}
use Rattle.std.proofs.Math.ListN.{length}
use Rattle.base.specs.Lists.{prefix, length_prefix, get_d_prefix, map_prefix, prefix_same, sum_some, sum_none}
use Rattle.reading.specs.declared.Reading.{Reading}
use Rattle.conditions.specs.declared.Evaluation.{Evaluation}
use Rattle.conditions.specs.declared.Evaluation.TheVariants.{Met, Missed, Open}
use Rattle.conditions.specs.declared.Condition.{Condition}
use Rattle.conditions.specs.Condition.{condition_at}
use Rattle.conditions.specs.OnReading.{evaluated}
use Rattle.planning.specs.Expansion.{Entry}
use Rattle.planning.specs.Columns.{entry_at}
use Rattle.tree.specs.declared.Status.{Status}
use Rattle.tree.specs.declared.Status.TheVariants.{Success, Failure, Running, Unsettled, Waiting}
use Rattle.tree.specs.Tick.{Verdict, tick_tree}
use Rattle.tree.specs.StatusNumbers.{status_number, status_value}
use Rattle.flat.specs.TreeBytes.{everyone, tree_entries}
use Rattle.flat.specs.TreeBytesLaws.{entries_split, later_suc}
use Rattle.flat.specs.FlatTree.{tree_of}
use Rattle.flat.specs.FlatTick.{later_verdict, list_verdict}
use Rattle.flat.specs.FlatTickLaws.{tree_ticked}
use Rattle.batch_walk.specs.Batch.{reading_at, readings_of, AnswerRows, answering, read_by, entries_read, Walks}
use Rattle.batch_walk.specs.Steps.{one_if, numbered, over_rows, met_at, is_missed, next_status, is_failure, answer_after, WalkedRows, rows_after, going_after}

-- ---- the answers

-- one condition after the other: the answer where it is met, and that of the rest where it is missed
abbrev or_else : Status → Status → Evaluation → Status
or_else met rest Met = met
or_else met rest Missed = rest
or_else met rest (Open mask) = Unsettled mask

-- with an entry more behind the rest
else_next : (met rest more : Status) (f e : Evaluation) → (f ≡ Met → next_status more e met ≡ met) → or_else met (next_status more e rest) f ≡ next_status more e (or_else met rest f)
else_next met rest more Met e h = sym (h refl)
else_next met rest more Missed e h = refl
else_next met rest more (Open mask) e h = refl

module _ (r : Reading) where
  -- the entries after the first, and all of them, without the offsets of their leaves
  abbrev later_status : List (Entry Condition) → Status
  later_status [] = Failure
  later_status (x ∷ l) = or_else (Running x.action) (later_status l) (evaluated r x.condition)

  abbrev list_status : Entry Condition → List (Entry Condition) → Status
  list_status x l = or_else Success (later_status l) (evaluated r x.condition)

  later_status_is : (paired : Bool) (l : List (Entry Condition)) (before at : ℕ) → (later_verdict everyone paired r before l at).answer ≡ later_status l
  unfolding later_verdict
  later_status_is paired [] before at = refl
  later_status_is paired (x ∷ l) before at = by_condition (evaluated r x.condition) refl (later_status_is paired l)
    where
      by_condition : (v : Evaluation) → evaluated r x.condition ≡ v → ((before at : ℕ) → (later_verdict everyone paired r before l at).answer ≡ later_status l)
          → (later_verdict everyone paired r before (x ∷ l) at).answer ≡ or_else (Running x.action) (later_status l) v
      by_condition Met e rest = rw (e, later_verdict)
      by_condition Missed e rest = rw (e, later_verdict) (rest _ _)
      by_condition (Open m) e rest = rw (e, later_verdict)

  list_status_is : (paired : Bool) (x : Entry Condition) (l : List (Entry Condition)) → (tick_tree r (tree_of everyone paired (x ∷ l))).answer ≡ list_status x l
  unfolding list_verdict
  list_status_is paired x l = ap (λ (v : Verdict). v.answer) (tree_ticked everyone paired r x l) ∙ by_condition (evaluated r x.condition) refl
    where
      by_condition : (v : Evaluation) → evaluated r x.condition ≡ v → (list_verdict everyone paired r x l).answer ≡ or_else Success (later_status l) v
      by_condition Met e = rw (e, list_verdict)
      by_condition Missed e = rw (e, list_verdict) (later_status_is paired l _ _)
      by_condition (Open m) e = rw (e, list_verdict)

  module _ (y : Entry Condition) where
    abbrev with_next : Status → Status
    with_next a = next_status (Running y.action) (evaluated r y.condition) a

    last_status : (e : Evaluation) → or_else (Running y.action) Failure e ≡ next_status (Running y.action) e Failure
    last_status Met = refl
    last_status Missed = refl
    last_status (Open m) = refl

    later_snoc : (l : List (Entry Condition)) → later_status (l ++ (y ∷ [])) ≡ with_next (later_status l)
    later_snoc [] = last_status (evaluated r y.condition)
    later_snoc (x ∷ l) =
        ap (λ (a : Status). or_else (Running x.action) a (evaluated r x.condition)) (later_snoc l)
        ∙ else_next (Running x.action) (later_status l) (Running y.action) (evaluated r x.condition) (evaluated r y.condition) (λ h. refl)

    list_snoc : (x : Entry Condition) (l : List (Entry Condition)) → list_status x (l ++ (y ∷ [])) ≡ with_next (list_status x l)
    list_snoc x l =
        ap (λ (a : Status). or_else Success a (evaluated r x.condition)) (later_snoc l)
        ∙ else_next Success (later_status l) (Running y.action) (evaluated r x.condition) (evaluated r y.condition) (λ h. refl)

-- an entry more, by whether the vehicle then goes on
next_failed : (i job : ℕ) (e : Evaluation) (a : Status) → is_failure (next_status (met_at i job) e a) ≡ true → (is_failure a ≡ true) × (is_missed e ≡ true)
next_failed i job e Success h = absurd (false≢true h)
next_failed i job e (Running k) h = absurd (false≢true h)
next_failed i job e (Unsettled m) h = absurd (false≢true h)
next_failed i job e Waiting h = absurd (false≢true h)
next_failed zero job Met Failure h = absurd (false≢true h)
next_failed (suc i) job Met Failure h = absurd (false≢true h)
next_failed i job Missed Failure h = (refl, refl)
next_failed i job (Open m) Failure h = absurd (false≢true h)

next_stopped : (i job : ℕ) (e : Evaluation) (a : Status) → is_failure a ≡ true → is_failure (next_status (met_at i job) e a) ≡ false → is_missed e ≡ false
next_stopped i job Met a f h = refl
next_stopped i job (Open m) a f h = refl
next_stopped i job Missed Failure f h = h
next_stopped i job Missed Success f h = absurd (false≢true f)
next_stopped i job Missed (Running k) f h = absurd (false≢true f)
next_stopped i job Missed (Unsettled m) f h = absurd (false≢true f)
next_stopped i job Missed Waiting f h = absurd (false≢true f)

next_stays : (met : Status) (e : Evaluation) (a : Status) → is_failure a ≡ false → next_status met e a ≡ a
next_stays met e Success h = refl
next_stays met e Failure h = absurd (false≢true (sym h))
next_stays met e (Running job) h = refl
next_stays met e (Unsettled mask) h = refl
next_stays met e Waiting h = refl

some_one : (b : Bool) → 0 < one_if b → b ≡ true
some_one true h = refl
some_one false h = absurd (omega arith)

no_one : (b : Bool) → one_if b ≡ 0 → b ≡ false
no_one true e = absurd (omega (arith, e))
no_one false e = refl

-- a list by its places: what is missed, and what is not
module _ (r : Reading) where
  read_more : (l : List (Entry Condition)) (n : ℕ) (d : Entry Condition) → n < length l
      → ((i : ℕ) → i < n → is_missed (evaluated r (get_or l i d).condition) ≡ true) → n < read_by r l
  unfolding read_by
  read_more [] n d h m = absurd (omega arith)
  read_more (x ∷ l) n d h m = by_condition (evaluated r x.condition) refl n h m (read_more l)
    where
      by_condition : (v : Evaluation) → evaluated r x.condition ≡ v → (n : ℕ) → n < length (x ∷ l)
          → ((i : ℕ) → i < n → is_missed (evaluated r (get_or (x ∷ l) i d).condition) ≡ true)
          → ((n : ℕ) (d : Entry Condition) → n < length l → ((i : ℕ) → i < n → is_missed (evaluated r (get_or l i d).condition) ≡ true) → n < read_by r l)
          → n < read_by r (x ∷ l)
      by_condition Missed e zero h m rest = rw (e, read_by) (omega arith)
      by_condition Missed e (suc n) h m rest = rw (e, read_by) (omega (arith, rest n d (omega arith) (λ i k. m (suc i) (omega arith))))
      by_condition Met e zero h m rest = rw (e, read_by) (omega arith)
      by_condition Met e (suc n) h m rest = absurd (false≢true (rw e at (m 0 (omega arith))))
      by_condition (Open k) e zero h m rest = rw (e, read_by) (omega arith)
      by_condition (Open k) e (suc n) h m rest = absurd (false≢true (rw e at (m 0 (omega arith))))

  read_stop : (l : List (Entry Condition)) (i : ℕ) (d : Entry Condition) → i < length l → is_missed (evaluated r (get_or l i d).condition) ≡ false → read_by r l ≤ suc i
  unfolding read_by
  read_stop [] i d h m = absurd (omega arith)
  read_stop (x ∷ l) i d h m = by_condition (evaluated r x.condition) refl i h m (read_stop l)
    where
      by_condition : (v : Evaluation) → evaluated r x.condition ≡ v → (i : ℕ) → i < length (x ∷ l)
          → is_missed (evaluated r (get_or (x ∷ l) i d).condition) ≡ false
          → ((i : ℕ) (d : Entry Condition) → i < length l → is_missed (evaluated r (get_or l i d).condition) ≡ false → read_by r l ≤ suc i)
          → read_by r (x ∷ l) ≤ suc i
      by_condition Met e i h m rest = rw (e, read_by) (omega arith)
      by_condition (Open k) e i h m rest = rw (e, read_by) (omega arith)
      by_condition Missed e zero h m rest = absurd (false≢true (sym (rw e at m)))
      by_condition Missed e (suc i) h m rest = rw (e, read_by) (omega (arith, rest i d (omega arith) m))

  read_all : (l : List (Entry Condition)) → read_by r l ≤ length l
  unfolding read_by
  read_all [] = omega arith
  read_all (x ∷ l) = by_condition (evaluated r x.condition) refl (read_all l)
    where
      by_condition : (v : Evaluation) → evaluated r x.condition ≡ v → read_by r l ≤ length l → read_by r (x ∷ l) ≤ length (x ∷ l)
      by_condition Met e h = rw (e, read_by) (omega arith)
      by_condition Missed e h = rw (e, read_by) (omega arith)
      by_condition (Open k) e h = rw (e, read_by) (omega arith)

-- answers in numbers, in the rows and in a list
answering_rows : (f : ℕ → Status) (n : ℕ) (t : AnswerRows) → over_rows (λ v. numbered (f v)) n t ≡ answering (prefix f n) t
answering_rows f n t = rw (map_prefix f status_number n, map_prefix f status_value n, length_prefix f n)

-- all vehicles read as many entries as one of them, and no more than each of them may
module _ (l : List (Entry Condition)) where
  one_read : (rs : List Reading) (v : ℕ) (d : Reading) → v < length rs → read_by (get_or rs v d) l ≤ entries_read l rs
  unfolding entries_read
  one_read [] v d h = absurd (omega arith)
  one_read (r ∷ rs) zero d h = omega arith
  one_read (r ∷ rs) (suc v) d h = omega (arith, one_read rs v d (omega arith))

  each_read : (rs : List Reading) (k : ℕ) (d : Reading) → ((v : ℕ) → v < length rs → read_by (get_or rs v d) l ≤ k) → entries_read l rs ≤ k
  unfolding entries_read
  each_read [] k d h = omega arith
  each_read (r ∷ rs) k d h = omega (arith, h 0 (omega arith), each_read rs k d (λ v m. h (suc v) (omega arith)))

module _ (conditions absences actions : List ℕ) where
  abbrev entry : ℕ → Entry Condition
  entry i = entry_at conditions absences actions [] [] i

  -- the walk's answer after n entries is that of a tick on their tree
  module _ (r : Reading) where
    after_listed : (n : ℕ) → answer_after conditions absences actions r (suc n) ≡ list_status r (entry 0) (drop 1 (tree_entries conditions absences actions (suc n)))
    unfolding answer_after
    after_listed zero = by_condition (evaluated r (condition_at conditions absences 0))
      where
        by_condition : (e : Evaluation) → next_status Success e Failure ≡ or_else Success Failure e
        by_condition Met = refl
        by_condition Missed = refl
        by_condition (Open m) = refl
    after_listed (suc n) =
        ap (next_status (Running (get_or actions (suc n) 0)) (evaluated r (condition_at conditions absences (suc n)))) (after_listed n)
        ∙ sym (list_snoc r (entry (suc n)) (entry 0) (drop 1 (tree_entries conditions absences actions (suc n))))
        ∙ ap (list_status r (entry 0)) (sym (later_suc conditions absences actions n))

    -- a vehicle that stopped keeps its answer
    after_stays : (i n : ℕ) → i ≤ n → is_failure (answer_after conditions absences actions r i) ≡ false
        → answer_after conditions absences actions r i ≡ answer_after conditions absences actions r n
    unfolding answer_after
    after_stays i zero h e = let none : i ≡ 0 = omega arith in rw none
    after_stays i (suc n) h e =
        elim (dec_le i n) [
          | yes k ↦
              let before = after_stays i n k e in
              before ∙ sym (next_stays (met_at n (get_or actions n 0)) (evaluated r (condition_at conditions absences n)) (answer_after conditions absences actions r n) (rw before at e))
          | no k ↦ let last : i ≡ suc n = omega arith in ap (answer_after conditions absences actions r) last
        ]

    pub after_ticked : (paired : Bool) (n : ℕ) → 1 ≤ n → answer_after conditions absences actions r n ≡ (tick_tree r (tree_of everyone paired (tree_entries conditions absences actions n))).answer
    after_ticked paired zero h = absurd (omega arith)
    after_ticked paired (suc n) h =
        after_listed n ∙ sym (list_status_is r paired (entry 0) (drop 1 (tree_entries conditions absences actions (suc n))))
        ∙ ap (λ (l : List (Entry Condition)). (tick_tree r (tree_of everyone paired l)).answer) (sym (entries_split conditions absences actions n))

  -- ---- entries read

  module _ (r : Reading) where
    -- the condition of an entry was missed
    abbrev missed : ℕ → Bool
    missed i = is_missed (evaluated r (condition_at conditions absences i))

    -- a vehicle that goes on has missed every condition so far, and one that stopped has not
    after_failed : (n : ℕ) → is_failure (answer_after conditions absences actions r n) ≡ true → (i : ℕ) → i < n → missed i ≡ true
    unfolding answer_after
    after_failed zero e i h = absurd (omega arith)
    after_failed (suc n) e i h =
        let (before, here) = next_failed n (get_or actions n 0) (evaluated r (condition_at conditions absences n)) (answer_after conditions absences actions r n) e in
        elim (dec_le n i) [
          | yes k ↦ let same : n ≡ i = omega arith in rw (← same) here
          | no k ↦ after_failed n before i (omega arith)
        ]

    after_stopped : (n : ℕ) → is_failure (answer_after conditions absences actions r n) ≡ false → (i : ℕ) × (i < n) × (missed i ≡ false)
    unfolding answer_after
    after_stopped zero e = absurd (false≢true (sym e))
    after_stopped (suc n) e = by_before (is_failure (answer_after conditions absences actions r n)) refl (after_stopped n)
      where
        by_before : (b : Bool) → is_failure (answer_after conditions absences actions r n) ≡ b
            → (is_failure (answer_after conditions absences actions r n) ≡ false → (i : ℕ) × (i < n) × (missed i ≡ false))
            → (i : ℕ) × (i < suc n) × (missed i ≡ false)
        by_before true f rest =
            (n, omega arith, next_stopped n (get_or actions n 0) (evaluated r (condition_at conditions absences n)) (answer_after conditions absences actions r n) f e)
        by_before false f rest = let (i, h, m) = rest f in (i, omega arith, m)

-- ---- the walk

module _ (w : WalkedRows) (n vehicles : ℕ) where
  abbrev list : List (Entry Condition)
  list = tree_entries w.conditions w.absences w.actions n

  abbrev vehicle : ℕ → Reading
  vehicle v = reading_at w.held w.unread v

  abbrev readings : List Reading
  readings = readings_of w.held w.unread vehicles

  list_at : (i : ℕ) → i < n → (get_or list i ((entry w.conditions w.absences w.actions) 0)).condition ≡ condition_at w.conditions w.absences i
  list_at i h = ap (λ (x : Entry Condition). x.condition) (get_d_prefix (entry w.conditions w.absences w.actions) n i ((entry w.conditions w.absences w.actions) 0) h)

  one_of : (v : ℕ) → v < vehicles → read_by (vehicle v) list ≤ entries_read list readings
  one_of v h =
      let here : get_or readings v (vehicle 0) ≡ vehicle v = get_d_prefix vehicle vehicles v (vehicle 0) h in
      rw here at (one_read list readings v (vehicle 0) (omega (arith, length_prefix vehicle vehicles)))

  each_of : (k : ℕ) → ((v : ℕ) → v < vehicles → read_by (vehicle v) list ≤ k) → entries_read list readings ≤ k
  each_of k h = each_read list readings k (vehicle 0) (λ v m.
      let inside : v < vehicles = omega (arith, length_prefix vehicle vehicles) in
      let here : get_or readings v (vehicle 0) ≡ vehicle v = get_d_prefix vehicle vehicles v (vehicle 0) inside in
      rw here (h v inside))

  -- while one goes on, the next entry is read
  pub going_reads : (i : ℕ) → i < n → 0 < going_after w i vehicles → i + 1 ≤ entries_read list readings
  going_reads i h e =
      let (v, inside, one) = sum_some _ vehicles e in
      let failed : is_failure (answer_after w.conditions w.absences w.actions (vehicle v) i) ≡ true = some_one _ one in
      let more = read_more (vehicle v) list i ((entry w.conditions w.absences w.actions) 0) (omega (arith, length_prefix (entry w.conditions w.absences w.actions) n))
      (λ j k. rw (list_at j (omega arith)) (after_failed w.conditions w.absences w.actions (vehicle v) i failed j k)) in
      omega (arith, more, one_of v inside)

  -- none reads more than all, and none an entry after the one at which it stopped
  pub all_read : entries_read list readings ≤ n
  all_read = each_of n (λ v h. omega (arith, read_all (vehicle v) list, length_prefix (entry w.conditions w.absences w.actions) n))

  pub stopped_reads : (i : ℕ) → i ≤ n → going_after w i vehicles ≡ 0 → entries_read list readings ≤ i
  stopped_reads i h e = each_of i (λ v inside.
      let (j, k, m) = after_stopped w.conditions w.absences w.actions (vehicle v) i (no_one _ (sum_none _ vehicles e v inside)) in
      omega (arith, read_stop (vehicle v) list j ((entry w.conditions w.absences w.actions) 0) (omega (arith, length_prefix (entry w.conditions w.absences w.actions) n)) (rw (list_at j (omega arith)) m)))

  -- ---- the walk has ended after i entries: all of them, or no vehicle goes on

  module _ (some : 1 ≤ n) (t : AnswerRows) {now : AnswerRows} {i : ℕ} (few : i ≤ n) (e : now ≡ rows_after w i vehicles t)
      (read : i ≤ entries_read list readings) (last : (v : ℕ) → v < vehicles → answer_after w.conditions w.absences w.actions (vehicle v) i ≡ answer_after w.conditions w.absences w.actions (vehicle v) n)
      (most : entries_read list readings ≤ i) where
    ended : Walks list readings t now i
    ended =
        record {
          answers = λ paired.
              e ∙ answering_rows (λ v. answer_after w.conditions w.absences w.actions (vehicle v) i) vehicles t
              ∙ ap (λ (l : List Status). answering l t)
              (prefix_same _ (λ v. (tick_tree (vehicle v) (tree_of everyone paired list)).answer) vehicles (λ v h. last v h ∙ after_ticked w.conditions w.absences w.actions (vehicle v) paired n some)
              ∙ sym (map_prefix vehicle (λ r. (tick_tree r (tree_of everyone paired list)).answer) vehicles));
          count = omega arith;
        }

  module _ (some : 1 ≤ n) (t : AnswerRows) {now : AnswerRows} {i : ℕ} (few : i ≤ n) (e : now ≡ rows_after w i vehicles t)
      (read : i ≤ entries_read list readings) where
    pub walked_all : i ≡ n → Walks list readings t now n
    walked_all is =
        subst (Walks list readings t now) is
        (ended some t few e read (λ v h. ap (answer_after w.conditions w.absences w.actions (vehicle v)) is) (omega (arith, all_read)))

    pub walked_on : going_after w i vehicles ≡ 0 → Walks list readings t now i
    walked_on stopped =
        ended some t few e read (λ v h. after_stays w.conditions w.absences w.actions (vehicle v) i n few (no_one _ (sum_none _ vehicles stopped v h))) (stopped_reads i few stopped)
