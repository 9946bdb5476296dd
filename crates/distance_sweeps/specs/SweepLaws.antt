-- Why the sweeps find the distances. Each label is the length of a sequence (`sound`), and after so many sweeps no sequence of at most so many actions is
-- shorter than its state's label (`upto`). A sweep that changes nothing leaves a row in which no action leads nearer (`ClosedAt`): along a sequence the
-- labels then fall by at most 1 with each action, so that none is shorter than its first state's label. A sweep that changes a label gives a state more
-- than the sweeps done, and labels are less than the states that have one (`small`): so there are no more sweeps than states.
-- Assumes nothing.
use Rattle.std.specs.Prelude.{◌≡◌, refl, Bool, true, false, List, [], ◌∷◌, ◌⊎◌, ℕ, suc, ◌+◌, ◌≤◌, ◌<◌, T, length, set, if◌then◌else◌}
use Rattle.std.proofs.Common.{◌∙◌, true≢false, ⊎_elim, arith, length-set, get_or-set_same, get_or-set_other}
use Rattle.std.proofs.lemmas.Bool.{false≢true}
use Rattle.std.proofs.Math.Decide.{dec_le, ℕ_discrete}
use Rattle.base.specs.Bools.{is_true}
use Rattle.conditions.specs.declared.Condition.{Condition}
use Rattle.conditions.specs.Condition.{satisfied}
use Rattle.planning.specs.Sequence.{Reaches}
use Rattle.planning.specs.Facts.{Actions}
use Rattle.distance_steps.specs.Distance.{no_distance, Distance, fewest, none}
use Rattle.distance_steps.specs.Steps.{label_of, first_label, D, LeastAhead, NoneBelow}
use Rattle.distance_sweeps.specs.Sweeps.{unlabelled, ClosedAt, UpTo, Level, Looking, Improves, SweptTo}
use Rattle.distance_sweeps.specs.CountLaws.{labelled_fewer, set_fewer, set_first}

module _ (A : Actions) (goal : Condition) where
  -- an action in front of a sequence
  step : (a s : ℕ) (w : List ℕ) → T ((D A goal).applicable a s) → Reaches (D A goal) ((D A goal).result a s) w → Reaches (D A goal) s (a ∷ w)
  step a s w t r = record { executable = (t, r.executable); at_goal = r.at_goal }

  first_applicable : (a s : ℕ) (w : List ℕ) → Reaches (D A goal) s (a ∷ w) → T ((D A goal).applicable a s)
  first_applicable a s w r = r.executable.0

  rest : (a s : ℕ) (w : List ℕ) → Reaches (D A goal) s (a ∷ w) → Reaches (D A goal) ((D A goal).result a s) w
  rest a s w r = record { executable = r.executable.1; at_goal = r.at_goal }

  -- ---- a state takes the label of where an action leads, and one more

  module _ (done : ℕ) (row : List ℕ) (L : Level A goal done row) (s best : ℕ) (inside : s < length row) (a : ℕ) (can : T ((D A goal).applicable a s))
      (stays : (D A goal).result a s < length row) (is : label_of row ((D A goal).result a s) ≡ best) (less : suc best < label_of row s)
      (word : label_of row s ≤ no_distance) where
    abbrev lowered : List ℕ
    lowered = set row s (suc best)

    here : label_of lowered s ≡ suc best
    here = get_or-set_same row s (suc best) 0 inside

    other : (k : ℕ) → (k ≡ s → ⊥) → label_of lowered k ≡ label_of row k
    other k q = get_or-set_other row s k (suc best) 0 q

    pub lowered_lowers : (k : ℕ) → label_of lowered k ≤ label_of row k
    lowered_lowers k =
        elim (ℕ_discrete k s) [
          | yes q ↦ rw q (omega (arith, here))
          | no q ↦ omega (arith, other k q)
        ]

    size : length lowered ≡ length row
    size = length-set row s (suc best)

    sound : (k : ℕ) → k < length lowered → label_of lowered k < no_distance → (w : List ℕ) × Reaches (D A goal) k w × (length w ≡ label_of lowered k)
    sound k h n =
        elim (ℕ_discrete k s) [
          | yes q ↦
              let (w, r, e) = L.sound ((D A goal).result a s) stays (omega (arith, is)) in
              rw q (a ∷ w, step a s w can r, omega (arith, here, e, is))
          | no q ↦
              let (w, r, e) = L.sound k (omega (arith, size)) (omega (arith, other k q)) in
              (w, r, omega (arith, e, other k q))
        ]

    fewer : unlabelled lowered (length lowered) ≤ unlabelled row (length row)
    fewer = rw size (set_fewer row s (suc best) inside (omega arith))

    small_here : label_of lowered s + unlabelled lowered (length lowered) < length lowered
    small_here =
        elim (dec_le no_distance (label_of row s)) [
          | yes n ↦
              let gone : suc (unlabelled lowered (length lowered)) ≡ unlabelled row (length row) = rw size (set_first row s (suc best) inside (omega arith) (omega arith)) in
              omega (arith, here, size, gone, is, L.small ((D A goal).result a s) stays (omega (arith, is)))
          | no n ↦ omega (arith, here, size, fewer, L.small s inside (omega arith))
        ]

    small : (k : ℕ) → k < length lowered → label_of lowered k < no_distance → label_of lowered k + unlabelled lowered (length lowered) < length lowered
    small k h n =
        elim (ℕ_discrete k s) [
          | yes q ↦ rw q small_here
          | no q ↦ omega (arith, other k q, size, fewer, L.small k (omega (arith, size)) (omega (arith, other k q)))
        ]

    pub level_lowered : Level A goal done lowered
    level_lowered =
        record {
          sound = sound;
          upto = λ k h w r m. omega (arith, lowered_lowers k, L.upto k (omega (arith, size)) w r m);
          small = small;
        }

  -- ---- a state is looked at

  module _ (done : ℕ) (row : List ℕ) (s : ℕ) (K : Looking A goal done row s) where
    abbrev L : Level A goal done row
    L = K.level

    abbrev leads : ℕ → ℕ
    leads a = (D A goal).result a s

    -- by an action, a sequence of one more
    by_action : (a : ℕ) → T ((D A goal).applicable a s) → suc (label_of row (leads a)) ≤ done → label_of row s ≤ suc (label_of row (leads a))
    by_action a can h =
        let (w, r, e) = L.sound (leads a) (K.stays a s K.inside can) (omega arith) in
        omega (arith, e, L.upto s K.inside (a ∷ w) (step a s w can r) (omega (arith, e)))

    kept : UpTo A goal (suc done) row s → ClosedAt A goal row s → Improves A goal done s row row false
    kept next closed =
        record {
          level = L;
          sized = refl;
          lowers = λ k. omega arith;
          next = next;
          quiet = λ e. (refl, closed);
          moved = λ e. absurd (false≢true e);
        }

    -- its label is final already
    pub final_kept : label_of row s ≤ suc done → Improves A goal done s row row false
    final_kept low =
        kept
        (λ w r h. elim (dec_le (length w) done) [ yes m ↦ L.upto s K.inside w r m | no m ↦ omega arith ])
        (λ a can. elim (dec_le (suc (label_of row (leads a))) done) [ yes m ↦ by_action a can m | no m ↦ omega arith ])

    -- its label is not final: then no action leads to less than `done`
    module _ (high : suc done < label_of row s) (best : ℕ) (near : NoneBelow A goal row s done → LeastAhead A goal row s best) where
      none_below : NoneBelow A goal row s done
      none_below a can = elim (dec_le done (label_of row (leads a))) [ yes m ↦ m | no m ↦ absurd (omega (arith, by_action a can (omega arith))) ]

      abbrev N : LeastAhead A goal row s best
      N = near none_below

      -- a sequence that is not too long begins with an action, and that leads to no less than the least
      no_fewer : (w : List ℕ) → Reaches (D A goal) s w → length w ≤ suc done → suc best ≤ length w
      no_fewer [] r h = absurd (omega (arith, L.upto s K.inside [] r (omega arith)))
      no_fewer (a ∷ w) r h =
          let can = first_applicable a s w r in
          omega (arith, N.least a can, L.upto (leads a) (K.stays a s K.inside can) w (rest a s w r) (omega arith))

      -- no action leads nearer
      pub ahead_kept : label_of row s ≤ suc best → Improves A goal done s row row false
      ahead_kept low = kept (λ w r h. omega (arith, no_fewer w r h)) (λ a can. omega (arith, N.least a can))

      -- an action does
      pub ahead_taken : suc best < label_of row s → (label : ℕ) → label ≡ suc best → Improves A goal done s row (set row s label) true
      ahead_taken less label one_more =
          let (a, can, is) = N.reached (omega (arith, K.word s)) in
          let there = K.stays a s K.inside can in
          let L' = level_lowered done row L s best K.inside a can there is less (K.word s) in
          let here = get_or-set_same row s (suc best) 0 K.inside in
          let size = length-set row s (suc best) in
          rw one_more (record {
            level = L';
            sized = size;
            lowers = lowered_lowers done row L s best K.inside a can there is less (K.word s);
            next = λ w r h. omega (arith, here, no_fewer w r h);
            quiet = λ e. absurd (true≢false e);
            moved = λ e. (omega (arith, here, size, none_below a can, is, L'.small s (omega (arith, K.inside, size)) (omega (arith, here, K.word s))), omega (arith, here));
          })

  -- ---- a sweep, state by state

  -- it begins
  pub sweep_begun : (done : ℕ) (row : List ℕ) → Level A goal done row → SweptTo A goal done (length row) row row false
  sweep_begun done row L =
      record {
        level = L;
        sized = refl;
        lowers = λ k. omega arith;
        next = λ s h k. absurd (omega arith);
        quiet = λ e. (refl, λ s h k. absurd (omega arith));
        moved = λ e. absurd (false≢true e);
      }

  -- one state further down, whose flag `here` joins that of the states before it to `either`
  module _ (done i j : ℕ) (up : j ≡ suc i) (before row after : List ℕ) (changed here either : Bool) (S : SweptTo A goal done j before row changed)
      (I : Improves A goal done i row after here) (both_quiet : either ≡ false → (changed ≡ false) × (here ≡ false))
      (one_moved : either ≡ true → (changed ≡ true) ⊎ (here ≡ true)) where
    further : (s : ℕ) → i ≤ s → (s ≡ i → ⊥) → j ≤ s
    further s h q = elim (dec_le j s) [ yes m ↦ m | no m ↦ absurd (q (omega arith)) ]

    next : (s : ℕ) → i ≤ s → s < length after → UpTo A goal (suc done) after s
    next s h k =
        elim (ℕ_discrete s i) [
          | yes q ↦ rw q I.next
          | no q ↦ λ w r m. omega (arith, I.lowers s, S.next s (further s h q) (omega (arith, I.sized)) w r m)
        ]

    quiet : either ≡ false → (after ≡ before) × ((s : ℕ) → i ≤ s → s < length after → ClosedAt A goal after s)
    quiet e =
        let (same, closed) = I.quiet (both_quiet e).1 in
        let (steady, shut) = S.quiet (both_quiet e).0 in (
          same ∙ steady,
          (λ s h k. elim (ℕ_discrete s i) [ yes q ↦ rw q closed | no q ↦ rw same (shut s (further s h q) (omega (arith, I.sized))) ]),
        )

    moved : either ≡ true → (suc done < length after) × (s : ℕ) × (label_of after s < label_of before s)
    moved e =
        ⊎_elim
        (λ m. let (more, s, less) = S.moved m in (omega (arith, I.sized), s, omega (arith, I.lowers s)))
        (λ m. let (more, less) = I.moved m in (more, i, omega (arith, S.lowers i)))
        (one_moved e)

    pub sweep_further : SweptTo A goal done i before after either
    sweep_further =
        record {
          level = I.level;
          sized = I.sized ∙ S.sized;
          lowers = λ k. omega (arith, I.lowers k, S.lowers k);
          next = next;
          quiet = quiet;
          moved = moved;
        }

  -- a whole sweep takes the row one level on
  pub sweep_whole : (done : ℕ) (before after : List ℕ) (changed : Bool) → SweptTo A goal done 0 before after changed → Level A goal (suc done) after
  sweep_whole done before after changed S =
      record { sound = S.level.sound; upto = λ s h. S.next s (omega arith) h; small = S.level.small }

  -- ---- the first row, and the last

  pub level_first : (row : List ℕ) → ((s : ℕ) → s < length row → label_of row s ≡ first_label goal s) → Level A goal 0 row
  level_first row is =
      record {
        sound = λ s h k. ([], record { executable = tt; at_goal = labelled s h k }, omega (arith, zero_there s h k));
        upto = λ s h w r k. at_once s h w r k;
        small = λ s h k. omega (arith, zero_there s h k, labelled_fewer row (length row) s h k);
      }
    where
      labelled : (s : ℕ) → s < length row → label_of row s < no_distance → T (satisfied goal s)
      labelled s h k = by_test (satisfied goal s) (is s h)
        where
          by_test : (b : Bool) → label_of row s ≡ (if b then 0 else no_distance) → T b
          by_test true e = tt
          by_test false e = absurd (omega (arith, e))

      met : (s : ℕ) → s < length row → T (satisfied goal s) → label_of row s ≡ 0
      met s h t = is s h ∙ rw (is_true (satisfied goal s) t)

      zero_there : (s : ℕ) → s < length row → label_of row s < no_distance → label_of row s ≡ 0
      zero_there s h k = met s h (labelled s h k)

      at_once : (s : ℕ) → s < length row → (w : List ℕ) → Reaches (D A goal) s w → length w ≤ 0 → label_of row s ≤ length w
      at_once s h [] r k = omega (arith, met s h r.at_goal)
      at_once s h (a ∷ w) r k = absurd (omega arith)

  module _ (done : ℕ) (row : List ℕ) (L : Level A goal done row) (closed : (s : ℕ) → s < length row → ClosedAt A goal row s) (few : length row ≤ 32768)
      (word : (s : ℕ) → label_of row s ≤ no_distance)
      (stays : (a s : ℕ) → s < length row → T ((D A goal).applicable a s) → (D A goal).result a s < length row) where
    -- no sequence has fewer
    along : (w : List ℕ) (s : ℕ) → s < length row → Reaches (D A goal) s w → (label_of row s < no_distance) × (label_of row s ≤ length w)
    along [] s h r = let none_less = L.upto s h [] r (omega arith) in (omega arith, none_less)
    along (a ∷ w) s h r =
        let can = first_applicable a s w r in
        let there = stays a s h can in
        let (has, less) = along w ((D A goal).result a s) there (rest a s w r) in
        let bound = L.small ((D A goal).result a s) there has in
        let near = closed s h a can in
        (omega arith, omega arith)

    pub level_last : (s : ℕ) → s < length row → Distance (D A goal) s (label_of row s)
    level_last s h =
        elim (dec_le no_distance (label_of row s)) [
          | yes m ↦ none (λ w r. omega (arith, along w s h r)) (omega (arith, word s))
          | no m ↦
              let (w, r, e) = L.sound s h (omega arith) in
              fewest w (record { reaches = r; least = λ v q. omega (arith, e, along v s h q) }) e (omega arith)
        ]
