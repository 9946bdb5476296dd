-- `conditions::newest_weaker` meets its contract: what remains of the search gives the whole.
use mathlib.Core.Path.{◌≡◌, sym, ap, ◌∙◌}
use mathlib.Core.Bool.{Bool, true, false}
use Prim.Native.Nat.{ℕ, suc, ◌-◌}
use native.Mathlib.Omega.{arith}
use lib.ListN.{get_or}
use Rattle.masks.specs.Sets.{subset}
use Rattle.conditions.specs.Condition.{weaker, condition_at}
use Rattle.conditions.specs.Search.{newest_weaker}
use Rattle.conditions.specs.SearchLaws.{newest_met, newest_other, part_both, first_other, second_other, passed_over, searches}
use Rattle.conditions.proofs.newest_weaker.Goals as goal
use Rattle.conditions.proofs.newest_weaker.Lts as Lts
use Rattle.conditions.proofs.newest_weaker.Tie as Tie
use Rattle.conditions.proofs.newest_weaker.Reads as Reads
use Rattle.std.specs.Prelude.{Option}

abbrev AtAfterIsSubset : Type 0
AtAfterIsSubset = Lts.After-is_subset Tie.the-claims Reads.Pre Reads.Post goal.the-invariant-search goal.the-decreases-search

abbrev AtAfterIsSubset2 : Type 0
AtAfterIsSubset2 = Lts.After-is_subset2 Tie.the-claims Reads.Pre Reads.Post goal.the-invariant-search goal.the-decreases-search

abbrev AtSearch : Type 0
AtSearch = Lts.At-search Tie.the-claims Reads.Pre Reads.Post goal.the-invariant-search goal.the-decreases-search

abbrev AtStart : Type 0
AtStart = Lts.Start Tie.the-claims Reads.Pre Reads.Post goal.the-invariant-search goal.the-decreases-search

-- ---- the places that the answers look back at

-- the first mask of entry k - 1 was looked at, and then the second
abbrev First : Type 0
First = AtAfterIsSubset

abbrev Second : Type 0
Second = AtAfterIsSubset2

abbrev start_of : AtSearch → AtStart
start_of c = c.before.before.before.before

abbrev turn_of : First → AtSearch
turn_of c = c.before.before.before

abbrev first_of : Second → First
first_of c = c.before.before.before

-- the search of the first i entries
abbrev among : AtSearch → ℕ → (Option ℕ)
among c i = newest_weaker (start_of c).args.conditions.now (start_of c).args.absences.now i (start_of c).args.c

newer : (c : First) → suc ((turn_of c).search.k - 1) ≡ (turn_of c).search.k
newer c = omega arith

on_to : (c : First) → among (turn_of c) (suc ((turn_of c).search.k - 1)) ≡ among (turn_of c) (start_of (turn_of c)).args.n
on_to c = ap (among (turn_of c)) (newer c) ∙ (turn_of c).search.invariant.1

-- is entry k - 1 a part?
abbrev part : First → Bool
part c =
    let a = (start_of (turn_of c)).args in
    weaker (condition_at a.conditions.now a.absences.now ((turn_of c).search.k - 1)) a.c

first_fails : (c : First) → c.is_subset.result ≡ false → part c ≡ false
first_fails c e =
    let a = (start_of (turn_of c)).args in
    first_other a.conditions.now a.absences.now a.c ((turn_of c).search.k - 1) (sym c.is_subset.ensures ∙ e)

second_is : (c : Second) → let a = (start_of (turn_of (first_of c))).args in
    c.is_subset-then-is_subset.result ≡ subset (get_or a.absences.now ((turn_of (first_of c)).search.k - 1) 0) a.c.absent
second_is c = c.is_subset-then-is_subset.ensures ∙ ap (λ (m : ℕ). subset m (start_of (turn_of (first_of c))).args.c.absent) c.mask_at-absent.ensures

second_fails : (c : Second) → c.is_subset-then-is_subset.result ≡ false → part (first_of c) ≡ false
second_fails c e =
    let a = (start_of (turn_of (first_of c))).args in
    second_other a.conditions.now a.absences.now a.c ((turn_of (first_of c)).search.k - 1) (sym (second_is c) ∙ e)

both_hold : (c : Second) → (first_of c).is_subset.result ≡ true → c.is_subset-then-is_subset.result ≡ true → part (first_of c) ≡ true
both_hold c e f =
    let a = (start_of (turn_of (first_of c))).args in
    part_both a.conditions.now a.absences.now a.c ((turn_of (first_of c)).search.k - 1) (sym (first_of c).is_subset.ensures ∙ e)
    (sym (second_is c) ∙ f)

pub search-init : goal.search-init
search-init c =
    let p = c.past_others-k.ensures in
    (p.0, passed_over _ _ _ _ _ (λ i. (c.shared_slice_known-1.given i).fits) p.0 p.1)

pub search-preserved-else-is_subset-2 : goal.search-preserved-else-is_subset-2
search-preserved-else-is_subset-2 c =
    let f = first_of c.before.before in (
      omega (arith, (turn_of f).search.invariant.0),
      newest_other _ _ _ _ (second_fails c.before.before c.if-is_subset-2.false) ∙ on_to f,
    )

pub search-preserved : goal.search-preserved
search-preserved c = (
  omega (arith, (turn_of c.before.before).search.invariant.0),
  newest_other _ _ _ _ (first_fails c.before.before c.if-is_subset.false) ∙ on_to c.before.before,
)

pub returns-then-is_subset-2 : goal.returns-then-is_subset-2
returns-then-is_subset-2 c =
    searches _ _ _ _ _ (newest_met _ _ _ _ (both_hold c.before.before c.if-is_subset.true c.if-is_subset-2.true) ∙ on_to (first_of c.before.before))
