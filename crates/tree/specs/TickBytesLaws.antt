-- A tick from bytes: what its checks lead to, and that a settled answer stands however the unread facts turn out.
-- Assumes nothing.
use Rattle.std.specs.Prelude.{ℕ, ◌≡◌, true, List, T, length}
use Rattle.std.proofs.Common.{sym, ◌∙◌}
use Rattle.std.proofs.Math.Path.{ap}
use Rattle.base.specs.Bools.{holds, is_true}
use Rattle.masks.specs.Sets.{within}
use Rattle.refusal.specs.Checked.{Checked, accepted, refused, and_then}
use Rattle.refusal.specs.CheckedLaws.{not_both, accepted_same, accepted_then}
use Rattle.reading.specs.declared.Reading.{Reading}
use Rattle.reading.specs.Reading.{sound, checked_at, Completes, state}
use Rattle.reading.specs.ReadingLaws.{checked_sound, checked_told, completes_within, state_sound}
use Rattle.table.specs.declared.Header.{Header}
use Rattle.table.specs.Table.{Table}
use Rattle.table.specs.Read.{read_table, headed}
use Rattle.tree.specs.Tree.{Tree}
use Rattle.tree.specs.ReadTree.{read_tree}
use Rattle.tree.specs.Tick.{continue_table, Verdict, tick_tree}
use Rattle.tree.specs.TickBytes.{tick_checked, tick_bytes, is_settled}
use Rattle.tree.specs.TickLaws.{settled_tree, table_stops, state_settled}

-- ---- under a table that was read

module _ (facts jobs : ℕ) (tree : List ℕ) (place : ℕ) where
  -- what an accepted tick has read
  record Ticks (r : Reading) (v : Verdict) : Type 0 where
    is_sound : sound facts r ≡ true
    read : Tree
    is_read : read_tree tree facts jobs ≡ accepted read
    is_verdict : tick_tree r read ≡ v

  tick_told : (r : Reading) (v : Verdict) → tick_checked facts jobs tree place r ≡ accepted v → Ticks r v
  unfolding tick_checked
  tick_told r v e =
      let (s, checked, rest) = accepted_then (checked_at facts place r) (λ s. and_then (read_tree tree facts jobs) λ t. accepted (tick_tree s t)) v e in
      let told = checked_told facts r place s checked in
      let (t, read, same) = accepted_then (read_tree tree facts jobs) (λ t. accepted (tick_tree s t)) v rest in
      record { is_sound = told.0; read = t; is_read = read; is_verdict = ap (λ (q : Reading). tick_tree q t) told.1 ∙ accepted_same same }

  -- A state within F is never refused by stop 8: what is left is the tree.
  pub state_checked : (s : ℕ) → T (within facts s) → tick_checked facts jobs tree place (state s) ≡ (and_then (read_tree tree facts jobs) λ t. accepted (tick_tree (state s) t))
  unfolding tick_checked
  state_checked s w = rw (← checked_sound facts (state s) place (is_true (sound facts (state s)) (state_sound facts s w)))

  -- Promise: a settled answer stands for every way of filling in the unread facts, and so does its leaf.
  pub settled_checked : (r : Reading) (v : Verdict) → tick_checked facts jobs tree place r ≡ accepted v → is_settled v.answer ≡ true
      → (s : ℕ) → Completes r s → tick_checked facts jobs tree place (state s) ≡ accepted v
  settled_checked r v e h s fills =
      let a = tick_told r v e in
      let same = settled_tree continue_table table_stops r s fills a.read (rw a.is_verdict h) in
      state_checked s (completes_within facts r (holds _ a.is_sound) s fills) ∙ rw (a.is_read, same, a.is_verdict)

  -- Promise: where nothing is unread, the answer is settled.
  pub state_settles : (s : ℕ) (v : Verdict) → tick_checked facts jobs tree place (state s) ≡ accepted v → is_settled v.answer ≡ true
  state_settles s v e =
      let a = tick_told (state s) v e in
      rw a.is_verdict at (state_settled continue_table s a.read)

-- ---- from the bytes of a table

module _ (table tree : List ℕ) where
  -- a table that was read is not read again
  pub bytes_checked : (h : Header) → accepted h ≡ headed (read_table table) → (r : Reading) → tick_checked h.facts h.jobs tree 0 r ≡ tick_bytes table tree r
  unfolding tick_bytes
  bytes_checked h q r = by_table (read_table table) q
    where
      by_table : (x : Checked Table) → accepted h ≡ headed x
          → tick_checked h.facts h.jobs tree 0 r ≡ (and_then x λ t. tick_checked t.facts (length t.jobs) tree 0 r)
      by_table (accepted t) q = ap (λ (k : Header). tick_checked k.facts k.jobs tree 0 r) (accepted_same q)
      by_table (refused m k) q = absurd (not_both (sym q))

  pub bytes_refused : (n p : ℕ) → refused n p ≡ headed (read_table table) → (r : Reading) → refused n p ≡ tick_bytes table tree r
  unfolding tick_bytes
  bytes_refused n p q r = by_table (read_table table) q
    where
      by_table : (x : Checked Table) → refused n p ≡ headed x → refused n p ≡ (and_then x λ t. tick_checked t.facts (length t.jobs) tree 0 r)
      by_table (accepted t) q = absurd (not_both q)
      by_table (refused m k) q = cc

  pub bytes_read : (t : Table) → read_table table ≡ accepted t → (r : Reading) → tick_bytes table tree r ≡ tick_checked t.facts (length t.jobs) tree 0 r
  unfolding tick_bytes
  bytes_read t e r = rw e

  table_read : (r : Reading) (v : Verdict) → tick_bytes table tree r ≡ accepted v → (t : Table) × (read_table table ≡ accepted t)
  unfolding tick_bytes
  table_read r v e = let (t, read, rest) = accepted_then (read_table table) (λ t. tick_checked t.facts (length t.jobs) tree 0 r) v e in (t, read)

  -- the same promises
  pub settled_bytes : (r : Reading) (v : Verdict) → tick_bytes table tree r ≡ accepted v → is_settled v.answer ≡ true
      → (s : ℕ) → Completes r s → tick_bytes table tree (state s) ≡ accepted v
  settled_bytes r v e h s fills =
      let (t, read) = table_read r v e in
      bytes_read t read (state s) ∙ settled_checked t.facts (length t.jobs) tree 0 r v (sym (bytes_read t read r) ∙ e) h s fills

  pub state_bytes : (s : ℕ) (v : Verdict) → tick_bytes table tree (state s) ≡ accepted v → is_settled v.answer ≡ true
  state_bytes s v e =
      let (t, read) = table_read (state s) v e in
      state_settles t.facts (length t.jobs) tree 0 s v (sym (bytes_read t read (state s)) ∙ e)
