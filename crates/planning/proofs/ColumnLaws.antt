-- Entries read from columns, and one more entry stored in them.
-- Assumes nothing.
use Rattle.std.specs.Prelude.{◌≡◌, List, [], ◌∷◌, ◌++◌, ℕ, suc, ◌<◌, length, get_or, set}
use Rattle.std.proofs.Common.{arith, get_or-set_same, get_or-set_other}
pub use Rattle.base.specs.Lists.{length_prefix, get_d_prefix, prefix_same}
use Rattle.conditions.specs.declared.Condition.{Condition}
use Rattle.planning.specs.Columns.{entry_at, entries_of}

-- entry n is stored behind the n entries that the columns hold; its second mask can be read back, though its column be short
module _ (conditions absences actions parents depths : List ℕ) (n : ℕ) (c : Condition) (a p d : ℕ) (hc : n < length conditions)
    (hs : get_or (set absences n c.absent) n 0 ≡ c.absent) (ha : n < length actions) (hp : n < length parents) (hd : n < length depths) where
  pub entries_store : entries_of (set conditions n c.present) (set absences n c.absent) (set actions n a) (set parents n p) (set depths n d) (suc n)
      ≡ entries_of conditions absences actions parents depths n ++ (record { condition = c; action = a; parent = p; depth = d } ∷ [])
  entries_store =
      rw (
        prefix_same (entry_at (set conditions n c.present) (set absences n c.absent) (set actions n a) (set parents n p) (set depths n d))
            (entry_at conditions absences actions parents depths) n before,
        get_or-set_same conditions n c.present 0 hc,
        hs,
        get_or-set_same actions n a 0 ha,
        get_or-set_same parents n p 0 hp,
        get_or-set_same depths n d 0 hd,
      )
    where
      before : (i : ℕ) → i < n
          → entry_at (set conditions n c.present) (set absences n c.absent) (set actions n a) (set parents n p) (set depths n d) i
          ≡ entry_at conditions absences actions parents depths i
      before i h =
          rw (
            get_or-set_other conditions n i c.present 0 (omega arith),
            get_or-set_other absences n i c.absent 0 (omega arith),
            get_or-set_other actions n i a 0 (omega arith),
            get_or-set_other parents n i p 0 (omega arith),
            get_or-set_other depths n i d 0 (omega arith),
          )
