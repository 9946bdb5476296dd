-- Laws of the command table's look-up.
-- Assumes nothing.
use Rattle.std.specs.Prelude.{ℕ, ◌+◌, ◌<◌, ◌≤◌, Bool, List, ltb, if◌then◌else◌, None, Option, Some}
use Rattle.std.proofs.Common.{arith, ◌∙◌, le-ltb, lt-ltb, le-leb, ltb-true, leb-true}
use Rattle.std.proofs.Math.Path.{◌≡◌, refl, sym}
use Rattle.std.proofs.Math.Bool.{true, false}
use Rattle.std.proofs.Math.Dec.{leb}
use Rattle.std.proofs.Math.ListN.{length, get_or}
use Rattle.std.proofs.lemmas.Bool.{lt-leb}
use Rattle.commands.specs.declared.Found.TheVariants.{Missing, Unknown, Cut, Whole}
use Rattle.commands.specs.Commands.{width_of, command_at, operands_at}

-- ---- what stands at an offset, way by way

module _ (s : List ℕ) (at : ℕ) where
  pub at_missing : length s ≤ at → command_at s at ≡ Missing
  unfolding command_at
  at_missing h = rw (le-ltb at (length s) h)

  module _ (h : at < length s) where
    found : (w : (Option ℕ)) → width_of (get_or s at 0) ≡ w → command_at s at ≡ operands_at s at w
    unfolding command_at
    found w e = rw (lt-ltb at (length s) h, e)

    pub at_unknown : width_of (get_or s at 0) ≡ None → command_at s at ≡ Unknown
    at_unknown e = found None e

    pub at_whole : (w : ℕ) → width_of (get_or s at 0) ≡ Some w → at + 1 + w ≤ length s → command_at s at ≡ Whole (get_or s at 0) (at + 1 + w)
    at_whole w e l = found (Some w) e ∙ rw (le-leb (at + 1 + w) (length s) l)

    pub at_cut : (w : ℕ) → width_of (get_or s at 0) ≡ Some w → length s < at + 1 + w → command_at s at ≡ Cut (get_or s at 0)
    at_cut w e l = found (Some w) e ∙ rw (lt-leb (at + 1 + w) (length s) l)

-- what a whole command at an offset tells
pub record WholeAt (s : List ℕ) (at byte next : ℕ) : Type 0 where
  pub here : at < length s
  pub is_byte : get_or s at 0 ≡ byte
  pub width : ℕ
  pub is_width : width_of byte ≡ Some width
  pub is_next : next ≡ at + 1 + width
  pub inside : next ≤ length s

module _ (s : List ℕ) (at byte next : ℕ) where
  pub whole_told : command_at s at ≡ Whole byte next → WholeAt s at byte next
  unfolding command_at
  whole_told = by_test (ltb at (length s)) refl
    where
      operands : (t : Bool) (w : ℕ) → at < length s → width_of (get_or s at 0) ≡ Some w → leb (at + 1 + w) (length s) ≡ t
          → (if t then Whole (get_or s at 0) (at + 1 + w) else Cut (get_or s at 0)) ≡ Whole byte next → WholeAt s at byte next
      operands true w h e l q =
          let b : get_or s at 0 ≡ byte = cc in
          let n : at + 1 + w ≡ next = cc in
          record { here = h; is_byte = b; width = w; is_width = rw b at e; is_next = sym n; inside = rw n at (leb-true (at + 1 + w) (length s) l) }
      operands false w h e l q = let z : ◌≡◌ {A = ℕ} 0 1 = cc in absurd (omega arith)

      by_width : (w : (Option ℕ)) → at < length s → width_of (get_or s at 0) ≡ w → operands_at s at w ≡ Whole byte next → WholeAt s at byte next
      by_width None h e q = let z : ◌≡◌ {A = ℕ} 0 1 = cc in absurd (omega arith)
      by_width (Some w) h e q = operands (leb (at + 1 + w) (length s)) w h e refl q

      by_test : (t : Bool) → ltb at (length s) ≡ t → (if t then operands_at s at (width_of (get_or s at 0)) else Missing) ≡ Whole byte next → WholeAt s at byte next
      by_test true l q = by_width (width_of (get_or s at 0)) (ltb-true at (length s) l) refl q
      by_test false l q = let z : ◌≡◌ {A = ℕ} 0 1 = cc in absurd (omega arith)
