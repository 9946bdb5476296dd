-- Laws of maps of facts: the reading that the code finds in sets is the one that is carried over fact by fact; it is sound where the old one is.
-- Assumes nothing.
use Rattle.std.specs.Prelude.{ℕ, ◌+◌, ◌-◌, ◌≤◌, max, ◌≡◌, refl, Bool, List, T, eqb, length, if◌then◌else◌}
use Rattle.std.proofs.Math.Decide.{dec_le}
use Rattle.std.proofs.Common.{arith, sym, ap, ◌∙◌, eq-eqb, ne_eqb}
use Rattle.std.proofs.Math.Bool.{true, false}
use Rattle.base.specs.Bools.{and_intro, and_right, holds, is_true}
use Rattle.masks.specs.Sets.{union, difference, within}
use Rattle.masks.specs.Bits.{bit_le, bits, same_bits, disjoint_bits, bits_disjoint, bits_within}
use Rattle.refusal.specs.Checked.{accepted, refused}
use Rattle.refusal.specs.CheckedLaws.{not_both, accepted_if, accepted_same}
use Rattle.reading.specs.declared.Reading.{Reading}
use Rattle.reading.specs.Reading.{sound}
use Rattle.reading.specs.ReadingLaws.{sound_apart}
use Rattle.fact_map.specs.FactMap.{sends, is_map, Source, fact, none, source_of, set_of, held_from, unread_from, carried_over, mapped_reading}
use Rattle.fact_map.specs.Carry.{targets, carried, first_facts, carried_sets, checked_map}
use Rattle.fact_map.specs.CarryLaws.{bit_from, found, targets_bit, carried_past, carried_source, sent_found, set_below, set_past, first_below, first_past}

-- ---- facts are marked once

module _ (r : Reading) where
  held_le : (s : Source) → held_from r s ≤ 1
  held_le (fact i) = bit_le r.held i
  held_le none = omega arith

  unread_le : (s : Source) → unread_from r s ≤ 1
  unread_le (fact i) = bit_le r.unread i
  unread_le none = omega arith

-- ---- the same in sets

module _ (new : ℕ) (few : new ≤ 64) (map : List ℕ) (e : sends new map ≡ true) (r : Reading) where
  held_sets : carried map r.held ≡ set_of (λ n. held_from r (source_of map n)) new
  held_sets = same_bits _ _ (λ i. elim (dec_le new i) [
    | yes past ↦ carried_past new map e r.held i past ∙ sym (set_past (λ n. held_from r (source_of map n)) (λ n. held_le r (source_of map n)) new i past)
    | no below ↦
        carried_source new map e r.held i (omega arith) ∙ by (source_of map i)
        ∙ sym (set_below (λ n. held_from r (source_of map n)) (λ n. held_le r (source_of map n)) new i (omega arith))
  ])
    where
      by : (s : Source) → bit_from r.held s ≡ held_from r s
      by (fact i) = refl
      by none = refl

  unread_sets : union (carried map r.unread) (difference (first_facts new) (targets map)) ≡ set_of (λ n. unread_from r (source_of map n)) new
  unread_sets = same_bits _ _ (λ i. elim (dec_le new i) [
    | yes past ↦
        simp bits (omega (
          arith,
          carried_past new map e r.unread i past,
          first_past new i past,
          set_past (λ n. unread_from r (source_of map n)) (λ n. unread_le r (source_of map n)) new i past,
        ))
    | no below ↦
        simp bits (omega (
          arith,
          carried_source new map e r.unread i (omega arith),
          first_below new i (omega arith),
          targets_bit map i (omega arith) ∙ sent_found map i,
          by (source_of map i),
          set_below (λ n. unread_from r (source_of map n)) (λ n. unread_le r (source_of map n)) new i (omega arith),
        ))
  ])
    where
      by : (s : Source) → max (bit_from r.unread s) (1 - found s) ≡ unread_from r s
      by (fact i) = omega arith
      by none = refl

  pub carried_sets_are : carried_sets new map (targets map) r ≡ carried_over new map r
  unfolding carried_sets carried_over
  carried_sets_are = rw (held_sets, unread_sets)

-- ---- a map that is judged, and a reading that it carries over

module _ (old new : ℕ) (map : List ℕ) where
  pub other_length : (length map ≡ old → ⊥) → refused 27 0 ≡ checked_map old new map
  unfolding checked_map is_map
  other_length n = rw (ne_eqb (length map) old n)

  module _ (e : length map ≡ old) where
    pub map_none : sends new map ≡ false → refused 27 0 ≡ checked_map old new map
    unfolding checked_map is_map
    map_none n = rw (eq-eqb (length map) old e, n)

    pub map_sound : sends new map ≡ true → accepted (targets map) ≡ checked_map old new map
    unfolding checked_map is_map
    map_sound s = rw (eq-eqb (length map) old e, s)

  module _ (r : Reading) where
    pub mapped_refused : {n p : ℕ} → refused n p ≡ checked_map old new map → refused n p ≡ mapped_reading old new map r
    unfolding checked_map mapped_reading
    mapped_refused {n = n} {p = p} e = by (is_map old new map) e
      where
        by : (b : Bool) → refused n p ≡ (if b then accepted (targets map) else refused 27 0) → refused n p ≡ (if b then accepted (carried_over new map r) else refused 27 0)
        by true e = absurd (not_both e)
        by false e = cc

    pub mapped_sets : new ≤ 64 → (set : ℕ) → accepted set ≡ checked_map old new map → accepted (carried_sets new map set r) ≡ mapped_reading old new map r
    unfolding checked_map mapped_reading is_map
    mapped_sets few set e =
        let (is, same) = accepted_if (is_map old new map) (accepted (targets map)) 27 0 set (sym e) in
        let all : sends new map ≡ true = is_true (sends new map) (and_right (eqb (length map) old) (sends new map) (holds _ is)) in
        rw (is, ← accepted_same same) (ap accepted (carried_sets_are new few map all r))

    pub mapped_told : (s : Reading) → mapped_reading old new map r ≡ accepted s → carried_over new map r ≡ s
    unfolding mapped_reading
    mapped_told s e = accepted_same (accepted_if (is_map old new map) (accepted (carried_over new map r)) 27 0 s e).1

-- ---- what is carried over is sound

module _ (old new : ℕ) (map : List ℕ) (r : Reading) where
  abbrev held_mark : ℕ → ℕ
  held_mark n = held_from r (source_of map n)

  abbrev unread_mark : ℕ → ℕ
  unread_mark n = unread_from r (source_of map n)

  apart : T (sound old r) → (s : Source) → held_from r s + unread_from r s ≤ 1
  apart t (fact i) = disjoint_bits r.held r.unread (sound_apart old r t) i
  apart t none = omega arith

  pub carried_over_sound : T (sound old r) → T (sound new (carried_over new map r))
  unfolding sound carried_over
  carried_over_sound t =
      let h : (i : ℕ) → held_mark i ≤ 1 = λ i. held_le r (source_of map i) in
      let u : (i : ℕ) → unread_mark i ≤ 1 = λ i. unread_le r (source_of map i) in
      and_intro (within new (set_of held_mark new)) _ (bits_within new _ (λ i past. set_past held_mark h new i past))
      (and_intro (within new (set_of unread_mark new)) _ (bits_within new _ (λ i past. set_past unread_mark u new i past))
      (bits_disjoint (set_of held_mark new) (set_of unread_mark new) (λ i. elim (dec_le new i) [
        | yes past ↦ omega (arith, set_past held_mark h new i past, set_past unread_mark u new i past)
        | no below ↦ omega (arith, set_below held_mark h new i (omega arith), set_below unread_mark u new i (omega arith), apart t (source_of map i))
      ])))
