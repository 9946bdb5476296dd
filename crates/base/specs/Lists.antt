-- The first values of a function of the index, as a list, and at the front of another; what stands at an index; sums.
-- Assumes nothing.
use Rattle.std.specs.Prelude.{◌≡◌, refl, List, [], ◌∷◌, ◌++◌, map, ℕ, zero, suc, ◌+◌, ◌-◌, ◌≤◌, ◌<◌, length, get_or, drop, set}
use Rattle.std.proofs.Common.{sym, ap, ◌∙◌, append_assoc, not-suc-le-zero, add-one, arith, length-append, ext_get_or, get_or-drop, get_or-append-add, drop-cons, drop_at}
use Rattle.std.proofs.Math.Decide.{dec_le}
use Rattle.std.proofs.Math.ListN.{get_or-append}
use Rattle.std.proofs.lemmas.List.{get_or_at, set_at, set-get_or}

map_snoc : {A B : Type 0} (h : A → B) (l : List A) (x : A) → map h (l ++ (x ∷ [])) ≡ map h l ++ (h x ∷ [])
map_snoc h [] x = refl
map_snoc h (y ∷ l) x = ap (λ (m : List _). h y ∷ m) (map_snoc h l x)

abbrev pub prefix : {A : Type 0} → (ℕ → A) → ℕ → List A
prefix f zero = []
prefix f (suc n) = prefix f n ++ (f n ∷ [])

module _ {A : Type 0} (f : ℕ → A) where
  pub length_prefix : (n : ℕ) → length (prefix f n) ≡ n
  length_prefix zero = refl
  length_prefix (suc n) = omega (arith, length-append (prefix f n) (f n ∷ []), length_prefix n)

  pub get_d_prefix : (n i : ℕ) (d : A) → i < n → get_or (prefix f n) i d ≡ f i
  get_d_prefix zero i d h = absurd (not-suc-le-zero h)
  get_d_prefix (suc n) i d h =
      elim (dec_le n i) [
        | yes l ↦ let e : n ≡ i = omega arith in get_or_at (prefix f n) (f n) [] d i (omega (arith, length_prefix n)) ∙ ap f e
        | no l ↦ get_or-append (prefix f n) (f n ∷ []) d i (omega (arith, length_prefix n)) ∙ get_d_prefix n i d (omega arith)
      ]

  pub prefix_same : (g : ℕ → A) (n : ℕ) → ((i : ℕ) → i < n → f i ≡ g i) → prefix f n ≡ prefix g n
  prefix_same g zero h = refl
  prefix_same g (suc n) h = rw (prefix_same g n (λ i l. h i (omega arith)), h n (omega arith))

  pub map_prefix : {B : Type 0} (h : A → B) (n : ℕ) → map h (prefix f n) ≡ prefix (λ i. h (f i)) n
  map_prefix h zero = refl
  map_prefix h (suc n) = map_snoc h (prefix f n) (f n) ∙ ap (λ (l : List _). l ++ (h (f n) ∷ [])) (map_prefix h n)

-- all elements of a list, one after the other
pub prefix_all : {A : Type 0} (l : List A) (d : A) → prefix (λ i. get_or l i d) (length l) ≡ l
prefix_all l d =
    ext_get_or d (prefix (λ i. get_or l i d) (length l)) l (length_prefix (λ i. get_or l i d) (length l))
    (λ i h. get_d_prefix (λ i. get_or l i d) (length l) i d (omega (arith, length_prefix (λ i. get_or l i d) (length l))))

-- what stands past the end does not matter inside
pub get_d_inside : {A : Type 0} (l : List A) (i : ℕ) (d e : A) → i < length l → get_or l i d ≡ get_or l i e
get_d_inside [] i d e h = absurd (omega arith)
get_d_inside (x ∷ l) zero d e h = refl
get_d_inside (x ∷ l) (suc i) d e h = get_d_inside l i d e (omega arith)

-- a field of each element of a list, at the front of another list: past them it is as it was
abbrev pub over : {A B : Type 0} → (A → B) → List A → List B → List B
over field l xs = map field l ++ drop (length l) xs

-- the same of the first values of a function
abbrev pub overlay : {A : Type 0} → (ℕ → A) → ℕ → List A → List A
overlay f n l = prefix f n ++ drop n l

module _ {A : Type 0} (f : ℕ → A) (n : ℕ) (l : List A) where
  pub overlay_front : (i : ℕ) (d : A) → i < n → get_or (overlay f n l) i d ≡ f i
  overlay_front i d h = get_or-append (prefix f n) (drop n l) d i (omega (arith, length_prefix f n)) ∙ get_d_prefix f n i d h

  -- the next ones are not written yet, and when one is there is one more
  pub overlay_past : (i : ℕ) (d : A) → n ≤ i → get_or (overlay f n l) i d ≡ get_or l i d
  overlay_past i d h =
      let at : length (prefix f n) + (i - n) ≡ i = omega (arith, length_prefix f n) in
      let past : n + (i - n) ≡ i = omega arith in
      ap (λ (k : ℕ). get_or (overlay f n l) k d) (sym at) ∙ get_or-append-add (prefix f n) (drop n l) (i - n) d ∙ get_or-drop n l (i - n) d
      ∙ ap (λ (k : ℕ). get_or l k d) past

  pub overlay_next : n < length l → set (overlay f n l) n (f n) ≡ overlay f (n + 1) l
  overlay_next h =
      ap (λ (m : List A). set (prefix f n ++ m) n (f n)) (drop-cons l n (f n) h)
      ∙ set_at (prefix f n) (get_or l n (f n)) (drop (suc n) l) (f n) n (length_prefix f n)
      ∙ sym (append_assoc (prefix f n) (f n ∷ []) (drop (suc n) l)) ∙ ap (λ (k : ℕ). overlay f k l) (sym (add-one n))

  -- over other values of as many indices
  pub overlay_again : (g : ℕ → A) → overlay f n (overlay g n l) ≡ overlay f n l
  overlay_again g = ap (λ (m : List A). prefix f n ++ m) (drop_at (prefix g n) (drop n l) n (length_prefix g n))

  pub overlay_same : (g : ℕ → A) → ((i : ℕ) → i < n → f i ≡ g i) → overlay f n l ≡ overlay g n l
  overlay_same g h = ap (λ (m : List A). m ++ drop n l) (prefix_same f g n h)

-- what is as it was already need not be written
pub overlay_stands : {A : Type 0} (f : ℕ → A) (l : List A) (d : A) (m n : ℕ) → m ≤ n → n ≤ length l → ((i : ℕ) → m ≤ i → i < n → f i ≡ get_or l i d)
    → overlay f m l ≡ overlay f n l
overlay_stands f l d m zero h k e = let none : m ≡ 0 = omega arith in rw none
overlay_stands f l d m (suc n) h k e =
    elim (dec_le m n) [
      | yes p ↦
          let here : f n ≡ get_or (overlay f n l) n d = e n p (omega arith) ∙ sym (overlay_past f n l n d (omega arith)) in
          overlay_stands f l d m n p (omega arith) (λ i a b. e i a (omega arith)) ∙ sym (set-get_or (overlay f n l) n d)
          ∙ ap (set (overlay f n l) n) (sym here) ∙ overlay_next f n l (omega arith) ∙ ap (λ (k : ℕ). overlay f k l) (add-one n)
      | no p ↦ let same : m ≡ suc n = omega arith in ap (λ (k : ℕ). overlay f k l) same
    ]

-- the sum of the first n values
abbrev pub sum : (ℕ → ℕ) → ℕ → ℕ
sum f zero = 0
sum f (suc n) = sum f n + f n

module _ (f : ℕ → ℕ) where
  pub sum_some : (n : ℕ) → 0 < sum f n → (i : ℕ) × (i < n) × (0 < f i)
  sum_some zero h = absurd (omega arith)
  sum_some (suc n) h =
      elim (dec_le 1 (f n)) [
        | yes l ↦ (n, omega arith, omega arith)
        | no l ↦ let (i, k, p) = sum_some n (omega arith) in (i, omega arith, p)
      ]

  pub sum_none : (n : ℕ) → sum f n ≡ 0 → (i : ℕ) → i < n → f i ≡ 0
  sum_none zero e i h = absurd (omega arith)
  sum_none (suc n) e i h =
      elim (dec_le n i) [
        | yes l ↦ let same : n ≡ i = omega arith in let last : f n ≡ 0 = omega (arith, e) in rw (← same) last
        | no l ↦ sum_none n (omega (arith, e)) i (omega arith)
      ]

  pub sum_split : (g h : ℕ → ℕ) (n : ℕ) → ((i : ℕ) → i < n → f i ≡ g i + h i) → sum f n ≡ sum g n + sum h n
  sum_split g h zero e = refl
  sum_split g h (suc n) e = omega (arith, sum_split g h n (λ i l. e i (omega arith)), e n (omega arith))

  pub sum_most : ((i : ℕ) → f i ≤ 1) → (n : ℕ) → sum f n ≤ n
  sum_most h zero = omega arith
  sum_most h (suc n) = omega (arith, sum_most h n, h n)

  -- where the values are 0 the sum stands
  pub sum_stands : (m n : ℕ) → m ≤ n → ((i : ℕ) → m ≤ i → i < n → f i ≡ 0) → sum f m ≡ sum f n
  sum_stands m zero l h = let none : m ≡ 0 = omega arith in rw none
  sum_stands m (suc n) l h =
      elim (dec_le m n) [
        | yes k ↦ omega (arith, sum_stands m n k (λ i a b. h i a (omega arith)), h n k (omega arith))
        | no k ↦ let same : m ≡ suc n = omega arith in ap (sum f) same
      ]

-- sums of functions that are the same but at one index
module _ (f g : ℕ → ℕ) where
  sum_same : (n : ℕ) → ((j : ℕ) → j < n → f j ≡ g j) → sum f n ≡ sum g n
  sum_same zero e = refl
  sum_same (suc n) e = omega (arith, sum_same n (λ j h. e j (omega arith)), e n (omega arith))

  pub sum_change : (n i : ℕ) → i < n → ((j : ℕ) → j < n → (j ≡ i → ⊥) → f j ≡ g j) → sum f n + g i ≡ sum g n + f i
  sum_change zero i h e = absurd (omega arith)
  sum_change (suc n) i h e =
      elim (dec_le n i) [
        | yes l ↦
            let last : i ≡ n = omega arith in
            rw last (omega (arith, sum_same n (λ j k. e j (omega arith) (λ q. omega arith))))
        | no l ↦ omega (arith, sum_change n i (omega arith) (λ j k q. e j (omega arith) q), e n (omega arith) (λ q. omega arith))
      ]
