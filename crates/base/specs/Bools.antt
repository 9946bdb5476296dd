-- Tests and what they show: `T b` says that the test b came out true.
-- Assumes nothing.
use Rattle.std.specs.Prelude.{◌≡◌, refl, Bool, true, false, not, ◌&&◌, ◌||◌, T}

pub by_cases : {P : Type 0} (b : Bool) → (T b → P) → (T (not b) → P) → P
by_cases true f g = f tt
by_cases false f g = g tt

pub and_intro : (a b : Bool) → T a → T b → T (a && b)
and_intro true b s t = t
and_intro false b s t = s

pub and_left : (a b : Bool) → T (a && b) → T a
and_left true b t = tt
and_left false b t = t

pub and_right : (a b : Bool) → T (a && b) → T b
and_right true b t = t
and_right false b t = absurd t

pub neither : (a b : Bool) → T (not a) → T (not b) → T (not (a || b))
neither true b s t = s
neither false b s t = t

pub neither_left : (a b : Bool) → T (not (a || b)) → T (not a)
neither_left true b t = t
neither_left false b t = tt

pub neither_right : (a b : Bool) → T (not (a || b)) → T (not b)
neither_right true b t = absurd t
neither_right false b t = t

pub holds : (b : Bool) → b ≡ true → T b
holds b e = rw e tt

pub fails : (b : Bool) → b ≡ false → T (not b)
fails b e = rw e tt

pub is_true : (b : Bool) → T b → b ≡ true
is_true true t = refl
is_true false t = absurd t

pub is_false : (b : Bool) → T (not b) → b ≡ false
is_false true t = absurd t
is_false false t = refl
