-- What an `or` of two tests says of each of them. Assumes nothing.
use mathlib.Core.Path.{◌≡◌, refl}
use mathlib.Core.Bool.{Bool, true, false, ◌||◌}

pub or_left : (a b : Bool) → a || b ≡ false → a ≡ false
or_left true b e = e
or_left false b e = refl

pub or_right : (a b : Bool) → a || b ≡ false → b ≡ false
or_right true true e = e
or_right true false e = refl
or_right false b e = e

pub or-first : (a b : Bool) → a ≡ true → a || b ≡ true
or-first true b e = refl
or-first false true e = refl
or-first false false e = e

pub or-second : (a b : Bool) → b ≡ true → a || b ≡ true
or-second true b e = refl
or-second false b e = e

pub or-none : (a b : Bool) → a ≡ false → b ≡ false → a || b ≡ false
or-none true b e q = e
or-none false b e q = q
