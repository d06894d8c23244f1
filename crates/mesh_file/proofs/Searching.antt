-- Searches: a chain's `any` is `some`, and where the search for a float that is not finite finds none, all are. Assumes nothing.
use mathlib.Core.Path.{◌≡◌, refl, ap, subst}
use mathlib.Core.Bool.{Bool, true, false, not, ◌||◌}
use mathlib.Core.List.{List, [], ◌∷◌}
use lib.Dec.{T}
use lib.ListN.{get_or}
use lib.Ieee.{Float, nan}
use Rattle.std.specs.List.{list_any}
use Rattle.lists.specs.Lists.{some}
use Rattle.lists.proofs.Searching.{none-at}
use Rattle.mesh_file.specs.Mesh.{finite, AllFinite}
use Rattle.mesh_file.specs.Writing.{not_finite}

-- the library's word and this repository's
pub any-some : {A : Type 0} (p : A → Bool) (xs : List A) → list_any p xs ≡ some p xs
unfolding some
any-some p [] = refl
any-some p (x ∷ xs) = ap (λ (b : Bool). p x || b) (any-some p xs)

not-not : (b : Bool) → not b ≡ false → T b
not-not true e = tt
not-not false e = absurd (subst T e tt)

pub all-finite : (xs : List Float) → some not_finite xs ≡ false → AllFinite xs
all-finite xs e i h = not-not (finite (get_or xs i nan)) (none-at not_finite nan xs e i h)
