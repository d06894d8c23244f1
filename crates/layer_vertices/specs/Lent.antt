-- The lent lists as contracts have them, said once: a parameter in a `requires`, and its pair of entry and exit in an `ensures`. Definitions only.
-- Assumes nothing.
use Rattle.std.specs.Prelude.{ℕ, List, Float}
use Rattle.std.specs.Borrow.{MutBor}
use denote.Triple.Both.{Both}
use Rattle.layer_vertices.specs.Marked.{Lists, lists}
use Rattle.layer_vertices.specs.Cells.{Finds, finds}

-- a list that is lent for writing: where a call begins, and where it ends
abbrev pub Lent : Type 0 → Type 0
Lent A = Both (MutBor (List A)) (MutBor (List A))

abbrev pub lists_given : MutBor (List Float) → MutBor (List Float) → MutBor (List ℕ) → MutBor (List ℕ) → MutBor (List ℕ) → MutBor (List ℕ) → Lists
lists_given positions normals cells strides crossings map = lists positions.now normals.now cells.now strides.now crossings.now map.now

abbrev pub lists_before : Lent Float → Lent Float → Lent ℕ → Lent ℕ → Lent ℕ → Lent ℕ → Lists
lists_before positions normals cells strides crossings map =
    lists_given positions.entry normals.entry cells.entry strides.entry crossings.entry map.entry

abbrev pub lists_after : Lent Float → Lent Float → Lent ℕ → Lent ℕ → Lent ℕ → Lent ℕ → Lists
lists_after positions normals cells strides crossings map =
    lists_given positions.exit normals.exit cells.exit strides.exit crossings.exit map.exit

-- those that finding the surface cells writes
abbrev pub finds_given : MutBor (List ℕ) → MutBor (List ℕ) → MutBor (List ℕ) → Finds
finds_given cells strides map = finds cells.now strides.now map.now

abbrev pub finds_before : Lent ℕ → Lent ℕ → Lent ℕ → Finds
finds_before cells strides map = finds_given cells.entry strides.entry map.entry

abbrev pub finds_after : Lent ℕ → Lent ℕ → Lent ℕ → Finds
finds_after cells strides map = finds_given cells.exit strides.exit map.exit
