-- The lent lists as contracts have them, said once: a parameter in a `requires`, and its pair of entry and exit in an `ensures`. Definitions only.
-- Assumes nothing.
use Rattle.std.specs.Prelude.{ℕ, List, Float}
use Rattle.std.specs.Borrow.{MutBor}
use Rattle.layer_vertices.specs.Lent.{Lent}
use Rattle.layers.specs.Memory.{Memory, memory}
use Rattle.layers.specs.Offer.{Output, output}

abbrev pub memory_before : Lent Float → Lent ℕ → Lent Float → Memory
memory_before distances map positions = memory distances.entry.now map.entry.now positions.entry.now

abbrev pub memory_after : Lent Float → Lent ℕ → Lent Float → Memory
memory_after distances map positions = memory distances.exit.now map.exit.now positions.exit.now

abbrev pub output_given : MutBor (List Float) → MutBor (List Float) → MutBor (List ℕ) → MutBor (List ℕ) → MutBor (List ℕ) → MutBor (List ℕ) → Output
output_given positions normals cells strides crossings indices = output positions.now normals.now cells.now strides.now crossings.now indices.now

abbrev pub output_before : Lent Float → Lent Float → Lent ℕ → Lent ℕ → Lent ℕ → Lent ℕ → Output
output_before positions normals cells strides crossings indices =
    output_given positions.entry normals.entry cells.entry strides.entry crossings.entry indices.entry

abbrev pub output_after : Lent Float → Lent Float → Lent ℕ → Lent ℕ → Lent ℕ → Lent ℕ → Output
output_after positions normals cells strides crossings indices =
    output_given positions.exit normals.exit cells.exit strides.exit crossings.exit indices.exit
