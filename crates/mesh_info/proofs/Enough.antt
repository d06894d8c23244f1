-- A file of at most 65,536 bytes has at most 2,047 vertices or triangles, so with room for those the answer is never 29. Assumes nothing.
use Rattle.std.proofs.Common.{◌≡◌, ℕ, ◌*◌, ◌≤◌, List, length, le-ltb, refl, arith}
use Rattle.mesh_file.specs.Reading.{Progress, reading, whole, refused, read_of, checked, reading_with}
use Rattle.mesh_file.proofs.Accepted.{whole_length}

pub enough : (f : List ℕ) (p n i : ℕ) → length f ≤ 65536 → 6141 ≤ p → 6141 ≤ n → 6141 ≤ i → reading_with (read_of f) p n i ≡ checked (read_of f)
enough f p n i h a b c = go (read_of f) refl
  where
    go : (x : Progress) → read_of f ≡ x → reading_with x p n i ≡ checked x
    go (reading v t) e = refl
    go (whole v t) e =
        let l = whole_length f v t e in
        let x = le-ltb p (3 * v) (omega arith) in
        let y = le-ltb n (3 * v) (omega arith) in
        let z = le-ltb i (3 * t) (omega arith) in
        rw (x, y, z) refl
    go (refused n) e = refl
