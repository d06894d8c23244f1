-- Document 01, "Cutting a box": the faces of the pieces together are the faces of the whole, each once, with the same corners; so their
-- number is the whole's count of changing edges. For any plan whose pieces part ownership, with any flags. Assumes nothing.
use Prim.Native.Nat.{ℕ, ◌+◌, ◌≤◌}
use native.Mathlib.Omega.{arith}
use mathlib.Core.Bool.{false}
use mathlib.Core.List.{List, [], ◌∷◌, ◌++◌, map, append-nil}
use mathlib.Core.Path.{◌≡◌, refl, sym, ap, ap₂, ◌∙◌}
use lib.ListN.{length, length-append}
use Rattle.lists.specs.Lists.{many, joined}
use Rattle.rules.specs.Grid.{Axis, axis_x, axis_y, axis_z, Field, along}
use Rattle.rules.specs.Faces.{Edge, flag, owned, changes, gives, edges, changing_edges}
use Rattle.rules.specs.Cutting.{Piece, Cuts, uncut, cut, pieces, Fits, Plan, lower_piece, upper_piece, face_of}
use Rattle.lists.proofs.Lists.{all-each, map-joined, joined_same, many-append, many-and, many-joined-once}
use Rattle.lists.proofs.Permutation.{Perm, perm-length, perm-map, perm-counts}
use Rattle.rules.proofs.Edges.{same_edge, same_edge-sound, same_edge-itself, edges-once}
use Rattle.rules.proofs.Ownership.{has, two-pieces}
use Rattle.rules.proofs.Seen.{edges_of, seen, seen-is, seen-number}

pub cuts-plan : (t : Cuts) (w : Piece) → Fits t w → Plan (pieces t w) w
unfolding pieces many
cuts-plan uncut w h e = omega arith
cuts-plan (cut a k lower upper) w h e =
    many-append (λ (q : Piece). owned q.box q.flags e) (pieces lower (lower_piece a k w)) (pieces upper (upper_piece a k w))
    ∙ ap₂ ◌+◌ (cuts-plan lower (lower_piece a k w) h.2 e) (cuts-plan upper (upper_piece a k w) h.3 e)
    ∙ two-pieces a k w e h.0 h.1

pub edge-law : (g : Field) (ps : List Piece) (w : Piece) → Plan ps w → Perm (joined (λ (q : Piece). edges g q.box q.flags) ps) (edges g w.box w.flags)
edge-law g ps w h = perm-counts same_edge same_edge-sound same_edge-itself (joined (edges_of g) ps) (edges_of g w) counts
  where
    counts : (e : Edge) → many (same_edge e) (joined (edges_of g) ps) ≡ many (same_edge e) (edges_of g w)
    counts e =
        many-joined-once (same_edge e) (edges_of g) (λ (q : Piece). gives g q.box q.flags e) (λ q. edges-once g q.box q.flags e) ps
        ∙ many-and (λ (q : Piece). has q e) (changes g e) ps (has w e) (h e)
        ∙ sym (edges-once g w.box w.flags e)

-- ---- the law of cutting

pub mesh-law : (g : Field) (ps : List Piece) (w : Piece) → Plan ps w → Perm (joined (seen g) ps) (seen g w)
mesh-law g ps w h = rw (all_seen, seen-is g w) (perm-map (face_of g) (edge-law g ps w h))
  where
    all_seen : joined (seen g) ps ≡ map (face_of g) (joined (edges_of g) ps)
    all_seen = joined_same (all-each (seen-is g) ps) ∙ sym (map-joined (edges_of g) (face_of g) ps)

pub number-law : (g : Field) (ps : List Piece) (w : Piece) → Plan ps w → length (joined (seen g) ps) ≡ changing_edges g w.box w.flags
number-law g ps w h = perm-length (mesh-law g ps w h) ∙ seen-number g w

-- "A cut on an axis at k, min ≤ k < max there": the two laws for any run of cuts
pub cut-law : (g : Field) (t : Cuts) (w : Piece) → Fits t w
    → Perm (joined (seen g) (pieces t w)) (seen g w) × (length (joined (seen g) (pieces t w)) ≡ changing_edges g w.box w.flags)
cut-law g t w h = (mesh-law g (pieces t w) w (cuts-plan t w h), number-law g (pieces t w) w (cuts-plan t w h))

-- ---- "At k = max - 1 the lower piece is the whole and the upper has no face. With max plane this is not so"

pub last-lower : (a : Axis) (k : ℕ) (w : Piece) → k + 1 ≡ along a w.box.high → flag a w.flags ≡ false → lower_piece a k w ≡ w
last-lower axis_x k w h f =
    λ i.
    record {
      box = record { low = w.box.low; high = record { x = h i; y = w.box.high.y; z = w.box.high.z } };
      flags = record { x = sym f i; y = w.flags.y; z = w.flags.z };
    }
last-lower axis_y k w h f =
    λ i.
    record {
      box = record { low = w.box.low; high = record { x = w.box.high.x; y = h i; z = w.box.high.z } };
      flags = record { x = w.flags.x; y = sym f i; z = w.flags.z };
    }
last-lower axis_z k w h f =
    λ i.
    record {
      box = record { low = w.box.low; high = record { x = w.box.high.x; y = w.box.high.y; z = h i } };
      flags = record { x = w.flags.x; y = w.flags.y; z = sym f i };
    }

empty : {A : Type 0} (l : List A) → length l ≡ 0 → l ≡ []
empty [] h = refl
empty (x ∷ xs) h = absurd (omega arith)

pub last-upper : (g : Field) (a : Axis) (k : ℕ) (w : Piece) → along a w.box.low ≤ k → k + 1 ≡ along a w.box.high → flag a w.flags ≡ false
    → seen g (upper_piece a k w) ≡ []
unfolding joined pieces
last-upper g a k w l h f = empty (seen g (upper_piece a k w)) (omega (arith, both, together, ap (λ q. length (seen g q)) (last-lower a k w h f), seen-number g w))
  where
    both : length (seen g (lower_piece a k w) ++ (seen g (upper_piece a k w) ++ [])) ≡ changing_edges g w.box w.flags
    both = (cut-law g (cut a k uncut uncut) w (l, omega arith, tt, tt)).1

    together : length (seen g (lower_piece a k w) ++ (seen g (upper_piece a k w) ++ [])) ≡ length (seen g (lower_piece a k w)) + length (seen g (upper_piece a k w))
    together = length-append (seen g (lower_piece a k w)) (seen g (upper_piece a k w) ++ []) ∙ ap (λ r. length (seen g (lower_piece a k w)) + length r)
        (append-nil (seen g (upper_piece a k w)))
