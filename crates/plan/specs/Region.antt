-- What the code says of itself: of each axis the lowest points of the edges that a block owns, as a box of points, and two such boxes side by side.
-- That they are the owned edges is proved (proofs/Regions, `owned-box`); of public contracts `owned_by`'s alone speaks of them. Definitions only. Assumes nothing.
use Rattle.std.specs.Prelude.{ℕ, ◌+◌, ◌-◌, Bool, ◌&&◌, ◌||◌, cond, leb, ltb}
use Rattle.rules.specs.Grid.{Box}
use Rattle.plan.specs.declared.Block.{Block}
use Rattle.plan.specs.declared.region.Span.{Span}
use Rattle.plan.specs.Triples.{Region}
use Rattle.plan.specs.Triples.{Owned}

abbrev pub along_span : ℕ → ℕ → Bool → Span
along_span low high plane = record { from = low; to = cond plane high (high - 1) }

abbrev pub across_span : ℕ → ℕ → Span
across_span low high = record { from = low + 1; to = high }

unfoldable pub owned_of : Block → Owned
owned_of b =
    record {
      x = record { x = along_span b.min_x b.max_x b.max_plane_x; y = across_span b.min_y b.max_y; z = across_span b.min_z b.max_z };
      y = record { x = across_span b.min_x b.max_x; y = along_span b.min_y b.max_y b.max_plane_y; z = across_span b.min_z b.max_z };
      z = record { x = across_span b.min_x b.max_x; y = across_span b.min_y b.max_y; z = along_span b.min_z b.max_z b.max_plane_z };
    }

-- a box of points as the rules have one: its points are the cells of the box
abbrev pub box_of : Region → Box
box_of r = record { low = record { x = r.x.from; y = r.y.from; z = r.z.from }; high = record { x = r.x.to; y = r.y.to; z = r.z.to } }

-- ---- some point in both

abbrev pub spans_meet : Span → Span → Bool
spans_meet a b = ((ltb a.from a.to && ltb b.from b.to) && ltb a.from b.to) && ltb b.from a.to

unfoldable pub regions_meet : Region → Region → Bool
regions_meet a b = (spans_meet a.x b.x && spans_meet a.y b.y) && spans_meet a.z b.z

unfoldable pub owned_meet : Owned → Owned → Bool
owned_meet a b = (regions_meet a.x b.x || regions_meet a.y b.y) || regions_meet a.z b.z

-- ---- no point outside

abbrev pub span_empty : Span → Bool
span_empty a = leb a.to a.from

abbrev pub span_within : Span → Span → Bool
span_within a w = leb w.from a.from && leb a.to w.to

unfoldable pub region_inside : Region → Region → Bool
region_inside a w =
    ((span_empty a.x || span_empty a.y) || span_empty a.z)
    || ((span_within a.x w.x && span_within a.y w.y) && span_within a.z w.z)

unfoldable pub owned_inside : Owned → Owned → Bool
owned_inside a w = (region_inside a.x w.x && region_inside a.y w.y) && region_inside a.z w.z
