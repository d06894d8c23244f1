-- `mesh_file::writer::is_finite` meets its contract. What is no number is not finite; any other float has bits, and reading them back gives the float.
-- Assumes nothing.
use Rattle.std.proofs.Common.{true, not, T, arith, ◌≡◌, ◌∙◌, ap, sym, subst}
use lib.Ieee.{is_nan, binary32}
use lib.Ieee.Bits.{of_bits-to_bits}
use Rattle.mesh_file.specs.Mesh.{finite}
use Rattle.mesh_record.proofs.OneWord.{nan-not-finite}
use Rattle.mesh_file.proofs.writer.is_finite.Goals as goal

pub returns-then-not-is_nan : goal.returns-then-not-is_nan
returns-then-not-is_nan c =
    c.finite_bits.ensures ∙ ap finite (of_bits-to_bits binary32 c.args.x (subst T (sym c.well_formed.0.1) tt))

pub returns-else-not-is_nan : goal.returns-else-not-is_nan
returns-else-not-is_nan c =
    let n : is_nan c.args.x ≡ true = grind arith in
    ap not c.if-not-is_nan.false ∙ nan-not-finite c.args.x n
