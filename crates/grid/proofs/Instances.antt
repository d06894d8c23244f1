-- A type of distances as a theorem over a generic function's contract takes it, and the three that there are: floats, and whole numbers of 16 and of 8 bits
-- (document 02, request 5). Assumes nothing.
use mathlib.Core.List.{List}
use mathlib.Core.Path.{refl}
use lib.Ieee.{binary32}
use mir.Syntax.{Dict, ty_float, ty_int, w8, w16}
use denote.RattleType.{RattleType}
use denote.Exit
use denote.Param.{arg}
use denote.Param.Laws.{Laws, IsCopy, arg_laws, arg_copy, of_field, of_copyable}
use denote.Param.Shared.{copy_shared}
use denote.Struct.Field.{f32-field, i16-field, i8-field}
use denote.Struct.Laws.{f32-laws, f32-copy, i16-laws, i16-copy, i8-laws, i8-copy}
use Rattle.std.specs.declared.clone.Clone
use Rattle.std.specs.contracts.prelude.F32Clone.TheImpl as f32-clone
use Rattle.std.specs.contracts.prelude.I16Clone.TheImpl as i16-clone
use Rattle.std.specs.contracts.prelude.I8Clone.TheImpl as i8-clone
use Rattle.lists.specs.Floats.{Binary32}
use Rattle.grid.specs.declared.values.Distance
use Rattle.grid.proofs.Widths.{wholes-fit}
use Rattle.grid.specs.contracts.values.F32Distance.TheImpl as f32-distance
use Rattle.grid.specs.contracts.values.I16Distance.TheImpl as i16-distance
use Rattle.grid.specs.contracts.values.I8Distance.TheImpl as i8-distance

-- the type, and what a generic function is passed with it
pub record DistanceType : Type 2 where
  pub type : RattleType
  pub laws : Laws type
  pub copy : IsCopy type
  pub distance : Distance.Ghosts type.Denot
  pub distance_dict : Dict
  pub clone : Clone.Ghosts type.Denot
  pub clone_dict : Dict
  -- what is known of a list's numbers says that their floats are such of 32 bits
  pub fit : (l : List type.Denot) → distance.held l → Binary32 (distance.floats l)

abbrev pub float-type : DistanceType
float-type =
    record {
      type = arg (ty_float binary32) Exit.no f32-field.row;
      laws = arg_laws (ty_float binary32) Exit.no f32-field.row (of_field f32-field f32-laws refl (copy_shared f32-field f32-copy)) refl;
      copy = arg_copy (ty_float binary32) Exit.no f32-field.row (of_copyable f32-field f32-copy) refl;
      distance = f32-distance.ghosts;
      distance_dict = f32-distance.dict;
      clone = f32-clone.ghosts;
      clone_dict = f32-clone.dict;
      fit = λ l h. h;
    }

abbrev pub sixteen-type : DistanceType
sixteen-type =
    record {
      type = arg (ty_int w16) Exit.no i16-field.row;
      laws = arg_laws (ty_int w16) Exit.no i16-field.row (of_field i16-field i16-laws refl (copy_shared i16-field i16-copy)) refl;
      copy = arg_copy (ty_int w16) Exit.no i16-field.row (of_copyable i16-field i16-copy) refl;
      distance = i16-distance.ghosts;
      distance_dict = i16-distance.dict;
      clone = i16-clone.ghosts;
      clone_dict = i16-clone.dict;
      fit = λ l h. wholes-fit l;
    }

abbrev pub eight-type : DistanceType
eight-type =
    record {
      type = arg (ty_int w8) Exit.no i8-field.row;
      laws = arg_laws (ty_int w8) Exit.no i8-field.row (of_field i8-field i8-laws refl (copy_shared i8-field i8-copy)) refl;
      copy = arg_copy (ty_int w8) Exit.no i8-field.row (of_copyable i8-field i8-copy) refl;
      distance = i8-distance.ghosts;
      distance_dict = i8-distance.dict;
      clone = i8-clone.ghosts;
      clone_dict = i8-clone.dict;
      fit = λ l h. wholes-fit l;
    }
