-- What the checks of one record open: its faults. Assumes nothing.
use Rattle.mesh_record.specs.Faults.{bad_sum, bad_kind, bad_zero, bad_counts, bad_index, bad_float, bad_end, fault_of}

unfoldable pub faults : Unit {0}
unfolding bad_sum bad_kind bad_zero bad_counts bad_index bad_float bad_end fault_of
faults = tt
