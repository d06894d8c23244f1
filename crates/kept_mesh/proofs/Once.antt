-- Document 01, "What a claim has to settle": "Show that two outcomes that fit are equal". For each public function of mesh_file, and the four of bed::files,
-- one outcome alone fits the contract: the result, and every list behind a `&mut` afterwards, refused calls too. Assumes nothing.
use mathlib.Core.Path.{◌∙◌, sym}
use Rattle.promises.proofs.OneOutcome.{OneOutcome}
use Rattle.mesh_file.proofs.Results.{read-injective, wrote-injective}
use Rattle.mesh_file.proofs.check_file.Kinds as check-file-kinds
use Rattle.mesh_file.proofs.check_file.Reads as check-file
use Rattle.mesh_file.proofs.write_mesh.Kinds as write-mesh-kinds
use Rattle.mesh_file.proofs.write_mesh.Reads as write-mesh
use Rattle.mesh_file.proofs.read_mesh.Kinds as read-mesh-kinds
use Rattle.mesh_file.proofs.read_mesh.Reads as read-mesh
use Rattle.bed.proofs.files.bed_write_mesh.Kinds as bed-write-mesh-kinds
use Rattle.bed.proofs.files.bed_write_mesh.Reads as bed-write-mesh
use Rattle.bed.proofs.files.bed_write_record.Kinds as bed-write-record-kinds
use Rattle.bed.proofs.files.bed_write_record.Reads as bed-write-record
use Rattle.bed.proofs.files.bed_read_mesh.Kinds as bed-read-mesh-kinds
use Rattle.bed.proofs.files.bed_read_mesh.Reads as bed-read-mesh
use Rattle.bed.proofs.files.bed_check_mesh.Kinds as bed-check-mesh-kinds
use Rattle.bed.proofs.files.bed_check_mesh.Reads as bed-check-mesh

-- the answer and the counts of a whole file
pub check-file-once : OneOutcome 1 check-file-kinds.ps check-file-kinds.r check-file.Learnt
check-file-once κs a o o' l l' = let s = read-injective o.result o'.result (l ∙ sym l') in λ i. record { result = s i; last = o.last }

-- the answer and the number of bytes, and the lent file
pub write-mesh-once : OneOutcome 4 write-mesh-kinds.ps write-mesh-kinds.r write-mesh.Learnt
write-mesh-once κs a o o' l l' =
    let s = wrote-injective o.result o'.result (l.0 ∙ sym l'.0) in
    let f = l.1.0 ∙ sym l'.1.0 in
    λ i. record { result = s i; last = (tt, (tt, (tt, (f i, tt)))) }

-- the answer and the counts, and the three lent lists
pub read-mesh-once : OneOutcome 4 read-mesh-kinds.ps read-mesh-kinds.r read-mesh.Learnt
read-mesh-once κs a o o' l l' =
    let s = read-injective o.result o'.result (l.0 ∙ sym l'.0) in
    let m = l.1.0 ∙ sym l'.1.0 in
    λ i. record { result = s i; last = (tt, ((m i).positions, ((m i).normals, ((m i).indices, tt)))) }

-- the functions that C and Rust link: the counts stand behind the last parameters
pub bed-write-mesh-once : OneOutcome 5 bed-write-mesh-kinds.ps bed-write-mesh-kinds.r bed-write-mesh.Learnt
bed-write-mesh-once κs a o o' l l' =
    let s = l.0 ∙ sym l'.0 in
    let f = l.1.0 ∙ sym l'.1.0 in
    let n = l.1.1.0 ∙ sym l'.1.1.0 in
    λ i. record { result = s i; last = (tt, (tt, (tt, (f i, (n i, tt))))) }

-- one record: the answer and the lent bytes
pub bed-write-record-once : OneOutcome 1 bed-write-record-kinds.ps bed-write-record-kinds.r bed-write-record.Learnt
bed-write-record-once κs a o o' l l' =
    let s = l.0 ∙ sym l'.0 in
    let f = l.1 ∙ sym l'.1 in
    λ i. record { result = s i; last = (f i, (tt, (tt, (tt, (tt, (tt, (tt, (tt, (tt, tt))))))))) }

pub bed-read-mesh-once : OneOutcome 6 bed-read-mesh-kinds.ps bed-read-mesh-kinds.r bed-read-mesh.Learnt
bed-read-mesh-once κs a o o' l l' =
    let s = l.0 ∙ sym l'.0 in
    let m = l.1.0 ∙ sym l'.1.0 in
    let v = l.1.1.0 ∙ sym l'.1.1.0 in
    let t = l.1.1.1.0 ∙ sym l'.1.1.1.0 in
    λ i. record { result = s i; last = (tt, ((m i).positions, ((m i).normals, ((m i).indices, (v i, (t i, tt)))))) }

pub bed-check-mesh-once : OneOutcome 3 bed-check-mesh-kinds.ps bed-check-mesh-kinds.r bed-check-mesh.Learnt
bed-check-mesh-once κs a o o' l l' =
    let s = l.0 ∙ sym l'.0 in
    let v = l.1.0 ∙ sym l'.1.0 in
    let t = l.1.1.0 ∙ sym l'.1.1.0 in
    λ i. record { result = s i; last = (tt, (v i, (t i, tt))) }
