-- Each way out by the tests that led there. Assumes nothing.
use native.Mathlib.Omega.{arith}
use Rattle.judge.specs.AsRules.{room_of}
use Rattle.judge.proofs.Judging.{positions-short, normals-short, cells-short, strides-short, crossings-short, indices-short, room-enough}
use Rattle.judge.proofs.room_answer.Goals as goal

pub returns-then-room-three : goal.returns-then-room-three
returns-then-room-three c = let t = c.args.t in positions-short (room_of c.args.room) t.vertices t.indices c.if-room-three.true

pub returns-then-room-three-2 : goal.returns-then-room-three-2
returns-then-room-three-2 c =
    let t = c.args.t in
    normals-short (room_of c.args.room) t.vertices t.indices c.if-room-three.false c.if-room-three-2.true

pub returns-then-room-three-3 : goal.returns-then-room-three-3
returns-then-room-three-3 c =
    let t = c.args.t in
    cells-short (room_of c.args.room) t.vertices t.indices c.if-room-three.false c.if-room-three-2.false c.if-room-three-3.true

pub returns-then-room-t : goal.returns-then-room-t
returns-then-room-t c =
    let t = c.args.t in
    strides-short (room_of c.args.room) t.vertices t.indices c.if-room-three.false c.if-room-three-2.false c.if-room-three-3.false c.if-room-t.true

pub returns-then-room-t-2 : goal.returns-then-room-t-2
returns-then-room-t-2 c =
    let t = c.args.t in
    let p = c.if-room-three.false in
    let n = c.if-room-three-2.false in
    let l = c.if-room-three-3.false in
    let s = c.if-room-t.false in
    crossings-short (room_of c.args.room) t.vertices t.indices p n l s c.if-room-t-2.true

-- that each test before it failed is found by its fact, not by its name
pub returns-then-room-t-3 : goal.returns-then-room-t-3
returns-then-room-t-3 c =
    let t = c.args.t in
    indices-short (room_of c.args.room) t.vertices t.indices (omega arith) (omega arith) (omega arith) (omega arith) (omega arith) c.if-room-t-3.true

pub returns : goal.returns
returns c =
    let t = c.args.t in
    let p = c.if-room-three.false in
    let n = c.if-room-three-2.false in
    let l = c.if-room-three-3.false in
    let s = c.if-room-t.false in
    let x = c.if-room-t-2.false in
    room-enough (room_of c.args.room) t.vertices t.indices p n l s x c.if-room-t-3.false
