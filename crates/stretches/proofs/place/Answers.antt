-- Each test is the definition's, in its order; where one fails the place is the empty stretch at 0.
use Rattle.std.proofs.Common.{◌≤◌, ◌<◌, refl, length, arith}
use Rattle.stretches.specs.Stretch.{begin_of, end_of, empty, place_is, none_of_count, none_of_ends, none_backward, none_past, some_stretch}
use Rattle.stretches.proofs.place.Goals as goal

pub returns-then-count-k : goal.returns-then-count-k
returns-then-count-k c =
    let a = c.args in
    place_is _ (none_of_count (length a.corners.now) a.ends.now a.count a.k c.if-count-k.true) refl refl

pub returns-in_err-end : goal.returns-in_err-end
returns-in_err-end c =
    let a = c.args in
    rw c.from_residual.ensures
    (place_is empty (none_of_ends (length a.corners.now) a.ends.now a.count a.k c.if-count-k.false c.in_err-end.ensures.lookup.3) refl refl)

pub returns-in_err-length : goal.returns-in_err-length
unfolding end_of
returns-in_err-length c =
    let a = c.args in
    let there = c.in_ok-end.ensures.lookup.3 in
    let back : end_of a.ends.now a.k < begin_of a.ends.now a.k = omega (arith, c.begin-start.ensures, there.1 0, c.in_err-length.ensures) in
    rw c.from_residual-in_err-length.ensures
    (place_is empty (none_backward (length a.corners.now) a.ends.now a.count a.k c.if-count-k.false there.0 back) refl refl)

pub returns-then-corners-end : goal.returns-then-corners-end
unfolding end_of
returns-then-corners-end c =
    let a = c.args in
    let there = c.in_ok-end.ensures.lookup.3 in
    let forward : begin_of a.ends.now a.k ≤ end_of a.ends.now a.k = omega (arith, c.begin-start.ensures, there.1 0, c.in_ok-length.ensures) in
    place_is _ (none_past (length a.corners.now) a.ends.now a.count a.k c.if-count-k.false there.0 forward (omega (arith, there.1 0, c.if-corners-end.true))) refl refl

pub returns : goal.returns
unfolding end_of
returns c =
    let a = c.args in
    let there = c.in_ok-end.ensures.lookup.3 in
    let forward : begin_of a.ends.now a.k ≤ end_of a.ends.now a.k = omega (arith, c.begin-start.ensures, there.1 0, c.in_ok-length.ensures) in
    let is = some_stretch (length a.corners.now) a.ends.now a.count a.k c.if-count-k.false there.0 forward (omega (arith, there.1 0, c.if-corners-end.false)) in
    place_is _ is c.begin-start.ensures (omega (arith, c.begin-start.ensures, there.1 0, c.in_ok-length.ensures))
