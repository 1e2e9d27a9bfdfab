-- The three cases of the rule of steps in the code's order.
use Rattle.lattice.specs.Directions.{point, left_of}
use Rattle.steps.specs.Look.{map_at}
use Rattle.steps.specs.Rule.{turns_right, goes_straight, turns_left}
use Rattle.steps.proofs.next_digit.Goals as goal

pub returns-then-ahead_right-r : goal.returns-then-ahead_right-r
returns-then-ahead_right-r c =
    let a = c.args in
    turns_right (map_at a.side a.map.now) a.r (point a.x a.y) c.requires.3 c.around-ahead_right.ensures
    c.if-ahead_right-r.true c.right-right.ensures

pub returns-then-ahead_left-r : goal.returns-then-ahead_left-r
unfolding left_of
returns-then-ahead_left-r c =
    let a = c.args in
    goes_straight (map_at a.side a.map.now) a.r (point a.x a.y) c.requires.3 c.around-ahead_right.ensures
    c.if-ahead_right-r.false c.around-ahead_left.ensures c.if-ahead_left-r.true

pub returns : goal.returns
unfolding left_of
returns c =
    let a = c.args in
    turns_left (map_at a.side a.map.now) a.r (point a.x a.y) c.requires.3 c.around-ahead_right.ensures
    c.if-ahead_right-r.false c.around-ahead_left.ensures c.if-ahead_left-r.false
