-- What the promises of the chain reader and then of the writer of path data say where a caller of both stands (document 02, m).
use Rattle.std.specs.Prelude.{◌≡◌, List, ℕ, ◌+◌, ◌*◌, ◌≤◌, length, take}
use Rattle.answers.specs.Answers.{no_cause, Wrote, accepted_writes}
use Rattle.answers.specs.declared.Written.{Written}
use Rattle.lattice.specs.CycleForm.{cycle_form}
use Rattle.svg.specs.Svg.{path_data, svg_need, svg_number, Svg}
use Rattle.chains.specs.ChainForm.{ChainRead}
use Rattle.chains.specs.Callers.{gives_the_one_cycle_form}

-- "and from them SVG path data": the corners of an accepted string, lent to the writer with room for 9 bytes and 4 a corner, are
-- accepted.
pub path_data_from_them : (start : ℕ) (bytes : List ℕ) {list list' text text' : List ℕ} {r w : Written} → ChainRead start bytes list list' r → r.number ≡ 0
    → Svg (take r.count list') text text' w → 9 + 4 * r.count ≤ length text → Wrote (path_data (take r.count list')) text text' w
unfolding svg_number svg_need
path_data_from_them start bytes {list} {list'} {text} {text'} {r} {w} reads ok writes room =
    let cs = take r.count list' in
    let f = gives_the_one_cycle_form start bytes reads ok in
    let z = no_cause 16 (cycle_form cs) (9 + 4 * length cs) (length text) f.form (rw f.counted room) in
    accepted_writes (svg_number cs text) (path_data cs) text text' w writes z
