-- M with x, and then the space with y in the tail that is lent: two pieces laid one after the other.
use mathlib.Core.List.{◌∷◌}
use Prim.Native.Nat.{◌%◌, ◌/◌, ◌≤◌, ◌<◌}
use native.Mathlib.Omega.{arith}
use Rattle.lattice.specs.Directions.{x_of, y_of}
use Rattle.lattice.specs.CycleForm.{inside_says}
use Rattle.decimals.specs.Decimal.{decimal}
use Rattle.svg.specs.Svg.{word}
use Rattle.answers.specs.Put.{put_both}
use Rattle.svg.specs.Stores.{number_short}
use Rattle.svg.proofs.text.put_first.Goals as goal

pub slice_bounds-put_number-count : goal.slice_bounds-put_number-count
slice_bounds-put_number-count c =
    let x-short : c.put_number-n.result ≤ 4 = number_short 77 (c.args.c % 512) c.put_number-n.result (omega arith) c.put_number-n.ensures.count_is in
    omega (arith, x-short, c.put_number-n.auto.text)

pub slice_bounds-put_number-start : goal.slice_bounds-put_number-start
slice_bounds-put_number-start c =
    let x-short : c.put_number-n.result ≤ 4 = number_short 77 (c.args.c % 512) c.put_number-n.result (omega arith) c.put_number-n.ensures.count_is in
    omega (arith, x-short, c.put_number-n.auto.text)

pub put_number-m-requires : goal.put_number-m-requires
unfolding y_of
put_number-m-requires c =
    let x-short : c.put_number-n.result ≤ 4 = number_short 77 (c.args.c % 512) c.put_number-n.result (omega arith) c.put_number-n.ensures.count_is in
    let y-small : c.args.c / 512 < 1000 = omega (arith, inside_says c.args.c c.requires.1) in
    omega (arith, x-short, y-small, c.put_number-n.auto.text)

pub overflow_add-result : goal.overflow_add-result
unfolding y_of
overflow_add-result c =
    let x-short : c.put_number-n.result ≤ 4 = number_short 77 (c.args.c % 512) c.put_number-n.result (omega arith) c.put_number-n.ensures.count_is in
    let y-small : c.args.c / 512 < 1000 = omega (arith, inside_says c.args.c c.requires.1) in
    let y-short : c.put_number-m.result ≤ 4 = number_short 32 (c.args.c / 512) c.put_number-m.result y-small c.put_number-m.ensures.count_is in
    omega (arith, x-short, y-short)

pub returns : goal.returns
unfolding word x_of y_of
returns c =
    let p = c.put_number-n in
    let q = c.put_number-m in
    let a = c.args in
    put_both (77 ∷ decimal (a.c % 512)) (32 ∷ decimal (a.c / 512)) a.text.now q.new.text p.result q.result p.ensures q.ensures
