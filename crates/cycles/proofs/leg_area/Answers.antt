-- The three numbers are small, so 32 bits hold the difference of two and its product with the third.
use Rattle.cycles.specs.Areas.{x_fits, y_fits, z_fits, change_fits, product_fits, product_read}
use Rattle.cycles.proofs.leg_area.Goals as goal

pub overflow_cast-result : goal.overflow_cast-result
overflow_cast-result c = x_fits c.args.x c.args.y c.args.z c.requires

pub overflow_cast-result-2 : goal.overflow_cast-result-2
overflow_cast-result-2 c = z_fits c.args.x c.args.y c.args.z c.requires

pub overflow_cast-result-3 : goal.overflow_cast-result-3
overflow_cast-result-3 c = y_fits c.args.x c.args.y c.args.z c.requires

pub overflow_sub-result : goal.overflow_sub-result
overflow_sub-result c = change_fits c.args.x c.args.y c.args.z c.requires

pub overflow_mul-result : goal.overflow_mul-result
overflow_mul-result c = product_fits c.args.x c.args.y c.args.z c.requires

pub returns : goal.returns
returns c = product_read c.args.x c.args.y c.args.z c.requires
