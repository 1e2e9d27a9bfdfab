-- The rule of steps as the code has it: what a step needs of an edge, and its cases in the code's numbers.
use Rattle.std.specs.Prelude.{◌≡◌, refl, ◌≢◌, ℕ, zero, suc, ◌+◌, ◌-◌, ◌/◌, ◌%◌, ◌≤◌, ◌<◌}
use Rattle.std.proofs.Math.Path.{sym}
use Rattle.std.proofs.Common.{ap₂, ◌∙◌, subst₂, arith}
use Rattle.lattice.specs.Directions.{point, x_of, y_of, move, right_of, left_of, edge}
use Rattle.lattice.specs.Outlines.{x_of_point, y_of_point, tail-edge, digit-edge}
use Rattle.grid.specs.Map.{around}
use Rattle.grid.specs.Margins.{Margin}
use Rattle.grid.specs.Steps.{Side, Edge, turn}
use Rattle.grid.specs.Undoing.{fits, go_right, go_straight, go_left}
use Rattle.steps.specs.Look.{column_at, row_at, around_at}

pub around-point : (m : ℕ → ℕ → ℕ) (x y d : ℕ) → x < 512 → m (column_at x d) (row_at y d) ≡ around m (point x y) d
around-point m x y d h = sym (ap₂ (λ a b. m (column_at a d) (row_at b d)) (x_of_point x y h) (y_of_point x y h)) ∙ around_at m (point x y) d

-- A step from the point (x, y) with the digit d leaves neither the image nor the numbers.
pub record Way (x y d : ℕ) : Type 0 where
  pub east : d ≡ 0 → x < 256
  pub north : d ≡ 1 → 0 < y
  pub west : d ≡ 2 → 0 < x
  pub south : d ≡ 3 → y < 256
  pub x_low : x ≤ 256
  pub y_low : y ≤ 256

way_of : (m : ℕ → ℕ → ℕ) → Margin m → (r p d : ℕ) → 0 < r → Side m r p d → Way (x_of p) (y_of p) d
unfolding around x_of y_of
way_of m g r p zero pos s =
    let f = fits m g r (suc (p % 512)) (suc (p / 512)) pos s.on_right in
    record { east = λ e. omega arith; north = λ e. absurd (omega arith); west = λ e. absurd (omega arith); south = λ e. omega arith; x_low = omega arith; y_low = omega arith }
way_of m g r p (suc zero) pos s =
    let f = fits m g r (suc (p % 512)) (p / 512) pos s.on_right in
    record { east = λ e. omega arith; north = λ e. omega arith; west = λ e. absurd (omega arith); south = λ e. absurd (omega arith); x_low = omega arith; y_low = omega arith }
way_of m g r p (suc (suc zero)) pos s =
    let f = fits m g r (p % 512) (p / 512) pos s.on_right in
    record { east = λ e. absurd (omega arith); north = λ e. absurd (omega arith); west = λ e. omega arith; south = λ e. absurd (omega arith); x_low = omega arith; y_low = omega arith }
way_of m g r p (suc (suc (suc d))) pos s =
    let f = fits m g r (p % 512) (suc (p / 512)) pos s.on_right in
    record { east = λ e. absurd (omega arith); north = λ e. absurd (omega arith); west = λ e. omega arith; south = λ e. omega arith; x_low = omega arith; y_low = omega arith }

pub way : (m : ℕ → ℕ → ℕ) → Margin m → (r x y d : ℕ) → x < 512 → d < 4 → Edge m r (edge (point x y) d) → Way x y d
way m g r x y d h l s =
    subst₂ (λ a b. Way a b d) (x_of_point x y h) (y_of_point x y h)
    (way_of m g r (point x y) d s.a_region (subst₂ (Side m r) (tail-edge (point x y) d l) (digit-edge (point x y) d l) s.side))

-- The three cases of the rule by the pixels seen ahead on the right and on the left.
module _ (m : ℕ → ℕ → ℕ) (r p : ℕ) {d ahead_right : ℕ} (low : d < 4) (seen : ahead_right ≡ around m p d) where
  pub turns_right : {o : ℕ} → ahead_right ≢ r → o ≡ right_of d → (o ≡ turn m r p d) × (o < 4)
  unfolding right_of
  turns_right out told = (told ∙ sym (go_right m r p d (λ e. out (seen ∙ e))), omega (arith, told))

  module _ {ahead_left : ℕ} (inside : ahead_right ≡ r) (seen_left : ahead_left ≡ around m p (left_of d)) where
    pub goes_straight : ahead_left ≢ r → (d ≡ turn m r p d) × (d < 4)
    goes_straight out = (sym (go_straight m r p d (sym seen ∙ inside) (λ e. out (seen_left ∙ e))), low)

    pub turns_left : ahead_left ≡ r → (left_of d ≡ turn m r p d) × (left_of d < 4)
    unfolding left_of
    turns_left both = (sym (go_left m r p d (sym seen ∙ inside) (sym seen_left ∙ both)), omega arith)

-- The digits one by one.
pub column_low : (x d : ℕ) → d < 2 → x + 1 ≡ column_at x d
unfolding column_at
column_low x zero h = refl
column_low x (suc zero) h = refl
column_low x (suc (suc d)) h = absurd (omega arith)

pub column_high : (x d : ℕ) → 2 ≤ d → x ≡ column_at x d
unfolding column_at
column_high x zero h = absurd (omega arith)
column_high x (suc zero) h = absurd (omega arith)
column_high x (suc (suc d)) h = refl

pub row_1 : (y d : ℕ) → d ≡ 1 → y ≡ row_at y d
unfolding row_at
row_1 y d e = rw e refl

pub row_2 : (y d : ℕ) → d ≡ 2 → y ≡ row_at y d
unfolding row_at
row_2 y d e = rw e refl

pub row_other : (y d : ℕ) → d ≢ 1 → d ≢ 2 → y + 1 ≡ row_at y d
unfolding row_at
row_other y zero a b = refl
row_other y (suc zero) a b = absurd (a refl)
row_other y (suc (suc zero)) a b = absurd (b refl)
row_other y (suc (suc (suc d))) a b = refl

-- The column and the row of the point one unit on from (x, y) with the digit d.
unfoldable pub move_x : ℕ → ℕ → ℕ
move_x x zero = x + 1
move_x x (suc zero) = x
move_x x (suc (suc zero)) = x - 1
move_x x (suc (suc (suc d))) = x

unfoldable pub move_y : ℕ → ℕ → ℕ
move_y y zero = y
move_y y (suc zero) = y - 1
move_y y (suc (suc zero)) = y
move_y y (suc (suc (suc d))) = y + 1

pub x_east : (x d : ℕ) → d ≡ 0 → x + 1 ≡ move_x x d
unfolding move_x
x_east x d e = rw e refl

pub x_west : (x d : ℕ) → d ≡ 2 → x - 1 ≡ move_x x d
unfolding move_x
x_west x d e = rw e refl

pub x_other : (x d : ℕ) → d ≢ 0 → d ≢ 2 → x ≡ move_x x d
unfolding move_x
x_other x zero a b = absurd (a refl)
x_other x (suc zero) a b = refl
x_other x (suc (suc zero)) a b = absurd (b refl)
x_other x (suc (suc (suc d))) a b = refl

pub y_east : (y d : ℕ) → d ≡ 0 → y ≡ move_y y d
unfolding move_y
y_east y d e = rw e refl

pub y_north : (y d : ℕ) → d ≡ 1 → y - 1 ≡ move_y y d
unfolding move_y
y_north y d e = rw e refl

pub y_west : (y d : ℕ) → d ≡ 2 → y ≡ move_y y d
unfolding move_y
y_west y d e = rw e refl

pub y_south : (y d : ℕ) → d ≢ 0 → d ≢ 1 → d ≢ 2 → y + 1 ≡ move_y y d
unfolding move_y
y_south y zero a b c = absurd (a refl)
y_south y (suc zero) a b c = absurd (b refl)
y_south y (suc (suc zero)) a b c = absurd (c refl)
y_south y (suc (suc (suc d))) a b c = refl

-- The units that are left in the image from (x, y) on with the digit d.
unfoldable pub units_ahead : ℕ → ℕ → ℕ → ℕ
units_ahead x y zero = 256 - x
units_ahead x y (suc zero) = y
units_ahead x y (suc (suc zero)) = x
units_ahead x y (suc (suc (suc d))) = 256 - y

-- One unit on.
pub record Moved (x y d x' y' : ℕ) : Type 0 where
  pub point_is : point x' y' ≡ move d (point x y)
  pub x_low : x' ≤ 256
  pub y_low : y' ≤ 256
  pub nearer : units_ahead x' y' d < units_ahead x y d

moved_to : (x y d : ℕ) → Way x y d → d < 4 → Moved x y d (move_x x d) (move_y y d)
unfolding point move move_x move_y units_ahead
moved_to x y zero w l = let h = w.east refl in record { point_is = omega arith; x_low = omega arith; y_low = w.y_low; nearer = omega arith }
moved_to x y (suc zero) w l =
    let h = w.north refl in
    record { point_is = omega arith; x_low = w.x_low; y_low = omega (arith, w.y_low); nearer = omega arith }
moved_to x y (suc (suc zero)) w l =
    let h = w.west refl in
    record { point_is = omega arith; x_low = omega (arith, w.x_low); y_low = w.y_low; nearer = omega arith }
moved_to x y (suc (suc (suc zero))) w l =
    let h = w.south refl in
    record { point_is = omega arith; x_low = w.x_low; y_low = omega arith; nearer = omega arith }
moved_to x y (suc (suc (suc (suc d)))) w l = absurd (omega arith)

pub moved : {x y d x' y' : ℕ} → Way x y d → d < 4 → x' ≡ move_x x d → y' ≡ move_y y d → Moved x y d x' y'
moved {x} {y} {d} w l hx hy = subst₂ (Moved x y d) (sym hx) (sym hy) (moved_to x y d w l)
