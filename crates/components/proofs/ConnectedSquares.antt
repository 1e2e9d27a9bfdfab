-- A square of one colour is connected: from each of its pixels west, then north, to its northwest pixel.
use Rattle.std.specs.Prelude.{◌≡◌, List, ℕ, zero, suc, ◌+◌, ◌-◌, ◌%◌, ◌^◌, ◌≤◌, ◌<◌, get_or}
use Rattle.std.proofs.Common.{sym, ◌∙◌, arith}
use Rattle.sequences.specs.Powers.{pow2_pos}
use Rattle.interleaving.specs.Codes.{code, column, row}
use Rattle.interleaving.specs.Interleaving.{column-below, row_below, column_of_code, row_of_code, code_of_coordinates}
use Rattle.location.specs.Squares.{block_is_square, pixel_in_block, square_in_image}
use Rattle.components.specs.Joined.{Step, north, west, Connected, start}
use Rattle.components.proofs.Joined.{connected_through, connected_step}

-- The square of level l at the code d, all its pixels among the codes below m and of one colour.
pub record OneColour (n : ℕ) (px : List ℕ) (m l d : ℕ) : Type 0 where
  pub level : l ≤ n
  pub room : d < 4 ^ n
  pub multiple : d % 4 ^ l ≡ 0
  pub within : d + 4 ^ l ≤ m
  pub alike : (c : ℕ) → d ≤ c → c < d + 4 ^ l → get_or px c 0 ≡ get_or px d 0

module _ (n : ℕ) (px : List ℕ) (m l d : ℕ) (s : OneColour n px m l d) where
  fits : (column n d + 2 ^ l ≤ 2 ^ n) × (row n d + 2 ^ l ≤ 2 ^ n) × (d + 4 ^ l ≤ 4 ^ n)
  fits = square_in_image n l d s.level s.room s.multiple

  -- One step inside the square.
  inner_step : (c e : ℕ) → d ≤ c → c < d + 4 ^ l → d ≤ e → e < d + 4 ^ l → Step n c e → Connected n px m c e
  inner_step c e a b f g t =
      connected_step (omega (arith, s.within)) (omega (arith, s.within))
      (record { from = omega (arith, fits); to = omega (arith, fits); step = t })
      (s.alike e f g ∙ sym (s.alike c a b))

  to_west : (k y : ℕ) → k < 2 ^ l → row n d ≤ y → y < row n d + 2 ^ l → Connected n px m (code n (column n d + k) y) (code n (column n d) y)
  to_west zero y h e f =
      let q = pixel_in_block n l d s.level s.room s.multiple (column n d) y (omega arith) (omega (arith, pow2_pos l)) e f in
      let z : column n d + 0 ≡ column n d = omega arith in
      rw z (start (omega (arith, s.within)))
  to_west (suc k) y h e f =
      let x : ℕ = column n d + k in
      let x' : ℕ = column n d + suc k in
      let p = pixel_in_block n l d s.level s.room s.multiple x' y (omega arith) (omega arith) e f in
      let q = pixel_in_block n l d s.level s.room s.multiple x y (omega arith) (omega arith) e f in
      let cx : column n (code n x y) ≡ x = column_of_code n x y (omega (arith, fits)) in
      let cx' : column n (code n x' y) ≡ x' = column_of_code n x' y (omega (arith, fits)) in
      let cy : row n (code n x y) ≡ y = row_of_code n x y (omega (arith, fits)) in
      let cy' : row n (code n x' y) ≡ y = row_of_code n x' y (omega (arith, fits)) in
      connected_through (inner_step (code n x' y) (code n x y) p.0 p.1 q.0 q.1 (west (omega arith) (cy ∙ sym cy'))) (to_west k y (omega arith) e f)

  to_north : (k : ℕ) → k < 2 ^ l → Connected n px m (code n (column n d) (row n d + k)) (code n (column n d) (row n d))
  to_north zero h =
      let q = pixel_in_block n l d s.level s.room s.multiple (column n d) (row n d) (omega arith) (omega (arith, pow2_pos l)) (omega arith) (omega (arith, pow2_pos l)) in
      let z : row n d + 0 ≡ row n d = omega arith in
      rw z (start (omega (arith, s.within)))
  to_north (suc k) h =
      let x : ℕ = column n d in
      let y : ℕ = row n d + k in
      let y' : ℕ = row n d + suc k in
      let p = pixel_in_block n l d s.level s.room s.multiple x y' (omega arith) (omega (arith, pow2_pos l)) (omega arith) (omega arith) in
      let q = pixel_in_block n l d s.level s.room s.multiple x y (omega arith) (omega (arith, pow2_pos l)) (omega arith) (omega arith) in
      let cx : column n (code n x y) ≡ x = column_of_code n x y (omega (arith, fits, pow2_pos l)) in
      let cx' : column n (code n x y') ≡ x = column_of_code n x y' (omega (arith, fits, pow2_pos l)) in
      let cy : row n (code n x y) ≡ y = row_of_code n x y (omega (arith, fits)) in
      let cy' : row n (code n x y') ≡ y' = row_of_code n x y' (omega (arith, fits)) in
      connected_through (inner_step (code n x y') (code n x y) p.0 p.1 q.0 q.1 (north (cx ∙ sym cx') (omega arith))) (to_north k (omega arith))

  pub square_is_connected : (c : ℕ) → d ≤ c → c < d + 4 ^ l → Connected n px m c d
  square_is_connected c a b =
      let inside : c < 4 ^ n = omega (arith, fits) in
      let same : code n (column n c) (row n c) ≡ c = code_of_coordinates n c inside in
      let w = (block_is_square n l d s.level s.room s.multiple (column n c) (row n c) (column-below n c) (row_below n c)).0 (omega arith, omega arith) in
      let x : column n d + (column n c - column n d) ≡ column n c = omega arith in
      let y : row n d + (row n c - row n d) ≡ row n c = omega arith in
      let first : Connected n px m (code n (column n c) (row n c)) (code n (column n d) (row n c)) =
      rw x at (to_west (column n c - column n d) (row n c) (omega arith) (omega arith) (omega arith)) in
      let second : Connected n px m (code n (column n d) (row n c)) (code n (column n d) (row n d)) = rw y at (to_north (row n c - row n d) (omega arith)) in
      rw (same, code_of_coordinates n d s.room) at (connected_through first second)
