-- The map of regions that a list holds row by row: 1 plus the region number of each pixel, and `mark_bit` more where a mark stands.
use Rattle.std.specs.Prelude.{◌≡◌, refl, List, ℕ, zero, suc, ◌+◌, ◌-◌, ◌*◌, ◌%◌, ◌^◌, ◌≤◌, ◌<◌, length, get_or}
use Rattle.std.proofs.Common.{sym, ap, ◌∙◌, arith, ext_get_or}
use Rattle.std.proofs.Math.Path.{fun_ext}
use Rattle.std.proofs.Math.Decide.{dec_lt}
use Rattle.sequences.specs.Ranges.{tabulate, length-tabulate, tabulate_at}
use Rattle.interleaving.specs.Codes.{code}
use Rattle.interleaving.specs.Interleaving.{code_below}
use Rattle.quadtree.specs.Raster.{place}
use Rattle.quadtree.specs.Orders.{place_in, place_of_code}
use Rattle.grid.specs.Map.{region_at}
use Rattle.grid.specs.Margins.{region-inside, region_east, region_south}
use Rattle.steps.specs.Look.{mark_bit, map_at, at_west, at_north, at_east, at_south, at_inside}

-- The region numbers of the 4^n pixels, in rising location code, that the first 4^n entries of a list hold.
unfoldable pub nums_of : ℕ → List ℕ → List ℕ
unfolding tabulate place
nums_of n map = tabulate (4 ^ n) (λ c. get_or map (place n c) 0 % mark_bit - 1)

-- The list is such a map: it has an entry for each pixel, and each holds a number, with or without a mark.
pub record Mapped (n : ℕ) (map : List ℕ) : Type 0 where
  pub long : 4 ^ n ≤ length map
  pub numbered : (j : ℕ) → j < 4 ^ n → 0 < get_or map j 0 % mark_bit
  pub bounded : (j : ℕ) → j < 4 ^ n → get_or map j 0 < 2 * mark_bit

-- The pixel with the code c bears a mark.
unfoldable pub Marked : ℕ → List ℕ → ℕ → Type 0
unfolding place
Marked n map c = mark_bit ≤ get_or map (place n c) 0

pub length-nums : (n : ℕ) (map : List ℕ) → length (nums_of n map) ≡ 4 ^ n
unfolding nums_of
length-nums n map = length-tabulate (4 ^ n) (λ c. get_or map (place n c) 0 % mark_bit - 1)

pub nums_at : (n : ℕ) (map : List ℕ) (c : ℕ) → c < 4 ^ n → get_or (nums_of n map) c 0 ≡ get_or map (place n c) 0 % mark_bit - 1
unfolding nums_of
nums_at n map c h = tabulate_at (4 ^ n) (λ d. get_or map (place n d) 0 % mark_bit - 1) c h

-- An entry without its mark is 1 plus the number of its pixel.
pub entry_of_code : (n : ℕ) (map : List ℕ) (c : ℕ) → Mapped n map → c < 4 ^ n → get_or map (place n c) 0 % mark_bit ≡ suc (get_or (nums_of n map) c 0)
entry_of_code n map c m h = omega (arith, nums_at n map c h, m.numbered (place n c) (place_in n c))

pub entry_of_pixel : (n : ℕ) (map : List ℕ) (x y : ℕ) → Mapped n map → x < 2 ^ n → y < 2 ^ n → get_or map (y * 2 ^ n + x) 0 % mark_bit ≡ suc (get_or (nums_of n map) (code n x y) 0)
entry_of_pixel n map x y m hx hy =
    ap (λ j. get_or map j 0 % mark_bit) (sym (place_of_code n x y hx hy)) ∙ entry_of_code n map (code n x y) m (code_below n x y)

-- Lists that differ in marks only hold the same numbers.
pub same_nums : (n : ℕ) (map map' : List ℕ) → ((j : ℕ) → j < 4 ^ n → get_or map' j 0 % mark_bit ≡ get_or map j 0 % mark_bit) → nums_of n map' ≡ nums_of n map
same_nums n map map' same =
    ext_get_or 0 (nums_of n map') (nums_of n map) (length-nums n map' ∙ sym (length-nums n map)) (λ c h.
    let k : c < 4 ^ n = omega (arith, length-nums n map') in
    nums_at n map' c k ∙ ap (λ v. v - 1) (same (place n c) (place_in n c)) ∙ sym (nums_at n map c k))

-- The map with a margin of the numbers that a list holds is what the list has.
region-west : (n : ℕ) (nums : List ℕ) (Y : ℕ) → region_at n nums 0 Y ≡ 0
unfolding region_at
region-west n nums Y = refl

region-north : (n : ℕ) (nums : List ℕ) (x : ℕ) → region_at n nums (suc x) 0 ≡ 0
unfolding region_at
region-north n nums x = refl

pub map_is_region : (n : ℕ) (map : List ℕ) → Mapped n map → map_at (2 ^ n) map ≡ region_at n (nums_of n map)
map_is_region n map m = fun_ext (λ X. fun_ext (λ Y. same X Y))
  where
    inside : (x y : ℕ) → Dec (x < 2 ^ n) → Dec (y < 2 ^ n) → map_at (2 ^ n) map (suc x) (suc y) ≡ region_at n (nums_of n map) (suc x) (suc y)
    inside x y (no a) b = at_east (2 ^ n) map (suc x) (suc y) (omega arith) ∙ sym (region_east n (nums_of n map) x (suc y) (omega arith))
    inside x y (yes a) (no b) = at_south (2 ^ n) map (suc x) (suc y) (omega arith) ∙ sym (region_south n (nums_of n map) (suc x) y (omega arith))
    inside x y (yes a) (yes b) = at_inside (2 ^ n) map x y a b ∙ entry_of_pixel n map x y m a b ∙ sym (region-inside n (nums_of n map) x y a b)

    same : (X Y : ℕ) → map_at (2 ^ n) map X Y ≡ region_at n (nums_of n map) X Y
    same zero Y = at_west (2 ^ n) map 0 Y refl ∙ sym (region-west n (nums_of n map) Y)
    same (suc x) zero = at_north (2 ^ n) map (suc x) 0 refl ∙ sym (region-north n (nums_of n map) x)
    same (suc x) (suc y) = inside x y (dec_lt x (2 ^ n)) (dec_lt y (2 ^ n))
