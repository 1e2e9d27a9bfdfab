-- One pixel joined with its north and its west neighbour, where these have its colour.
use Rattle.std.specs.Prelude.{◌≡◌, ◌≢◌, ℕ, suc, ◌+◌, ◌-◌, ◌*◌, ◌%◌, ◌^◌, ◌≤◌, ◌<◌, length, get_or}
use Rattle.std.proofs.Common.{sym, ◌∙◌, arith}
use Rattle.std.proofs.Math.Path.{ap, ap₂, subst, subst₂}
use mathlib.Core.List.{List}
use Rattle.std.proofs.Math.Arith.{digits_lt}
use Rattle.sequences.specs.Powers.{pow2_mono, pow4_mono, square_of_side}
use Rattle.unions.specs.Pairs.{pair_of}
use Rattle.unions.specs.Representatives.{join_at}
use Rattle.unions.specs.Roots.{Low, root}
use Rattle.unions.specs.Joining.{Forest}
use Rattle.interleaving.specs.Codes.{code, column, row}
use Rattle.interleaving.specs.Interleaving.{code_below, column-below, row_below, code_of_coordinates}
use Rattle.interleaving.specs.Splitting.{code_wider, column_wider, row_wider}
use Rattle.location.specs.Levels.{side_of, pixels_of, side_is_power}
use Rattle.components.specs.Numbers.{west_of, north_of}
use Rattle.components.specs.Spans.{join_if_alike, alike_forest, unlike_forest}
use Rattle.steps.specs.Look.{mark_bit}
use Rattle.cycles.specs.Mapped.{nums_of, length-nums, entry_of_pixel}
use Rattle.given_outlines.specs.Given.{coloured_at}
use Rattle.pixel_numbers.specs.Promise.{map_image, Comparable}
use Rattle.pixel_numbers.specs.Parents.{parents_of, OnlyParents, nothing_changed, changed_twice, image_kept, still_comparable, length-parents, lent, back}
use borrow.Rule.Slice.PartMut.{mid_of, put_mid}

-- A pixel of the image.
pub record PixelAt (n : ℕ) (colours work : List ℕ) (x y : ℕ) : Type 0 where
  pub given : Comparable n colours work
  pub x_inside : x < 2 ^ n
  pub y_inside : y < 2 ^ n

-- Its entry of the map, in rows of w, and its colour.
pub record Entry (n : ℕ) (colours work : List ℕ) (x y w : ℕ) : Type 0 where
  pub low : y * w + x < 65536
  pub inside : y * w + x < length work
  pub some : 0 < get_or work (y * w + x) 0
  pub known : get_or work (y * w + x) 0 ≤ length colours
  pub few : length colours ≤ 65536
  pub colour : get_or colours (get_or work (y * w + x) 0 - 1) 0 ≡ get_or (map_image n colours work) (code n x y) 0

pub entry : {n : ℕ} {colours work : List ℕ} {x y w : ℕ} → PixelAt n colours work x y → w ≡ side_of n → Entry n colours work x y w
entry {n} {colours} {work} {x} {y} {w} at side =
    subst (Entry n colours work x y) (sym (side ∙ side_is_power n (omega (arith, at.given.small)))) (record {
      low = omega (arith, inside, pow4_mono at.given.small);
      inside = omega (arith, inside, at.given.mapped.long);
      some = omega (arith, bare, is);
      known = at.given.below (y * 2 ^ n + x) inside;
      few = omega (arith, at.given.few, pow4_mono at.given.small);
      colour =
          ap (λ (i : ℕ). get_or colours i 0) (omega (arith, bare, is))
          ∙ sym (coloured_at colours (nums_of n work) (code n x y) (omega (arith, length-nums n work, code_below n x y)));
    })
  where
    inside : y * 2 ^ n + x < 4 ^ n
    inside = omega (arith, digits_lt at.y_inside at.x_inside, square_of_side n)

    bare : get_or work (y * 2 ^ n + x) 0 < mark_bit
    bare = omega (arith, at.given.below (y * 2 ^ n + x) inside, at.given.few, pow4_mono at.given.small)

    is : get_or work (y * 2 ^ n + x) 0 % mark_bit ≡ suc (get_or (nums_of n work) (code n x y) 0)
    is = entry_of_pixel n work x y at.given.mapped at.x_inside at.y_inside

-- The pixel c, of the colour `own`, is to be joined with the pixel (x, y) if that has the colour too.
pub record PairNext (n : ℕ) (colours work : List ℕ) (c own x y : ℕ) : Type 0 where
  pub at : PixelAt n colours work x y
  pub low : Low (parents_of n work)
  pub inside : c < 4 ^ n
  pub colour : own ≡ get_or (map_image n colours work) c 0

-- The pixels c and d are joined if they have one colour.
pub record PairJoined (n : ℕ) (colours work : List ℕ) (c d : ℕ) (work' : List ℕ) : Type 0 where
  pub only : OnlyParents n work work'
  pub forest : Forest (parents_of n work) (join_if_alike (map_image n colours work) (root (parents_of n work)) c d) (parents_of n work')

module _ {n : ℕ} {colours work : List ℕ} {c own x y : ℕ} (g : PairNext n colours work c own x y) where
  size : n ≤ 8
  size = g.at.given.small

  pub x_byte : x < 256
  x_byte = omega (arith, g.at.x_inside, pow2_mono size)

  pub y_byte : y < 256
  y_byte = omega (arith, g.at.y_inside, pow2_mono size)

  code_is : code 8 x y ≡ code n x y
  code_is = code_wider n 8 x y size g.at.x_inside g.at.y_inside

  pub unlike : {v : ℕ} → v ≡ get_or (map_image n colours work) (code n x y) 0 → v ≢ own → PairJoined n colours work c (code n x y) work
  unlike read differs = record {
    only = nothing_changed n work;
    forest = unlike_forest (map_image n colours work) c (code n x y) (λ e. differs (read ∙ sym (g.colour ∙ e))) g.low;
  }

  -- The parents are lent as `&mut work[whole..2 * whole]`, and d is the code that the table gives.
  module _ {whole d : ℕ} (all : whole ≡ pixels_of n) (by_table : d ≡ code 8 x y) where
    abbrev parents : List ℕ
    parents = mid_of whole (2 * whole - whole) work

    pub joinable : (c < length parents) × (d < length parents) × Low parents
    joinable =
        let long : length parents ≡ 4 ^ n = ap length (lent size all work) ∙ length-parents n work g.at.given.room in
        (omega (arith, g.inside), omega (arith, by_table, code_is, code_below n x y), subst Low (sym (lent size all work)) g.low)

    pub alike : {v : ℕ} {p : List ℕ} → v ≡ get_or (map_image n colours work) (code n x y) 0 → v ≡ own → Forest parents (join_at (root parents) (pair_of c d)) p
        → PairJoined n colours work c (code n x y) (put_mid whole (2 * whole - whole) work p)
    alike {v} {p} read equal f =
        let j : Forest (parents_of n work) (join_at (root (parents_of n work)) (pair_of c (code n x y))) p =
        subst₂ (λ (l : List ℕ) (e : ℕ). Forest l (join_at (root l) (pair_of c e)) p) (lent size all work) (by_table ∙ code_is) f in
        let r = back size all work g.at.given.room (j.long ∙ length-parents n work g.at.given.room) in
        record {
          only = r.only;
          forest =
              subst (Forest (parents_of n work) (join_if_alike (map_image n colours work) (root (parents_of n work)) c (code n x y))) (sym r.parents)
              (alike_forest (map_image n colours work) c (code n x y) (sym g.colour ∙ sym equal ∙ read) j);
        }

-- The pixel c comes next.
pub record PixelNext (n : ℕ) (colours work : List ℕ) (c : ℕ) : Type 0 where
  pub given : Comparable n colours work
  pub low : Low (parents_of n work)
  pub inside : c < 4 ^ n

-- The pixel c is joined with its north neighbour, then with its west neighbour, if they have its colour. Where it has none, that is the
-- pixel itself.
pub record PixelJoined (n : ℕ) (colours work : List ℕ) (c : ℕ) (work' : List ℕ) : Type 0 where
  pub only : OnlyParents n work work'
  pub between : List ℕ
  pub north : Forest (parents_of n work) (join_if_alike (map_image n colours work) (root (parents_of n work)) c (north_of n c)) between
  pub west : Forest between (join_if_alike (map_image n colours work) (root between) c (west_of n c)) (parents_of n work')

module _ {n : ℕ} {colours work : List ℕ} {c x y : ℕ} (g : PixelNext n colours work c) (in_column_dec : x ≡ column 8 c) (in_row : y ≡ row 8 c) where
  column-is : x ≡ column n c
  column-is = in_column_dec ∙ column_wider n 8 c g.given.small g.inside

  row_is : y ≡ row n c
  row_is = in_row ∙ row_wider n 8 c g.given.small g.inside

  pub own_pixel : PixelAt n colours work x y
  own_pixel = record { given = g.given; x_inside = omega (arith, column-is, column-below n c); y_inside = omega (arith, row_is, row_below n c) }

  module _ {own : ℕ} (colour : own ≡ get_or (map_image n colours work) (code n x y) 0) where
    own_colour : own ≡ get_or (map_image n colours work) c 0
    own_colour = colour ∙ ap (λ (d : ℕ). get_or (map_image n colours work) d 0) (ap₂ (code n) column-is row_is ∙ code_of_coordinates n c g.inside)

    pub north-next : {v : ℕ} → v ≡ y - 1 → PairNext n colours work c own x v
    north-next e = record {
      at = record { given = g.given; x_inside = own_pixel.x_inside; y_inside = omega (arith, own_pixel.y_inside) };
      low = g.low;
      inside = g.inside;
      colour = own_colour;
    }

    module _ {v : ℕ} {work₁ : List ℕ} (e : v ≡ y - 1) (first : PairJoined n colours work c (code n x v) work₁) where
      pub west-next : {u : ℕ} → u ≡ x - 1 → PairNext n colours work₁ c own u y
      west-next d = record {
        at = record {
          given = still_comparable first.only g.given;
          x_inside = omega (arith, own_pixel.x_inside);
          y_inside = own_pixel.y_inside;
        };
        low = first.forest.low;
        inside = g.inside;
        colour = own_colour ∙ ap (λ (px : List ℕ). get_or px c 0) (sym (image_kept first.only colours));
      }

      pub pixel_joined : {u : ℕ} {work₂ : List ℕ} → u ≡ x - 1 → PairJoined n colours work₁ c (code n u y) work₂ → PixelJoined n colours work c work₂
      unfolding north_of west_of
      pixel_joined {u} {work₂} d second =
          let north : code n x v ≡ north_of n c = ap₂ (code n) column-is (e ∙ ap (λ (i : ℕ). i - 1) row_is) in
          let west : code n u y ≡ west_of n c = ap₂ (code n) (d ∙ ap (λ (i : ℕ). i - 1) column-is) row_is in
          record {
            only = changed_twice first.only second.only;
            between = parents_of n work₁;
            north =
                subst (λ (k : ℕ). Forest (parents_of n work) (join_if_alike (map_image n colours work) (root (parents_of n work)) c k) (parents_of n work₁)) north
                first.forest;
            west =
                subst₂ (λ (px : List ℕ) (k : ℕ). Forest (parents_of n work₁) (join_if_alike px (root (parents_of n work₁)) c k) (parents_of n work₂))
                (image_kept first.only colours) west second.forest;
          }
