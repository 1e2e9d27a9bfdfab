-- What the outlines of every image have: their owners are region numbers, their northward edges have their pixels inside the image, and
-- there are no more northward edges than pixels. So where outlines can't be stored there is no such image.
use Rattle.std.specs.Prelude.{◌≡◌, ◌≢◌, Bool, eqb, get_or}
use Rattle.std.proofs.Math.Path.{refl, sym, ap, ap₂}
use Rattle.std.proofs.Common.{◌∙◌, subst, arith, eq-eqb, ne_eqb, eqb-true}
use mathlib.Core.List.{List, [], ◌∷◌, ◌++◌, map, flat_map}
use Prim.Native.Nat.{ℕ, suc, ◌+◌, ◌-◌, ◌*◌, ◌/◌, ◌%◌, ◌^◌, ◌≤◌, ◌<◌}
use Rattle.std.proofs.Math.Decide.{ℕ_discrete}
use Rattle.std.proofs.Math.Arith.{digits_lt}
use Rattle.std.proofs.Math.ListN.{length}
use Rattle.sequences.specs.Powers.{square_of_side}
use Rattle.lattice.specs.Directions.{point, x_of, y_of, edge, tail, digit}
use Rattle.lattice.specs.Walks.{outline}
use Rattle.orbits.specs.Members.{In, Distinct, in_first, in_later, in_left, in_right, in_flat, keyed_length}
use Rattle.components.specs.Numbers.{numbers, regions}
use Rattle.grid.specs.Map.{region_at}
use Rattle.grid.specs.Margins.{Pixel, pixel_at}
use Rattle.grid.specs.Steps.{Edge}
use Rattle.grid.specs.Cycles.{north_side, cycle}
use Rattle.grid.specs.Listing.{Cycle, keep, start_codes, cycle_at, listing, owners}
use Rattle.grid.specs.North.{side_small}
use Rattle.grid.specs.Sides.{side_at, right_x, right_y, RightOf, edge_is_side}
use Rattle.grid.specs.Returning.{ring}
use Rattle.grid.specs.Starting.{StartAt, margin}
use Rattle.grid.specs.Closing.{sides_of_corners}
use Rattle.grid.specs.Keeping.{keep_yes, keep_no, in_keep, ordered_keep, start-codes_distinct}
use Rattle.grid.specs.Listed.{listed_start}
use Rattle.grid.specs.Bounds.{edges_distinct}
use Rattle.links.specs.Image.{image_outlines}
use Rattle.given_outlines.specs.Needed.{NoImage, owner-below}
use Rattle.west_sides.specs.Northward.{place_right, PixelInside, norths, norths-north, norths_other, norths-append, place_tells}
use Rattle.west_sides.specs.Cycles.{AllFit}

-- ---- northward edges and the pixels on their right

-- The west side of the pixel (x, y).
west-inside : (side x y : ℕ) → side ≤ 256 → x < side → y < side → PixelInside side (side_at x y 1)
unfolding side_at edge point tail x_of y_of
west-inside side x y small a b =
    let ex : (4 * (512 * suc y + x) + 1) / 4 % 512 ≡ x = omega arith in
    let ey : (4 * (512 * suc y + x) + 1) / 4 / 512 ≡ suc y = omega arith in
    record { x_inside = omega arith; y_positive = omega arith; y_inside = omega arith }

-- A northward edge of a region is the west side of a pixel of it.
edge-inside : (n : ℕ) (nums : List ℕ) → n ≤ 8 → (r e : ℕ) → Edge (region_at n nums) r e → digit e ≡ 1 → PixelInside (2 ^ n) e
edge-inside n nums small r e h z =
    let x : ℕ = right_x (tail e) (digit e) in
    let y : ℕ = right_y (tail e) (digit e) in
    let s : RightOf (region_at n nums) r e x y = edge_is_side (region_at n nums) (margin n nums small) r e h in
    let p : Pixel n nums (suc x) (suc y) r = pixel_at n nums (suc x) (suc y) r h.a_region s.in_region in
    let a : x < 2 ^ n = omega (arith, p.from_x, p.x_below) in
    let b : y < 2 ^ n = omega (arith, p.from_y, p.y_below) in
    subst (PixelInside (2 ^ n)) (sym (s.the_side ∙ ap (side_at x y) z)) (west-inside (2 ^ n) x y (side_small n small) a b)

-- Northward edges without repeats have different pixels on their right: there are no more of them than pixels.
module _ (side : ℕ) (narrow : side ≤ 256) where
  place_inside : (e : ℕ) → PixelInside side e → place_right side e < side * side
  unfolding place_right
  place_inside e p = digits_lt {q = y_of (tail e) - 1} {m = side} {r = x_of (tail e)} {c = side} (omega (arith, p.y_positive, p.y_inside)) p.x_inside

  one_edge : (e f : ℕ) → digit e ≡ 1 → digit f ≡ 1 → PixelInside side e → PixelInside side f → place_right side e ≡ place_right side f → e ≡ f
  unfolding place_right
  one_edge e f d c p q same =
      let y_below : y_of (tail f) - 1 < side = omega (arith, q.y_positive, q.y_inside) in
      place_tells side narrow (x_of (tail f)) (y_of (tail f) - 1) q.x_inside y_below e d p same
      ∙ sym (place_tells side narrow (x_of (tail f)) (y_of (tail f) - 1) q.x_inside y_below f c q refl)

  abbrev north : ℕ → Bool
  north e = eqb (digit e) 1

  norths-kept : (es : List ℕ) → norths es ≡ length (keep north es)
  unfolding keep norths
  norths-kept [] = refl
  norths-kept (e ∷ es) = pick (ℕ_discrete (digit e) 1) (norths-kept es)
    where
      pick : Dec (digit e ≡ 1) → norths es ≡ length (keep north es) → norths (e ∷ es) ≡ length (keep north (e ∷ es))
      pick (yes h) ih = norths-north e es h ∙ ap suc ih ∙ sym (ap (λ (l : List ℕ). length l) (keep_yes north e es (eq-eqb (digit e) 1 h)))
      pick (no h) ih = norths_other e es h ∙ ih ∙ sym (ap (λ (l : List ℕ). length l) (keep_no north e es (ne_eqb (digit e) 1 h)))

  norths_at_most_pixels : (es : List ℕ) → Distinct es → ((e : ℕ) → In e es → digit e ≡ 1 → PixelInside side e) → norths es ≤ side * side
  norths_at_most_pixels es once inside =
      omega (
        arith,
        norths-kept es,
        keyed_length (place_right side) (side * side) (keep north es) (ordered_keep north ◌≢◌ es once)
            (λ e i. let k = at e i in place_inside e k.1)
            (λ e f i j same. let k = at e i in let m = at f j in one_edge e f k.0 m.0 k.1 m.1 same),
      )
    where
      at : (e : ℕ) → In e (keep north es) → (digit e ≡ 1) × PixelInside side e
      at e i = let k = in_keep north es e i in let d : digit e ≡ 1 = eqb-true (digit e) 1 k.1 in (d, inside e k.0 d)

-- ---- the edges of all outlines

-- The edges of the outlines of a list, outline after outline.
unfoldable pub all_edges : List Cycle → List ℕ
unfolding outline
all_edges [] = []
all_edges (c ∷ cs) = outline c.points ++ all_edges cs

module _ (n : ℕ) (nums : List ℕ) (small : n ≤ 8) where
  edges_of_starts : (cs : List ℕ) → ((c : ℕ) → In c cs → StartAt n nums c) → all_edges (map (cycle_at n nums) cs) ≡ flat_map (cycle n nums) cs
  unfolding all_edges cycle_at flat_map
  edges_of_starts [] f = refl
  edges_of_starts (c ∷ cs) f =
      ap₂ {A = List ℕ} {B = List ℕ} ◌++◌ (sides_of_corners n nums small c (f c (in_first c cs))) (edges_of_starts cs (λ d i. f d (in_later d c cs i)))

  edges-inside : (cs : List ℕ) → ((c : ℕ) → In c cs → StartAt n nums c) → (e : ℕ) → In e (flat_map (cycle n nums) cs) → digit e ≡ 1 → PixelInside (2 ^ n) e
  unfolding cycle
  edges-inside cs f e i z = from (in_flat (cycle n nums) cs e i)
    where
      from : (c : ℕ) × In c cs × In e (cycle n nums c) → PixelInside (2 ^ n) e
      from (c, j, k) =
          let r : ℕ = suc (get_or nums c 0) in
          edge-inside n nums small r e ((ring (region_at n nums) (margin n nums small) r (north_side n c) (f c j).north).edges e k) z

-- ---- outlines of an image can be stored

-- Cycle by cycle, as long as the northward edges that are left are within the units.
all_fit : (side count units : ℕ) (l : List Cycle) → ((k : ℕ) → k < length l → get_or (owners l) k 0 < count)
    → ((e : ℕ) → In e (all_edges l) → digit e ≡ 1 → PixelInside side e) → norths (all_edges l) ≤ units → AllFit side count units l
unfolding AllFit all_edges owners
all_fit side count units [] below inside few = tt
all_fit side count units (c ∷ cs) below inside few =
    let es : List ℕ = outline c.points in
    let both : norths (es ++ all_edges cs) ≡ norths es + norths (all_edges cs) = norths-append es (all_edges cs) in (
      below 0 (omega arith),
      record { inside = λ e i. inside e (in_left e es (all_edges cs) i); few = omega arith },
      all_fit side count (units - norths es) cs (λ k h. below (suc k) (omega arith)) (λ e i. inside e (in_right e es (all_edges cs) i)) (omega arith),
    )

outlines_fit : (n : ℕ) (px : List ℕ) → n ≤ 8 → AllFit (2 ^ n) (regions n px) (4 ^ n) (image_outlines n px)
unfolding listing
outlines_fit n px small =
    all_fit (2 ^ n) (regions n px) (4 ^ n) (image_outlines n px) (owner-below px small)
    (λ e i z. inside e (subst (In e) same i) z)
    (omega (
      arith,
      ap norths same,
      square_of_side n,
      norths_at_most_pixels (2 ^ n) (side_small n small) edges
          (edges_distinct n nums small starts (start-codes_distinct n nums (regions n px)) (listed_start n nums (regions n px) small)) inside,
    ))
  where
    nums : List ℕ
    nums = numbers n px

    starts : List ℕ
    starts = start_codes n nums (regions n px)

    edges : List ℕ
    edges = flat_map (cycle n nums) starts

    same : all_edges (image_outlines n px) ≡ edges
    same = edges_of_starts n nums small starts (listed_start n nums (regions n px) small)

    inside : (e : ℕ) → In e edges → digit e ≡ 1 → PixelInside (2 ^ n) e
    inside = edges-inside n nums small starts (listed_start n nums (regions n px) small)

pub none_where_not_fit : {n count : ℕ} {l : List Cycle} → n ≤ 8 → (AllFit (2 ^ n) count (4 ^ n) l → ⊥) → NoImage n count l
none_where_not_fit {n} {count} {l} small no_fit px e h =
    no_fit (subst (AllFit (2 ^ n) count (4 ^ n)) h (subst (λ (r : ℕ). AllFit (2 ^ n) r (4 ^ n) (image_outlines n px)) e (outlines_fit n px small)))
