-- How much is listed: at most 4^n cycles and 4 times 4^n corners, so the needs that document 01 states suffice; 32 bits hold each area.
use Rattle.std.specs.Prelude.{◌≡◌, ◌≢◌, ℕ, suc, ◌+◌, ◌*◌, ◌^◌, ◌≤◌, ◌<◌, length, get_or, pos}
use Rattle.std.proofs.Math.Path.{sym, ap, ap₂, subst}
use Rattle.std.proofs.Common.{◌∙◌, arith, length-append}
use mathlib.Core.List.{List, [], ◌∷◌, map, flat_map}
use Rattle.std.proofs.Math.Decide.{ℕ_discrete}
use Rattle.std.specs.Int.Signed.{mag}
use Rattle.sequences.specs.Differences.{mag_within_size}
use Rattle.interleaving.specs.Codes.{code}
use Rattle.interleaving.specs.Interleaving.{code_below, code_injective}
use Rattle.lattice.specs.Directions.{tail, digit}
use Rattle.lattice.specs.Walks.{turns, last_of, corners}
use Rattle.lattice.specs.Corners.{turns_on, turns-turn}
use Rattle.lattice.specs.Area.{area, area_size}
use Rattle.orbits.specs.Members.{In, Distinct, in_flat, ordered_flat, keyed_length}
use Rattle.grid.specs.Map.{region_at}
use Rattle.grid.specs.Margins.{Pixel, pixel_at}
use Rattle.grid.specs.Steps.{Edge}
use Rattle.grid.specs.Cycles.{edge_limit, north_side, cycle, cycle_from}
use Rattle.grid.specs.Listing.{start_codes, Cycle, cycle_at, listing, all_corners, areas, cycle_count, corner_count}
use Rattle.grid.specs.Undoing.{digit-below_four}
use Rattle.grid.specs.Sides.{side_at, right_x, right_y, RightOf, edge_is_side}
use Rattle.grid.specs.Returning.{Ring, ring}
use Rattle.grid.specs.Starting.{StartAt, margin, one_start}
use Rattle.grid.specs.Keeping.{start-codes_distinct, starts_fit}
use Rattle.grid.specs.Listed.{listing-length, listed_start, outline_at, ring_at}
use Rattle.grid.specs.Stretches.{area_at}

-- The corners of a walk are not more than its edges.
turns_fit : (d : ℕ) (es : List ℕ) → length (turns d es) ≤ length es
unfolding turns
turns_fit d [] = omega arith
turns_fit d (e ∷ es) = pick (ℕ_discrete d (digit e)) (turns_fit d es) (turns_fit (digit e) es)
  where
    pick : Dec (d ≡ digit e) → length (turns d es) ≤ length es → length (turns (digit e) es) ≤ length es → length (turns d (e ∷ es)) ≤ suc (length es)
    pick (yes h) a b = omega (arith, ap length (turns_on d e es h))
    pick (no h) a b = omega (arith, ap length (turns-turn d e es h))

pub corners_fit : (es : List ℕ) → length (corners es) ≤ length es
unfolding corners
corners_fit [] = omega arith
corners_fit (e ∷ es) = turns_fit (digit (last_of e es)) (e ∷ es)

-- An edge is told by the pixel on its right and its direction.
unfoldable pub edge_key : ℕ → ℕ → ℕ
unfolding code right_x right_y tail digit
edge_key n e = 4 * code n (right_x (tail e) (digit e)) (right_y (tail e) (digit e)) + digit e

module _ (n : ℕ) (nums : List ℕ) (small : n ≤ 8) where
  abbrev m : ℕ → ℕ → ℕ
  m = region_at n nums

  pub key_below : (e : ℕ) → edge_key n e < 4 * 4 ^ n
  unfolding edge_key
  key_below e = omega (arith, code_below n (right_x (tail e) (digit e)) (right_y (tail e) (digit e)), digit-below_four e)

  parts : (c d a b : ℕ) → c < 4 → d < 4 → 4 * a + c ≡ 4 * b + d → (a ≡ b) × (c ≡ d)
  parts c d a b h k e = (omega arith, omega arith)

  within : (r e : ℕ) → Edge m r e → (right_x (tail e) (digit e) < 2 ^ n) × (right_y (tail e) (digit e) < 2 ^ n)
  within r e h =
      let s : RightOf m r e (right_x (tail e) (digit e)) (right_y (tail e) (digit e)) = edge_is_side m (margin n nums small) r e h in
      let p : Pixel n nums (suc (right_x (tail e) (digit e))) (suc (right_y (tail e) (digit e))) r = pixel_at n nums (suc (right_x (tail e) (digit e))) (suc (right_y (tail e) (digit e))) r h.a_region s.in_region in
      (omega (arith, p.from_x, p.x_below), omega (arith, p.from_y, p.y_below))

  pub key_injective : (r s a b : ℕ) → Edge m r a → Edge m s b → edge_key n a ≡ edge_key n b → a ≡ b
  unfolding edge_key
  key_injective r s a b h k e =
      let ab = parts (digit a) (digit b) (code n (right_x (tail a) (digit a)) (right_y (tail a) (digit a))) (code n (right_x (tail b) (digit b)) (right_y (tail b) (digit b)))
      (digit-below_four a) (digit-below_four b) e in
      let wa = within r a h in
      let wb = within s b k in
      let xy = code_injective n (right_x (tail a) (digit a)) (right_y (tail a) (digit a)) (right_x (tail b) (digit b)) (right_y (tail b) (digit b)) wa.0 wa.1 wb.0 wb.1 ab.0 in
      (edge_is_side m (margin n nums small) r a h).the_side
      ∙ ap₂ (λ x y. side_at x y (digit a)) xy.0 xy.1 ∙ ap (side_at (right_x (tail b) (digit b)) (right_y (tail b) (digit b))) ab.1
      ∙ sym (edge_is_side m (margin n nums small) s b k).the_side

  -- The edges of cycles from different starts, cycle after cycle.
  module _ (cs : List ℕ) (apart : Distinct cs) (start : (c : ℕ) → In c cs → StartAt n nums c) where
    on_edge : (c : ℕ) → In c cs → (a : ℕ) → In a (cycle n nums c) → Edge m (suc (get_or nums c 0)) a
    unfolding cycle
    on_edge c i a k = (ring m (margin n nums small) (suc (get_or nums c 0)) (north_side n c) (start c i).north).edges a k

    once : (c : ℕ) → In c cs → Distinct (cycle n nums c)
    unfolding cycle
    once c i = (ring m (margin n nums small) (suc (get_or nums c 0)) (north_side n c) (start c i).north).once

    pub edges_distinct : Distinct (flat_map (cycle n nums) cs)
    edges_distinct =
        ordered_flat ◌≢◌ ◌≢◌ (cycle n nums) cs apart once
        (λ c d a b i j h p q e. h (one_start n nums small c d a (start c i) (start d j) p (subst (λ x. In x (cycle n nums d)) (sym e) q)))

    edges_fit : length (flat_map (cycle n nums) cs) ≤ 4 * 4 ^ n
    edges_fit =
        keyed_length (edge_key n) (4 * 4 ^ n) (flat_map (cycle n nums) cs) edges_distinct (λ a i. key_below a)
        (λ a b i j e. same a b (in_flat (cycle n nums) cs a i) (in_flat (cycle n nums) cs b j) e)
      where
        same : (a b : ℕ) → (c : ℕ) × In c cs × In a (cycle n nums c) → (d : ℕ) × In d cs × In b (cycle n nums d) → edge_key n a ≡ edge_key n b → a ≡ b
        same a b (c, i, p) (d, j, q) e = key_injective (suc (get_or nums c 0)) (suc (get_or nums d 0)) a b (on_edge c i a p) (on_edge d j b q) e

  -- All listed edges.
  pub all_edges_fit : (regions : ℕ) → length (flat_map (cycle n nums) (start_codes n nums regions)) ≤ 4 * 4 ^ n
  all_edges_fit regions = edges_fit (start_codes n nums regions) (start-codes_distinct n nums regions) (listed_start n nums regions small)

  -- A single cycle.
  pub cycle_fits : (r e : ℕ) → Edge m r e → length (cycle_from m e) ≤ 4 * 4 ^ n
  cycle_fits r e h =
      let g : Ring m r e = ring m (margin n nums small) r e h in
      keyed_length (edge_key n) (4 * 4 ^ n) (cycle_from m e) g.once (λ a i. key_below a) (λ a b i j k. key_injective r r a b (g.edges a i) (g.edges b j) k)

corners-below : (f : ℕ → Cycle) (g : ℕ → List ℕ) → ((c : ℕ) → length (f c).points ≤ length (g c)) → (cs : List ℕ) → length (all_corners (map f cs)) ≤ length (flat_map g cs)
unfolding all_corners flat_map
corners-below f g h [] = omega arith
corners-below f g h (c ∷ cs) =
    omega (arith, length-append (f c).points (all_corners (map f cs)), length-append (g c) (flat_map g cs), h c, corners-below f g h cs)

corners-below-edges : (n : ℕ) (nums : List ℕ) (cs : List ℕ) → length (all_corners (map (cycle_at n nums) cs)) ≤ length (flat_map (cycle n nums) cs)
unfolding cycle_at
corners-below-edges n nums cs = corners-below (cycle_at n nums) (cycle n nums) (λ c. corners_fit (cycle n nums c)) cs

-- "Owner and end lists, 4^n each. Corners, 4 times 4^n."
pub cycles_fit : (n : ℕ) (nums : List ℕ) (regions : ℕ) → cycle_count (listing n nums regions) ≤ 4 ^ n
unfolding cycle_count
cycles_fit n nums regions = omega (arith, listing-length n nums regions, starts_fit n nums regions)

pub corner-count_fits : (n : ℕ) (nums : List ℕ) (regions : ℕ) → n ≤ 8 → corner_count (listing n nums regions) ≤ 4 * 4 ^ n
unfolding corner_count listing
corner-count_fits n nums regions small = omega (arith, corners-below-edges n nums (start_codes n nums regions), all_edges_fit n nums small regions)

-- At most 526,336 edges, and no x above 511.
size_of_area : (es : List ℕ) → length es ≤ edge_limit → mag (area es) < 2147483648
size_of_area es h = omega (arith, mag_within_size (area es), area_size es)

module _ (n : ℕ) (nums : List ℕ) (count : ℕ) (small : n ≤ 8) (k : ℕ) (listed : k < length (listing n nums count)) where
  -- The area of the cycle k is that of the edges from its start.
  pub area_of_cycle : get_or (areas (listing n nums count)) k (pos 0) ≡ area (cycle n nums (get_or (start_codes n nums count) k 0))
  area_of_cycle = area_at (listing n nums count) k listed ∙ ap area (outline_at n nums count small k listed)

  -- "Each cycle gets a signed 32-bit area" (document 02, request c).
  pub area_fits : mag (get_or (areas (listing n nums count)) k (pos 0)) < 2147483648
  unfolding cycle
  area_fits =
      let g = ring_at n nums count small k listed in
      subst (λ z. mag z < 2147483648) (sym area_of_cycle)
      (size_of_area (cycle n nums (get_or (start_codes n nums count) k 0)) (subst (λ i. i ≤ edge_limit) (sym g.long) g.few))
