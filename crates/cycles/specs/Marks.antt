-- The marks of the edges with the digit k: what a mark changes in the list, and that it changes nothing in the map.
use Rattle.std.specs.Prelude.{◌≡◌, refl, ◌≢◌, ◌⊎◌, true, false, List, [], ◌∷◌, ℕ, zero, suc, ◌+◌, ◌*◌, ◌%◌, ◌≤◌, ◌<◌, length, get_or, set, eqb}
use Rattle.std.proofs.Math.Path.{sym, ap, subst}
use Rattle.std.proofs.Common.{◌∙◌, inl, inr, arith, length-set, get_or-set_same, get_or-set_other, eq-eqb, ne_eqb}
use Rattle.std.proofs.Math.Decide.{ℕ_discrete, dec_lt}
use Rattle.std.proofs.Math.Arith.{digits_lt}
use Rattle.lattice.specs.Directions.{x_of, y_of, tail, digit}
use Rattle.orbits.specs.Members.{In, in_first, in_later, in_cases, in_none}
use Rattle.grid.specs.Steps.{Edge}
use Rattle.grid.specs.Sides.{side_at, right_x, right_y, RightOf, edge_is_side}
use Rattle.steps.specs.Look.{mark_bit, map_at, Square, at_west, at_north, at_east, at_south, at_inside, at_same, at_margin, column_at, row_at, around_at}

-- The place of the pixel on the right of an edge with the digit k.
unfoldable pub spot : ℕ → ℕ → ℕ → ℕ
unfolding right_x right_y tail
spot k side e = right_y (tail e) k * side + right_x (tail e) k

-- The mark of the edge e, in the region r: on that pixel, if the edge has the digit k.
unfoldable pub mark : ℕ → ℕ → ℕ → List ℕ → ℕ → List ℕ
unfolding spot digit
mark k side r map e = elim (eqb (digit e) k) [ true ↦ set map (spot k side e) (r + mark_bit) | false ↦ map ]

-- The marks of all edges of a list.
unfoldable pub marks : ℕ → ℕ → ℕ → List ℕ → List ℕ → List ℕ
unfolding mark
marks k side r [] map = map
marks k side r (e ∷ es) map = marks k side r es (mark k side r map e)

pub mark_made : (k side r : ℕ) (map : List ℕ) (e : ℕ) → digit e ≡ k → mark k side r map e ≡ set map (spot k side e) (r + mark_bit)
unfolding mark
mark_made k side r map e h = rw (eq-eqb (digit e) k h, mark)

pub mark_other : (k side r : ℕ) (map : List ℕ) (e : ℕ) → digit e ≢ k → mark k side r map e ≡ map
unfolding mark
mark_other k side r map e h = rw (ne_eqb (digit e) k h, mark)

pub length-mark : (k side r : ℕ) (map : List ℕ) (e : ℕ) → length (mark k side r map e) ≡ length map
length-mark k side r map e =
    elim (ℕ_discrete (digit e) k) [
      | yes h ↦ ap length (mark_made k side r map e h) ∙ length-set map (spot k side e) (r + mark_bit)
      | no h ↦ ap length (mark_other k side r map e h)
    ]

pub length-marks : (k side r : ℕ) (es map : List ℕ) → length (marks k side r es map) ≡ length map
unfolding marks
length-marks k side r [] map = refl
length-marks k side r (e ∷ es) map = length-marks k side r es (mark k side r map e) ∙ length-mark k side r map e

-- An entry after one mark: marked, or as it was.
data OneMark (k side r : ℕ) (map : List ℕ) (e j : ℕ) : Type 0 where
  marked : digit e ≡ k → spot k side e ≡ j → get_or (mark k side r map e) j 0 ≡ r + mark_bit → OneMark k side r map e j
  untouched : (digit e ≡ k → spot k side e ≢ j) → get_or (mark k side r map e) j 0 ≡ get_or map j 0 → OneMark k side r map e j

one_mark : (k side r : ℕ) (map : List ℕ) (e j : ℕ) → (digit e ≡ k → spot k side e < length map) → OneMark k side r map e j
one_mark k side r map e j fits = pick (ℕ_discrete (digit e) k) (ℕ_discrete j (spot k side e))
  where
    pick : Dec (digit e ≡ k) → Dec (j ≡ spot k side e) → OneMark k side r map e j
    pick (no n) x = untouched (λ z. absurd (n z)) (ap (λ l. get_or l j 0) (mark_other k side r map e n))
    pick (yes z) (yes q) =
        marked z (sym q)
        (ap (λ l. get_or l j 0) (mark_made k side r map e z) ∙ ap (λ i. get_or (set map (spot k side e) (r + mark_bit)) i 0) q ∙ get_or-set_same map (spot k side e) (r + mark_bit) 0 (fits z))
    pick (yes z) (no q) =
        untouched (λ _ p. q (sym p))
        (ap (λ l. get_or l j 0) (mark_made k side r map e z) ∙ get_or-set_other map (spot k side e) j (r + mark_bit) 0 q)

-- The pixels on the right of the edges of a list with the digit k lie among the first `size` entries and are in the region r.
pub record Held (k side r size : ℕ) (es map : List ℕ) : Type 0 where
  pub known : r < mark_bit
  pub long : size ≤ length map
  pub inside : (e : ℕ) → In e es → digit e ≡ k → spot k side e < size
  pub here : (e : ℕ) → In e es → digit e ≡ k → get_or map (spot k side e) 0 % mark_bit ≡ r

module _ {k side r size e : ℕ} {es map : List ℕ} (held : Held k side r size (e ∷ es) map) where
  first_fits : digit e ≡ k → spot k side e < length map
  first_fits z = omega (arith, held.inside e (in_first e es) z, held.long)

  -- A mark is no part of the map.
  pub same_entry : (j : ℕ) → get_or (mark k side r map e) j 0 % mark_bit ≡ get_or map j 0 % mark_bit
  same_entry j = pick (one_mark k side r map e j first_fits)
    where
      pick : OneMark k side r map e j → get_or (mark k side r map e) j 0 % mark_bit ≡ get_or map j 0 % mark_bit
      pick (marked z q h) =
          let v : get_or map j 0 % mark_bit ≡ r = subst (λ i. get_or map i 0 % mark_bit ≡ r) q (held.here e (in_first e es) z) in
          omega (arith, h, held.known)
      pick (untouched n h) = ap (λ v. v % mark_bit) h

  pub held-rest : Held k side r size es (mark k side r map e)
  held-rest = record {
    known = held.known;
    long = omega (arith, held.long, length-mark k side r map e);
    inside = λ a i z. held.inside a (in_later a e es i) z;
    here = λ a i z. same_entry (spot k side a) ∙ held.here a (in_later a e es i) z;
  }

-- What the marks come to, entry by entry.
pub marks_same : {k side r size : ℕ} {es map : List ℕ} → Held k side r size es map → (j : ℕ) → get_or (marks k side r es map) j 0 % mark_bit ≡ get_or map j 0 % mark_bit
unfolding marks
marks_same {es = []} held j = refl
marks_same {es = e ∷ es} held j = marks_same {es = es} (held-rest held) j ∙ same_entry held j

pub marks_bounded : {k side r size : ℕ} {es map : List ℕ} → Held k side r size es map → (j : ℕ) → get_or map j 0 < 2 * mark_bit → get_or (marks k side r es map) j 0 < 2 * mark_bit
unfolding marks
marks_bounded {es = []} held j h = h
marks_bounded {k} {side} {r} {es = e ∷ es} {map} held j h = marks_bounded {es = es} (held-rest held) j (pick (one_mark k side r map e j (first_fits held)))
  where
    pick : OneMark k side r map e j → get_or (mark k side r map e) j 0 < 2 * mark_bit
    pick (marked z q v) = omega (arith, v, held.known)
    pick (untouched n v) = omega (arith, v)

pub marks-beyond : {k side r size : ℕ} {es map : List ℕ} → Held k side r size es map → (j : ℕ) → size ≤ j → get_or (marks k side r es map) j 0 ≡ get_or map j 0
unfolding marks
marks-beyond {es = []} held j h = refl
marks-beyond {k} {side} {r} {es = e ∷ es} {map} held j h = marks-beyond {es = es} (held-rest held) j h ∙ pick (one_mark k side r map e j (first_fits held))
  where
    pick : OneMark k side r map e j → get_or (mark k side r map e) j 0 ≡ get_or map j 0
    pick (marked z q v) = absurd (omega (arith, held.inside e (in_first e es) z))
    pick (untouched n v) = v

-- A mark stays; an edge of the list with the digit k marks its pixel; and no other mark comes.
pub marks-keep : {k side r size : ℕ} {es map : List ℕ} → Held k side r size es map → (j : ℕ) → mark_bit ≤ get_or map j 0 → mark_bit ≤ get_or (marks k side r es map) j 0
unfolding marks
marks-keep {es = []} held j h = h
marks-keep {k} {side} {r} {es = e ∷ es} {map} held j h = marks-keep {es = es} (held-rest held) j (pick (one_mark k side r map e j (first_fits held)))
  where
    pick : OneMark k side r map e j → mark_bit ≤ get_or (mark k side r map e) j 0
    pick (marked z q v) = omega (arith, v)
    pick (untouched n v) = omega (arith, v)

pub marks-set : {k side r size : ℕ} {es map : List ℕ} → Held k side r size es map → (a : ℕ) → In a es → digit a ≡ k → mark_bit ≤ get_or (marks k side r es map) (spot k side a) 0
unfolding marks
marks-set {es = []} held a i z = in_none a i
marks-set {k} {side} {r} {es = e ∷ es} {map} held a i z = pick (in_cases a e es i) (λ l. marks-set {es = es} (held-rest held) a l z)
  where
    here : a ≡ e → OneMark k side r map e (spot k side a) → mark_bit ≤ get_or (mark k side r map e) (spot k side a) 0
    here q (marked w p v) = omega (arith, v)
    here q (untouched n v) = absurd (n (ap digit (sym q) ∙ z) (ap (spot k side) (sym q)))

    pick : (a ≡ e) ⊎ In a es → (In a es → mark_bit ≤ get_or (marks k side r es (mark k side r map e)) (spot k side a) 0) → mark_bit ≤ get_or (marks k side r es (mark k side r map e)) (spot k side a) 0
    pick (inr l) ih = ih l
    pick (inl q) ih = marks-keep (held-rest held) (spot k side a) (here q (one_mark k side r map e (spot k side a) (first_fits held)))

-- An edge of the list with the digit k has the place j.
pub record MarkOf (k side : ℕ) (es : List ℕ) (j : ℕ) : Type 0 where
  pub from : ℕ
  pub stands : In from es
  pub its_digit : digit from ≡ k
  pub place : spot k side from ≡ j

pub marks_tell : {k side r size : ℕ} {es map : List ℕ} → Held k side r size es map → (j : ℕ) → mark_bit ≤ get_or (marks k side r es map) j 0 → (mark_bit ≤ get_or map j 0) ⊎ MarkOf k side es j
unfolding marks
marks_tell {es = []} held j h = inl h
marks_tell {k} {side} {r} {es = e ∷ es} {map} held j h = pick (marks_tell {es = es} (held-rest held) j h)
  where
    here : mark_bit ≤ get_or (mark k side r map e) j 0 → OneMark k side r map e j → (mark_bit ≤ get_or map j 0) ⊎ MarkOf k side (e ∷ es) j
    here b (marked z q v) = inr (record { from = e; stands = in_first e es; its_digit = z; place = q })
    here b (untouched n v) = inl (omega (arith, v))

    pick : (mark_bit ≤ get_or (mark k side r map e) j 0) ⊎ MarkOf k side es j → (mark_bit ≤ get_or map j 0) ⊎ MarkOf k side (e ∷ es) j
    pick (inl b) = here b (one_mark k side r map e j (first_fits held))
    pick (inr m) = inr (record { from = m.from; stands = in_later m.from e es m.stands; its_digit = m.its_digit; place = m.place })

-- What a map has is below the mark.
at_small : (side : ℕ) (map : List ℕ) (X Y : ℕ) → map_at side map X Y < mark_bit
at_small side map zero Y = omega (arith, at_west side map 0 Y refl)
at_small side map (suc x) zero = omega (arith, at_north side map (suc x) 0 refl)
at_small side map (suc x) (suc y) = pick (dec_lt x side) (dec_lt y side)
  where
    pick : Dec (x < side) → Dec (y < side) → map_at side map (suc x) (suc y) < mark_bit
    pick (no a) b = omega (arith, at_east side map (suc x) (suc y) (omega arith))
    pick (yes a) (no b) = omega (arith, at_south side map (suc x) (suc y) (omega arith))
    pick (yes a) (yes b) = omega (arith, at_inside side map x y a b)

-- The pixel on the right of an edge of the region r with the digit k.
pub record RightPixel (k side r : ℕ) (map : List ℕ) (e : ℕ) : Type 0 where
  pub the_side : e ≡ side_at (right_x (tail e) k) (right_y (tail e) k) k
  pub x_below : right_x (tail e) k < side
  pub y_below : right_y (tail e) k < side
  pub inside : spot k side e < side * side
  pub here : get_or map (spot k side e) 0 % mark_bit ≡ r

module _ {side r : ℕ} {map : List ℕ} (square : Square side map) where
  pub region_known : (e : ℕ) → Edge (map_at side map) r e → r < mark_bit
  region_known e h =
      omega (arith, h.side.on_right, around_at (map_at side map) (tail e) (digit e), at_small side map (column_at (x_of (tail e)) (digit e)) (row_at (y_of (tail e)) (digit e)))

  pub right_pixel : {k : ℕ} (e : ℕ) → Edge (map_at side map) r e → digit e ≡ k → RightPixel k side r map e
  unfolding spot
  right_pixel {k} e h z =
      let on_right : RightOf (map_at side map) r e (right_x (tail e) k) (right_y (tail e) k) =
      subst (λ d. RightOf (map_at side map) r e (right_x (tail e) d) (right_y (tail e) d)) z (edge_is_side (map_at side map) (at_margin side map square.small) r e h) in
      pick on_right (dec_lt (right_x (tail e) k) side) (dec_lt (right_y (tail e) k) side)
    where
      pick : RightOf (map_at side map) r e (right_x (tail e) k) (right_y (tail e) k) → Dec (right_x (tail e) k < side) → Dec (right_y (tail e) k < side) → RightPixel k side r map e
      pick q (no a) b = absurd (omega (arith, h.a_region, q.in_region, at_east side map (suc (right_x (tail e) k)) (suc (right_y (tail e) k)) (omega arith)))
      pick q (yes a) (no b) = absurd (omega (arith, h.a_region, q.in_region, at_south side map (suc (right_x (tail e) k)) (suc (right_y (tail e) k)) (omega arith)))
      pick q (yes a) (yes b) = record {
        the_side = q.the_side ∙ ap (side_at (right_x (tail e) k) (right_y (tail e) k)) z;
        x_below = a;
        y_below = b;
        inside = digits_lt b a;
        here = sym (at_inside side map (right_x (tail e) k) (right_y (tail e) k) a b) ∙ q.in_region;
      }

  -- Edges of the region keep to the map.
  pub held-edges : (k s : ℕ) (es : List ℕ) → Edge (map_at side map) r s → ((e : ℕ) → In e es → Edge (map_at side map) r e) → Held k side r (side * side) es map
  held-edges k s es first all = record {
    known = region_known s first;
    long = square.room;
    inside = λ e i z. (right_pixel e (all e i) z).inside;
    here = λ e i z. (right_pixel e (all e i) z).here;
  }

  one_edge : (k e : ℕ) → Edge (map_at side map) r e → Held k side r (side * side) (e ∷ []) map
  one_edge k e h = held-edges k e (e ∷ []) h (λ a i. pick a (in_cases a e [] i))
    where
      pick : (a : ℕ) → (a ≡ e) ⊎ In a [] → Edge (map_at side map) r a
      pick a (inl q) = subst (Edge (map_at side map) r) (sym q) h
      pick a (inr l) = in_none a l

  pub map-kept : (k e : ℕ) → Edge (map_at side map) r e → map_at side (mark k side r map e) ≡ map_at side map
  map-kept k e h = at_same side map (mark k side r map e) (same_entry (one_edge k e h))
