-- One pixel of the listing: where its north side is an edge without a mark a cycle is written, else nothing.
use Rattle.std.specs.Prelude.{◌≡◌, refl, Bool, ℕ, suc, ◌+◌, ◌-◌, ◌*◌, ◌^◌, ◌≤◌, ◌<◌, drop, get_or, ℤ}
use Rattle.std.proofs.Math.Path.{sym, ap, ap₂, subst}
use Rattle.std.proofs.Common.{◌∙◌, inl, inr, length-drop}
use Rattle.std.proofs.Math.Bool.{true, false}
use mathlib.Core.List.{List, [], ◌∷◌, ◌++◌}
use native.Mathlib.Omega.{arith}
use Rattle.std.proofs.Math.ListN.{length, take, set}
use Rattle.sequences.specs.Over.{over, over_push}
use Rattle.sequences.specs.Powers.{pow4_mono}
use Rattle.sequences.specs.Tails.{tail-lent, over_tail}
use Rattle.interleaving.specs.Codes.{code}
use Rattle.lattice.specs.Walks.{corners}
use Rattle.lattice.specs.Area.{area}
use Rattle.grid.specs.Cycles.{cycle, is_start}
use Rattle.grid.specs.Listing.{keep, owners, ends, all_corners, areas, corner_count}
use Rattle.grid.specs.Keeping.{keep_yes, keep_no}
use Rattle.grid.specs.Starting.{StartAt, start_says, says_start}
use Rattle.grid.specs.Closing.{sides_of_corners}
use Rattle.links.specs.Ahead.{all_starts, Ahead, MarksOf, marks-more, start_unmarked, unmarked_starts, here-inside}
use Rattle.links.specs.FirstCycles.{first_cycles, starts_few, length-first-owners, length-first-ends, length-first-areas, corners_room, some_left, first-starts-more, owners-more, ends_more, corners-more, areas-more, count-more}
use Rattle.cycles.specs.Mapped.{nums_of, Marked}
use Rattle.cycles.specs.Promise.{StartsHere, CycleWritten}
use Rattle.starts.specs.Unmarked.{PixelOf, Unmarked, Tells}
use Rattle.starts.specs.Progress.{State, state, cycles_marked, starts_between, Listed, PixelsNext, StartsListed}
use borrow.Rule.Slice.PartMut.{mid_of, put_mid}

-- The pixel (x, y) of the image comes next.
pub record PixelNext (n x y : ℕ) (s : State) : Type 0 where
  pub x_inside : x < 2 ^ n
  pub y_inside : y < 2 ^ n
  pub next : PixelsNext n (code n x y ∷ []) s

-- The lent lists have room for one cycle more, of k corners.
pub record OneMore (s : State) (k : ℕ) : Type 0 where
  pub few : s.cycles < 65536
  pub owner : s.cycles < length s.owned
  pub end : s.cycles < length s.ended
  pub area : s.cycles < length s.sums
  pub inside : s.corners ≤ length s.points
  pub low : s.corners + k ≤ 262144

module _ {n x y : ℕ} {s : State} (ok : PixelNext n x y s) where
  abbrev nums : List ℕ
  nums = nums_of n s.work

  small : n ≤ 8
  small = ok.next.room.small

  l : Listed n nums s s
  l = ok.next.listed

  ahead : Ahead n nums (code n x y ∷ []) s.cycles
  ahead = ok.next.ahead

  pub pixel_of : PixelOf n s.work x y
  pixel_of = record { small = ok.next.room.small; mapped = ok.next.listed.mapped; x_inside = ok.x_inside; y_inside = ok.y_inside }

  -- Nothing is written where no cycle starts.
  pub no_cycle_starts : {r : ℕ} → Tells n s.work (code n x y) r → r ≡ 0 → StartsListed n (code n x y ∷ []) s s
  unfolding keep
  no_cycle_starts (inl u) zero_told = absurd (omega (arith, u.region))
  no_cycle_starts (inr (z, none)) zero_told = record { counted = omega (arith, ap length kept); listed = ok.next.listed }
    where
      not_start : (b : Bool) → is_start n nums (code n x y) ≡ b → is_start n nums (code n x y) ≡ false
      not_start false e = e
      not_start true e =
          let st : StartAt n nums (code n x y) = start_says n nums small (code n x y) (here-inside n nums small (code n x y) [] s.cycles ahead) e in
          absurd (none st.north (start_unmarked n nums small (code n x y) [] s.cycles ahead (Marked n s.work) l.marks st))

      kept : keep (is_start n nums) (code n x y ∷ []) ≡ []
      kept = keep_no (is_start n nums) (code n x y) [] (not_start (is_start n nums (code n x y)) refl)

  -- A cycle is written.
  module _ {r : ℕ} (t : Tells n s.work (code n x y) r) (some : r ≡ 0 → ⊥) where
    fresh : Unmarked n s.work (code n x y) r
    fresh = pick t
      where
        pick : Tells n s.work (code n x y) r → Unmarked n s.work (code n x y) r
        pick (inl u) = u
        pick (inr (z, none)) = absurd (some z)

    owner_is : r - 1 ≡ get_or nums (code n x y) 0
    owner_is = omega (arith, fresh.region)

    starts : StartAt n nums (code n x y)
    starts = unmarked_starts n nums small (code n x y) [] s.cycles ahead (Marked n s.work) l.marks fresh.north fresh.no_mark

    kept : keep (is_start n nums) (code n x y ∷ []) ≡ code n x y ∷ []
    unfolding keep
    kept = keep_yes (is_start n nums) (code n x y) [] (says_start n nums small (code n x y) starts)

    rest : List ℕ
    rest = keep (is_start n nums) ahead.todo ++ ahead.rest

    first-start : drop s.cycles (all_starts n nums) ≡ code n x y ∷ rest
    unfolding rest
    first-start =
        ahead.whole
        ∙ ap (λ (m : List ℕ). m ++ ahead.rest)
        (keep_yes (is_start n nums) (code n x y) ahead.todo (says_start n nums small (code n x y) starts))

    -- There is room for it.
    cycles_below : s.cycles < 4 ^ n
    cycles_below = omega (arith, some_left n nums s.cycles (code n x y) rest first-start, starts_few n nums)

    pub cycles_small : s.cycles < 65536
    cycles_small = let w : 4 ^ n ≤ 4 ^ 8 = pow4_mono small in omega (arith, cycles_below)

    pub owners-below : s.cycles < length s.owned
    owners-below = omega (arith, cycles_below, ok.next.room.for_owners)

    pub ends-below : s.cycles < length s.ended
    ends-below = omega (arith, cycles_below, ok.next.room.for_ends)

    pub areas-below : s.cycles < length s.sums
    areas-below = omega (arith, cycles_below, ok.next.room.for_areas)

    corners_fit : s.corners + length (corners (cycle n nums (code n x y))) ≤ 4 * 4 ^ n
    corners_fit =
        omega (
          arith,
          l.corners_so_far,
          count-more n nums s.cycles (code n x y) rest first-start,
          corners_room n nums small (s.cycles + 1),
        )

    pub corners-inside : s.corners ≤ length s.points
    corners-inside = omega (arith, corners_fit, ok.next.room.for_corners)

    pub corners_small : s.corners + length (corners (cycle n nums (code n x y))) ≤ 262144
    corners_small = let w : 4 ^ n ≤ 4 ^ 8 = pow4_mono small in omega (arith, corners_fit)

    pub starts-here : StartsHere n s.work (mid_of s.corners (length s.points - s.corners) s.points) x y
    starts-here = record {
      small = ok.next.room.small;
      mapped = ok.next.listed.mapped;
      x_inside = ok.x_inside;
      y_inside = ok.y_inside;
      starts = starts;
      room = omega (arith, corners_fit, ok.next.room.for_corners, ap length (tail-lent s.corners s.points), length-drop s.corners s.points);
    }

    pub cycle_listed : {work' tail' : List ℕ} {k v : ℕ} {sum z : ℤ}
        → CycleWritten n s.work (mid_of s.corners (length s.points - s.corners) s.points) (code n x y) work' tail' k sum → v ≡ r - 1 → z ≡ sum
        → StartsListed n (code n x y ∷ []) s
        (state work' (set s.owned s.cycles v) (set s.ended s.cycles (s.corners + k)) (put_mid s.corners (length s.points - s.corners) s.points tail')
        (set s.sums s.cycles z) (record { cycles = s.cycles + 1; corners = s.corners + k }))
    unfolding corner_count cycles_marked
    cycle_listed {work'} {tail'} {k} {v} {sum} {z} w e f =
        let k-is : s.corners + k ≡ corner_count (first_cycles n nums s.cycles) + length (corners (cycle n nums (code n x y))) = omega (arith, w.count, l.corners_so_far) in
        let one : s.cycles + 1 - s.cycles ≡ 1 = omega arith in
        let here : starts_between n nums s.cycles (s.cycles + 1) ≡ code n x y ∷ [] = ap₂ (λ (z : ℕ) (l : List ℕ). take z l) one first-start in
        record {
          counted = omega (arith, ap length kept);
          listed = record {
            few = omega (arith, some_left n nums s.cycles (code n x y) rest first-start);
            in_owners =
                ap (λ (o : List ℕ). set o s.cycles v) l.in_owners
                ∙ over_push (owners (first_cycles n nums s.cycles)) s.owned v s.cycles (sym (length-first-owners n nums s.cycles l.few)) owners-below
                ∙ ap (λ (o : List ℕ). over o s.owned)
                (ap (λ (z : ℕ). owners (first_cycles n nums s.cycles) ++ (z ∷ [])) (e ∙ owner_is) ∙ sym (owners-more n nums s.cycles (code n x y) rest first-start));
            in_ends =
                ap (λ (o : List ℕ). set o s.cycles (s.corners + k)) l.in_ends
                ∙ over_push (ends (first_cycles n nums s.cycles)) s.ended (s.corners + k) s.cycles (sym (length-first-ends n nums s.cycles l.few)) ends-below
                ∙ ap (λ (o : List ℕ). over o s.ended)
                (ap (λ (z : ℕ). ends (first_cycles n nums s.cycles) ++ (z ∷ [])) k-is ∙ sym (ends_more n nums s.cycles (code n x y) rest first-start));
            in_corners =
                over_tail (all_corners (first_cycles n nums s.cycles)) (corners (cycle n nums (code n x y))) s.points s.points tail' s.corners l.corners_so_far l.in_corners w.list
                ∙ ap (λ (o : List ℕ). over o s.points) (sym (corners-more n nums s.cycles (code n x y) rest first-start));
            in_areas =
                ap (λ (o : List ℤ). set o s.cycles z) l.in_areas
                ∙ over_push (areas (first_cycles n nums s.cycles)) s.sums z s.cycles (sym (length-first-areas n nums s.cycles l.few)) areas-below
                ∙ ap (λ (o : List ℤ). over o s.sums)
                (ap (λ (a : ℤ). areas (first_cycles n nums s.cycles) ++ (a ∷ [])) (f ∙ w.its_area ∙ ap area (sym (sides_of_corners n nums small (code n x y) starts)))
                ∙ sym (areas-more n nums s.cycles (code n x y) rest first-start));
            corners_so_far = k-is ∙ sym (count-more n nums s.cycles (code n x y) rest first-start);
            in_work = w.in_map ∙ ap (λ (cs : List ℕ). cycles_marked n cs s.work) (sym here);
            mapped = w.mapped;
            numbers = w.same_numbers;
            marks =
                subst (λ (d : List ℕ). MarksOf n nums d (Marked n work')) (sym (first-starts-more n nums s.cycles (code n x y) rest first-start))
                (marks-more n nums (take s.cycles (all_starts n nums)) (code n x y) (Marked n s.work) (Marked n work') l.marks w.marked);
            long = w.same_length;
            beyond = w.beyond;
          };
        }

  pub one_more : {region : ℕ} → Tells n s.work (code n x y) (suc region) → OneMore s (length (corners (cycle n nums (code n x y))))
  one_more {region} t =
      let some : suc region ≡ 0 → ⊥ = λ e. omega arith in
      record {
        few = cycles_small t some;
        owner = owners-below t some;
        end = ends-below t some;
        area = areas-below t some;
        inside = corners-inside t some;
        low = corners_small t some;
      }
