-- One region settled: its parent is stored behind the map, and the south sides of its first cycle are marked.
use Rattle.std.specs.Prelude.{◌≡◌, ◌⊎◌, ◌↔◌, List, ℕ, ◌+◌, ◌%◌, ◌^◌, ◌≤◌, ◌<◌, length, set}
use Rattle.std.proofs.Common.{sym, ap, ap₂, ◌∙◌, subst, inl, inr, arith, length-set, get_or-set_same, get_or-set_other}
use Rattle.std.proofs.Math.Decide.{dec_lt}
use Rattle.std.proofs.Math.ListN.{get_or}
use Rattle.sequences.specs.Powers.{pow4_mono}
use Rattle.interleaving.specs.Codes.{code, column, row}
use Rattle.interleaving.specs.Interleaving.{column-below, row_below, code_of_coordinates}
use Rattle.interleaving.specs.Splitting.{column_wider, row_wider}
use Rattle.location.specs.Levels.{pixels_of, pixels_are_power}
use Rattle.quadtree.specs.Raster.{place}
use Rattle.quadtree.specs.Orders.{place_in}
use Rattle.orbits.specs.Members.{In}
use Rattle.grid.specs.Cycles.{cycle}
use Rattle.grid.specs.Outer.{LeastPixel, least_starts}
use Rattle.components.specs.Numbers.{numbers}
use Rattle.components.proofs.Numbered.{number-below-regions, regions_at_most_pixels}
use Rattle.steps.specs.Look.{mark_bit}
use Rattle.cycles.specs.Mapped.{nums_of, Mapped, Marked, same_nums}
use Rattle.cycles.specs.CycleStarts.{CycleStart, CycleMarked}
use Rattle.orbits.specs.Finding.{place_of}
use Rattle.surrounding.specs.SouthSides.{south_side}
use Rattle.surrounding.specs.Parents.{first_cycle, parent_of}
use Rattle.parents.specs.RegionsSettled.{InFirstCycle, RegionsSettled, LeastAt, RegionNext, RegionSettled}
use Rattle.parents.specs.NorthOf.{placed}

module _ {n s c : ℕ} {work : List ℕ} (ok : RegionNext n s c work) where
  small : n ≤ 8
  small = ok.settled.small

  s_known : s < 4 ^ n
  s_known =
      let e : get_or (nums_of n work) c 0 ≡ get_or (numbers n ok.settled.image) c 0 = ap (λ (m : List ℕ). get_or m c 0) ok.settled.numbered in
      omega (arith, ok.number, number-below-regions n ok.settled.image c ok.least.inside, regions_at_most_pixels n ok.settled.image)

  pub region_low : s < 65536
  region_low = let m : 4 ^ n ≤ 65536 = pow4_mono small in omega (arith, s_known)

  module _ {x y : ℕ} (ex : x ≡ column 16 c) (ey : y ≡ row 16 c) where
    x-is : x ≡ column n c
    x-is = ex ∙ column_wider n 16 c (omega (arith, small)) ok.least.inside

    y_is : y ≡ row n c
    y_is = ey ∙ row_wider n 16 c (omega (arith, small)) ok.least.inside

    code_is : code n x y ≡ c
    code_is = ap₂ (code n) x-is y_is ∙ code_of_coordinates n c ok.least.inside

    number_is : get_or (nums_of n work) (code n x y) 0 ≡ s
    number_is = ap (λ (d : ℕ). get_or (nums_of n work) d 0) code_is ∙ ok.number

    pub least_here : LeastAt n work x y
    least_here = record {
      x_inside = omega (arith, x-is, column-below n c);
      y_inside = omega (arith, y_is, row_below n c);
      least = subst (LeastPixel n (nums_of n work)) (sym code_is) ok.least;
      settled = subst (λ (v : ℕ). RegionsSettled n v work) (sym number_is) ok.settled;
    }

    module _ {whole : ℕ} (ew : whole ≡ pixels_of n) where
      whole_is : whole ≡ 4 ^ n
      whole_is = ew ∙ pixels_are_power n (omega (arith, small))

      pub parent_place : (whole + s < length work) × (whole + s ≤ 131072)
      parent_place =
          let m : 4 ^ n ≤ 65536 = pow4_mono small in
          (omega (arith, whole_is, s_known, ok.settled.room), omega (arith, whole_is, s_known))

      module _ {r : ℕ} (er : r ≡ parent_of n (nums_of n work) (get_or (nums_of n work) (code n x y) 0)) where
        -- With the parent stored.
        abbrev stored : List ℕ
        stored = set work (whole + s) r

        in_map : (j : ℕ) → j < 4 ^ n → get_or stored j 0 ≡ get_or work j 0
        in_map j h = get_or-set_other work (whole + s) j r 0 (omega (arith, whole_is))

        stored_long : length stored ≡ length work
        stored_long = length-set work (whole + s) r

        stored-numbers : nums_of n stored ≡ nums_of n work
        stored-numbers = same_nums n work stored (λ j h. ap (λ (v : ℕ). v % mark_bit) (in_map j h))

        stored_mapped : Mapped n stored
        stored_mapped = record {
          long = omega (arith, stored_long, ok.settled.mapped.long);
          numbered = λ j h. omega (arith, in_map j h, ok.settled.mapped.numbered j h);
          bounded = λ j h. omega (arith, in_map j h, ok.settled.mapped.bounded j h);
        }

        least_stored : LeastPixel n (nums_of n stored) (code n x y)
        least_stored = subst (λ (m : List ℕ). LeastPixel n m (code n x y)) (sym stored-numbers) least_here.least

        pub cycle-starts : CycleStart n stored x y
        cycle-starts = record {
          small = small;
          mapped = stored_mapped;
          x_inside = least_here.x_inside;
          y_inside = least_here.y_inside;
          starts = least_starts n (nums_of n stored) small (code n x y) least_stored;
        }

        module _ {work' : List ℕ} (w : CycleMarked 2 n stored (code n x y) work') where
          numbers_now : nums_of n work' ≡ nums_of n work
          numbers_now = w.same_numbers ∙ stored-numbers

          first_now : cycle n (nums_of n stored) (code n x y) ≡ first_cycle n (nums_of n work') s
          first_now =
              ap₂ (cycle n) (sym w.same_numbers) (sym (placed least_here) ∙ ap₂ place_of number_is (sym least_here.settled.numbered ∙ sym numbers_now))

          parents_now : (v : ℕ) → v < s + 1 → get_or work' (4 ^ n + v) 0 ≡ parent_of n (nums_of n work') v
          parents_now v h = w.beyond (4 ^ n + v) (omega arith) ∙ pick (dec_lt v s) ∙ ap (λ (m : List ℕ). parent_of n m v) (sym numbers_now)
            where
              pick : Dec (v < s) → get_or stored (4 ^ n + v) 0 ≡ parent_of n (nums_of n work) v
              pick (yes l) = get_or-set_other work (whole + s) (4 ^ n + v) r 0 (omega (arith, whole_is)) ∙ ok.settled.parents v l
              pick (no l) =
                  let e : v ≡ s = omega arith in
                  let at : 4 ^ n + v ≡ whole + s = omega (arith, whole_is) in
                  ap (λ (j : ℕ). get_or stored j 0) at ∙ get_or-set_same work (whole + s) r 0 parent_place.0 ∙ er
                  ∙ ap (parent_of n (nums_of n work)) (number_is ∙ sym e)

          marked_now : (q : ℕ) → q < 4 ^ n → Marked n work' q ↔ InFirstCycle n (nums_of n work') (s + 1) q
          unfolding Marked south_side
          marked_now q h = (λ m. to ((w.marked q h).0 m), λ f. (w.marked q h).1 (from f (dec_lt f.region s)))
            where
              entry : get_or stored (place n q) 0 ≡ get_or work (place n q) 0
              entry = in_map (place n q) (place_in n q)

              to : Marked n stored q ⊎ In (south_side n q) (cycle n (nums_of n stored) (code n x y)) → InFirstCycle n (nums_of n work') (s + 1) q
              to (inl m) =
                  let f : InFirstCycle n (nums_of n work) s q = (ok.settled.marked q h).0 (subst (λ (v : ℕ). mark_bit ≤ v) entry m) in
                  record {
                    region = f.region;
                    smaller = omega (arith, f.smaller);
                    holds = subst (λ (m : List ℕ). In (south_side n q) (first_cycle n m f.region)) (sym numbers_now) f.holds;
                  }
              to (inr i) = record { region = s; smaller = omega arith; holds = subst (In (south_side n q)) first_now i }

              from : (f : InFirstCycle n (nums_of n work') (s + 1) q) → Dec (f.region < s) → Marked n stored q ⊎ In (south_side n q) (cycle n (nums_of n stored) (code n x y))
              from f (yes l) =
                  inl (subst (λ (v : ℕ). mark_bit ≤ v) (sym entry) ((ok.settled.marked q h).1
                  (record { region = f.region; smaller = l; holds = subst (λ (m : List ℕ). In (south_side n q) (first_cycle n m f.region)) numbers_now f.holds })))
              from f (no l) =
                  let e : f.region ≡ s = omega (arith, f.smaller) in
                  inr (subst (In (south_side n q)) (ap (first_cycle n (nums_of n work')) e ∙ sym first_now) f.holds)

          pub region_settled : RegionSettled n s work work'
          region_settled = record {
            settled = record {
              small = small;
              image = ok.settled.image;
              mapped = w.mapped;
              numbered = numbers_now ∙ ok.settled.numbered;
              room = omega (arith, w.same_length, stored_long, ok.settled.room);
              marked = marked_now;
              parents = parents_now;
            };
            same_numbers = numbers_now;
            long = w.same_length ∙ stored_long;
            beyond = λ j l. w.beyond j (omega arith) ∙ get_or-set_other work (whole + s) j r 0 (omega (arith, whole_is));
          }
