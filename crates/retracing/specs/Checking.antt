-- The loop over the given cycles: what holds when k of them are checked, and that one more keeps it.
use Rattle.std.specs.Prelude.{◌≡◌, ◌⊎◌, ◌↔◌, Bool, true, false, not, length, take, drop}
use Rattle.std.proofs.Math.Path.{refl, sym, ap, ap₂, subst₂}
use Rattle.std.proofs.Common.{◌∙◌, subst, add-one, length-take, drop-cons}
use Rattle.std.proofs.lemmas.Bool.{false≢true, not-false}
use mathlib.Core.List.{List}
use Prim.Native.Nat.{ℕ, zero, suc, ◌+◌, ◌-◌, ◌≤◌, ◌<◌}
use native.Mathlib.Omega.{arith}
use Rattle.std.proofs.Math.ListN.{get_or}
use Rattle.sequences.specs.Powers.{pow2_mono}
use Rattle.interleaving.specs.Codes.{code}
use Rattle.interleaving.specs.Splitting.{code_wider}
use Rattle.lattice.specs.Directions.{x_of, y_of}
use Rattle.orbits.specs.Members.{In}
use Rattle.grid.specs.Cycles.{corner_of, north_side, cycle}
use Rattle.grid.specs.Sides.{side_at}
use Rattle.grid.specs.Listing.{Cycle, owners, points_at}
use Rattle.quadtree.specs.Raster.{place}
use Rattle.quadtree.specs.Orders.{place_in}
use Rattle.stretches.specs.Stretch.{begin_of}
use Rattle.cycles.specs.Mapped.{nums_of, Marked}
use Rattle.cycles.specs.CycleStarts.{CycleMarked}
use Rattle.given_outlines.specs.Given.{cycles_in}
use Rattle.given_outlines.specs.Agreeing.{length-held, PartHeld, part_held}
use Rattle.given_outlines.specs.Starts.{code_at, EachFromItsStart}
use Rattle.given_outlines.specs.CycleByCycle.{start_told, FromItsStart, FirstPixel, first_pixel, FirstAgree, each_from_its_start, each_in_order}
use Rattle.given_outlines.specs.CycleByCycle as agreeing
use Rattle.sequences.specs.Says.{denied, granted}
use Rattle.cycle_checks.specs.Checked.{Checkable, CycleChecked}
use Rattle.retracing.specs.Promise.{Retraceable, MapKept}
use Rattle.retracing.specs.Ranks.{rank, rank_at, least_rank, least_first, least_next, in_order_ranks}

-- k cycles are checked and stand in order, and their marks are in the map; the corners of the next one begin at `begin`, and its rank may not be below
-- `least`.
pub record Checking (n : ℕ) (os es cs map₀ map : List ℕ) (k begin least : ℕ) : Type 0 where
  pub place : k ≤ length es
  pub begins : begin ≡ begin_of es k
  pub next-rank : least ≡ least_rank n (cycles_in os es cs) k
  pub long : length map ≡ length map₀
  pub kept : MapKept n map₀ map
  pub agree : FirstAgree n (nums_of n map₀) (cycles_in os es cs) (Marked n map) k

-- The answer for all cycles: whether each is one from its start and they stand in order. Where they are, the map is kept, and bears their marks.
pub record EachChecked (n : ℕ) (l : List Cycle) (map map' : List ℕ) (ok : Bool) : Type 0 where
  pub long : length map' ≡ length map
  pub kept : ok ≡ true → MapKept n map map'
  pub agree : ok ≡ true → FirstAgree n (nums_of n map) l (Marked n map') (length l)
  pub refuted : ok ≡ false → EachFromItsStart n (nums_of n map) l → ⊥

refuse : {n : ℕ} {l : List Cycle} {map map' : List ℕ} → length map' ≡ length map → (EachFromItsStart n (nums_of n map) l → ⊥) → EachChecked n l map map' false
refuse long not_listing = record { long = long; kept = λ e. absurd (false≢true e); agree = λ e. absurd (false≢true e); refuted = λ e. not_listing }

first_of_part : (cs : List ℕ) (b e : ℕ) → b < e → b < length cs → get_or (take (e - b) (drop b cs)) 0 0 ≡ get_or cs b 0
first_of_part cs b e h k = from (e - b) (omega arith)
  where
    from : (j : ℕ) → 0 < j → get_or (take j (drop b cs)) 0 0 ≡ get_or cs b 0
    from zero z = absurd (omega arith)
    from (suc j) z = ap (λ (l : List ℕ). get_or (take (suc j) l) 0 0) (drop-cons cs b 0 k)

begin_next : (es : List ℕ) (k : ℕ) → get_or es k 0 ≡ begin_of es (k + 1)
unfolding begin_of
begin_next es k = sym (ap (begin_of es) (add-one k))

module _ {n : ℕ} {os es cs map₀ : List ℕ} (ok : Retraceable n os es cs map₀) where
  pub begin : Checking n os es cs map₀ map₀ 0 0 0
  unfolding begin_of least_rank Marked
  begin = record {
    place = omega arith;
    begins = refl;
    next-rank = refl;
    long = refl;
    kept = record { mapped = ok.mapped; same_numbers = refl; beyond = λ j h. refl };
    agree = agreeing.begin (λ c h m. omega (arith, ok.unmarked (place n c) (place_in n c)));
  }

  module _ {map : List ℕ} {k b least : ℕ} (w : Checking n os es cs map₀ map k b least) where
    pub checkable : Checkable n map
    checkable = record { small = ok.small; mapped = w.kept.mapped }

    pub finish : length es ≤ k → EachChecked n (cycles_in os es cs) map₀ map true
    finish h =
        let whole : k ≡ length (cycles_in os es cs) = omega (arith, w.place, length-held ok.agree) in
        record {
          long = w.long;
          kept = λ e. w.kept;
          agree = λ e. subst (FirstAgree n (nums_of n map₀) (cycles_in os es cs) (Marked n map)) whole w.agree;
          refuted = λ e. absurd (false≢true (sym e));
        }

    -- ---- the cycle k

    module _ (more : k < length es) where
      held : PartHeld ok.agree k
      held = part_held ok.agree k more

      -- Its corners lie between b and its end,
      pub end_not_before : b ≤ get_or es k 0
      end_not_before = omega (arith, held.rises, w.begins)

      pub end_inside : get_or es k 0 ≤ length cs
      end_inside = held.fits

      its_points : points_at (cycles_in os es cs) k ≡ take (get_or es k 0 - b) (drop b cs)
      its_points = held.part ∙ ap (λ (i : ℕ). take (get_or es k 0 - i) (drop i cs)) (sym w.begins)

      pub owner-inside : k < length os
      owner-inside = omega (arith, ok.agree.an_owner_each)

      -- As the definition has it: the numbers are those of the map at the start.
      as_listed : FromItsStart n (nums_of n map) (get_or os k 0) (take (get_or es k 0 - b) (drop b cs))
          → FromItsStart n (nums_of n map₀) (get_or (owners (cycles_in os es cs)) k 0) (points_at (cycles_in os es cs) k)
      as_listed f =
          subst (λ (l : List ℕ). FromItsStart n l (get_or (owners (cycles_in os es cs)) k 0) (points_at (cycles_in os es cs) k)) w.kept.same_numbers
          (subst₂ (FromItsStart n (nums_of n map)) (sym held.its_owner) (sym its_points) f)

      listed_as : FromItsStart n (nums_of n map₀) (get_or (owners (cycles_in os es cs)) k 0) (points_at (cycles_in os es cs) k)
          → FromItsStart n (nums_of n map) (get_or os k 0) (take (get_or es k 0 - b) (drop b cs))
      listed_as f =
          subst (λ (l : List ℕ). FromItsStart n l (get_or os k 0) (take (get_or es k 0 - b) (drop b cs))) (sym w.kept.same_numbers)
          (subst₂ (FromItsStart n (nums_of n map₀)) held.its_owner its_points f)

      in_listing : k < length (cycles_in os es cs)
      in_listing = omega (arith, length-held ok.agree)

      module _ {map' : List ℕ} {agrees : Bool} (checked : CycleChecked n (get_or os k 0) (take (get_or es k 0 - b) (drop b cs)) map map' agrees) where
        pub long_then : length map' ≡ length map₀
        long_then = checked.long ∙ w.long

        pub not_a_cycle : not agrees ≡ true → EachChecked n (cycles_in os es cs) map₀ map' false
        not_a_cycle e = refuse long_then (λ l. denied checked.answer e (listed_as (each_from_its_start l k in_listing)))

        module _ (yes_said : not agrees ≡ false) where
          from_start : FromItsStart n (nums_of n map) (get_or os k 0) (take (get_or es k 0 - b) (drop b cs))
          from_start = granted checked.answer yes_said

          pixel : FirstPixel n (take (get_or es k 0 - b) (drop b cs))
          pixel = first_pixel ok.small from_start

          -- It has a first corner, at b,
          not_empty : b < get_or es k 0
          not_empty = omega (arith, pixel.some, length-take (get_or es k 0 - b) (drop b cs))

          pub corner-inside : b < length cs
          corner-inside = omega (arith, not_empty, end_inside)

          first-is : get_or (take (get_or es k 0 - b) (drop b cs)) 0 0 ≡ get_or cs b 0
          first-is = first_of_part cs b (get_or es k 0) not_empty corner-inside

          -- which lies in the image.
          pub x_low : x_of (get_or cs b 0) < 256
          x_low = omega (arith, ap x_of first-is, pixel.x_inside, pow2_mono ok.small)

          pub y_low : y_of (get_or cs b 0) < 256
          y_low = omega (arith, ap y_of first-is, pixel.y_inside, pow2_mono ok.small)

          its_code : code 8 (x_of (get_or cs b 0)) (y_of (get_or cs b 0)) ≡ start_told n (points_at (cycles_in os es cs) k)
          unfolding code_at
          its_code =
              let p : ℕ = get_or (take (get_or es k 0 - b) (drop b cs)) 0 0 in
              ap₂ (code 8) (ap x_of (sym first-is)) (ap y_of (sym first-is))
              ∙ code_wider n 8 (x_of p) (y_of p) ok.small pixel.x_inside pixel.y_inside
              ∙ ap (start_told n) (sym its_points)

          module _ {r : ℕ} (ranked : r ≡ rank (get_or os k 0) (code 8 (x_of (get_or cs b 0)) (y_of (get_or cs b 0)))) where
            its_rank : r ≡ rank_at n (cycles_in os es cs) k
            unfolding rank_at
            its_rank = ranked ∙ ap₂ rank (sym held.its_owner) its_code

            -- The cycles before it and after it: their ranks tell their order.
            pub out_of_order : r < least → EachChecked n (cycles_in os es cs) map₀ map' false
            out_of_order h = refuse long_then (λ l. from l k refl)
              where
                from : EachFromItsStart n (nums_of n map₀) (cycles_in os es cs) → (j : ℕ) → k ≡ j → ⊥
                from l zero e = omega (arith, w.next-rank, ap (least_rank n (cycles_in os es cs)) e, least_first n (cycles_in os es cs))
                from l (suc i) e =
                    omega (
                      arith,
                      w.next-rank,
                      ap (least_rank n (cycles_in os es cs)) e,
                      least_next n (cycles_in os es cs) i,
                      its_rank,
                      ap (rank_at n (cycles_in os es cs)) e,
                      (in_order_ranks ok.small (cycles_in os es cs) i (suc i) (each_from_its_start l i (omega (arith, in_listing)))
                          (each_from_its_start l (suc i) (omega (arith, in_listing)))).0 (each_in_order l i (omega (arith, in_listing))),
                    )

            pub again : least ≤ r → Checking n os es cs map₀ map' (k + 1) (get_or es k 0) (r + 1)
            unfolding north_side corner_of side_at
            again h = record {
              place = omega arith;
              begins = begin_next es k;
              next-rank = ap (λ (v : ℕ). v + 1) its_rank ∙ sym (least_next n (cycles_in os es cs) k) ∙ ap (least_rank n (cycles_in os es cs)) (sym (add-one k));
              long = long_then;
              kept = record {
                mapped = marked.mapped;
                same_numbers = marked.same_numbers ∙ w.kept.same_numbers;
                beyond = λ j i. marked.beyond j i ∙ w.kept.beyond j i;
              };
              agree = agreeing.again w.agree (as_listed from_start)
                  (λ i q. (in_order_ranks ok.small (cycles_in os es cs) i k (w.agree.each i (omega arith)) (as_listed from_start)).1 (omega (
                    arith,
                    h,
                    its_rank,
                    w.next-rank,
                    ap (least_rank n (cycles_in os es cs)) (sym q),
                    least_next n (cycles_in os es cs) i,
                  )))
                  (λ c i. subst₂ (λ (l ps : List ℕ). Marked n map' c ↔ (Marked n map c ⊎ In (north_side n c) (cycle n l (start_told n ps))))
                  w.kept.same_numbers (sym its_points) (marked.marked c i));
            }
              where
                marked : CycleMarked 0 n map (start_told n (take (get_or es k 0 - b) (drop b cs))) map'
                marked = checked.marked (not-false agrees yes_said)
