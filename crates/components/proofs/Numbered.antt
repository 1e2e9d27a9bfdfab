-- The numbers of the definition are region numbers, and no other numbers are so.
use Rattle.std.specs.Prelude.{◌≡◌, ◌⊎◌, ◌↔◌, List, ℕ, ◌^◌, ◌≤◌, ◌<◌, length}
use Rattle.std.proofs.Math.Path.{sym, ap}
use Rattle.std.proofs.Common.{◌∙◌, inl, inr, arith}
use Rattle.std.proofs.Math.Decide.{dec_lt, ℕ_discrete}
use Rattle.std.proofs.Math.ListN.{get_or, length-map}
use Rattle.std.proofs.Math.Seq.{ext_get_or}
use Rattle.sequences.specs.Maps.{get_d_map}
use Rattle.unions.specs.Pairs.{Pair, Linked}
use Rattle.unions.specs.Representatives.{rep, rep_links, linked_rep, rep-le, rep_twice, rep_least, linked_to_rep}
use Rattle.unions.specs.Classes.{length-classes, classes-rep, Inside, inside_each}
use Rattle.unions.specs.Counting.{below, below_most, below_same, number_of, counted, number_rises, number_of_own, number_less, number_linked, CountsUp, numbers-count-up, only_numbers}
use Rattle.components.specs.Joined.{Beside, Joined}
use Rattle.components.proofs.Joined.{connected_to, connected_step, connected_colour}
use Rattle.components.specs.Numbers.{west_of, north_of, alike_pairs, representatives, numbers, regions}
use Rattle.components.proofs.Neighbours.{AlikePair, alike_pair, west-le, north-le, linked_exactly_when_connected}
use Rattle.components.specs.Numbered.{LeastCode, RegionNumbers, FirstOf, ByLeastCodes}

module _ (n : ℕ) (px : List ℕ) where
  pairs : List Pair
  pairs = alike_pairs n px (4 ^ n)

  pairs_inside : Inside (4 ^ n) pairs
  unfolding pairs
  pairs_inside = inside_each (4 ^ n) pairs (λ e m. both e (alike_pair n px (4 ^ n) e m))
    where
      both : (e : Pair) → AlikePair n px (4 ^ n) e → (e.one < 4 ^ n) × (e.two < 4 ^ n)
      both e s = (s.below, pick s.neighbour)
        where
          pick : (e.two ≡ west_of n e.one) ⊎ (e.two ≡ north_of n e.one) → e.two < 4 ^ n
          pick (inl w) = omega (arith, w, west-le n e.one s.below, s.below)
          pick (inr w) = omega (arith, w, north-le n e.one s.below, s.below)

  pub length-representatives : length (representatives n px) ≡ 4 ^ n
  unfolding representatives
  length-representatives = length-classes (4 ^ n) (alike_pairs n px (4 ^ n))

  pub length-numbers : length (numbers n px) ≡ 4 ^ n
  unfolding numbers
  length-numbers = length-map (representatives n px) _ ∙ length-representatives

  representative_at : (c : ℕ) → c < 4 ^ n → get_or (representatives n px) c 0 ≡ rep pairs c
  unfolding representatives pairs
  representative_at c l = classes-rep (4 ^ n) pairs pairs_inside c l

  pub number_at : (c : ℕ) → c < 4 ^ n → get_or (numbers n px) c 0 ≡ number_of (rep (alike_pairs n px (4 ^ n))) c
  unfolding numbers number_of pairs
  number_at c l =
      get_d_map _ (representatives n px) c 0 0 (omega (arith, length-representatives))
      ∙ ap (below (λ k. get_or (representatives n px) k 0)) (representative_at c l)
      ∙ below_same (λ k. get_or (representatives n px) k 0) (rep pairs) (rep pairs c) (λ i h. representative_at i (omega (arith, rep-le pairs c)))

  pub regions_counted_lem : regions n px ≡ below (rep (alike_pairs n px (4 ^ n))) (4 ^ n)
  unfolding regions pairs
  regions_counted_lem = below_same (λ k. get_or (representatives n px) k 0) (rep pairs) (4 ^ n) (λ i h. representative_at i h)

  pub regions_at_most_pixels : regions n px ≤ 4 ^ n
  regions_at_most_pixels = omega (arith, regions_counted_lem, below_most (rep (alike_pairs n px (4 ^ n))) (4 ^ n))

  joined_exactly : (c d : ℕ) → c < 4 ^ n → Linked pairs c d ↔ Joined n px c d
  unfolding pairs
  joined_exactly c d l = linked_exactly_when_connected n px (4 ^ n) (omega arith) c d l

  -- "Two pixels of an accepted list have one region number exactly when a path of equal colour, stepping north, east, south or west,
  -- joins them."
  pub one_number_exactly_when_joined : (c d : ℕ) → c < 4 ^ n → d < 4 ^ n → (get_or (numbers n px) c 0 ≡ get_or (numbers n px) d 0) ↔ Joined n px c d
  unfolding pairs
  one_number_exactly_when_joined c d a b = (
    λ e. (joined_exactly c d a).0 ((number_linked pairs c d).0 (sym (number_at c a) ∙ e ∙ number_at d b)),
    λ j. number_at c a ∙ (number_linked pairs c d).1 ((joined_exactly c d a).1 j) ∙ sym (number_at d b),
  )

  -- Neighbours have one number exactly when they have one colour.
  pub neighbours_of_one_number_exactly_when_alike : (c d : ℕ) → Beside n c d → (get_or (numbers n px) c 0 ≡ get_or (numbers n px) d 0) ↔ (get_or px d 0 ≡ get_or px c 0)
  neighbours_of_one_number_exactly_when_alike c d b =
      let both = one_number_exactly_when_joined c d b.from b.to in
      (λ e. connected_colour (both.0 e), λ e. both.1 (connected_step b.from b.to b e))

  own_least : (c : ℕ) → c < 4 ^ n → rep pairs c ≡ c → LeastCode n px c
  own_least c l e = record { inside = l; least = λ d j. omega (arith, rep_least pairs c d ((joined_exactly c d l).1 j)) }

  least_own : (c : ℕ) → LeastCode n px c → rep pairs c ≡ c
  least_own c f =
      let j : Joined n px c (rep pairs c) = (joined_exactly c (rep pairs c) f.inside).0 (linked_to_rep pairs c) in
      omega (arith, rep-le pairs c, f.least (rep pairs c) j)

  -- "Regions are numbered from 0": every number is below the count of regions, and every number below it is given to one.
  pub number-below-regions : (c : ℕ) → c < 4 ^ n → get_or (numbers n px) c 0 < regions n px
  unfolding pairs
  number-below-regions c l =
      omega (arith, number_at c l, regions_counted_lem, number_less (rep pairs) (rep_twice pairs) (4 ^ n) c (omega (arith, rep-le pairs c)))

  pub each_number_given : (v : ℕ) → v < regions n px → FirstOf n px (numbers n px) v
  unfolding pairs
  each_number_given v l =
      let c = counted (rep pairs) (4 ^ n) v (omega (arith, regions_counted_lem)) in
      record {
        pixel = c.at;
        first = own_least c.at c.less c.own;
        value = number_at c.at c.less ∙ number_of_own (rep pairs) (rep_twice pairs) c.at c.own ∙ c.value;
      }

  -- "by their first pixel in block order": the region with the smaller least code has the smaller number.
  pub numbers_rise_with_least_codes : (c d : ℕ) → LeastCode n px c → LeastCode n px d → c < d → get_or (numbers n px) c 0 < get_or (numbers n px) d 0
  unfolding pairs
  numbers_rise_with_least_codes c d f g l =
      omega
      (arith, number_at c f.inside, number_at d g.inside, number_rises (rep pairs) (rep_twice pairs) c d (omega (arith, least_own c f, least_own d g)))

  pub numbers_by_least_codes : ByLeastCodes n px (numbers n px) (regions n px)
  numbers_by_least_codes = record {
    long = length-numbers;
    exactly = one_number_exactly_when_joined;
    below = number-below-regions;
    given = each_number_given;
    rising = numbers_rise_with_least_codes;
  }

  pub numbers_are_region_numbers : RegionNumbers n px (numbers n px)
  unfolding pairs
  numbers_are_region_numbers = record { long = length-numbers; exactly = one_number_exactly_when_joined; count_up = up }
    where
      up : CountsUp (4 ^ n) (λ c. get_or (numbers n px) c 0)
      up c v l h =
          let b = numbers-count-up (rep pairs) (rep_twice pairs) (rep-le pairs) (4 ^ n) c v l (omega (arith, number_at c l)) in
          record { at = b.at; less = b.less; value = number_at b.at (omega (arith, b.less)) ∙ b.value }

  -- No other numbers have these properties.
  pub no_other_numbering : (l : List ℕ) → RegionNumbers n px l → l ≡ numbers n px
  unfolding pairs
  no_other_numbering l r = ext_get_or 0 l (numbers n px) (r.long ∙ sym length-numbers) (λ c h. same c (omega (arith, r.long)))
    where
      exactly : (i j : ℕ) → i < 4 ^ n → j < 4 ^ n → (get_or l i 0 ≡ get_or l j 0) ↔ (rep pairs i ≡ rep pairs j)
      exactly i j a b = (
        λ e. linked_rep pairs ((joined_exactly i j a).1 ((r.exactly i j a b).0 e)),
        λ e. (r.exactly i j a b).1 ((joined_exactly i j a).0 (rep_links pairs i j e)),
      )

      same : (c : ℕ) → c < 4 ^ n → get_or l c 0 ≡ get_or (numbers n px) c 0
      same c h =
          only_numbers (rep pairs) (rep_twice pairs) (rep-le pairs) (4 ^ n) (λ i. get_or l i 0) exactly r.count_up c h ∙ sym (number_at c h)

  -- Numbers by least codes count up, so that they are these too, and so is their count.
  counts_up : (l : List ℕ) (count : ℕ) → ByLeastCodes n px l count → CountsUp (4 ^ n) (λ c. get_or l c 0)
  counts_up l count b c v h less =
      let f = b.given v (omega (arith, b.below c h)) in
      record { at = f.pixel; less = pick f (dec_lt f.pixel c); value = f.value }
    where
      low : ℕ
      low = rep pairs c

      low_joined : Joined n px c low
      low_joined = (joined_exactly c low h).0 (linked_to_rep pairs c)

      low_number : get_or l c 0 ≡ get_or l low 0
      low_number = (b.exactly c low h (connected_to low_joined)).1 low_joined

      low_least : LeastCode n px low
      low_least = own_least low (connected_to low_joined) (rep_twice pairs c)

      pick : (f : FirstOf n px l v) → Dec (f.pixel < c) → f.pixel < c
      pick f (yes t) = t
      pick f (no g) = absurd (apart (ℕ_discrete low f.pixel))
        where
          apart : Dec (low ≡ f.pixel) → ⊥
          apart (yes e) = omega (arith, low_number, ap (λ (x : ℕ). get_or l x 0) e, f.value)
          apart (no d) =
              omega (arith, low_number, f.value, b.rising low f.pixel low_least f.first (omega (arith, rep-le pairs c)))

  pub no_other_by_least_codes : (l : List ℕ) (count : ℕ) → ByLeastCodes n px l count → (l ≡ numbers n px) × (count ≡ regions n px)
  no_other_by_least_codes l count b = (same, pick (dec_lt count (regions n px)) (dec_lt (regions n px) count))
    where
      same : l ≡ numbers n px
      same = no_other_numbering l (record { long = b.long; exactly = b.exactly; count_up = counts_up l count b })

      pick : Dec (count < regions n px) → Dec (regions n px < count) → count ≡ regions n px
      pick (yes t) d =
          let f = each_number_given count t in
          absurd (omega (arith, f.value, ap (λ (x : List ℕ). get_or x f.pixel 0) same, b.below f.pixel f.first.inside))
      pick (no s) (yes t) =
          let f = b.given (regions n px) t in
          absurd (omega (arith, f.value, ap (λ (x : List ℕ). get_or x f.pixel 0) same, number-below-regions f.pixel f.first.inside))
      pick (no s) (no t) = omega arith
