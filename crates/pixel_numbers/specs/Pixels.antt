-- Region numbers pixel by pixel: each pixel is joined with its north and its west neighbour of one colour, in rising code; then the roots
-- are numbered from the front.
use Rattle.std.specs.Prelude.{◌≡◌, refl, List, length, get_or}
use Rattle.std.proofs.Common.{sym, ◌∙◌, subst, add-one, arith, ext_get_or, eq-eqb, ne_eqb}
use Rattle.std.proofs.Math.Path.{ap}
use Prim.Native.Nat.{ℕ, ◌+◌, ◌^◌, ◌≤◌, ◌<◌}
use Rattle.std.proofs.Math.Decide.{ℕ_discrete}
use Rattle.sequences.specs.Ranges.{range, length-range}
use Rattle.unions.specs.Pairs.{Pair}
use Rattle.unions.specs.Representatives.{rep}
use Rattle.unions.specs.Counting.{below, number_of}
use Rattle.unions.specs.Roots.{Low, root, range_low, range_roots}
use Rattle.unions.specs.Joining.{Forest}
use Rattle.unions.specs.RootNumbers.{numbers_below, length-numbers_below, numbers_at}
use Rattle.components.specs.Numbers.{west_of, north_of, pair_if_alike, alike_pairs, numbers, regions}
use Rattle.components.proofs.Numbered.{length-numbers, number_at, regions_counted_lem}
use Rattle.components.specs.Spans.{join_if_alike, alike-joined, unlike_kept}
use Rattle.pixel_numbers.specs.Promise.{map_image, Comparable}
use Rattle.pixel_numbers.specs.Parents.{parents_of, OnlyParents, nothing_changed, changed_twice, image_kept, still_comparable}
use Rattle.pixel_numbers.specs.Neighbours.{PixelNext, PixelJoined}

-- The pixels with codes below c are joined with their north and west neighbours, in the list p of parents.
pub record JoinedBelow (n : ℕ) (px p : List ℕ) (c : ℕ) : Type 0 where
  pub place : c ≤ 4 ^ n
  pub long : length p ≡ 4 ^ n
  pub low : Low p
  pub roots : root p ≡ rep (alike_pairs n px c)

-- One pair more, if its colours are equal.
pair_joined : (px : List ℕ) (c d : ℕ) (es : List Pair) → join_if_alike px (rep es) c d ≡ rep (pair_if_alike px c d es)
unfolding pair_if_alike rep
pair_joined px c d es = pick (ℕ_discrete (get_or px c 0) (get_or px d 0))
  where
    pick : Dec (get_or px c 0 ≡ get_or px d 0) → join_if_alike px (rep es) c d ≡ rep (pair_if_alike px c d es)
    pick (yes h) = alike-joined px (rep es) c d h ∙ rw (eq-eqb (get_or px c 0) (get_or px d 0) h, pair_if_alike) refl
    pick (no h) = unlike_kept px (rep es) c d h ∙ rw (ne_eqb (get_or px c 0) (get_or px d 0) h, pair_if_alike) refl

module _ {n : ℕ} {px : List ℕ} where
  none_joined : JoinedBelow n px (range 0 (4 ^ n)) 0
  unfolding alike_pairs
  none_joined = record { place = omega arith; long = length-range 0 (4 ^ n); low = range_low (4 ^ n); roots = range_roots (4 ^ n) }

  one_more : {p q r : List ℕ} {c : ℕ} → JoinedBelow n px p c → c < 4 ^ n → Forest p (join_if_alike px (root p) c (north_of n c)) q
      → Forest q (join_if_alike px (root q) c (west_of n c)) r → JoinedBelow n px r (c + 1)
  unfolding alike_pairs
  one_more {p} {q} {r} {c} g h f k = record {
    place = omega arith;
    long = k.long ∙ f.long ∙ g.long;
    low = k.low;
    roots =
        k.roots
        ∙ ap (λ (t : ℕ → ℕ). join_if_alike px t c (west_of n c))
        (f.roots ∙ ap (λ (t : ℕ → ℕ). join_if_alike px t c (north_of n c)) g.roots ∙ pair_joined px c (north_of n c) (alike_pairs n px c))
        ∙ pair_joined px c (west_of n c) (pair_if_alike px c (north_of n c) (alike_pairs n px c))
        ∙ ap (λ (i : ℕ). rep (alike_pairs n px i)) (sym (add-one c));
  }

  -- The roots, numbered from the front, are the region numbers, and their count is that of the regions.
  pub roots_numbered : {p : List ℕ} → JoinedBelow n px p (4 ^ n) → (numbers_below (root p) (4 ^ n) ≡ numbers n px) × (below (root p) (4 ^ n) ≡ regions n px)
  roots_numbered {p} g = (
    ext_get_or 0 (numbers_below (root p) (4 ^ n)) (numbers n px) (length-numbers_below (root p) (4 ^ n) ∙ sym (length-numbers n px))
        (λ i l.
        let b : i < 4 ^ n = omega (arith, length-numbers_below (root p) (4 ^ n)) in
        numbers_at (root p) (4 ^ n) i b ∙ ap (λ (f : ℕ → ℕ). number_of f i) g.roots ∙ sym (number_at n px i b)),
    ap (λ (f : ℕ → ℕ). below f (4 ^ n)) g.roots ∙ sym (regions_counted_lem n px),
  )

-- Before the pass each pixel is its own parent.
pub record AllNext (n : ℕ) (colours work : List ℕ) : Type 0 where
  pub given : Comparable n colours work
  pub alone : parents_of n work ≡ range 0 (4 ^ n)

-- The pass up to the code c.
pub record Passed (n : ℕ) (colours work work' : List ℕ) (c : ℕ) : Type 0 where
  pub only : OnlyParents n work work'
  pub joined : JoinedBelow n (map_image n colours work) (parents_of n work') c

-- After it all pixels are joined.
abbrev pub AllJoined : ℕ → List ℕ → List ℕ → List ℕ → Type 0
AllJoined n colours work work' = Passed n colours work work' (4 ^ n)

module _ {n : ℕ} {colours work : List ℕ} (g : AllNext n colours work) where
  pub begin : Passed n colours work work 0
  begin = record {
    only = nothing_changed n work;
    joined = subst (λ (p : List ℕ). JoinedBelow n (map_image n colours work) p 0) (sym g.alone) none_joined;
  }

  module _ {work₁ : List ℕ} {c : ℕ} (s : Passed n colours work work₁ c) where
    pub pixel_next : c < 4 ^ n → PixelNext n colours work₁ c
    pixel_next h = record { given = still_comparable s.only g.given; low = s.joined.low; inside = h }

    pub again : {work₂ : List ℕ} → c < 4 ^ n → PixelJoined n colours work₁ c work₂ → Passed n colours work work₂ (c + 1)
    again {work₂} h j =
        let px : map_image n colours work₁ ≡ map_image n colours work = image_kept s.only colours in
        record {
          only = changed_twice s.only j.only;
          joined =
              one_more s.joined h
              (subst (λ (l : List ℕ). Forest (parents_of n work₁) (join_if_alike l (root (parents_of n work₁)) c (north_of n c)) j.between) px j.north)
              (subst (λ (l : List ℕ). Forest j.between (join_if_alike l (root j.between) c (west_of n c)) (parents_of n work₂)) px j.west);
        }

    pub finish : 4 ^ n ≤ c → AllJoined n colours work work₁
    finish h = let e : c ≡ 4 ^ n = omega (arith, s.joined.place) in subst (Passed n colours work work₁) e s
