-- What the check of given outlines needs and promises, pass by pass.
use Rattle.std.specs.Prelude.{◌≡◌, Bool, true, false, List, ℕ, ◌+◌, ◌*◌, ◌/◌, ◌%◌, ◌^◌, ◌≤◌, ◌<◌, get_or}
use Rattle.std.proofs.Common.{sym, ◌∙◌, subst, div-add-mod', arith}
use Rattle.std.proofs.Math.Path.{ap}
use Rattle.std.proofs.lemmas.Bool.{false≢true}
use Rattle.std.proofs.Math.ListN.{length}
use Rattle.sequences.specs.Powers.{pow4_mono}
use Rattle.interleaving.specs.Codes.{code}
use Rattle.interleaving.specs.Interleaving.{code_below}
use Rattle.quadtree.specs.Orders.{column_in, row_in}
use Rattle.components.specs.Numbers.{numbers, regions}
use Rattle.components.proofs.Numbered.{number-below-regions}
use Rattle.grid.specs.Listing.{corner_count}
use Rattle.links.specs.Image.{image_outlines}
use Rattle.grid.specs.Stretches.{length-ends}
use Rattle.steps.specs.Look.{mark_bit}
use Rattle.cycles.specs.Mapped.{nums_of, Mapped, entry_of_pixel, same_nums}
use Rattle.given_outlines.specs.Given.{Outlines, HasOutlines, coloured, cycles_of}
use Rattle.given_outlines.specs.Candidate.{numbers_from}
use Rattle.given_outlines.specs.Agreeing.{Agreeing, lists_agree}
use Rattle.given_outlines.specs.Starts.{EachFromItsStart}
use Rattle.given_outlines.specs.Checked.{checked_has, has_checked}
use Rattle.given_outlines.specs.Needed.{few_regions, few_cycles, few_corners}
use Rattle.west_sides.specs.Promise.{Tellable, Told}
use Rattle.pixel_numbers.specs.Promise.{Comparable, NumbersCompared}
use Rattle.retracing.specs.Promise.{Retraceable, MapKept, Retraced}
use Rattle.restoring.specs.Ends.{ends_rise, rising_agree, agree_rising}

-- There is no image that has the outlines.
abbrev pub NoneHas : ℕ → Outlines → Type 0
NoneHas n o = (px : List ℕ) → HasOutlines n o px → ⊥

-- There are no more regions than pixels, and the lists agree with each other.
pub record Fitting (n : ℕ) (o : Outlines) : Type 0 where
  pub few_regions : length o.colour_list ≤ 4 ^ n
  pub agree : Agreeing o.owner_list o.end_list o.corner_list

-- The answer: where no image has the outlines and the lists fit, either may come.
pub record ListsJudged (n : ℕ) (o : Outlines) (ok : Bool) : Type 0 where
  pub fitting : ok ≡ true → Fitting n o
  pub none : ok ≡ false → NoneHas n o

-- There is an owner for each end, and the work list has the entries that are needed.
pub record Judgeable (n : ℕ) (o : Outlines) (work : List ℕ) : Type 0 where
  pub small : n ≤ 8
  pub an_owner_each : length o.owner_list ≡ length o.end_list
  pub room : length work ≡ 8 * 4 ^ n

-- The image of the numbers in the map has the outlines.
pub record Found (n : ℕ) (o : Outlines) (map : List ℕ) : Type 0 where
  pub mapped : Mapped n map
  pub below : (j : ℕ) → j < 4 ^ n → get_or map j 0 % mark_bit ≤ length o.colour_list
  pub has : HasOutlines n o (coloured o.colour_list (nums_of n map))

-- Whether an image has the outlines; if so the front of the work list is a map of its numbers, in which some pixels bear marks. What the
-- list holds beyond, and where there is no image, is free.
pub record ImageJudged (n : ℕ) (o : Outlines) (work work' : List ℕ) (ok : Bool) : Type 0 where
  pub long : length work' ≡ length work
  pub found : ok ≡ true → Found n o work'
  pub none : ok ≡ false → NoneHas n o

pub none_found : {n : ℕ} {o : Outlines} {work work' : List ℕ} → length work' ≡ length work → NoneHas n o → ImageJudged n o work work' false
none_found long none = record { long = long; found = λ t. absurd (false≢true t); none = λ t. none }

-- ---- the lists by themselves

pub not_fitting : {n : ℕ} {o : Outlines} → NoneHas n o → ListsJudged n o false
not_fitting none = record { fitting = λ e. absurd (false≢true e); none = λ e. none }

module _ {n : ℕ} {o : Outlines} (small : n ≤ 8) where
  pub too_many_regions : 4 ^ n < length o.colour_list → ListsJudged n o false
  too_many_regions h = not_fitting (λ px has. let z : ⊥ = omega (arith, has.a_colour_each_lem, few_regions px small) in z)

  pub too_many_cycles : 4 ^ n < length o.end_list → ListsJudged n o false
  too_many_cycles h = not_fitting (λ px has. let z : ⊥ = omega (arith, ap length has.ends_are, length-ends (image_outlines n px), few_cycles px small) in z)

  pub too_many_corners : 4 * 4 ^ n < length o.corner_list → ListsJudged n o false
  unfolding corner_count
  too_many_corners h = not_fitting (λ px has. let z : ⊥ = omega (arith, ap length has.corners_are, few_corners px small) in z)

  pub by_ends : length o.owner_list ≡ length o.end_list → length o.colour_list ≤ 4 ^ n → {ok : Bool} → ok ≡ ends_rise 0 o.end_list (length o.corner_list)
      → ListsJudged n o ok
  by_ends each r {ok} e = record {
    fitting = λ t. record { few_regions = r; agree = rising_agree each (sym e ∙ t) };
    none = λ f px has. false≢true (sym f ∙ e ∙ agree_rising (lists_agree has));
  }

-- ---- pass after pass

module _ {n : ℕ} {o : Outlines} {work : List ℕ} (start : Judgeable n o work) (fit : Fitting n o) where
  pub tellable : Tellable n (length o.colour_list) o.owner_list o.end_list o.corner_list work
  tellable = record {
    small = start.small;
    agree = fit.agree;
    few_regions = fit.few_regions;
    room = omega (arith, start.room);
  }

  module _ {w₁ : List ℕ} (t : Told n (length o.colour_list) (cycles_of o) w₁) (long₁ : length w₁ ≡ length work) where
    pub comparable : Comparable n o.colour_list w₁
    comparable = record { small = start.small; mapped = t.mapped; below = t.below; few = fit.few_regions; room = omega (arith, start.room) }

    pub not_numbered : {w₂ : List ℕ} {ok : Bool} → NumbersCompared n o.colour_list w₁ w₂ ok → ok ≡ false → NoneHas n o
    not_numbered c unlike px has =
        let k = has_checked start.small has in
        let e : numbers_from n (cycles_of o) ≡ nums_of n w₁ = sym t.numbers_are in
        false≢true (sym unlike ∙ c.agree.1 (
          subst (λ l. numbers n (coloured o.colour_list l) ≡ l) e k.numbered,
          subst (λ l. regions n (coloured o.colour_list l) ≡ length o.colour_list) e k.region-count,
        ))

    module _ {w₂ : List ℕ} {same : Bool} (c : NumbersCompared n o.colour_list w₁ w₂ same) (yes_same : same ≡ true) where
      same_then : nums_of n w₂ ≡ nums_of n w₁
      same_then = same_nums n w₁ w₂ (λ j h. ap (λ v. v % mark_bit) (c.map-kept j h))

      pub retraceable : Retraceable n o.owner_list o.end_list o.corner_list w₂
      retraceable = record {
        small = start.small;
        agree = fit.agree;
        mapped = record {
          long = omega (arith, c.long, t.mapped.long);
          numbered = λ j h. subst (λ v. 0 < v % mark_bit) (sym (c.map-kept j h)) (t.mapped.numbered j h);
          bounded = λ j h. subst (λ v. v < 2 * mark_bit) (sym (c.map-kept j h)) (t.mapped.bounded j h);
        };
        unmarked = λ j h. omega (arith, c.map-kept j h, t.below j h, fit.few_regions, pow4_mono start.small);
      }

      module _ {w₃ : List ℕ} {ok : Bool} (d : Retraced n (cycles_of o) w₂ w₃ ok) where
        numbered : (numbers n (coloured o.colour_list (nums_of n w₁)) ≡ nums_of n w₁) × (regions n (coloured o.colour_list (nums_of n w₁)) ≡ length o.colour_list)
        numbered = c.agree.0 yes_same

        module _ (k : MapKept n w₂ w₃) where
          last_same : nums_of n w₃ ≡ nums_of n w₁
          last_same = k.same_numbers ∙ same_then

          known : (q : ℕ) → q < 4 ^ n → get_or (nums_of n w₃) q 0 < length o.colour_list
          known q h =
              let px = coloured o.colour_list (nums_of n w₁) in
              omega (arith, ap (λ l. get_or l q 0) (last_same ∙ sym numbered.0), number-below-regions n px q h, numbered.1)

          below_all : (j : ℕ) → j < 4 ^ n → get_or w₃ j 0 % mark_bit ≤ length o.colour_list
          below_all j h =
              let e : j / 2 ^ n * 2 ^ n + j % 2 ^ n ≡ j = div-add-mod' j (2 ^ n) in
              let v = entry_of_pixel n w₃ (j % 2 ^ n) (j / 2 ^ n) k.mapped (column_in n j) (row_in n j h) in
              omega (arith, v, ap (λ i. get_or w₃ i 0 % mark_bit) e, known (code n (j % 2 ^ n) (j / 2 ^ n)) (code_below n (j % 2 ^ n) (j / 2 ^ n)))

        pub image_judged : ImageJudged n o work w₃ ok
        image_judged = record {
          long = d.long ∙ c.long ∙ long₁;
          found = λ e. record {
            mapped = (d.kept e).mapped;
            below = below_all (d.kept e);
            has = subst (λ l. HasOutlines n o (coloured o.colour_list l)) (sym (last_same (d.kept e)))
                (checked_has start.small (record {
                  agree = fit.agree;
                  numbered = numbered.0;
                  region-count = numbered.1;
                  cycles = subst (λ l. EachFromItsStart n l (cycles_of o)) same_then (d.agree.0 e);
                }));
          };
          none = λ e px has.
              let k = has_checked start.small has in
              false≢true (sym e ∙ d.agree.1 (subst (λ l. EachFromItsStart n l (cycles_of o)) (sym t.numbers_are ∙ sym same_then) k.cycles));
        }
