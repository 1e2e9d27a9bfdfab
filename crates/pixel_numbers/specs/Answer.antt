-- The regions numbered and counted in the place of the parents, and the answer.
use Rattle.std.specs.Prelude.{◌≡◌, ◌≢◌, ◌↔◌, Bool, true, false, List, ℕ, ◌-◌, ◌*◌, ◌^◌, ◌≤◌, ◌<◌, length}
use Rattle.std.proofs.Common.{sym, ap, ap₂, ◌∙◌, subst, arith}
use Rattle.std.proofs.lemmas.Bool.{false≢true}
use Rattle.sequences.specs.Powers.{pow4_mono}
use Rattle.sequences.specs.Ranges.{range, length-range}
use Rattle.unions.specs.Counting.{below}
use Rattle.unions.specs.Roots.{Low, root}
use Rattle.unions.specs.RootNumbers.{numbers_below, length-numbers_below}
use Rattle.location.specs.Levels.{pixels_of}
use Rattle.components.specs.Numbers.{numbers, regions}
use Rattle.cycles.specs.Mapped.{nums_of}
use Rattle.pixel_numbers.specs.Promise.{map_image, Comparable, NumbersCompared}
use Rattle.pixel_numbers.specs.Parents.{parents_of, OnlyParents, nothing_changed, changed_twice, nums-kept, image_kept, still_comparable, length-parents, Returned, part_inside, lent, back}
use Rattle.pixel_numbers.specs.Pixels.{roots_numbered, AllNext, AllJoined}
use Rattle.pixel_numbers.specs.Comparing.{Numbered}
use borrow.Rule.Slice.PartMut.{mid_of, put_mid}

-- The region numbers stand in the place of the parents, and `count` is how many regions there are.
record Counted (n : ℕ) (colours work work' : List ℕ) (count : ℕ) : Type 0 where
  only : OnlyParents n work work'
  listed : parents_of n work' ≡ numbers n (map_image n colours work)
  total : count ≡ regions n (map_image n colours work)

-- The parents are lent twice, as `&mut work[whole..2 * whole]`: to be made each its own, and to be numbered.
module _ {n whole : ℕ} {colours work : List ℕ} (g : Comparable n colours work) (all : whole ≡ pixels_of n) where
  length-lent : {work' : List ℕ} → OnlyParents n work work' → length (mid_of whole (2 * whole - whole) work') ≡ 4 ^ n
  length-lent {work'} k = ap length (lent g.small all work') ∙ length-parents n work' (still_comparable k g).room

  pub few_lent : length (mid_of whole (2 * whole - whole) work) < 65537
  few_lent = omega (arith, length-lent (nothing_changed n work), pow4_mono g.small)

  module _ {p : List ℕ} (own : p ≡ range 0 (length (mid_of whole (2 * whole - whole) work))) where
    own_parents : Returned n work (range 0 (4 ^ n)) (put_mid whole (2 * whole - whole) work p)
    own_parents =
        let e : p ≡ range 0 (4 ^ n) = own ∙ ap (range 0) (length-lent (nothing_changed n work)) in
        subst (λ (l : List ℕ). Returned n work l (put_mid whole (2 * whole - whole) work p)) e
        (back g.small all work g.room (ap length e ∙ length-range 0 (4 ^ n)))

    pub all_next : AllNext n colours (put_mid whole (2 * whole - whole) work p)
    all_next = record { given = still_comparable own_parents.only g; alone = own_parents.parents }

    module _ {work' : List ℕ} (j : AllJoined n colours (put_mid whole (2 * whole - whole) work p) work') where
      kept : OnlyParents n work work'
      kept = changed_twice own_parents.only j.only

      pub roots_inside : 2 * whole ≤ length work'
      roots_inside = (part_inside g.small all (still_comparable kept g).room).1

      pub roots_lent : Low (mid_of whole (2 * whole - whole) work') × (length (mid_of whole (2 * whole - whole) work') < 65537)
      roots_lent = (subst Low (sym (lent g.small all work')) j.joined.low, omega (arith, length-lent kept, pow4_mono g.small))

      -- The roots numbered as q, from the front.
      module _ {q : List ℕ} {count : ℕ}
          (total : count ≡ below (root (mid_of whole (2 * whole - whole) work')) (length (mid_of whole (2 * whole - whole) work')))
          (listed : q ≡ numbers_below (root (mid_of whole (2 * whole - whole) work')) (length (mid_of whole (2 * whole - whole) work'))) where
        counted : Counted n colours work (put_mid whole (2 * whole - whole) work' q) count
        counted =
            let px : map_image n colours (put_mid whole (2 * whole - whole) work p) ≡ map_image n colours work = image_kept own_parents.only colours in
            let f : root (mid_of whole (2 * whole - whole) work') ≡ root (parents_of n work') = ap root (lent g.small all work') in
            let e : q ≡ numbers_below (root (parents_of n work')) (4 ^ n) = listed ∙ ap₂ numbers_below f (length-lent kept) in
            let r = back g.small all work' (still_comparable kept g).room (ap length e ∙ length-numbers_below (root (parents_of n work')) (4 ^ n)) in
            let numbered = roots_numbered j.joined in
            record {
              only = changed_twice kept r.only;
              listed = r.parents ∙ e ∙ numbered.0 ∙ ap (numbers n) px;
              total = total ∙ ap₂ below f (length-lent kept) ∙ numbered.1 ∙ ap (regions n) px;
            }

        pub count_differs : count ≢ length colours → NumbersCompared n colours work (put_mid whole (2 * whole - whole) work' q) false
        count_differs f = record {
          long = counted.only.long;
          map-kept = counted.only.map-kept;
          beyond = counted.only.beyond;
          agree = (λ e. absurd (false≢true e), λ both. absurd (f (counted.total ∙ both.1)));
        }

        pub numbered : Numbered n (put_mid whole (2 * whole - whole) work' q)
        numbered =
            let h = still_comparable counted.only g in
            record {
              small = g.small;
              some = λ j l. omega (arith, h.mapped.numbered j l);
              bare = λ j l. omega (arith, h.below j l, g.few, pow4_mono g.small);
              room = h.room;
            }

        pub count_agrees : {ok : Bool} → count ≡ length colours
            → (ok ≡ true) ↔ (parents_of n (put_mid whole (2 * whole - whole) work' q) ≡ nums_of n (put_mid whole (2 * whole - whole) work' q))
            → NumbersCompared n colours work (put_mid whole (2 * whole - whole) work' q) ok
        count_agrees e same = record {
          long = counted.only.long;
          map-kept = counted.only.map-kept;
          beyond = counted.only.beyond;
          agree = (
            λ said. (sym counted.listed ∙ same.0 said ∙ nums-kept counted.only, sym counted.total ∙ e),
            λ both. same.1 (counted.listed ∙ both.0 ∙ sym (nums-kept counted.only)),
          );
        }
