-- What the tracing promises: the answer, and the later content of each lent list, whether it accepts or refuses.
use Rattle.std.specs.Prelude.{◌≡◌, Bool, ◌||◌, ℕ, zero, suc, ◌*◌, ◌^◌, ◌≤◌, ◌<◌, length, replicate, ℤ}
use Rattle.std.proofs.Math.Path.{refl, sym, ap}
use Rattle.std.proofs.Common.{◌∙◌}
use Rattle.std.proofs.Math.Bool.{true, false}
use mathlib.Core.List.{List, []}
use Rattle.std.proofs.Math.Decide.{dec_lt}
use native.Mathlib.Omega.{arith}
use Rattle.std.proofs.Math.Dec.{ltb}
use borrow.Author.Tests.{lt-ltb, le-ltb}
use Rattle.sequences.specs.Cases.{first, when, if_accepted, first_some, first_none, first-zero, when_yes, when_no, when_zero, or_right, written_refused, count_if_accepted, count_refused}
use Rattle.sequences.specs.Over.{over, over_none}
use Rattle.quadtree.specs.Blocks.{blocks, paint}
use Rattle.quadtree.specs.Number.{number, number_with}
use Rattle.blocks.specs.Checking.{number_large}
use Rattle.components.specs.Numbers.{numbers, labels, regions}
use Rattle.grid.specs.Listing.{Cycle, listing, owners, ends, all_corners, areas, cycle_count, corner_count}
use Rattle.links.specs.Image.{image_outlines}
use Rattle.tracing.specs.declared.Traced.{Traced}

-- "tracing is lent these and the owner, end and corner lists": the label and the work list, and those; "a fourth output list" of areas
-- (document 02, request c).
pub record Lent : Type 0 where
  pub label_list : List ℕ
  pub work_list : List ℕ
  pub owner_list : List ℕ
  pub end_list : List ℕ
  pub corner_list : List ℕ
  pub area_list : List ℤ

abbrev pub lent : List ℕ → List ℕ → List ℕ → List ℕ → List ℕ → List ℤ → Lent
lent ls ws os es cs zs = record { label_list = ls; work_list = ws; owner_list = os; end_list = es; corner_list = cs; area_list = zs }

-- "Needs: labels, one a block. Owner and end lists, 4^n each. Corners, 4 times 4^n. Work list (32-bit), 2 times 4^n" (document 01, "When
-- the answer is a number"); "the area list needs 4^n entries and joins 8" (document 02, request c): one of the lists is shorter than its
-- need, for `count` blocks.
unfoldable pub is_too_short : ℕ → ℕ → Lent → Bool
is_too_short n count b =
    ltb (length b.label_list) count
    || (ltb (length b.work_list) (2 * 4 ^ n)
    || (ltb (length b.owner_list) (4 ^ n)
    || (ltb (length b.end_list) (4 ^ n) || (ltb (length b.corner_list) (4 * 4 ^ n) || ltb (length b.area_list) (4 ^ n)))))

-- "Block lists: 1, 2, then per block in list order 3, 4, 5, then 6, 7, 8".
unfoldable pub tracing_number : ℕ → List ℕ → List ℕ → List ℕ → Lent → ℕ
unfolding number_with is_too_short
tracing_number n cs ls ks b = number_with (is_too_short n (length cs) b) n cs ls ks

-- That number where n is above 8 or a list is too short, 0 where neither is so: it is known before the regions are numbered.
unfoldable pub unfit_number : ℕ → List ℕ → List ℕ → List ℕ → Lent → ℕ
unfolding when tracing_number is_too_short
unfit_number n cs ls ks b = when (ltb 8 n || is_too_short n (length cs) b) (tracing_number n cs ls ks b)

-- All cycles of the image that a block list paints, as they are listed.
unfoldable pub outlines_of : ℕ → List ℕ → List ℕ → List ℕ → List Cycle
unfolding listing numbers regions paint blocks
outlines_of n cs ls ks = image_outlines n (paint (blocks cs ls ks))

-- What is written: all cycles, the labels, and zeros in the work list; nothing on a refusal.
unfoldable pub cycles_written : ℕ → List ℕ → List ℕ → List ℕ → Lent → List Cycle
unfolding if_accepted tracing_number outlines_of
cycles_written n cs ls ks b = if_accepted (tracing_number n cs ls ks b) (outlines_of n cs ls ks)

unfoldable pub labels_left : ℕ → List ℕ → List ℕ → List ℕ → Lent → List ℕ
unfolding if_accepted tracing_number labels blocks
labels_left n cs ls ks b = if_accepted (tracing_number n cs ls ks b) (labels n (blocks cs ls ks))

unfoldable pub zeros_left : ℕ → List ℕ → List ℕ → List ℕ → Lent → List ℕ
unfolding if_accepted tracing_number
zeros_left n cs ls ks b = if_accepted (tracing_number n cs ls ks b) (replicate (2 * 4 ^ n) 0)

unfoldable pub regions_listed : ℕ → List ℕ → List ℕ → List ℕ → Lent → ℕ
unfolding count_if_accepted tracing_number regions paint blocks
regions_listed n cs ls ks b = count_if_accepted (tracing_number n cs ls ks b) (regions n (paint (blocks cs ls ks)))

-- The tracing, with the lent lists before and after.
pub record Tracing (n : ℕ) (cs ls ks : List ℕ) (before after : Lent) (r : Traced) : Type 0 where
  pub answer : r ≡ record {
    number = tracing_number n cs ls ks before;
    regions = regions_listed n cs ls ks before;
    cycles = cycle_count (cycles_written n cs ls ks before);
    corners = corner_count (cycles_written n cs ls ks before);
  }
  pub in_labels : after.label_list ≡ over (labels_left n cs ls ks before) before.label_list
  pub in_work : after.work_list ≡ over (zeros_left n cs ls ks before) before.work_list
  pub in_owners : after.owner_list ≡ over (owners (cycles_written n cs ls ks before)) before.owner_list
  pub in_ends : after.end_list ≡ over (ends (cycles_written n cs ls ks before)) before.end_list
  pub in_corners : after.corner_list ≡ over (all_corners (cycles_written n cs ls ks before)) before.corner_list
  pub in_areas : after.area_list ≡ over (areas (cycles_written n cs ls ks before)) before.area_list

-- ---- cause by cause

-- No cause applies.
pub record Needs (n : ℕ) (cs ls ks : List ℕ) (b : Lent) : Type 0 where
  pub accepted : number n cs ls ks ≡ 0
  pub for_labels : length cs ≤ length b.label_list
  pub for_work : 2 * 4 ^ n ≤ length b.work_list
  pub for_owners : 4 ^ n ≤ length b.owner_list
  pub for_ends : 4 ^ n ≤ length b.end_list
  pub for_corners : 4 * 4 ^ n ≤ length b.corner_list
  pub for_areas : 4 ^ n ≤ length b.area_list

-- Tests one of which holds, or none.
first_holds : (a b : Bool) → a ≡ true → true ≡ a || b
first_holds a b h = sym (ap (λ (t : Bool). t || b) h)

none_hold : (a b : Bool) → a ≡ false → b ≡ a || b
none_hold a b h = sym (ap (λ (t : Bool). t || b) h)

-- The first list that is shorter than its need, for an image of `whole` pixels.
module _ (n count : ℕ) (b : Lent) {whole : ℕ} (is : whole ≡ 4 ^ n) where
  pub too_few_labels : length b.label_list < count → true ≡ is_too_short n count b
  unfolding is_too_short
  too_few_labels h = first_holds (ltb (length b.label_list) count) _ (lt-ltb (length b.label_list) count h)

  module _ (l : count ≤ length b.label_list) where
    past-labels : (rest : Bool) → rest ≡ ltb (length b.label_list) count || rest
    past-labels rest = none_hold (ltb (length b.label_list) count) rest (le-ltb (length b.label_list) count l)

    pub too_short_work : length b.work_list < 2 * whole → true ≡ is_too_short n count b
    unfolding is_too_short
    too_short_work h =
        first_holds (ltb (length b.work_list) (2 * 4 ^ n)) _ (lt-ltb (length b.work_list) (2 * 4 ^ n) (omega (arith, is))) ∙ past-labels _

    module _ (w : 2 * whole ≤ length b.work_list) where
      past_work : (rest : Bool) → rest ≡ ltb (length b.label_list) count || (ltb (length b.work_list) (2 * 4 ^ n) || rest)
      past_work rest =
          none_hold (ltb (length b.work_list) (2 * 4 ^ n)) rest (le-ltb (length b.work_list) (2 * 4 ^ n) (omega (arith, is)))
          ∙ past-labels (ltb (length b.work_list) (2 * 4 ^ n) || rest)

      pub too_few_owners : length b.owner_list < whole → true ≡ is_too_short n count b
      unfolding is_too_short
      too_few_owners h = first_holds (ltb (length b.owner_list) (4 ^ n)) _ (lt-ltb (length b.owner_list) (4 ^ n) (omega (arith, is))) ∙ past_work _

      module _ (o : whole ≤ length b.owner_list) where
        past-owners : (rest : Bool)
            → rest ≡ ltb (length b.label_list) count || (ltb (length b.work_list) (2 * 4 ^ n) || (ltb (length b.owner_list) (4 ^ n) || rest))
        past-owners rest =
            none_hold (ltb (length b.owner_list) (4 ^ n)) rest (le-ltb (length b.owner_list) (4 ^ n) (omega (arith, is)))
            ∙ past_work (ltb (length b.owner_list) (4 ^ n) || rest)

        pub too_few_ends : length b.end_list < whole → true ≡ is_too_short n count b
        unfolding is_too_short
        too_few_ends h = first_holds (ltb (length b.end_list) (4 ^ n)) _ (lt-ltb (length b.end_list) (4 ^ n) (omega (arith, is))) ∙ past-owners _

        module _ (e : whole ≤ length b.end_list) where
          past-ends : (rest : Bool)
              → rest ≡ ltb (length b.label_list) count || (ltb (length b.work_list) (2 * 4 ^ n) || (ltb (length b.owner_list) (4 ^ n) || (ltb (length b.end_list) (4 ^ n) || rest)))
          past-ends rest =
              none_hold (ltb (length b.end_list) (4 ^ n)) rest (le-ltb (length b.end_list) (4 ^ n) (omega (arith, is)))
              ∙ past-owners (ltb (length b.end_list) (4 ^ n) || rest)

          pub too_few_corners : length b.corner_list < 4 * whole → true ≡ is_too_short n count b
          unfolding is_too_short
          too_few_corners h =
              first_holds (ltb (length b.corner_list) (4 * 4 ^ n)) _ (lt-ltb (length b.corner_list) (4 * 4 ^ n) (omega (arith, is))) ∙ past-ends _

          module _ (c : 4 * whole ≤ length b.corner_list) where
            pub by_areas : ltb (length b.area_list) whole ≡ is_too_short n count b
            unfolding is_too_short
            by_areas =
                ap (λ (size : ℕ). ltb (length b.area_list) size) is
                ∙ none_hold (ltb (length b.corner_list) (4 * 4 ^ n)) _ (le-ltb (length b.corner_list) (4 * 4 ^ n) (omega (arith, is)))
                ∙ past-ends _

module _ (n : ℕ) (cs ls ks : List ℕ) (b : Lent) where
  list_fault : (k : ℕ) → k ≡ number n cs ls ks → (k ≡ 0 → ⊥) → k ≡ tracing_number n cs ls ks b
  unfolding tracing_number number_with
  list_fault k e p = e ∙ sym (first_some (number n cs ls ks) (when (is_too_short n (length cs) b) 8) (omega arith))

  module _ (accepted : number n cs ls ks ≡ 0) where
    short : true ≡ is_too_short n (length cs) b → 8 ≡ tracing_number n cs ls ks b
    unfolding tracing_number number_with
    short h = sym (first_none (number n cs ls ks) (when (is_too_short n (length cs) b) 8) accepted ∙ when_yes (is_too_short n (length cs) b) 8 (sym h))

    pub labels_short : length b.label_list < length cs → 8 ≡ tracing_number n cs ls ks b
    labels_short h = short (too_few_labels n (length cs) b refl h)

    module _ (l : length cs ≤ length b.label_list) where
      pub work_short : length b.work_list < 2 * 4 ^ n → 8 ≡ tracing_number n cs ls ks b
      work_short h = short (too_short_work n (length cs) b refl l h)

      module _ (w : 2 * 4 ^ n ≤ length b.work_list) where
        pub owners_short : length b.owner_list < 4 ^ n → 8 ≡ tracing_number n cs ls ks b
        owners_short h = short (too_few_owners n (length cs) b refl l w h)

        module _ (o : 4 ^ n ≤ length b.owner_list) where
          pub ends_short : length b.end_list < 4 ^ n → 8 ≡ tracing_number n cs ls ks b
          ends_short h = short (too_few_ends n (length cs) b refl l w o h)

          module _ (e : 4 ^ n ≤ length b.end_list) where
            pub corners_short : length b.corner_list < 4 * 4 ^ n → 8 ≡ tracing_number n cs ls ks b
            corners_short h = short (too_few_corners n (length cs) b refl l w o e h)

            module _ (c : 4 * 4 ^ n ≤ length b.corner_list) where
              last : ltb (length b.area_list) (4 ^ n) ≡ is_too_short n (length cs) b
              last = by_areas n (length cs) b refl l w o e c

              pub areas_short : length b.area_list < 4 ^ n → 8 ≡ tracing_number n cs ls ks b
              areas_short h = short (sym (lt-ltb (length b.area_list) (4 ^ n) h) ∙ last)

              pub none_short : 4 ^ n ≤ length b.area_list → 0 ≡ tracing_number n cs ls ks b
              unfolding tracing_number number_with
              none_short h =
                  sym (first_none (number n cs ls ks) (when (is_too_short n (length cs) b) 8) accepted
                  ∙ when_no (is_too_short n (length cs) b) 8 (sym last ∙ le-ltb (length b.area_list) (4 ^ n) h))

  -- Where the number is 0 no cause applies.
  pub needs_met : tracing_number n cs ls ks b ≡ 0 → Needs n cs ls ks b
  needs_met z =
      pick (dec_lt (length b.label_list) (length cs)) (dec_lt (length b.work_list) (2 * 4 ^ n)) (dec_lt (length b.owner_list) (4 ^ n))
      (dec_lt (length b.end_list) (4 ^ n)) (dec_lt (length b.corner_list) (4 * 4 ^ n)) (dec_lt (length b.area_list) (4 ^ n))
    where
      ok : number n cs ls ks ≡ 0
      ok = from z
        where
          from : tracing_number n cs ls ks b ≡ 0 → number n cs ls ks ≡ 0
          from h = pick (number n cs ls ks) refl
            where
              pick : (k : ℕ) → number n cs ls ks ≡ k → number n cs ls ks ≡ 0
              pick zero e = e
              pick (suc k) e = absurd (omega (arith, list_fault (suc k) (sym e) (λ y. omega arith)))

      pick : Dec (length b.label_list < length cs) → Dec (length b.work_list < 2 * 4 ^ n) → Dec (length b.owner_list < 4 ^ n)
          → Dec (length b.end_list < 4 ^ n) → Dec (length b.corner_list < 4 * 4 ^ n) → Dec (length b.area_list < 4 ^ n) → Needs n cs ls ks b
      pick (yes h) w o e c a = absurd (omega (arith, labels_short ok h))
      pick (no l) (yes h) o e c a = absurd (omega (arith, work_short ok (omega arith) h))
      pick (no l) (no w) (yes h) e c a = absurd (omega (arith, owners_short ok (omega arith) (omega arith) h))
      pick (no l) (no w) (no o) (yes h) c a = absurd (omega (arith, ends_short ok (omega arith) (omega arith) (omega arith) h))
      pick (no l) (no w) (no o) (no e) (yes h) a = absurd (omega (arith, corners_short ok (omega arith) (omega arith) (omega arith) (omega arith) h))
      pick (no l) (no w) (no o) (no e) (no c) (yes h) = absurd (omega (arith, areas_short ok (omega arith) (omega arith) (omega arith) (omega arith) (omega arith) h))
      pick (no l) (no w) (no o) (no e) (no c) (no a) = record {
        accepted = ok;
        for_labels = omega arith;
        for_work = omega arith;
        for_owners = omega arith;
        for_ends = omega arith;
        for_corners = omega arith;
        for_areas = omega arith;
      }

  -- Where the check finds nothing and a need is not met, the number is 8.
  pub short_unless_met : number n cs ls ks ≡ 0 → (Needs n cs ls ks b → ⊥) → 8 ≡ tracing_number n cs ls ks b
  unfolding tracing_number number_with
  short_unless_met accepted not_met = pick (is_too_short n (length cs) b) refl
    where
      pick : (t : Bool) → is_too_short n (length cs) b ≡ t → 8 ≡ first (number n cs ls ks) (when (is_too_short n (length cs) b) 8)
      pick true e = short accepted (sym e)
      pick false e =
          absurd (not_met (needs_met (first_none (number n cs ls ks) (when (is_too_short n (length cs) b) 8) accepted ∙ when_no (is_too_short n (length cs) b) 8 e)))

  -- A refusal returns its number, and counts 0, and leaves all lists.
  pub refused : {k : ℕ} → (k ≡ 0 → ⊥) → k ≡ tracing_number n cs ls ks b → Tracing n cs ls ks b b (record { number = k; regions = 0; cycles = 0; corners = 0 })
  unfolding cycles_written labels_left zeros_left regions_listed cycle_count corner_count owners ends all_corners areas
  refused {k} p e =
      let some : 0 < tracing_number n cs ls ks b = omega arith in
      let no_cycles : cycles_written n cs ls ks b ≡ [] = written_refused (tracing_number n cs ls ks b) (outlines_of n cs ls ks) some in
      let no_labels : labels_left n cs ls ks b ≡ [] = written_refused (tracing_number n cs ls ks b) (labels n (blocks cs ls ks)) some in
      let no_zeros : zeros_left n cs ls ks b ≡ [] = written_refused (tracing_number n cs ls ks b) (replicate (2 * 4 ^ n) 0) some in
      record {
        answer = λ i. record {
          number = e i;
          regions = sym (count_refused (tracing_number n cs ls ks b) (regions n (paint (blocks cs ls ks))) some) i;
          cycles = cycle_count (sym no_cycles i);
          corners = corner_count (sym no_cycles i);
        };
        in_labels = sym (ap (λ (l : List ℕ). over l b.label_list) no_labels ∙ over_none b.label_list);
        in_work = sym (ap (λ (l : List ℕ). over l b.work_list) no_zeros ∙ over_none b.work_list);
        in_owners = sym (ap (λ (c : List Cycle). over (owners c) b.owner_list) no_cycles ∙ over_none b.owner_list);
        in_ends = sym (ap (λ (c : List Cycle). over (ends c) b.end_list) no_cycles ∙ over_none b.end_list);
        in_corners = sym (ap (λ (c : List Cycle). over (all_corners c) b.corner_list) no_cycles ∙ over_none b.corner_list);
        in_areas = sym (ap (λ (c : List Cycle). over (areas c) b.area_list) no_cycles ∙ over_none b.area_list);
      }

-- ---- where n is above 8 or a list is too short

module _ (n : ℕ) (cs ls ks : List ℕ) (b : Lent) where
  unfit : ltb 8 n || is_too_short n (length cs) b ≡ true → unfit_number n cs ls ks b ≡ tracing_number n cs ls ks b
  unfolding unfit_number
  unfit h = when_yes (ltb 8 n || is_too_short n (length cs) b) (tracing_number n cs ls ks b) h

  -- 1 comes first.
  pub large : 8 < n → 1 ≡ unfit_number n cs ls ks b
  large h =
      list_fault n cs ls ks b 1 (number_large n cs ls ks h) (λ z. omega arith)
      ∙ sym (unfit (sym (first_holds (ltb 8 n) (is_too_short n (length cs) b) (lt-ltb 8 n h))))

  pub fit : n ≤ 8 → is_too_short n (length cs) b ≡ false → 0 ≡ unfit_number n cs ls ks b
  unfolding unfit_number
  fit h e =
      sym (when_no (ltb 8 n || is_too_short n (length cs) b) (tracing_number n cs ls ks b) (sym (none_hold (ltb 8 n) (is_too_short n (length cs) b) (le-ltb 8 n h)) ∙ e))

  -- Where a list is too short 8 comes if the check finds nothing.
  module _ (some_short : is_too_short n (length cs) b ≡ true) {k : ℕ} (checked : k ≡ number n cs ls ks) where
    pub fault_first : (k ≡ 0 → ⊥) → k ≡ unfit_number n cs ls ks b
    fault_first p = list_fault n cs ls ks b k checked p ∙ sym (unfit (or_right (ltb 8 n) (is_too_short n (length cs) b) some_short))

    pub then_eight : k ≡ 0 → 8 ≡ unfit_number n cs ls ks b
    then_eight z =
        short n cs ls ks b (sym checked ∙ z) (sym some_short) ∙ sym (unfit (or_right (ltb 8 n) (is_too_short n (length cs) b) some_short))

-- What the tracing goes by.
module _ (n : ℕ) (cs ls ks : List ℕ) (b : Lent) {k : ℕ} (is : k ≡ unfit_number n cs ls ks b) where
  pub unfit_refused : (k ≡ 0 → ⊥) → Tracing n cs ls ks b b (record { number = k; regions = 0; cycles = 0; corners = 0 })
  unfolding unfit_number
  unfit_refused p = refused n cs ls ks b p (pick (ltb 8 n || is_too_short n (length cs) b) refl)
    where
      pick : (t : Bool) → ltb 8 n || is_too_short n (length cs) b ≡ t → k ≡ tracing_number n cs ls ks b
      pick true e = is ∙ unfit n cs ls ks b e
      pick false e = absurd (p (is ∙ when_no (ltb 8 n || is_too_short n (length cs) b) (tracing_number n cs ls ks b) e))

  pub none_too_short : k ≡ 0 → is_too_short n (length cs) b ≡ false
  unfolding tracing_number number_with
  none_too_short z = pick (is_too_short n (length cs) b) refl
    where
      pick : (t : Bool) → is_too_short n (length cs) b ≡ t → is_too_short n (length cs) b ≡ false
      pick true e =
          let zero_number : tracing_number n cs ls ks b ≡ 0 = sym (unfit n cs ls ks b (or_right (ltb 8 n) (is_too_short n (length cs) b) e)) ∙ sym is ∙ z in
          when_zero (is_too_short n (length cs) b) 8 (omega arith) (first-zero (number n cs ls ks) (when (is_too_short n (length cs) b) 8) zero_number).1
      pick false e = e
