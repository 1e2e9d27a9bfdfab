-- The pass over the blocks: they meet the regions in the order of their numbers, each first at the block that holds its least pixel.
use Rattle.std.specs.Prelude.{◌≡◌, refl, ◌≢◌, List, ℕ, ◌+◌, ◌^◌, ◌≤◌, ◌<◌, length, get_or}
use Rattle.std.proofs.Common.{sym, ap, ◌∙◌, subst, arith}
use Rattle.std.proofs.Math.Decide.{dec_lt, ℕ_discrete}
use Rattle.unions.specs.Counting.{Before}
use Rattle.components.specs.Numbers.{numbers}
use Rattle.components.proofs.Numbered.{numbers_are_region_numbers}
use Rattle.cycles.specs.Mapped.{nums_of}
use Rattle.parents.specs.RegionsSettled.{RegionsSettled, RegionNext, RegionSettled}

-- The block that holds the pixel c starts no later, and its label is the pixel's number.
pub record HeldBy (nums codes labels : List ℕ) (c : ℕ) : Type 0 where
  pub block : ℕ
  pub place : block < length codes
  pub from : get_or codes block 0 ≤ c
  pub label : get_or labels block 0 ≡ get_or nums c 0

-- Blocks in rising code order that hold all pixels; their labels are the region numbers of their pixels.
pub record BlocksNumbered (n : ℕ) (nums codes labels : List ℕ) : Type 0 where
  pub enough : length codes ≤ length labels
  pub inside : (i : ℕ) → i < length codes → get_or codes i 0 < 4 ^ n
  pub first : (i : ℕ) → i < length codes → get_or labels i 0 ≡ get_or nums (get_or codes i 0) 0
  pub rising : (i j : ℕ) → i ≤ j → j < length codes → get_or codes i 0 ≤ get_or codes j 0
  pub held : (c : ℕ) → c < 4 ^ n → HeldBy nums codes labels c

-- Before the block i: every block before it has a label below s, and these regions are settled.
pub record BlockNext (n : ℕ) (codes labels : List ℕ) (i s : ℕ) (work : List ℕ) : Type 0 where
  pub blocks : BlocksNumbered n (nums_of n work) codes labels
  pub place : i < length codes
  pub below : (j : ℕ) → j < i → get_or labels j 0 < s
  pub settled : RegionsSettled n s work

-- After it: so with the regions below r. What lies behind their parents is as it was.
pub record BlockPassed (n : ℕ) (labels : List ℕ) (i s : ℕ) (work work' : List ℕ) (r : ℕ) : Type 0 where
  pub first : get_or labels i 0 ≡ s → r ≡ s + 1
  pub other : get_or labels i 0 ≢ s → r ≡ s
  pub below : (j : ℕ) → j < i + 1 → get_or labels j 0 < r
  pub settled : RegionsSettled n r work'
  pub same_numbers : nums_of n work' ≡ nums_of n work
  pub long : length work' ≡ length work
  pub beyond : (j : ℕ) → 4 ^ n + r ≤ j → get_or work' j 0 ≡ get_or work j 0

module _ {n : ℕ} {codes labels : List ℕ} {i s : ℕ} {work : List ℕ} (ok : BlockNext n codes labels i s work) where
  abbrev c : ℕ
  c = get_or codes i 0

  abbrev nums : List ℕ
  nums = nums_of n work

  -- A pixel before the block has a number below s.
  earlier : (d : ℕ) → d < c → get_or nums d 0 < s
  earlier d h =
      let k : HeldBy nums codes labels d = ok.blocks.held d (omega (arith, ok.blocks.inside i ok.place)) in
      pick k (dec_lt k.block i)
    where
      pick : (k : HeldBy nums codes labels d) → Dec (k.block < i) → get_or nums d 0 < s
      pick k (yes l) = omega (arith, k.label, ok.below k.block l)
      pick k (no l) = absurd (omega (arith, k.from, ok.blocks.rising i k.block (omega arith) k.place))

  -- So its own label is at most s: before a number comes, every smaller one has come.
  not_above : get_or labels i 0 ≤ s
  not_above = pick (dec_lt s (get_or labels i 0))
    where
      counted : s < get_or nums c 0 → Before (λ (d : ℕ). get_or nums d 0) c s
      counted h =
          let e : get_or nums c 0 ≡ get_or (numbers n ok.settled.image) c 0 = ap (λ (m : List ℕ). get_or m c 0) ok.settled.numbered in
          subst (λ (m : List ℕ). Before (λ (d : ℕ). get_or m d 0) c s) (sym ok.settled.numbered)
          ((numbers_are_region_numbers n ok.settled.image).count_up c s (ok.blocks.inside i ok.place) (omega arith))

      pick : Dec (s < get_or labels i 0) → get_or labels i 0 ≤ s
      pick (yes h) =
          let w : Before (λ (d : ℕ). get_or nums d 0) c s = counted (omega (arith, ok.blocks.first i ok.place)) in
          absurd (omega (arith, earlier w.at w.less, w.value))
      pick (no h) = omega arith

  below_then : {r : ℕ} → s ≤ r → get_or labels i 0 < r → (j : ℕ) → j < i + 1 → get_or labels j 0 < r
  below_then {r} more here j h = pick (ℕ_discrete j i)
    where
      pick : Dec (j ≡ i) → get_or labels j 0 < r
      pick (yes e) = subst (λ (k : ℕ). get_or labels k 0 < r) (sym e) here
      pick (no e) = omega (arith, ok.below j (omega arith))

  -- A block of a region that is settled.
  pub block_skipped : get_or labels i 0 ≢ s → BlockPassed n labels i s work work s
  block_skipped d = record {
    first = λ e. absurd (d e);
    other = λ e. refl;
    below = below_then (omega arith) (omega (arith, not_above));
    settled = ok.settled;
    same_numbers = refl;
    long = refl;
    beyond = λ j h. refl;
  }

  -- The first block of the next region.
  module _ (here : get_or labels i 0 ≡ s) where
    pub region-next : RegionNext n s (get_or codes i 0) work
    region-next = record {
      least = record {
        inside = ok.blocks.inside i ok.place;
        least = λ d h e. pick d e (dec_lt d c);
      };
      number = number-here;
      settled = ok.settled;
    }
      where
        number-here : get_or nums c 0 ≡ s
        number-here = sym (ok.blocks.first i ok.place) ∙ here

        pick : (d : ℕ) → get_or nums d 0 ≡ get_or nums c 0 → Dec (d < c) → c ≤ d
        pick d e (yes l) = absurd (omega (arith, earlier d l, number-here))
        pick d e (no l) = omega arith

    pub region_passed : {work' : List ℕ} → RegionSettled n s work work' → BlockPassed n labels i s work work' (s + 1)
    region_passed t = record {
      first = λ e. refl;
      other = λ d. absurd (d here);
      below = below_then (omega arith) (omega arith);
      settled = t.settled;
      same_numbers = t.same_numbers;
      long = t.long;
      beyond = λ j h. t.beyond j (omega arith);
    }

-- ---- the loop over the blocks

-- All regions are to be settled: each number below `count` is that of a pixel.
pub record AllNext (n count : ℕ) (codes labels work : List ℕ) : Type 0 where
  pub blocks : BlocksNumbered n (nums_of n work) codes labels
  pub given : (v : ℕ) → v < count → (c : ℕ) × (c < 4 ^ n) × (get_or (nums_of n work) c 0 ≡ v)
  pub start : RegionsSettled n 0 work

-- They are; what lies behind their parents is as it was.
pub record AllSettled (n count : ℕ) (work work' : List ℕ) : Type 0 where
  pub settled : RegionsSettled n count work'
  pub same_numbers : nums_of n work' ≡ nums_of n work
  pub long : length work' ≡ length work
  pub beyond : (j : ℕ) → 4 ^ n + count ≤ j → get_or work' j 0 ≡ get_or work j 0

-- Before the block i, where s is the next region.
pub record SettledTo (n count : ℕ) (codes labels work₀ work : List ℕ) (i s : ℕ) : Type 0 where
  pub few : s ≤ count
  pub below : (j : ℕ) → j < i → get_or labels j 0 < s
  pub settled : RegionsSettled n s work
  pub same_numbers : nums_of n work ≡ nums_of n work₀
  pub long : length work ≡ length work₀
  pub beyond : (j : ℕ) → 4 ^ n + s ≤ j → get_or work j 0 ≡ get_or work₀ j 0

module _ {n count : ℕ} {codes labels work₀ : List ℕ} (all : AllNext n count codes labels work₀) where
  pub begin : SettledTo n count codes labels work₀ work₀ 0 0
  begin = record {
    few = omega arith;
    below = λ j h. absurd (omega arith);
    settled = all.start;
    same_numbers = refl;
    long = refl;
    beyond = λ j h. refl;
  }

  module _ {work : List ℕ} {i s : ℕ} (g : SettledTo n count codes labels work₀ work i s) where
    -- As long as a region is left, a block is: the one that holds the region's pixel.
    pub block_left : s < count → i < length codes
    block_left h =
        let p = all.given s h in
        let k : HeldBy (nums_of n work₀) codes labels p.0 = all.blocks.held p.0 p.1 in
        pick k (k.label ∙ p.2) (dec_lt k.block i)
      where
        pick : {d : ℕ} (k : HeldBy (nums_of n work₀) codes labels d) → get_or labels k.block 0 ≡ s → Dec (k.block < i) → i < length codes
        pick k e (yes l) = absurd (omega (arith, g.below k.block l))
        pick k e (no l) = omega (arith, k.place)

    pub block-next : s < count → BlockNext n codes labels i s work
    block-next h = record {
      blocks = subst (λ (m : List ℕ). BlocksNumbered n m codes labels) (sym g.same_numbers) all.blocks;
      place = block_left h;
      below = g.below;
      settled = g.settled;
    }

    pub again : {work' : List ℕ} {r : ℕ} → s < count → BlockPassed n labels i s work work' r → SettledTo n count codes labels work₀ work' (i + 1) r
    again {work'} {r} h t = record {
      few = omega (arith, step.1);
      below = t.below;
      settled = t.settled;
      same_numbers = t.same_numbers ∙ g.same_numbers;
      long = t.long ∙ g.long;
      beyond = λ j l. t.beyond j l ∙ g.beyond j (omega (arith, step.0));
    }
      where
        step : (s ≤ r) × (r ≤ s + 1)
        step = pick (ℕ_discrete (get_or labels i 0) s)
          where
            pick : Dec (get_or labels i 0 ≡ s) → (s ≤ r) × (r ≤ s + 1)
            pick (yes e) = (omega (arith, t.first e), omega (arith, t.first e))
            pick (no d) = (omega (arith, t.other d), omega (arith, t.other d))

    pub finish : count ≤ s → AllSettled n count work₀ work
    finish h =
        let e : s ≡ count = omega (arith, g.few) in
        record {
          settled = subst (λ (v : ℕ). RegionsSettled n v work) e g.settled;
          same_numbers = g.same_numbers;
          long = g.long;
          beyond = λ j l. g.beyond j (omega arith);
        }
