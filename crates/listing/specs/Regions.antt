-- The pass over all blocks: the cycles of each region are listed at the region's first block.
use Rattle.std.specs.Prelude.{◌≡◌, ◌≢◌, List, ℕ, ◌+◌, ◌^◌, ◌≤◌, ◌<◌, length, get_or, ℤ}
use Rattle.std.proofs.Common.{sym, ap, ◌∙◌, subst, arith}
use Rattle.sequences.specs.Powers.{pow4_mono}
use Rattle.quadtree.specs.Blocks.{Block, blocks, paint}
use Rattle.components.specs.Holders.{block_at}
use Rattle.grid.specs.Cycles.{is_start}
use Rattle.grid.specs.Listing.{keep, listing}
use Rattle.links.specs.Candidates.{rows_from}
use Rattle.links.specs.FirstCycles.{first_cycles}
use Rattle.links.specs.Forward.{Forward, forward_begin, forward_skip, forward_chain, forward_listed, forward_end}
use Rattle.starts.specs.Progress.{State, state, none_counted, Listed, listed_then}
use Rattle.listing.specs.Chains.{chain_from, ChainNext, ChainListed}
use Rattle.listing.specs.MapAndLinks.{MapAndLinks, map_and_links_after, blocks_long, colour_is, chain_is_rows, chain_next}

-- Before the block i the regions below `region` are listed.
pub record ListedBefore (n : ℕ) (codes levels labels : List ℕ) (i region : ℕ) (s : State) : Type 0 where
  pub ready : MapAndLinks n codes levels labels s
  pub place : i < length codes
  pub forward : Forward n (blocks codes levels labels) i region s.cycles

-- After the block i of a list of blocks the regions below `region` are listed.
pub record ListedAfter (n : ℕ) (bs : List Block) (i region : ℕ) (s₀ s : State) : Type 0 where
  pub more : s₀.cycles ≤ s.cycles
  pub listed : Listed n (paint bs) s₀ s
  pub forward : Forward n bs (i + 1) region s.cycles

module _ {n : ℕ} {codes levels labels : List ℕ} {i region : ℕ} {s : State} (ok : ListedBefore n codes levels labels i region s) where
  abbrev bs : List Block
  bs = blocks codes levels labels

  inside : i < length bs
  inside = omega (arith, blocks_long ok.ready, ok.place)

  colour : (block_at bs i).colour ≡ get_or labels i 0
  colour = colour_is ok.ready i ok.place

  -- A block of a region that is listed already.
  pub block_skipped : get_or labels i 0 ≢ region → ListedAfter n (blocks codes levels labels) i region s s
  block_skipped d = record {
    more = omega arith;
    listed = ok.ready.listed;
    forward = forward_skip ok.ready.labelled ok.forward inside (λ e. d (sym colour ∙ e));
  }

  -- The first block of the next region.
  module _ (here : get_or labels i 0 ≡ region) where
    first : (block_at bs i).colour ≡ region
    first = colour ∙ here

    pub region-next : ChainNext n codes levels i s
    region-next = chain_next ok.ready i region ok.place first (forward_chain ok.ready.labelled ok.forward inside first)

    pub region_listed : {s' : State} → ChainListed n codes levels i s s' → ListedAfter n (blocks codes levels labels) i (region + 1) s s'
    region_listed {s'} t =
        let e : s'.cycles ≡ s.cycles + length (keep (is_start n (paint bs)) (rows_from n bs region i)) =
        t.counted
        ∙ ap (λ (m : List ℕ). s.cycles + length (keep (is_start n m) (chain_from n codes levels s.work i))) ok.ready.listed.numbers
        ∙ ap (λ (cs : List ℕ). s.cycles + length (keep (is_start n (paint bs)) cs)) (chain_is_rows ok.ready i region ok.place first) in
        record {
          more = omega arith;
          listed = subst (λ (m : List ℕ). Listed n m s s') ok.ready.listed.numbers t.listed;
          forward = subst (Forward n bs (i + 1) (region + 1)) (sym e) (forward_listed ok.ready.labelled ok.forward inside first);
        }

    pub region_small : region < 65536
    region_small =
        let w : 4 ^ n ≤ 4 ^ 8 = pow4_mono ok.ready.room.small in
        omega (arith, ok.ready.labelled.known i inside, first)

-- ---- the loop over the blocks

-- Before the block i the regions below `region` are listed, in the lists of s, laid over those of s₀.
pub record ListedTo (n : ℕ) (bs : List Block) (s₀ s : State) (i region : ℕ) : Type 0 where
  pub listed : Listed n (paint bs) s₀ s
  pub forward : Forward n bs i region s.cycles

-- All cycles of the image that a list of blocks paints stand in the lists.
pub record AllListed (n : ℕ) (bs : List Block) (s₀ s : State) : Type 0 where
  pub listed : Listed n (paint bs) s₀ s
  pub all : first_cycles n (paint bs) s.cycles ≡ listing n (paint bs) (4 ^ n)

module _ {n : ℕ} {codes levels labels : List ℕ} {w o e c : List ℕ} {a : List ℤ} (ok : MapAndLinks n codes levels labels (state w o e c a none_counted)) where
  abbrev list : List Block
  list = blocks codes levels labels

  abbrev start : State
  start = state w o e c a none_counted

  pub begin : ListedTo n list start start 0 0
  begin = record { listed = ok.listed; forward = forward_begin ok.labelled }

  module _ {s : State} {i region : ℕ} (g : ListedTo n list start s i region) where
    pub listed_before : i < length codes → ListedBefore n codes levels labels i region s
    listed_before less = record { ready = map_and_links_after ok g.listed; place = less; forward = g.forward }

    pub again : {s' : State} {region' : ℕ} → ListedAfter n list i region' s s' → ListedTo n list start s' (i + 1) region'
    again t = record { listed = listed_then g.listed t.listed (omega arith) t.more; forward = t.forward }

    pub finish : length codes ≤ i → AllListed n list start s
    finish past = record { listed = g.listed; all = forward_end ok.labelled g.forward (omega (arith, blocks_long ok)) }
