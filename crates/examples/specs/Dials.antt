-- A dial: a block list, and what is said of it, as equations and as tests that compute.
use Rattle.std.specs.Prelude.{◌≡◌, Bool, true, ◌&&◌, List, [], ◌∷◌, ℕ, eqb}
use Rattle.std.proofs.Common.{eqb-true}
use Rattle.quadtree.specs.Blocks.{blocks, paint}
use Rattle.quadtree.specs.Number.{number}
use Rattle.components.specs.Numbers.{regions, labels}
use Rattle.sequences.specs.Cases.{and_both}
use Rattle.sequences.specs.Same.{same, same_exactly}
use Rattle.grid.specs.Listing.{Cycle, owners, ends, all_corners, points_at, cycle_count, corner_count}
use Rattle.tracing.specs.Tracing.{outlines_of}
use Rattle.chains.specs.ChainCode.{chain_of}
use Rattle.chains.specs.ChainForm.{chain_form, corners_of}
use Rattle.lines.specs.Lines.{data_of}

-- What is said of a block list:
-- the number that the check answers;
-- the region number of each block;
-- the counts of regions, of cycles and of corners;
-- the owners, the ends and the corners of the outlines;
-- of a region, the path data of its cycles joined;
-- of a string, that it is a chain from its start corner, and the cycle whose corners it gives and whose unit steps it lists.
pub data Saying : Type 0 where
  answer : ℕ → Saying
  labelled : List ℕ → Saying
  counted : ℕ → ℕ → ℕ → Saying
  outlined : List ℕ → List ℕ → List ℕ → Saying
  path : ℕ → List ℕ → Saying
  string : ℕ → List ℕ → ℕ → Saying

pub record Dial : Type 0 where
  pub n : ℕ
  pub codes : List ℕ
  pub levels : List ℕ
  pub colours : List ℕ
  pub says : List Saying

-- The colours of a dial's pixels, and its outlines.
unfoldable pub dial_pixels : Dial → List ℕ
unfolding paint blocks
dial_pixels d = paint (blocks d.codes d.levels d.colours)

abbrev pub traced : Dial → List Cycle
traced d = outlines_of d.n d.codes d.levels d.colours

-- A saying, as equations.
abbrev pub SayingHolds : Dial → Saying → Type 0
SayingHolds d (answer k) = number d.n d.codes d.levels d.colours ≡ k
SayingHolds d (labelled ls) = labels d.n (blocks d.codes d.levels d.colours) ≡ ls
SayingHolds d (counted r c k) = (regions d.n (dial_pixels d) ≡ r) × (cycle_count (traced d) ≡ c) × (corner_count (traced d) ≡ k)
SayingHolds d (outlined os es cs) = (owners (traced d) ≡ os) × (ends (traced d) ≡ es) × (all_corners (traced d) ≡ cs)
SayingHolds d (path r bytes) = data_of r (traced d) ≡ bytes
SayingHolds d (string start bytes k) = (chain_form start bytes ≡ true) × (corners_of start bytes ≡ points_at (traced d) k) × (chain_of (points_at (traced d) k) ≡ bytes)

-- All that is said of a dial, and of each dial of a table.
abbrev pub Each : Dial → List Saying → Type 0
Each d [] = Unit {0}
Each d (s ∷ ss) = SayingHolds d s × Each d ss

abbrev pub AllHold : List Dial → Type 0
AllHold [] = Unit {0}
AllHold (d ∷ ds) = Each d d.says × AllHold ds

-- ---- the same, computed

unfoldable pub holds : Dial → Saying → Bool
unfolding number labels blocks regions dial_pixels outlines_of cycle_count corner_count owners ends all_corners points_at data_of chain_form corners_of chain_of same
holds d (answer k) = eqb (number d.n d.codes d.levels d.colours) k
holds d (labelled ls) = same (labels d.n (blocks d.codes d.levels d.colours)) ls
holds d (counted r c k) = eqb (regions d.n (dial_pixels d)) r && (eqb (cycle_count (traced d)) c && eqb (corner_count (traced d)) k)
holds d (outlined os es cs) = same (owners (traced d)) os && (same (ends (traced d)) es && same (all_corners (traced d)) cs)
holds d (path r bytes) = same (data_of r (traced d)) bytes
holds d (string start bytes k) = chain_form start bytes && (same (corners_of start bytes) (points_at (traced d) k) && same (chain_of (points_at (traced d) k)) bytes)

unfoldable pub each : Dial → List Saying → Bool
unfolding holds
each d [] = true
each d (s ∷ ss) = holds d s && each d ss

unfoldable pub all_hold : List Dial → Bool
unfolding each
all_hold [] = true
all_hold (d ∷ ds) = each d d.says && all_hold ds

-- A test that is passed gives the equations.
pub holds_says : (d : Dial) (s : Saying) → holds d s ≡ true → SayingHolds d s
unfolding holds
holds_says d (answer k) h = eqb-true (number d.n d.codes d.levels d.colours) k h
holds_says d (labelled ls) h = (same_exactly (labels d.n (blocks d.codes d.levels d.colours)) ls).0 h
holds_says d (counted r c k) h =
    let a = and_both (eqb (regions d.n (dial_pixels d)) r) (eqb (cycle_count (traced d)) c && eqb (corner_count (traced d)) k) h in
    let b = and_both (eqb (cycle_count (traced d)) c) (eqb (corner_count (traced d)) k) a.1 in
    (eqb-true (regions d.n (dial_pixels d)) r a.0, eqb-true (cycle_count (traced d)) c b.0, eqb-true (corner_count (traced d)) k b.1)
holds_says d (outlined os es cs) h =
    let a = and_both (same (owners (traced d)) os) (same (ends (traced d)) es && same (all_corners (traced d)) cs) h in
    let b = and_both (same (ends (traced d)) es) (same (all_corners (traced d)) cs) a.1 in
    ((same_exactly (owners (traced d)) os).0 a.0, (same_exactly (ends (traced d)) es).0 b.0, (same_exactly (all_corners (traced d)) cs).0 b.1)
holds_says d (path r bytes) h = (same_exactly (data_of r (traced d)) bytes).0 h
holds_says d (string start bytes k) h =
    let cs = points_at (traced d) k in
    let a = and_both (chain_form start bytes) (same (corners_of start bytes) cs && same (chain_of cs) bytes) h in
    let b = and_both (same (corners_of start bytes) cs) (same (chain_of cs) bytes) a.1 in
    (a.0, (same_exactly (corners_of start bytes) cs).0 b.0, (same_exactly (chain_of cs) bytes).0 b.1)

pub each_says : (d : Dial) (ss : List Saying) → each d ss ≡ true → Each d ss
unfolding each
each_says d [] h = tt
each_says d (s ∷ ss) h =
    let b = and_both (holds d s) (each d ss) h in
    (holds_says d s b.0, each_says d ss b.1)

pub all_say : (ds : List Dial) → all_hold ds ≡ true → AllHold ds
unfolding all_hold
all_say [] h = tt
all_say (d ∷ ds) h =
    let b = and_both (each d d.says) (all_hold ds) h in
    (each_says d d.says b.0, all_say ds b.1)
