-- Small images: what surrounds what, and the order they are cut in.
use Rattle.std.specs.Prelude.{◌≡◌, refl, false, List, [], ◌∷◌, ℕ, ◌≤◌, ◌<◌}
use Rattle.std.proofs.Common.{subst, lit<, lit≤}
use Rattle.components.specs.Numbers.{numbers, regions}
use Rattle.grid.specs.Figures.{figure5a, figure5b}
use Rattle.forests.specs.Forest.{Above, parent, further}
use Rattle.surrounding.specs.Surrounds.{Surrounds}
use Rattle.surrounding.specs.Parents.{parent_of}
use Rattle.surrounding.specs.Ancestors.{surrounds_exactly_when_above, none_surrounds}
use Rattle.surrounding.specs.CuttingOrders.{is_inside_out, cutting_order}

-- Images given by the region numbers of their pixels in rising location code: these, taken for colours, are numbered as they are.
module _ (n : ℕ) (small : n ≤ 8) (nums : List ℕ) (own : numbers n nums ≡ nums) where
  surrounded : (r s : ℕ) → s < regions n nums → Above (parent_of n nums) r s → Surrounds n nums r s
  surrounded r s h = subst (λ l. Above (parent_of n l) r s → Surrounds n l r s) own (surrounds_exactly_when_above n nums small r s h).1

  by_none : (s : ℕ) → s < regions n nums → parent_of n nums s ≡ 0 → (r : ℕ) → ¬ Surrounds n nums r s
  by_none s h = subst (λ l. parent_of n l s ≡ 0 → (r : ℕ) → ¬ Surrounds n l r s) own (none_surrounds n nums small s h)

-- Figure 5(a): region 0, which runs along the image's edge, surrounds the middle. The middle is cut first.
ring : Surrounds 2 figure5a 0 1 × ((r : ℕ) → ¬ Surrounds 2 figure5a r 0) × (cutting_order 2 figure5a ≡ 1 ∷ 0 ∷ []) × (is_inside_out 2 figure5a (0 ∷ 1 ∷ []) ≡ false)
unfolding numbers regions parent_of is_inside_out cutting_order figure5a
ring = (surrounded 2 (lit≤ tt) figure5a refl 0 1 (lit< tt) (parent refl), by_none 2 (lit≤ tt) figure5a refl 0 (lit< tt) refl, refl, refl)

-- Figure 5(b): from region 1 a diagonal step leads into region 2, which lies at the image's edge.
open_at_a_corner : ((r : ℕ) → ¬ Surrounds 2 figure5b r 1) × (cutting_order 2 figure5b ≡ 0 ∷ 1 ∷ 2 ∷ [])
unfolding numbers regions parent_of cutting_order figure5b
open_at_a_corner = (by_none 2 (lit≤ tt) figure5b refl 1 (lit< tt) refl, refl)

-- A diamond: the pixels (1, 0), (0, 1), (2, 1) and (1, 2) around (1, 1) touch in corners only, and are four regions.
unfoldable diamond : List ℕ
diamond = 0 ∷ 1 ∷ 2 ∷ 3 ∷ 4 ∷ 4 ∷ 5 ∷ 4 ∷ 4 ∷ 6 ∷ 4 ∷ 4 ∷ 4 ∷ 4 ∷ 4 ∷ 4 ∷ []

diamond_open : ((r : ℕ) → ¬ Surrounds 2 diamond r 3) × (cutting_order 2 diamond ≡ 0 ∷ 1 ∷ 2 ∷ 3 ∷ 4 ∷ 5 ∷ 6 ∷ [])
unfolding numbers regions parent_of cutting_order diamond
diamond_open = (by_none 2 (lit≤ tt) diamond refl 3 (lit< tt) refl, refl)

-- A ring of 3 by 3 pixels in the image's northwest corner surrounds its middle, and not what lies southeast of it.
unfoldable corner : List ℕ
corner = 0 ∷ 0 ∷ 0 ∷ 1 ∷ 0 ∷ 2 ∷ 0 ∷ 2 ∷ 0 ∷ 0 ∷ 2 ∷ 2 ∷ 0 ∷ 2 ∷ 2 ∷ 2 ∷ []

ring_at_the_edge : Surrounds 2 corner 0 1 × ((r : ℕ) → ¬ Surrounds 2 corner r 2) × (cutting_order 2 corner ≡ 1 ∷ 0 ∷ 2 ∷ [])
unfolding numbers regions parent_of cutting_order corner
ring_at_the_edge = (surrounded 2 (lit≤ tt) corner refl 0 1 (lit< tt) (parent refl), by_none 2 (lit≤ tt) corner refl 2 (lit< tt) refl, refl)

-- The pixel (1, 1) between the western half, which is region 0, and the eastern half: only together they close it in.
unfoldable halves : List ℕ
halves = 0 ∷ 0 ∷ 0 ∷ 1 ∷ 2 ∷ 2 ∷ 2 ∷ 2 ∷ 0 ∷ 0 ∷ 0 ∷ 0 ∷ 2 ∷ 2 ∷ 2 ∷ 2 ∷ []

closed_by_two : ((r : ℕ) → ¬ Surrounds 2 halves r 1) × (cutting_order 2 halves ≡ 0 ∷ 1 ∷ 2 ∷ [])
unfolding numbers regions parent_of cutting_order halves
closed_by_two = (by_none 2 (lit≤ tt) halves refl 1 (lit< tt) refl, refl)

-- A pixel within two rings, one within the other, in an image of side 8.
unfoldable nested : List ℕ
nested =
    0 ∷ 0 ∷ 0 ∷ 1 ∷ 0 ∷ 0 ∷ 1 ∷ 1 ∷ 0 ∷ 1 ∷ 0 ∷ 1 ∷ 2 ∷ 2 ∷ 2 ∷ 3
    ∷ 0 ∷ 0 ∷ 1 ∷ 1 ∷ 0 ∷ 0 ∷ 0 ∷ 0 ∷ 2 ∷ 1 ∷ 2 ∷ 1 ∷ 0 ∷ 0 ∷ 0 ∷ 0
    ∷ 0 ∷ 1 ∷ 0 ∷ 1 ∷ 2 ∷ 2 ∷ 1 ∷ 1 ∷ 0 ∷ 0 ∷ 0 ∷ 0 ∷ 0 ∷ 0 ∷ 0 ∷ 0
    ∷ 2 ∷ 1 ∷ 1 ∷ 1 ∷ 0 ∷ 0 ∷ 0 ∷ 0 ∷ 0 ∷ 0 ∷ 0 ∷ 0 ∷ 0 ∷ 0 ∷ 0 ∷ 0 ∷ []

rings : Surrounds 3 nested 0 3 × Surrounds 3 nested 1 3 × Surrounds 3 nested 2 3 × (cutting_order 3 nested ≡ 3 ∷ 2 ∷ 1 ∷ 0 ∷ [])
unfolding numbers regions parent_of cutting_order nested
rings = (
  surrounded 3 (lit≤ tt) nested refl 0 3 (lit< tt) (further refl (further refl (parent refl))),
  surrounded 3 (lit≤ tt) nested refl 1 3 (lit< tt) (further refl (parent refl)),
  surrounded 3 (lit≤ tt) nested refl 2 3 (lit< tt) (parent refl),
  refl,
)
