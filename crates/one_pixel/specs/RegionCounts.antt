-- One pixel of another colour moves the number of regions by at most 4 (document 02, request j).
use Rattle.std.specs.Prelude.{◌≡◌, refl, ℕ, suc, ◌+◌, ◌-◌, ◌^◌, ◌≤◌, get_or, set}
use Rattle.std.proofs.Common.{sym, ap₂, ◌∙◌, subst, arith}
use mathlib.Core.List.Memᴰ
use mathlib.Core.List.{List, [], ◌∷◌, ◌++◌, Memᴰ}
use Rattle.std.proofs.Math.Decide.{ℕ_discrete}
use Rattle.interleaving.specs.Codes.{code, column, row}
use Rattle.interleaving.specs.Interleaving.{code_of_coordinates}
use Rattle.unions.specs.Pairs.{Pair, pair_of, Linked, same, symmetric, transitive, listed, linked_among}
use Rattle.components.specs.Joined.{Step, north, east, south, west, Beside, Joined, start, on}
use Rattle.components.proofs.Joined.{beside_back, connected_step}
use Rattle.components.specs.Numbers.{alike_pairs, numbers, regions}
use Rattle.components.proofs.Neighbours.{connected_linked, linked_exactly_when_connected}
use Rattle.components.proofs.Numbered.{regions_counted_lem}
use Rattle.one_pixel.specs.Agreeing.{AgreeBut, agree_back}
use Rattle.one_pixel.specs.ClassCounts.{pairs_more, linked_fewer}

-- The pixel with the code c paired with the pixels north, east, south and west of it. Where it stands at the image's border, a pair may be
-- with no neighbour: a pair too many does no harm.
abbrev neighbour_pairs : ℕ → ℕ → List Pair
neighbour_pairs n c =
    pair_of c (code n (column n c) (row n c - 1))
    ∷ pair_of c (code n (suc (column n c)) (row n c))
    ∷ pair_of c (code n (column n c) (suc (row n c)))
    ∷ pair_of c (code n (column n c - 1) (row n c))
    ∷ []

module _ (n c : ℕ) (px qx : List ℕ) (agree : AgreeBut c px qx) where
  -- These pairs, and those of neighbours of one colour in the second image.
  abbrev more : List Pair
  more = neighbour_pairs n c ++ alike_pairs n qx (4 ^ n)

  -- They link c with its neighbours.
  pixel_linked : (d : ℕ) → Beside n c d → Linked more c d
  pixel_linked d b = pick b.step
    where
      at : (x y : ℕ) → column n d ≡ x → row n d ≡ y → Memᴰ (pair_of c (code n x y)) (neighbour_pairs n c) → Linked more c d
      at x y p q i =
          subst (λ (e : ℕ). Linked more c e) (sym (ap₂ (code n) p q) ∙ code_of_coordinates n d b.to)
          (listed more c (code n x y) (Memᴰ.append_left (alike_pairs n qx (4 ^ n)) i))

      pick : Step n c d → Linked more c d
      pick (north p q) = at (column n c) (row n c - 1) p (omega arith) (Memᴰ.head refl)
      pick (east p q) = at (suc (column n c)) (row n c) p q (Memᴰ.tail (Memᴰ.head refl))
      pick (south p q) = at (column n c) (suc (row n c)) p q (Memᴰ.tail (Memᴰ.tail (Memᴰ.head refl)))
      pick (west p q) = at (column n c - 1) (row n c) (omega arith) q (Memᴰ.tail (Memᴰ.tail (Memᴰ.tail (Memᴰ.head refl))))

  -- They link all neighbours of one colour in the first image: where neither is c, these have one colour in the second image too.
  neighbours_linked : (d e : ℕ) → Beside n d e → get_or px e 0 ≡ get_or px d 0 → Linked more d e
  neighbours_linked d e b one = pick (ℕ_discrete d c) (ℕ_discrete e c)
    where
      pick : Dec (d ≡ c) → Dec (e ≡ c) → Linked more d e
      pick (yes p) q = rw p (pixel_linked e (rw p at b))
      pick (no f) (yes q) = let back : Linked more e d = rw q (pixel_linked d (rw q at (beside_back b))) in symmetric back
      pick (no f) (no g) =
          linked_among (alike_pairs n qx (4 ^ n)) more (λ i m. Memᴰ.append_right (neighbour_pairs n c) m)
          (connected_linked n qx (4 ^ n) (omega arith) (connected_step b.from b.to b (agree e g ∙ one ∙ sym (agree d f))))

  joined_linked : {d e : ℕ} → Joined n px d e → Linked more d e
  joined_linked (start h) = same refl
  joined_linked (on {d} {e} p b l one) = transitive (joined_linked p) (neighbours_linked d e b one)

  -- So all that the first image joins, the second joins once the four pairs are added, and each of them joins at most two regions.
  regions_grow_by_four_at_most : regions n qx ≤ regions n px + 4
  regions_grow_by_four_at_most =
      omega (
        arith,
        regions_counted_lem n px,
        regions_counted_lem n qx,
        pairs_more (neighbour_pairs n c) (alike_pairs n qx (4 ^ n)) (4 ^ n),
        linked_fewer (alike_pairs n px (4 ^ n)) more (4 ^ n)
            (λ i j l k. joined_linked ((linked_exactly_when_connected n px (4 ^ n) (omega arith) i j l).0 k)),
      )

-- "The number of regions then moves by at most 4, up or down" (document 02, request j).
pub regions_move_by_four_at_most : (n c : ℕ) (px qx : List ℕ) → AgreeBut c px qx → (regions n qx ≤ regions n px + 4) × (regions n px ≤ regions n qx + 4)
regions_move_by_four_at_most n c px qx agree =
    (regions_grow_by_four_at_most n c px qx agree, regions_grow_by_four_at_most n c qx px (agree_back c px qx agree))

-- A plus of five pixels, whose middle one is repainted: its arms become four regions, beside that of the middle. Painted back, it loses
-- four again.
plus : List ℕ
plus = 0 ∷ 1 ∷ 1 ∷ 1 ∷ 0 ∷ 0 ∷ 1 ∷ 0 ∷ 0 ∷ 1 ∷ 0 ∷ 0 ∷ 0 ∷ 0 ∷ 0 ∷ 0 ∷ []

four_more : (regions 2 plus ≡ 3) × (regions 2 (set plus 3 2) ≡ 7)
unfolding regions plus
four_more = (refl, refl)

-- "Region numbers may all shift" (document 02, request j): the northwest pixel repainted is region 0, and all others, which were, are region 1.
others_shift : (numbers 1 (5 ∷ 5 ∷ 5 ∷ 5 ∷ []) ≡ 0 ∷ 0 ∷ 0 ∷ 0 ∷ []) × (numbers 1 (set (5 ∷ 5 ∷ 5 ∷ 5 ∷ []) 0 7) ≡ 0 ∷ 1 ∷ 1 ∷ 1 ∷ [])
unfolding numbers
others_shift = (refl, refl)
