-- The pairs of neighbours of one colour link exactly the pixels that paths of one colour connect.
use Rattle.std.specs.Prelude.{◌≡◌, refl, ◌⊎◌, ◌↔◌, ℕ, zero, suc, ◌-◌, ◌^◌, ◌≤◌, ◌<◌, get_or}
use Rattle.std.proofs.Math.Path.{sym, ap, ap₂}
use Rattle.std.proofs.Common.{◌∙◌, subst, inl, inr, eq-or-lt_of_le, eq-eqb, ne_eqb}
use mathlib.Core.List.Memᴰ
use mathlib.Core.List.{List, ◌∷◌, Memᴰ}
use Rattle.std.proofs.Math.Decide.{ℕ_discrete}
use native.Mathlib.Omega.{arith}
use Rattle.interleaving.specs.Codes.{code, column, row}
use Rattle.interleaving.specs.Interleaving.{column-below, row_below, column_of_code, row_of_code, code_of_coordinates}
use Rattle.staircase.specs.Staircase.{code_grows}
use Rattle.unions.specs.Pairs.{Pair, pair_of, Linked, same, symmetric, transitive, listed, linked_as}
use Rattle.components.specs.Joined.{Step, north, east, south, west, Beside, Connected, start, on}
use Rattle.components.proofs.Joined.{connected_to, connected_through, connected_step, connected_back}
use Rattle.components.specs.Numbers.{west_of, north_of, pair_if_alike, alike_pairs}

-- ---- the neighbour in the west, and the one in the north

module _ (n c : ℕ) (inside : c < 4 ^ n) where
  pub west-le : west_of n c ≤ c
  unfolding west_of
  west-le =
      omega (arith, code_grows n (column n c) (row n c) (column n c - 1) (row n c) (omega arith) (omega arith) (column-below n c) (row_below n c), code_of_coordinates n c inside)

  pub north-le : north_of n c ≤ c
  unfolding north_of
  north-le =
      omega (arith, code_grows n (column n c) (row n c) (column n c) (row n c - 1) (omega arith) (omega arith) (column-below n c) (row_below n c), code_of_coordinates n c inside)

  pub no_west : column n c ≡ 0 → west_of n c ≡ c
  unfolding west_of
  no_west e = let f : column n c - 1 ≡ column n c = omega arith in ap (λ (x : ℕ). code n x (row n c)) f ∙ code_of_coordinates n c inside

  pub no_north : row n c ≡ 0 → north_of n c ≡ c
  unfolding north_of
  no_north e = let f : row n c - 1 ≡ row n c = omega arith in ap (λ (y : ℕ). code n (column n c) y) f ∙ code_of_coordinates n c inside

  column_of_west : column n (west_of n c) ≡ column n c - 1
  unfolding west_of
  column_of_west = column_of_code n (column n c - 1) (row n c) (omega (arith, column-below n c))

  row_of_west : row n (west_of n c) ≡ row n c
  unfolding west_of
  row_of_west = row_of_code n (column n c - 1) (row n c) (row_below n c)

  column_of_north : column n (north_of n c) ≡ column n c
  unfolding north_of
  column_of_north = column_of_code n (column n c) (row n c - 1) (column-below n c)

  row_of_north : row n (north_of n c) ≡ row n c - 1
  unfolding north_of
  row_of_north = row_of_code n (column n c) (row n c - 1) (omega (arith, row_below n c))

  pub west_beside : 0 < column n c → Beside n c (west_of n c)
  west_beside p = record { from = inside; to = omega (arith, west-le); step = west (omega (arith, column_of_west)) row_of_west }

  pub north_beside : 0 < row n c → Beside n c (north_of n c)
  north_beside p = record { from = inside; to = omega (arith, north-le); step = north column_of_north (omega (arith, row_of_north)) }

  -- Who is one step west, or north, is that neighbour.
  pub is_west : (d : ℕ) → d < 4 ^ n → suc (column n d) ≡ column n c → row n d ≡ row n c → d ≡ west_of n c
  unfolding west_of
  is_west d h a b = let x : column n d ≡ column n c - 1 = omega arith in sym (code_of_coordinates n d h) ∙ ap₂ (code n) x b

  pub is_north : (d : ℕ) → d < 4 ^ n → column n d ≡ column n c → suc (row n d) ≡ row n c → d ≡ north_of n c
  unfolding north_of
  is_north d h a b = let y : row n d ≡ row n c - 1 = omega arith in sym (code_of_coordinates n d h) ∙ ap₂ (code n) a y

-- ---- which pairs are listed

pair_yes : (px : List ℕ) (c d : ℕ) (rest : List Pair) → get_or px c 0 ≡ get_or px d 0 → pair_if_alike px c d rest ≡ pair_of c d ∷ rest
unfolding pair_if_alike
pair_yes px c d rest e = rw (eq-eqb (get_or px c 0) (get_or px d 0) e, pair_if_alike)

pair_no : (px : List ℕ) (c d : ℕ) (rest : List Pair) → ¬ (get_or px c 0 ≡ get_or px d 0) → pair_if_alike px c d rest ≡ rest
unfolding pair_if_alike
pair_no px c d rest f = rw (ne_eqb (get_or px c 0) (get_or px d 0) f, pair_if_alike)

pair_listed : (px : List ℕ) (c d : ℕ) (rest : List Pair) → get_or px c 0 ≡ get_or px d 0 → Memᴰ (pair_of c d) (pair_if_alike px c d rest)
pair_listed px c d rest e = rw (pair_yes px c d rest e) (Memᴰ.head refl)

rest_listed : (px : List ℕ) (c d : ℕ) (rest : List Pair) (e : Pair) → Memᴰ e rest → Memᴰ e (pair_if_alike px c d rest)
rest_listed px c d rest e m = pick (ℕ_discrete (get_or px c 0) (get_or px d 0))
  where
    pick : Dec (get_or px c 0 ≡ get_or px d 0) → Memᴰ e (pair_if_alike px c d rest)
    pick (yes h) = rw (pair_yes px c d rest h) (Memᴰ.tail m)
    pick (no f) = rw (pair_no px c d rest f) m

-- A pair of a pixel with a code below k and its neighbour in the west or in the north, of one colour.
pub record AlikePair (n : ℕ) (px : List ℕ) (k : ℕ) (e : Pair) : Type 0 where
  pub below : e.one < k
  pub neighbour : (e.two ≡ west_of n e.one) ⊎ (e.two ≡ north_of n e.one)
  pub alike : get_or px e.one 0 ≡ get_or px e.two 0

pair_alike : (n : ℕ) (px : List ℕ) (k c d : ℕ) (rest : List Pair) → c < k → (d ≡ west_of n c) ⊎ (d ≡ north_of n c) → ((e : Pair) → Memᴰ e rest → AlikePair n px k e)
    → (e : Pair) → Memᴰ e (pair_if_alike px c d rest) → AlikePair n px k e
pair_alike n px k c d rest l w old e m = pick (ℕ_discrete (get_or px c 0) (get_or px d 0))
  where
    head : get_or px c 0 ≡ get_or px d 0 → (e ≡ pair_of c d) ⊎ Memᴰ e rest → AlikePair n px k e
    head h (inl q) = subst (AlikePair n px k) (sym q) (record { below = l; neighbour = w; alike = h })
    head h (inr r) = old e r

    pick : Dec (get_or px c 0 ≡ get_or px d 0) → AlikePair n px k e
    pick (yes h) = head h (Memᴰ.cases_cons (rw (pair_yes px c d rest h) at m))
    pick (no f) = old e (rw (pair_no px c d rest f) at m)

alike_wider : (n : ℕ) (px : List ℕ) (k : ℕ) (e : Pair) → AlikePair n px k e → AlikePair n px (suc k) e
alike_wider n px k e s = record { below = omega (arith, s.below); neighbour = s.neighbour; alike = s.alike }

pub alike_pair : (n : ℕ) (px : List ℕ) (k : ℕ) (e : Pair) → Memᴰ e (alike_pairs n px k) → AlikePair n px k e
unfolding alike_pairs
alike_pair n px zero e m = absurd (Memᴰ.not-nil m)
alike_pair n px (suc c) e m =
    pair_alike n px (suc c) c (west_of n c) (pair_if_alike px c (north_of n c) (alike_pairs n px c)) (omega arith) (inl refl)
    (pair_alike n px (suc c) c (north_of n c) (alike_pairs n px c) (omega arith) (inr refl) (λ f i. alike_wider n px c f (alike_pair n px c f i))) e m

older_listed : (n : ℕ) (px : List ℕ) (c : ℕ) (e : Pair) → Memᴰ e (alike_pairs n px c) → Memᴰ e (alike_pairs n px (suc c))
unfolding alike_pairs
older_listed n px c e m =
    rest_listed px c (west_of n c) (pair_if_alike px c (north_of n c) (alike_pairs n px c)) e (rest_listed px c (north_of n c) (alike_pairs n px c) e m)

pub west_listed : (n : ℕ) (px : List ℕ) (k c : ℕ) → c < k → get_or px c 0 ≡ get_or px (west_of n c) 0 → Memᴰ (pair_of c (west_of n c)) (alike_pairs n px k)
unfolding alike_pairs
west_listed n px zero c l h = absurd (omega arith)
west_listed n px (suc k) c l h = pick (ℕ_discrete c k) (west_listed n px k c)
  where
    pick : Dec (c ≡ k) → (c < k → get_or px c 0 ≡ get_or px (west_of n c) 0 → Memᴰ (pair_of c (west_of n c)) (alike_pairs n px k))
        → Memᴰ (pair_of c (west_of n c)) (alike_pairs n px (suc k))
    pick (yes e) ih =
        rw e (pair_listed px k (west_of n k) (pair_if_alike px k (north_of n k) (alike_pairs n px k)) (rw e at h))
    pick (no f) ih = older_listed n px k (pair_of c (west_of n c)) (ih (omega arith) h)

pub north_listed : (n : ℕ) (px : List ℕ) (k c : ℕ) → c < k → get_or px c 0 ≡ get_or px (north_of n c) 0 → Memᴰ (pair_of c (north_of n c)) (alike_pairs n px k)
unfolding alike_pairs
north_listed n px zero c l h = absurd (omega arith)
north_listed n px (suc k) c l h = pick (ℕ_discrete c k) (north_listed n px k c)
  where
    pick : Dec (c ≡ k) → (c < k → get_or px c 0 ≡ get_or px (north_of n c) 0 → Memᴰ (pair_of c (north_of n c)) (alike_pairs n px k))
        → Memᴰ (pair_of c (north_of n c)) (alike_pairs n px (suc k))
    pick (yes e) ih =
        rw e
        (rest_listed px k (west_of n k) (pair_if_alike px k (north_of n k) (alike_pairs n px k)) (pair_of k (north_of n k))
        (pair_listed px k (north_of n k) (alike_pairs n px k) (rw e at h)))
    pick (no f) ih = older_listed n px k (pair_of c (north_of n c)) (ih (omega arith) h)

-- ---- what they link

module _ (n : ℕ) (px : List ℕ) (m : ℕ) (image : m ≤ 4 ^ n) where
  pair_connected : (e : Pair) → AlikePair n px m e → Connected n px m e.one e.two
  pair_connected e s = pick s.neighbour
    where
      inside : e.one < 4 ^ n
      inside = omega (arith, s.below)

      at_west : e.two ≡ west_of n e.one → (0 ≡ column n e.one) ⊎ (0 < column n e.one) → Connected n px m e.one e.two
      at_west w (inl z) = rw (w, no_west n e.one inside (sym z)) (start s.below)
      at_west w (inr p) =
          rw w (connected_step s.below (omega (arith, s.below, west-le n e.one inside)) (west_beside n e.one inside p) (sym (rw w at s.alike)))

      at_north : e.two ≡ north_of n e.one → (0 ≡ row n e.one) ⊎ (0 < row n e.one) → Connected n px m e.one e.two
      at_north w (inl z) = rw (w, no_north n e.one inside (sym z)) (start s.below)
      at_north w (inr p) =
          rw w (connected_step s.below (omega (arith, s.below, north-le n e.one inside)) (north_beside n e.one inside p) (sym (rw w at s.alike)))

      pick : (e.two ≡ west_of n e.one) ⊎ (e.two ≡ north_of n e.one) → Connected n px m e.one e.two
      pick (inl w) = at_west w (eq-or-lt_of_le (omega arith))
      pick (inr w) = at_north w (eq-or-lt_of_le (omega arith))

  -- A step is a pair, from the pixel further east or south.
  step_linked : (c d : ℕ) → c < m → d < m → Step n c d → c < 4 ^ n → d < 4 ^ n → get_or px d 0 ≡ get_or px c 0 → Linked (alike_pairs n px m) c d
  step_linked c d a b (west x y) g h e =
      let w : d ≡ west_of n c = is_west n c g d h x y in
      rw w (listed (alike_pairs n px m) c (west_of n c) (west_listed n px m c a (sym (rw w at e))))
  step_linked c d a b (north x y) g h e =
      let w : d ≡ north_of n c = is_north n c g d h x y in
      rw w (listed (alike_pairs n px m) c (north_of n c) (north_listed n px m c a (sym (rw w at e))))
  step_linked c d a b (east x y) g h e =
      let w : c ≡ west_of n d = is_west n d h c g (sym x) (sym y) in
      rw w (symmetric (listed (alike_pairs n px m) d (west_of n d) (west_listed n px m d b (rw w at e))))
  step_linked c d a b (south x y) g h e =
      let w : c ≡ north_of n d = is_north n d h c g (sym x) (sym y) in
      rw w (symmetric (listed (alike_pairs n px m) d (north_of n d) (north_listed n px m d b (rw w at e))))

  pub connected_linked : {c d : ℕ} → Connected n px m c d → Linked (alike_pairs n px m) c d
  connected_linked (start h) = same refl
  connected_linked (on {d} {e} p b l h) = transitive (connected_linked p) (step_linked d e (connected_to p) l b.step b.from b.to h)

  pub linked_exactly_when_connected : (c d : ℕ) → c < m → Linked (alike_pairs n px m) c d ↔ Connected n px m c d
  linked_exactly_when_connected c d l = (
    λ k. pick (linked_as (alike_pairs n px m) (Connected n px m) (λ e l. pair_connected e (alike_pair n px m e l)) (λ i j. connected_back) (λ i j o. connected_through) k),
    connected_linked,
  )
    where
      pick : (c ≡ d) ⊎ Connected n px m c d → Connected n px m c d
      pick (inl e) = subst (λ (x : ℕ). Connected n px m c x) e (start l)
      pick (inr p) = p
