-- The walk along any staircase, with done on the left and not done on the right: it is the whole border.
use Rattle.std.specs.Prelude.{◌≡◌, ◌⊎◌, ◌≢◌, Bool, length, eqb}
use Rattle.std.proofs.Math.Path.{refl, ap, subst}
use Rattle.std.proofs.Common.{sym, ap₂, ◌∙◌, inl, inr, true≢false, eq-or-lt_of_le, arith}
use Rattle.std.proofs.Math.Logic.{⊎_elim, ∥∥₁_elim}
use mathlib.Core.HLevel.{⊥_prop}
use Rattle.std.proofs.Math.Bool.{true, false}
use Rattle.std.proofs.lemmas.Bool.{false≢true}
use mathlib.Core.List.Memᴰ
use mathlib.Core.List.{List, [], ◌∷◌, Memᴰ, Nodup, Nodup-nil, Nodup-cons}
use Prim.Native.Nat.{ℕ, zero, suc, ◌+◌, ◌-◌, ◌*◌, ◌≤◌, ◌<◌}
use Rattle.staircase.specs.Edges.{Direction, east, north, UnitEdge, east_from, north_from, end_x, end_y, left_cell, right_cell, SideOf, Border, Leads, OnePath}

-- A test of cells is a staircase in an image of side w: done north and west of it, not done east and south, and with a cell every
-- cell that lies no further east and south.
pub record Stairs (w : ℕ) (done : ℕ → ℕ → Bool) : Type 0 where
  pub in_north : (column : ℕ) → done column 0 ≡ true
  pub in_west : (row : ℕ) → done 0 row ≡ true
  pub in_east : (column row : ℕ) → w < column → 0 < row → done column row ≡ false
  pub in_south : (column row : ℕ) → w < row → 0 < column → done column row ≡ false
  pub closed : (column row column' row' : ℕ) → column' ≤ column → row' ≤ row → done column row ≡ true → done column' row' ≡ true

-- From the point (x, y), k steps: east where the cell northeast of the point is done, else north.
unfoldable pub border_from : (ℕ → ℕ → Bool) → ℕ → ℕ → ℕ → List UnitEdge
border_from done zero x y = []
border_from done (suc k) x y = elim (done (suc x) y) [ true ↦ east_from x y ∷ border_from done k (suc x) y | false ↦ north_from x y ∷ border_from done k x (y - 1) ]

-- Round a pixel that is not done: north along its west side, then east along its north side. Its cell is (1, 1), and the cells of
-- column 0 and of row 0 are done.
round_one_pixel : border_from (λ column row. eqb (column * row) 0) 2 0 1 ≡ north_from 0 1 ∷ east_from 0 0 ∷ []
unfolding border_from
round_one_pixel = refl

walk_east : (done : ℕ → ℕ → Bool) (k x y : ℕ) → done (suc x) y ≡ true → border_from done (suc k) x y ≡ east_from x y ∷ border_from done k (suc x) y
unfolding border_from
walk_east done k x y h = rw (h, border_from)

walk-north : (done : ℕ → ℕ → Bool) (k x y : ℕ) → done (suc x) y ≡ false → border_from done (suc k) x y ≡ north_from x y ∷ border_from done k x (y - 1)
unfolding border_from
walk-north done k x y h = rw (h, border_from)

pub not_both : {t : Bool} → t ≡ true → t ≡ false → ⊥
not_both p q = true≢false (sym p ∙ q)

sided : (a b : Bool) → a ≢ b → (b ≡ true → a ≡ true) → (a ≡ true) × (b ≡ false)
sided true true h c = absurd (h refl)
sided true false h c = (refl, refl)
sided false true h c = absurd (false≢true (c refl))
sided false false h c = absurd (h refl)

unequal : {a b : Bool} → a ≡ true → b ≡ false → a ≢ b
unequal p q e = not_both p (e ∙ q)

-- The sides of an image by their tails: eastward ones in every column, northward ones in every row.
pub east_side : (w x y : ℕ) → SideOf w (east_from x y) → (x < w) × (y ≤ w)
unfolding left_cell right_cell
east_side w x y (inl i) = omega arith
east_side w x y (inr i) = omega arith

pub side_east : (w x y : ℕ) → x < w → y ≤ w → SideOf w (east_from x y)
unfolding left_cell right_cell
side_east w x zero a b = inr (record { from_west = omega arith; to_east = a; from_north = omega arith; to_south = omega arith })
side_east w x (suc y) a b = inl (record { from_west = omega arith; to_east = a; from_north = omega arith; to_south = b })

pub north_side_lem : (w x y : ℕ) → SideOf w (north_from x y) → (x ≤ w) × (0 < y) × (y ≤ w)
unfolding left_cell right_cell
north_side_lem w x y (inl i) = omega arith
north_side_lem w x y (inr i) = omega arith

pub side_north : (w x y : ℕ) → x ≤ w → 0 < y → y ≤ w → SideOf w (north_from x y)
unfolding left_cell right_cell
side_north w zero y a p b = inr (record { from_west = omega arith; to_east = omega arith; from_north = p; to_south = b })
side_north w (suc x) y a p b = inl (record { from_west = omega arith; to_east = a; from_north = p; to_south = b })

pub border_east : (w : ℕ) (done : ℕ → ℕ → Bool) (x y : ℕ) → x < w → y ≤ w → done (suc x) y ≡ true → done (suc x) (suc y) ≡ false → Border w done (east_from x y)
unfolding left_cell right_cell
border_east w done x y a b l r = record { side = side_east w x y a b; differ = unequal l r }

pub border-north : (w : ℕ) (done : ℕ → ℕ → Bool) (x y : ℕ) → x ≤ w → 0 < y → y ≤ w → done x y ≡ true → done (suc x) y ≡ false → Border w done (north_from x y)
unfolding left_cell right_cell
border-north w done x y a p b l r = record { side = side_north w x y a p b; differ = unequal l r }

-- The point (x, y) where k steps are left: done in the northwest, not done in the southeast.
pub record At (w : ℕ) (done : ℕ → ℕ → Bool) (k x y : ℕ) : Type 0 where
  pub inside : x ≤ w
  pub above : y ≤ w
  pub northwest : done x y ≡ true
  pub southeast : done (suc x) (suc y) ≡ false
  pub left : k + x ≡ w + y

-- Of the edges `path` from (x, y) on: they are k, lead to the northeast corner, lie ahead, belong to the border, are all of the
-- border that lies ahead, and none stands twice.
record Rest (w : ℕ) (done : ℕ → ℕ → Bool) (k x y : ℕ) (path : List UnitEdge) : Type 0 where
  long : length path ≡ k
  joined : Leads x y path w 0
  ahead : (e : UnitEdge) → Memᴰ e path → (x ≤ e.x) × (e.y ≤ y)
  sound : (e : UnitEdge) → Memᴰ e path → Border w done e
  every_east : (x' y' : ℕ) → Border w done (east_from x' y') → x ≤ x' → Memᴰ (east_from x' y') path
  every_north : (x' y' : ℕ) → Border w done (north_from x' y') → y' ≤ y → Memᴰ (north_from x' y') path
  once : Nodup path

new_edge : (e : UnitEdge) (es : List UnitEdge) → (Memᴰ e es → ⊥) → Nodup es → Nodup (e ∷ es)
new_edge e es fresh rest = Nodup-cons.1 (λ m. ∥∥₁_elim m ⊥_prop fresh, rest)

module _ (w : ℕ) (done : ℕ → ℕ → Bool) (s : Stairs w done) where
  beyond : (column row column' row' : ℕ) → column ≤ column' → row ≤ row' → done column row ≡ false → done column' row' ≡ false
  beyond column row column' row' a b h = pick (done column' row') refl
    where
      pick : (t : Bool) → done column' row' ≡ t → done column' row' ≡ false
      pick true e = absurd (not_both (s.closed column' row' column row a b e) h)
      pick false e = e

  -- An edge of the border has done on its left and not done on its right.
  pub east_apart : (x y : ℕ) → Border w done (east_from x y) → (done (suc x) y ≡ true) × (done (suc x) (suc y) ≡ false)
  unfolding left_cell right_cell
  east_apart x y b = sided (done (suc x) y) (done (suc x) (suc y)) b.differ (s.closed (suc x) (suc y) (suc x) y (omega arith) (omega arith))

  pub north_apart : (x y : ℕ) → Border w done (north_from x y) → (done x y ≡ true) × (done (suc x) y ≡ false)
  unfolding left_cell right_cell
  north_apart x y b = sided (done x y) (done (suc x) y) b.differ (s.closed (suc x) y x y (omega arith) (omega arith))

  -- In a column there is one place between done and not done, and so in a row.
  pub one_place_in_column : (column y y' : ℕ) → done column y ≡ true → done column (suc y) ≡ false → done column y' ≡ true → done column (suc y') ≡ false → y ≡ y'
  one_place_in_column column y y' a b a' b' =
      let h : ¬ (y < y') = λ l. not_both (s.closed column y' column (suc y) (omega arith) l a') b in
      let g : ¬ (y' < y) = λ l. not_both (s.closed column y column (suc y') (omega arith) l a) b' in
      omega arith

  pub one_place_in_row : (row x x' : ℕ) → done x row ≡ true → done (suc x) row ≡ false → done x' row ≡ true → done (suc x') row ≡ false → x ≡ x'
  one_place_in_row row x x' a b a' b' =
      let h : ¬ (x < x') = λ l. not_both (s.closed x' row (suc x) row l (omega arith) a') b in
      let g : ¬ (x' < x) = λ l. not_both (s.closed x row (suc x') row l (omega arith) a) b' in
      omega arith

  rest_end : (x y : ℕ) → At w done 0 x y → Rest w done 0 x y []
  unfolding Leads
  rest_end x y a =
      record {
        long = refl;
        joined = omega arith;
        ahead = λ e m. absurd (Memᴰ.not-nil m);
        sound = λ e m. absurd (Memᴰ.not-nil m);
        every_east = λ x' y' b l. absurd (omega (arith, east_side w x' y' b.side));
        every_north = λ x' y' b l. absurd (omega (arith, north_side_lem w x' y' b.side));
        once = Nodup-nil;
      }

  -- A step east, and what it leaves.
  east_room : (k x y : ℕ) → At w done (suc k) x y → done (suc x) y ≡ true → x < w
  east_room k x y a h = pick (eq-or-lt_of_le a.inside)
    where
      pick : (x ≡ w) ⊎ (x < w) → x < w
      pick (inl e) = absurd (not_both h (s.in_east (suc x) y (omega arith) (omega arith)))
      pick (inr l) = l

  at_east : (k x y : ℕ) → At w done (suc k) x y → done (suc x) y ≡ true → At w done k (suc x) y
  at_east k x y a h =
      record {
        inside = east_room k x y a h;
        above = a.above;
        northwest = h;
        southeast = beyond (suc x) (suc y) (suc (suc x)) (suc y) (omega arith) (omega arith) a.southeast;
        left = omega arith;
      }

  rest_east : (k x y : ℕ) (path : List UnitEdge) → At w done (suc k) x y → done (suc x) y ≡ true → Rest w done k (suc x) y path → Rest w done (suc k) x y (east_from x y ∷ path)
  unfolding Leads end_x end_y
  rest_east k x y path a h r =
      record {
        long = ap suc r.long;
        joined = (refl, refl, r.joined);
        ahead = λ e m. ⊎_elim (λ q. here e q) (λ m'. omega (arith, r.ahead e m')) (Memᴰ.cases_cons m);
        sound = λ e m. ⊎_elim (λ q. subst (Border w done) (sym q) mine) (λ m'. r.sound e m') (Memᴰ.cases_cons m);
        every_east = λ x' y' b l. first x' y' b (eq-or-lt_of_le l);
        every_north = λ x' y' b l. Memᴰ.tail (r.every_north x' y' b l);
        once = new_edge (east_from x y) path (λ m. omega (arith, r.ahead (east_from x y) m)) r.once;
      }
    where
      here : (e : UnitEdge) → e ≡ east_from x y → (x ≤ e.x) × (e.y ≤ y)
      here e q = omega (arith, ap (λ (g : UnitEdge). g.x) q, ap (λ (g : UnitEdge). g.y) q)

      mine : Border w done (east_from x y)
      mine = border_east w done x y (east_room k x y a h) a.above h a.southeast

      first : (x' y' : ℕ) → Border w done (east_from x' y') → (x ≡ x') ⊎ (x < x') → Memᴰ (east_from x' y') (east_from x y ∷ path)
      first x' y' b (inl e) =
          let apart = east_apart x' y' b in
          let at : (done (suc x) y' ≡ true) × (done (suc x) (suc y') ≡ false) = rw e apart in
          Memᴰ.head (ap₂ east_from (sym e) (one_place_in_column (suc x) y' y at.0 at.1 h a.southeast))
      first x' y' b (inr l) = Memᴰ.tail (r.every_east x' y' b l)

  -- A step north, and what it leaves.
  north_room : (k x y : ℕ) → done (suc x) y ≡ false → 0 < y
  north_room k x zero h = absurd (not_both (s.in_north (suc x)) h)
  north_room k x (suc y) h = omega arith

  at_north : (k x y : ℕ) → At w done (suc k) x y → done (suc x) y ≡ false → At w done k x (y - 1)
  at_north k x y a h =
      let p : 0 < y = north_room k x y h in
      let e : suc (y - 1) ≡ y = omega arith in
      record {
        inside = a.inside;
        above = omega arith;
        northwest = s.closed x y x (y - 1) (omega arith) (omega arith) a.northwest;
        southeast = rw e h;
        left = omega arith;
      }

  rest-north : (k x y : ℕ) (path : List UnitEdge) → At w done (suc k) x y → done (suc x) y ≡ false → Rest w done k x (y - 1) path → Rest w done (suc k) x y (north_from x y ∷ path)
  unfolding Leads end_x end_y
  rest-north k x y path a h r =
      record {
        long = ap suc r.long;
        joined = (refl, refl, r.joined);
        ahead = λ e m. ⊎_elim (λ q. here e q) (λ m'. omega (arith, r.ahead e m')) (Memᴰ.cases_cons m);
        sound = λ e m. ⊎_elim (λ q. subst (Border w done) (sym q) mine) (λ m'. r.sound e m') (Memᴰ.cases_cons m);
        every_east = λ x' y' b l. Memᴰ.tail (r.every_east x' y' b l);
        every_north = λ x' y' b l. first x' y' b (eq-or-lt_of_le l);
        once = new_edge (north_from x y) path (λ m. omega (arith, positive, r.ahead (north_from x y) m)) r.once;
      }
    where
      positive : 0 < y
      positive = north_room k x y h

      here : (e : UnitEdge) → e ≡ north_from x y → (x ≤ e.x) × (e.y ≤ y)
      here e q = omega (arith, ap (λ (g : UnitEdge). g.x) q, ap (λ (g : UnitEdge). g.y) q)

      mine : Border w done (north_from x y)
      mine = border-north w done x y a.inside positive a.above a.northwest h

      first : (x' y' : ℕ) → Border w done (north_from x' y') → (y' ≡ y) ⊎ (y' < y) → Memᴰ (north_from x' y') (north_from x y ∷ path)
      first x' y' b (inl e) =
          let apart = north_apart x' y' b in
          let at : (done x' y ≡ true) × (done (suc x') y ≡ false) = rw (← e) apart in
          Memᴰ.head (ap₂ north_from (one_place_in_row y x' x at.0 at.1 a.northwest h) e)
      first x' y' b (inr l) = Memᴰ.tail (r.every_north x' y' b (omega arith))

  -- The walk from any point with the invariant.
  rest_of_walk : (k x y : ℕ) → At w done k x y → Rest w done k x y (border_from done k x y)
  unfolding border_from
  rest_of_walk zero x y a = rest_end x y a
  rest_of_walk (suc k) x y a = pick (rest_of_walk k (suc x) y) (rest_of_walk k x (y - 1)) (done (suc x) y) refl
    where
      pick : (At w done k (suc x) y → Rest w done k (suc x) y (border_from done k (suc x) y)) → (At w done k x (y - 1) → Rest w done k x (y - 1) (border_from done k x (y - 1)))
          → (t : Bool) → done (suc x) y ≡ t → Rest w done (suc k) x y (border_from done (suc k) x y)
      pick goes up true h = subst (Rest w done (suc k) x y) (sym (walk_east done k x y h)) (rest_east k x y (border_from done k (suc x) y) a h (goes (at_east k x y a h)))
      pick goes up false h = subst (Rest w done (suc k) x y) (sym (walk-north done k x y h)) (rest-north k x y (border_from done k x (y - 1)) a h (up (at_north k x y a h)))

  -- From the southwest corner the walk is the border of the staircase, each side once.
  pub walk_is_the_border : OnePath w (Border w done) (border_from done (2 * w) 0 w)
  walk_is_the_border =
      record {
        long = rest.long;
        joined = rest.joined;
        exactly = λ e. (rest.sound e, λ b. every e b);
        once = rest.once;
      }
    where
      start : At w done (2 * w) 0 w
      start =
          record { inside = omega arith; above = omega arith; northwest = s.in_west w; southeast = s.in_south 1 (suc w) (omega arith) (omega arith); left = omega arith }

      rest : Rest w done (2 * w) 0 w (border_from done (2 * w) 0 w)
      rest = rest_of_walk (2 * w) 0 w start

      turned : (x y : ℕ) (t : Direction) → Border w done (record { x = x; y = y; direction = t }) → Memᴰ (record { x = x; y = y; direction = t }) (border_from done (2 * w) 0 w)
      turned x y east b = rest.every_east x y b (omega arith)
      turned x y north b = rest.every_north x y b (omega (arith, north_side_lem w x y b.side))

      every : (e : UnitEdge) → Border w done e → Memᴰ e (border_from done (2 * w) 0 w)
      every e b = turned e.x e.y e.direction b
