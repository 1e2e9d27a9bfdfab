-- One outline stored leg by leg: what holds before each leg, and what the last leg, back to the first corner, leads to.
use Rattle.std.specs.Prelude.{◌≡◌, refl, Bool, true, false, ℕ, suc, ◌+◌, ◌-◌, ◌≤◌, ◌<◌, length, get_or, take, drop}
use Rattle.std.proofs.Common.{sym, ap, ◌∙◌, arith, drop_of_length-le, drop-cons, length-take, get_or-take, get_or-drop}
use Rattle.std.proofs.Math.Path.{subst}
use Rattle.std.proofs.lemmas.Bool.{false≢true}
use mathlib.Core.List.{List, [], ◌∷◌, ◌++◌}
use Rattle.lattice.specs.Walks.{straight, walk_from, outline}
use Rattle.orbits.specs.Members.{in_none}
use Rattle.west_sides.specs.Northward.{stores, norths, Fits, AllStored, Stored, stores-append, norths-append, fits_both, fits_first, fits_second, all_stored}

-- The edges `rest` are left to store in w with `units` left: that is as good as all edges in w₀ with all units.
pub record Remaining (side r units₀ : ℕ) (all w₀ rest w : List ℕ) (units : ℕ) : Type 0 where
  pub long : length w ≡ length w₀
  pub stored : stores side r rest w ≡ stores side r all w₀
  pub units_left : units - norths rest ≡ units₀ - norths all
  pub enough : Fits side units rest → Fits side units₀ all
  pub needed : Fits side units₀ all → Fits side units rest

all_left : (side r units : ℕ) (all w : List ℕ) → Remaining side r units all w all w units
all_left side r units all w = record { long = refl; stored = refl; units_left = refl; enough = λ f. f; needed = λ f. f }

module _ {side r units₀ units : ℕ} {all w₀ w : List ℕ} where
  -- One stretch of them more is stored.
  fewer_left : {xs ys w' : List ℕ} {left : ℕ} → Remaining side r units₀ all w₀ (xs ++ ys) w units → length w' ≡ length w
      → AllStored side r units xs w w' left → Remaining side r units₀ all w₀ ys w' left
  fewer_left {xs} {ys} {w'} {left} g long a = record {
    long = long ∙ g.long;
    stored = ap (stores side r ys) a.stored ∙ sym (stores-append side r xs ys w) ∙ g.stored;
    units_left = omega (arith, a.units_left, norths-append xs ys, g.units_left);
    enough = λ f. g.enough (fits_both side units xs ys a.fits (subst (λ (u : ℕ). Fits side u ys) a.units_left f));
    needed = λ f. subst (λ (u : ℕ). Fits side u ys) (sym a.units_left) (fits_second side units xs ys (g.needed f));
  }

  -- The last stretch.
  last_stored : {xs w' : List ℕ} {ok : Bool} {left : ℕ} → Remaining side r units₀ all w₀ xs w units → Stored side r units xs w w' ok left
      → Stored side r units₀ all w₀ w' ok left
  last_stored {xs} {w'} {ok} {left} g s = record {
    long = s.long ∙ g.long;
    done = λ z. let a = s.done z in
        record { fits = g.enough a.fits; stored = a.stored ∙ g.stored; units_left = a.units_left ∙ g.units_left };
    none = λ z f. s.none z (g.needed f);
  }

-- ---- the loop over the legs

-- Before the leg from the corner p to the corner i of the outline.
pub record NextLeg (side r units₀ : ℕ) (points w₀ w : List ℕ) (p units i : ℕ) : Type 0 where
  pub left : Remaining side r units₀ (outline points) w₀ (walk_from p (drop i points) (get_or points 0 0)) w units

-- An outline without corners has no edge.
pub no_corners : (side r units : ℕ) (points w : List ℕ) → length points ≡ 0 → Stored side r units (outline points) w w true units
unfolding outline stores norths
no_corners side r units [] w h =
    all_stored refl (record { fits = record { inside = λ e i z. in_none e i; few = omega arith }; stored = refl; units_left = omega arith })
no_corners side r units (p ∷ ps) w h = absurd (omega arith)

pub first_leg : (side r units : ℕ) (points w : List ℕ) → 0 < length points → NextLeg side r units points w w (get_or points 0 0) units 1
unfolding outline
first_leg side r units [] w h = absurd (omega arith)
first_leg side r units (p ∷ ps) w h = record { left = all_left side r units (outline (p ∷ ps)) w }

module _ {side r units₀ p units i : ℕ} {points w₀ w : List ℕ} (g : NextLeg side r units₀ points w₀ w p units i) where
  legs_left : i < length points
      → Remaining side r units₀ (outline points) w₀ (straight p (get_or points i 0) ++ walk_from (get_or points i 0) (drop (suc i) points) (get_or points 0 0)) w units
  unfolding walk_from
  legs_left h =
      subst (λ (ps : List ℕ). Remaining side r units₀ (outline points) w₀ (walk_from p ps (get_or points 0 0)) w units) (drop-cons points i 0 h) g.left

  pub one_leg_more : {q left : ℕ} {w' : List ℕ} → i < length points → q ≡ get_or points i 0 → Stored side r units (straight p q) w w' true left
      → NextLeg side r units₀ points w₀ w' q left (i + 1)
  one_leg_more {q} {left} {w'} h is s =
      let e : suc i ≡ i + 1 = omega arith in
      subst (λ (t : ℕ). NextLeg side r units₀ points w₀ w' t left (i + 1)) (sym is)
      (record {
        left = subst (λ (j : ℕ). Remaining side r units₀ (outline points) w₀ (walk_from (get_or points i 0) (drop j points) (get_or points 0 0)) w' left) e
            (fewer_left (legs_left h) s.long (subst (λ (t : ℕ). AllStored side r units (straight p t) w w' left) is (s.done refl)));
      })

  pub leg_not_stored : {q left : ℕ} {w' : List ℕ} → i < length points → q ≡ get_or points i 0 → Stored side r units (straight p q) w w' false left
      → Stored side r units₀ (outline points) w₀ w' false left
  leg_not_stored {q} h is s = record {
    long = s.long ∙ g.left.long;
    done = λ t. absurd (false≢true t);
    none = λ _ f.
        let o : ℕ = get_or points i 0 in
        s.none refl (subst (λ (t : ℕ). Fits side units (straight p t)) (sym is)
        (fits_first side units (straight p o) (walk_from o (drop (suc i) points) (get_or points 0 0)) ((legs_left h).needed f)));
  }

  pub closing_leg : {w' : List ℕ} {ok : Bool} {left : ℕ} → length points ≤ i → Stored side r units (straight p (get_or points 0 0)) w w' ok left
      → Stored side r units₀ (outline points) w₀ w' ok left
  unfolding walk_from
  closing_leg h s =
      last_stored
      (subst (λ (ps : List ℕ). Remaining side r units₀ (outline points) w₀ (walk_from p ps (get_or points 0 0)) w units) (drop_of_length-le points h) g.left) s

-- The corners after the first, as they are walked.
pub later_corner : (points : List ℕ) (k : ℕ) → k < length (take (length points - 1) (drop 1 points))
    → (k + 1 < length points) × (get_or (take (length points - 1) (drop 1 points)) k 0 ≡ get_or points (k + 1) 0)
later_corner points k h =
    let inside : k < length points - 1 = omega (arith, length-take (length points - 1) (drop 1 points)) in
    let e : 1 + k ≡ k + 1 = omega arith in
    (omega arith, get_or-take (length points - 1) (drop 1 points) k 0 inside ∙ get_or-drop 1 points k 0 ∙ ap (λ (j : ℕ). get_or points j 0) e)
