-- The last pass over the map: every pixel whose north side is an edge bears a mark.
use Rattle.std.specs.Prelude.{◌≡◌, ◌≢◌, ◌⊎◌, Bool, true, false, not, List, ℕ, ◌+◌, ◌-◌, ◌*◌, ◌/◌, ◌%◌, ◌^◌, ◌≤◌, ◌<◌, eqb, length}
use Rattle.std.proofs.Common.{sym, ap, ◌∙◌, subst, inl, inr, arith, div-add-mod', eqb-true, eq-eqb}
use Rattle.std.proofs.Math.Decide.{ℕ_discrete, dec_le}
use Rattle.std.proofs.Math.ListN.{get_or}
use Rattle.interleaving.specs.Codes.{code}
use Rattle.interleaving.specs.Interleaving.{code_below}
use Rattle.location.specs.Levels.{side_of, side_is_power, pixels_of, pixels_are_power}
use Rattle.quadtree.specs.Raster.{place}
use Rattle.quadtree.specs.Orders.{column_in, row_in, place_in, code_of_place}
use Rattle.steps.specs.Look.{mark_bit}
use Rattle.cycles.specs.Mapped.{nums_of, Mapped, Marked}
use Rattle.starts.specs.Unmarked.{PixelOf, NorthEdge, Tells, tells_marked, tells_first_row, tells_same, tells_edge, row_above}
use Rattle.sequences.specs.Says.{Says, says_yes, says_no, denied, granted}

-- Each north side that is an edge bears a mark.
abbrev pub EachMarked : ℕ → List ℕ → Type 0
EachMarked n map = (c : ℕ) → c < 4 ^ n → NorthEdge n (nums_of n map) c → Marked n map c

-- What is asked at the place i of the map: the pixel bears a mark, or the pixel to the north has the same number.
abbrev pub Passes : ℕ → List ℕ → ℕ → Type 0
Passes side map i = (mark_bit ≤ get_or map i 0) ⊎ ((side ≤ i) × (get_or map (i - side) 0 % mark_bit ≡ get_or map i 0))

-- ---- the test, case by case

module _ (side i : ℕ) (map : List ℕ) where
  pub marked_there : mark_bit ≤ get_or map i 0 → Says true (Passes side map i)
  marked_there h = says_yes (inl h)

  module _ (plain : get_or map i 0 < mark_bit) where
    pub in_first_row : i < side → Says false (Passes side map i)
    in_first_row h = says_no (λ p. pick p)
      where
        pick : Passes side map i → ⊥
        pick (inl m) = omega arith
        pick (inr s) = omega (arith, s.0)

    pub by_north : side ≤ i → Says (eqb (get_or map (i - side) 0 % mark_bit) (get_or map i 0)) (Passes side map i)
    by_north h = (λ e. inr (h, eqb-true (get_or map (i - side) 0 % mark_bit) (get_or map i 0) e), λ p. pick p)
      where
        pick : Passes side map i → eqb (get_or map (i - side) 0 % mark_bit) (get_or map i 0) ≡ true
        pick (inl m) = absurd (omega arith)
        pick (inr s) = eq-eqb (get_or map (i - side) 0 % mark_bit) (get_or map i 0) s.1

-- ---- the pixel (x, y) at the place i

module _ {n : ℕ} {map : List ℕ} (small : n ≤ 8) (mapped : Mapped n map) (i : ℕ) (inside : i < 4 ^ n) where
  pixel : PixelOf n map (i % 2 ^ n) (i / 2 ^ n)
  pixel = record { small = small; mapped = mapped; x_inside = column_in n i; y_inside = row_in n i inside }

  at : i / 2 ^ n * 2 ^ n + i % 2 ^ n ≡ i
  at = div-add-mod' i (2 ^ n)

  entry : get_or map (i / 2 ^ n * 2 ^ n + i % 2 ^ n) 0 ≡ get_or map i 0
  entry = ap (λ (j : ℕ). get_or map j 0) at

  north-entry : get_or map (i / 2 ^ n * 2 ^ n + i % 2 ^ n - 2 ^ n) 0 % mark_bit ≡ get_or map (i - 2 ^ n) 0 % mark_bit
  north-entry = ap (λ (j : ℕ). get_or map (j - 2 ^ n) 0 % mark_bit) at

  below-first-row : 2 ^ n ≤ i → i / 2 ^ n ≢ 0
  below-first-row h z = omega (arith, column_in n i, at, ap (λ (j : ℕ). j * 2 ^ n) z)

  -- Where it passes it is no pixel whose north side is an edge without a mark,
  passes_tells : Passes (2 ^ n) map i → Tells n map (code n (i % 2 ^ n) (i / 2 ^ n)) 0
  passes_tells (inl h) = tells_marked pixel (omega (arith, entry))
  passes_tells (inr h) = pick (dec_le mark_bit (get_or map i 0))
    where
      pick : Dec (mark_bit ≤ get_or map i 0) → Tells n map (code n (i % 2 ^ n) (i / 2 ^ n)) 0
      pick (yes m) = tells_marked pixel (omega (arith, entry))
      pick (no m) = tells_same pixel (below-first-row h.0) (omega (arith, entry)) (north-entry ∙ h.1 ∙ sym entry)

  passes_marked : Passes (2 ^ n) map i → NorthEdge n (nums_of n map) (code n (i % 2 ^ n) (i / 2 ^ n)) → Marked n map (code n (i % 2 ^ n) (i / 2 ^ n))
  unfolding Marked
  passes_marked p e = from (passes_tells p) (dec_le mark_bit (get_or map (place n (code n (i % 2 ^ n) (i / 2 ^ n))) 0))
    where
      from : Tells n map (code n (i % 2 ^ n) (i / 2 ^ n)) 0 → Dec (mark_bit ≤ get_or map (place n (code n (i % 2 ^ n) (i / 2 ^ n))) 0)
          → mark_bit ≤ get_or map (place n (code n (i % 2 ^ n) (i / 2 ^ n))) 0
      from t (yes m) = m
      from (inl u) (no m) = absurd (omega (arith, u.region))
      from (inr f) (no m) = absurd (f.1 e m)

  -- and where it does not, it is one.
  fails_tells : (Passes (2 ^ n) map i → ⊥) → Tells n map (code n (i % 2 ^ n) (i / 2 ^ n)) (get_or map (i / 2 ^ n * 2 ^ n + i % 2 ^ n) 0)
  fails_tells f = pick (dec_le mark_bit (get_or map i 0)) (ℕ_discrete (i / 2 ^ n) 0) (ℕ_discrete (get_or map (i - 2 ^ n) 0 % mark_bit) (get_or map i 0))
    where
      pick : Dec (mark_bit ≤ get_or map i 0) → Dec (i / 2 ^ n ≡ 0) → Dec (get_or map (i - 2 ^ n) 0 % mark_bit ≡ get_or map i 0)
          → Tells n map (code n (i % 2 ^ n) (i / 2 ^ n)) (get_or map (i / 2 ^ n * 2 ^ n + i % 2 ^ n) 0)
      pick (yes m) z e = absurd (f (inl m))
      pick (no m) (yes z) e = tells_first_row pixel (omega (arith, entry)) z
      pick (no m) (no z) (yes e) = absurd (f (inr (omega (arith, row_above pixel z, at), e)))
      pick (no m) (no z) (no e) = tells_edge pixel z (omega (arith, entry)) (λ q. e (sym north-entry ∙ q ∙ entry))

  fails_unmarked : (Passes (2 ^ n) map i → ⊥) → EachMarked n map → ⊥
  fails_unmarked f all = from (fails_tells f)
    where
      from : Tells n map (code n (i % 2 ^ n) (i / 2 ^ n)) (get_or map (i / 2 ^ n * 2 ^ n + i % 2 ^ n) 0) → ⊥
      from (inl u) = u.no_mark (all (code n (i % 2 ^ n) (i / 2 ^ n)) (code_below n (i % 2 ^ n) (i / 2 ^ n)) u.north)
      from (inr g) = omega (arith, g.0, entry, mapped.numbered i inside)

all_pass : {n : ℕ} {map : List ℕ} → n ≤ 8 → Mapped n map → ((i : ℕ) → i < 4 ^ n → Passes (2 ^ n) map i) → EachMarked n map
all_pass {n} {map} small mapped all c h e =
    let same : code n (place n c % 2 ^ n) (place n c / 2 ^ n) ≡ c = code_of_place n c h in
    subst (Marked n map) same
    (passes_marked small mapped (place n c) (place_in n c) (all (place n c) (place_in n c)) (subst (NorthEdge n (nums_of n map)) (sym same) e))

-- ---- the loop

-- The first i places pass.
pub record Passing (n : ℕ) (map : List ℕ) (i : ℕ) : Type 0 where
  pub small : n ≤ 8
  pub mapped : Mapped n map
  pub place : i ≤ 4 ^ n
  pub passed : (j : ℕ) → j < i → Passes (2 ^ n) map j

pub begin : {n : ℕ} {map : List ℕ} → n ≤ 8 → Mapped n map → Passing n map 0
begin small mapped = record { small = small; mapped = mapped; place = omega arith; passed = λ j h. absurd (omega arith) }

module _ {n i : ℕ} {map : List ℕ} (p : Passing n map i) {count : ℕ} (whole : count ≡ pixels_of n) where
  count_is : count ≡ 4 ^ n
  count_is = whole ∙ pixels_are_power n (omega (arith, p.small))

  pub place_inside : i < count → i < length map
  place_inside h = omega (arith, count_is, p.mapped.long)

  pub finish : count ≤ i → Says true (EachMarked n map)
  finish h = says_yes (all_pass p.small p.mapped (λ j b. p.passed j (omega (arith, count_is))))

  module _ {side : ℕ} (wide : side ≡ side_of n) (h : i < count) where
    side_is : side ≡ 2 ^ n
    side_is = wide ∙ side_is_power n (omega (arith, p.small))

    pub unmarked_found : {ok : Bool} → Says ok (Passes side map i) → not ok ≡ true → Says false (EachMarked n map)
    unmarked_found says e =
        says_no (fails_unmarked p.small p.mapped i (omega (arith, count_is)) (λ q. denied says e (subst (λ (s : ℕ). Passes s map i) (sym side_is) q)))

    pub again : {ok : Bool} → Says ok (Passes side map i) → not ok ≡ false → Passing n map (i + 1)
    again says e = record { small = p.small; mapped = p.mapped; place = omega (arith, count_is); passed = λ j b. pick j b (ℕ_discrete j i) }
      where
        pick : (j : ℕ) → j < i + 1 → Dec (j ≡ i) → Passes (2 ^ n) map j
        pick j b (yes q) = subst (Passes (2 ^ n) map) (sym q) (subst (λ (s : ℕ). Passes s map i) side_is (granted says e))
        pick j b (no q) = p.passed j (omega arith)
