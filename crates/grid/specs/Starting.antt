-- Where a cycle starts: every cycle has exactly one start, and its start is a corner.
use Rattle.std.specs.Prelude.{◌≡◌, ◌≢◌, ◌⊎◌, false, get_or}
use Rattle.std.proofs.Math.Path.{refl, subst}
use Rattle.std.proofs.Common.{sym, ap, ◌∙◌, inl, inr, le_antisymm, arith}
use Rattle.std.proofs.Math.Bool.{true}
use Rattle.std.proofs.lemmas.Bool.{false≢true}
use mathlib.Core.List.{List, [], ◌∷◌}
use Prim.Native.Nat.{ℕ, suc, ◌^◌, ◌≤◌, ◌<◌}
use Rattle.std.proofs.Math.Decide.{ℕ_discrete, dec_le}
use borrow.Author.Tests.{eq-eqb, ne_eqb, le-leb, lt-leb}
use Rattle.lattice.specs.Directions.{digit}
use Rattle.orbits.specs.Members.{In, in_first, in_later, in_cases, in_none}
use Rattle.orbits.specs.Orbits.{On, Returns}
use Rattle.orbits.specs.Starts.{Start, a_start}
use Rattle.grid.specs.Map.{region_at, around}
use Rattle.grid.specs.Margins.{Margin, region_margin}
use Rattle.grid.specs.Steps.{Edge, step}
use Rattle.grid.specs.Cycles.{edge_limit, cycle_from, corner_of, north_side, cycle, code_right, least_of, is_start}
use Rattle.grid.specs.Undoing.{back, step-edge, back_step}
use Rattle.grid.specs.East.{has_east, edge_bound}
use Rattle.grid.specs.Returning.{Ring, ring, edge_returns, met_back, met_then}
use Rattle.grid.specs.North.{north-digit, north-code, corner-here, north-edge, Eastward, eastward}

-- The test, in words about each edge.
module _ (n c : ℕ) where
  least_other : (e : ℕ) (es : List ℕ) → digit e ≢ 0 → least_of n c (e ∷ es) ≡ least_of n c es
  unfolding least_of
  least_other e es h = rw (ne_eqb (digit e) 0 h, least_of)

  least_east : (e : ℕ) (es : List ℕ) → digit e ≡ 0 → c ≤ code_right n e → least_of n c (e ∷ es) ≡ least_of n c es
  unfolding least_of
  least_east e es h k = rw (eq-eqb (digit e) 0 h, le-leb c (code_right n e) k, least_of)

  least_fails : (e : ℕ) (es : List ℕ) → digit e ≡ 0 → code_right n e < c → least_of n c (e ∷ es) ≡ false
  unfolding least_of
  least_fails e es h k = rw (eq-eqb (digit e) 0 h, lt-leb c (code_right n e) k, least_of)

  abbrev NoSmaller : List ℕ → Type 0
  NoSmaller es = (e : ℕ) → In e es → digit e ≡ 0 → c ≤ code_right n e

  least_says : (es : List ℕ) → least_of n c es ≡ true → NoSmaller es
  least_says [] h e i z = in_none e i
  least_says (x ∷ es) h e i z = pick (ℕ_discrete (digit x) 0) (dec_le c (code_right n x)) (in_cases e x es i) (λ g. least_says es g)
    where
      pick : Dec (digit x ≡ 0) → Dec (c ≤ code_right n x) → (e ≡ x) ⊎ In e es → (least_of n c es ≡ true → NoSmaller es) → c ≤ code_right n e
      pick (no a) b (inl s) ih = absurd (a (ap digit (sym s) ∙ z))
      pick (no a) b (inr k) ih = ih (sym (least_other x es a) ∙ h) e k z
      pick (yes a) (yes b) (inl s) ih = subst (λ y. c ≤ code_right n y) (sym s) b
      pick (yes a) (yes b) (inr k) ih = ih (sym (least_east x es a b) ∙ h) e k z
      pick (yes a) (no b) k ih = absurd (false≢true (sym (least_fails x es a (omega arith)) ∙ h))

  says_least : (es : List ℕ) → NoSmaller es → least_of n c es ≡ true
  unfolding least_of
  says_least [] f = refl
  says_least (x ∷ es) f = pick (ℕ_discrete (digit x) 0) (says_least es (λ e i z. f e (in_later e x es i) z))
    where
      pick : Dec (digit x ≡ 0) → least_of n c es ≡ true → least_of n c (x ∷ es) ≡ true
      pick (yes a) rest = least_east x es a (f x (in_first x es) a) ∙ rest
      pick (no a) rest = least_other x es a ∙ rest

-- A cycle starts at the pixel with the code c: its north side is an edge, and no eastward edge of the cycle through it has a
-- right-hand pixel with a smaller code.
pub record StartAt (n : ℕ) (nums : List ℕ) (c : ℕ) : Type 0 where
  pub inside : c < 4 ^ n
  pub north : Edge (region_at n nums) (suc (get_or nums c 0)) (north_side n c)
  pub least : (e : ℕ) → In e (cycle n nums c) → digit e ≡ 0 → c ≤ code_right n e

module _ (n : ℕ) (nums : List ℕ) (small : n ≤ 8) where
  abbrev m : ℕ → ℕ → ℕ
  m = region_at n nums

  pub margin : Margin m
  margin = region_margin n nums small

  no_start : (c : ℕ) → around m (corner_of n c) 1 ≡ around m (corner_of n c) 0 → is_start n nums c ≡ false
  unfolding is_start
  no_start c h = rw (eq-eqb (around m (corner_of n c) 1) (around m (corner_of n c) 0) h, is_start)

  a_north : (c : ℕ) → around m (corner_of n c) 1 ≢ around m (corner_of n c) 0 → is_start n nums c ≡ least_of n c (cycle n nums c)
  unfolding is_start
  a_north c h = rw (ne_eqb (around m (corner_of n c) 1) (around m (corner_of n c) 0) h, is_start)

  -- The test holds exactly there.
  pub start_says : (c : ℕ) → c < 4 ^ n → is_start n nums c ≡ true → StartAt n nums c
  start_says c h t = pick (ℕ_discrete (around m (corner_of n c) 1) (around m (corner_of n c) 0))
    where
      pick : Dec (around m (corner_of n c) 1 ≡ around m (corner_of n c) 0) → StartAt n nums c
      pick (yes e) = absurd (false≢true (sym (no_start c e) ∙ t))
      pick (no e) = record {
        inside = h;
        north = (north-edge n nums small c h).1 (λ k. e (k ∙ sym (corner-here n nums small c h)));
        least = least_says n c (cycle n nums c) (sym (a_north c e) ∙ t);
      }

  pub says_start : (c : ℕ) → StartAt n nums c → is_start n nums c ≡ true
  says_start c s =
      a_north c (λ k. (north-edge n nums small c s.inside).0 s.north (k ∙ corner-here n nums small c s.inside))
      ∙ says_least n c (cycle n nums c) s.least

  -- Every edge lies on a cycle that starts somewhere.
  pub record Started (r e : ℕ) : Type 0 where
    pub start : ℕ
    pub starts : StartAt n nums start
    pub number : suc (get_or nums start 0) ≡ r
    pub on_cycle : In e (cycle n nums start)

  key_injective : (r a b : ℕ) → Edge m r a → Edge m r b → digit a ≡ 0 → digit b ≡ 0 → code_right n a ≡ code_right n b → a ≡ b
  key_injective r a b h k x y e = (eastward n nums small r a h x).north ∙ ap (north_side n) e ∙ sym (eastward n nums small r b k y).north

  pub some_start : (r e : ℕ) → Edge m r e → Started r e
  unfolding cycle
  some_start r e h = from (edge_returns m margin r e h)
    where
      made : (s : ℕ) → On (step m) e s → Start (step m) (λ a. digit a ≡ 0) (code_right n) s → Started r e
      made s o t =
          let g : Edge m r s = (ring m margin r e h).edges s (((ring m margin r e h).holds s).0 o) in
          let w : Eastward n nums small r s = eastward n nums small r s g t.marked in
          let q : Ring m r s = ring m margin r s g in
          record {
            start = code_right n s;
            starts = record {
              inside = w.below;
              north = subst (λ x. Edge m x (north_side n (code_right n s))) (sym w.number) (subst (Edge m r) w.north g);
              least = λ a i z. t.least a ((q.holds a).1 (subst (λ x. In a (cycle_from m x)) (sym w.north) i)) z;
            };
            number = w.number;
            on_cycle = subst (λ x. In e (cycle_from m x)) w.north ((q.holds e).0 (met_back m margin r e s h o));
          }

      from : (k : ℕ) × (k ≤ edge_limit) × Returns (step m) e k → Started r e
      from (k, l, t) =
          let s = a_start (step m) (back m) (Edge m r) edge_limit
          (λ x g. edge_bound m margin r x g) (λ x g. step-edge m margin r x g) (λ x g. back_step m margin r x g)
          (λ a. digit a ≡ 0) (λ a. ℕ_discrete (digit a) 0) (code_right n) (λ a b x y p q i. key_injective r a b x y p q i)
          (λ x j g t. has_east m margin r x g j t) e k h t in
          made s.0 s.1 s.2

  -- Only one start lies on a cycle.
  not_above : (c d e : ℕ) → StartAt n nums c → StartAt n nums d → In e (cycle n nums c) → In e (cycle n nums d) → c ≤ d
  unfolding cycle
  not_above c d e s t i j =
      let r : ℕ = suc (get_or nums c 0) in
      let p : Ring m r (north_side n c) = ring m margin r (north_side n c) s.north in
      let q : Ring m (suc (get_or nums d 0)) (north_side n d) = ring m margin (suc (get_or nums d 0)) (north_side n d) t.north in
      let o : On (step m) (north_side n d) e = (q.holds e).1 j in
      let b : On (step m) e (north_side n d) = met_back m margin (suc (get_or nums d 0)) (north_side n d) e t.north o in
      let a : On (step m) (north_side n c) (north_side n d) = met_then m margin r (north_side n c) e (north_side n d) ((p.holds e).1 i) b in
      subst (λ x. c ≤ x) (north-code n d small t.inside) (s.least (north_side n d) ((p.holds (north_side n d)).0 a) (north-digit n d))

  pub one_start : (c d e : ℕ) → StartAt n nums c → StartAt n nums d → In e (cycle n nums c) → In e (cycle n nums d) → c ≡ d
  one_start c d e s t i j = le_antisymm (not_above c d e s t i j) (not_above d c e t s j i)
