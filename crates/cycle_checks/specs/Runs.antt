-- The edges of a straight run on the way round a cycle: no corner lies between them, and along an eastward run the codes of the pixels on their
-- right grow.
use Rattle.std.specs.Prelude.{◌≡◌, refl, ◌≢◌, ◌⊎◌, List, [], ◌∷◌, ◌++◌, ℕ, suc, ◌≤◌, ◌<◌}
use Rattle.std.proofs.Common.{sym, ◌∙◌, inl, inr, le_refl, le_trans, le_of_lt, arith}
use Rattle.std.proofs.Math.Path.{ap, subst}
use Rattle.interleaving.specs.Codes.{code}
use Rattle.interleaving.specs.Interleaving.{code_grows_in_x}
use Rattle.lattice.specs.Directions.{x_of, y_of, move, tail, digit, head}
use Rattle.lattice.specs.Walks.{turns}
use Rattle.lattice.specs.Corners.{turns_on}
use Rattle.orbits.specs.Members.{In, in_cases, in_single}
use Rattle.grid.specs.Map.{around}
use Rattle.grid.specs.Margins.{Margin}
use Rattle.grid.specs.Steps.{Edge, step}
use Rattle.grid.specs.Cycles.{code_right}
use Rattle.grid.specs.Undoing.{fits, step-tail, step-edge}
use Rattle.steps.specs.Look.{map_at, at_margin}
use Rattle.cycles.specs.Marks.{mark}
use Rattle.cycles.specs.Rounds.{FirstEdge, rest, Before, After, past, rest-first, onward}
use Rattle.cycles.specs.Straight.{Straight, turning, straight_on, not_first}

one_east : (p q : ℕ) → q ≡ move 0 p → x_of p < 256 → (x_of p < x_of q) × (y_of p ≡ y_of q)
unfolding move x_of y_of
one_east p q e h = (omega arith, omega arith)

module _ (m : ℕ → ℕ → ℕ) (margin : Margin m) (r : ℕ) where
  -- The pixel on the right of an eastward edge lies in the image.
  pub east_inside : (e : ℕ) → Edge m r e → digit e ≡ 0 → (x_of (tail e) < 256) × (y_of (tail e) < 256)
  unfolding around
  east_inside e h z =
      let f = fits m margin r (suc (x_of (tail e))) (suc (y_of (tail e))) h.a_region (subst (λ d. around m (tail e) d ≡ r) z h.side.on_right) in
      (omega (arith, f.1), omega (arith, f.3))

  -- Two eastward edges one after the other.
  code_grows : (e : ℕ) → Edge m r e → digit e ≡ 0 → digit (step m e) ≡ 0 → code_right 8 e < code_right 8 (step m e)
  unfolding code_right head
  code_grows e h z y =
      let s = one_east (tail e) (tail (step m e)) (step-tail m margin r e h ∙ ap (λ d. move d (tail e)) z) (east_inside e h z).0 in
      subst (λ v. code 8 (x_of (tail e)) (y_of (tail e)) < code 8 (x_of (tail (step m e))) v) s.1
      (code_grows_in_x 8 (x_of (tail e)) (x_of (tail (step m e))) (y_of (tail e)) s.0 (east_inside (step m e) (step-edge m margin r e h) y).0)

-- The edges of the run from e up to the turn into e'.
pub record RunEdges (m : ℕ → ℕ → ℕ) (s e e' : ℕ) : Type 0 where
  pub run : List ℕ
  pub joined : run ++ rest m s e' ≡ e ∷ rest m s (step m e)
  pub no_corner : turns (digit e) (rest m s (step m e)) ≡ turns (digit e) (rest m s e')
  pub one_way : (a : ℕ) → In a run → digit a ≡ digit e
  pub rising : digit e ≡ 0 → (a : ℕ) → In a run → code_right 8 e ≤ code_right 8 a

module _ {side r s : ℕ} {map₀ : List ℕ} (first : FirstEdge side r s map₀) where
  pub run-edges : {e' : ℕ} {map' : List ℕ} {e : ℕ} {map : List ℕ} → Straight 0 side r (map_at side map₀) map' e' map e → Before 0 side r s map₀ map e → RunEdges (map_at side map₀) s e e'
  run-edges {e'} {e = e} (turning hm here n) g = record {
    run = e ∷ [];
    joined = ap (λ (a : ℕ). e ∷ rest (map_at side map₀) s a) here;
    no_corner = ap (λ (a : ℕ). turns (digit e) (rest (map_at side map₀) s a)) (sym here);
    one_way = λ a i. ap digit (in_single a e i);
    rising = λ z a i. subst (λ (b : ℕ). code_right 8 e ≤ code_right 8 b) (sym (in_single a e i)) (le_refl (code_right 8 e));
  }
  run-edges {e'} {map'} {e} {map} (straight_on straight more) g =
      let m : ℕ → ℕ → ℕ = map_at side map₀ in
      let p : After 0 side r s map₀ (mark 0 side r map e) (step m e) = past first.square g refl refl in
      let o : step m e ≢ s = not_first first e g.on_region straight in
      let t : RunEdges m s (step m e) e' = run-edges more (onward first.square p o) in
      let here : rest m s (step m e) ≡ step m e ∷ rest m s (step m (step m e)) = rest-first first.square p o in
      record {
        run = e ∷ t.run;
        joined = ap (λ (l : List ℕ). e ∷ l) (t.joined ∙ sym here);
        no_corner =
            ap (turns (digit e)) here ∙ turns_on (digit e) (step m e) (rest m s (step m (step m e))) (sym straight)
            ∙ subst (λ (d : ℕ). turns d (rest m s (step m (step m e))) ≡ turns d (rest m s e')) straight t.no_corner;
        one_way = λ a i. same t.run a (in_cases a e t.run i) t.one_way straight;
        rising = λ z a i.
            let grows : code_right 8 e < code_right 8 (step m e) = code_grows m (at_margin side map₀ first.square.small) r e g.on_region z (straight ∙ z) in
            least t.run a (in_cases a e t.run i) (le_of_lt grows) (t.rising (straight ∙ z));
      }
    where
      f : ℕ
      f = step (map_at side map₀) e

      same : (l : List ℕ) (a : ℕ) → (a ≡ e) ⊎ In a l → ((b : ℕ) → In b l → digit b ≡ digit f) → digit f ≡ digit e → digit a ≡ digit e
      same l a (inl q) ih h = ap digit q
      same l a (inr i) ih h = ih a i ∙ h

      least : (l : List ℕ) (a : ℕ) → (a ≡ e) ⊎ In a l → code_right 8 e ≤ code_right 8 f → ((b : ℕ) → In b l → code_right 8 f ≤ code_right 8 b)
          → code_right 8 e ≤ code_right 8 a
      least l a (inl q) h ih = subst (λ (b : ℕ). code_right 8 e ≤ code_right 8 b) (sym q) (le_refl (code_right 8 e))
      least l a (inr i) h ih = le_trans h (ih a i)
