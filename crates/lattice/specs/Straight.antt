-- Straight walks: how far k unit steps lead, and that walking straight there is those k steps.
use Rattle.std.specs.Prelude.{◌≡◌, ℕ, zero, suc, ◌+◌, ◌-◌, ◌*◌, ◌/◌, ◌%◌, ◌<◌, ◌≤◌, ◌≢◌, [], ◌∷◌, ◌++◌}
use Rattle.std.proofs.Common.{sym, ap, ap₂, ◌∙◌, arith, eq-eqb, ne_eqb, lt-ltb, le-ltb}
use Rattle.lattice.specs.Directions.{x_of, y_of, move, edge}
use Rattle.lattice.specs.Walks.{run, straight}

-- The point k units on from p with the digit d.
unfoldable pub far : ℕ → ℕ → ℕ → ℕ
far zero k p = p + k
far (suc zero) k p = p - 512 * k
far (suc (suc zero)) k p = p - k
far (suc (suc (suc d))) k p = p + 512 * k

-- k units with the digit d from p leave neither the rows from 0 on nor the columns 0 to 511, by which points are kept.
unfoldable pub OnGrid : ℕ → ℕ → ℕ → Type 0
OnGrid zero k p = p % 512 + k < 512
OnGrid (suc zero) k p = k ≤ p / 512
OnGrid (suc (suc zero)) k p = k ≤ p % 512
OnGrid (suc (suc (suc d))) k p = d ≡ 0

pub straight-run : (d k p : ℕ) → 0 < k → OnGrid d k p → straight p (far d k p) ≡ run d k p
unfolding straight far OnGrid x_of y_of
straight-run zero k p pos r =
    let e : p / 512 ≡ (p + k) / 512 = omega arith in
    let n : (p + k) % 512 - p % 512 ≡ k = omega arith in
    rw (eq-eqb (p / 512) ((p + k) / 512) e, lt-ltb (p % 512) ((p + k) % 512) (omega arith), straight) (ap (λ x. run 0 x p) n)
straight-run (suc zero) k p pos r =
    let e : p / 512 ≢ (p - 512 * k) / 512 = omega arith in
    let n : p / 512 - (p - 512 * k) / 512 ≡ k = omega arith in
    rw (ne_eqb (p / 512) ((p - 512 * k) / 512) e, le-ltb (p / 512) ((p - 512 * k) / 512) (omega arith), straight) (ap (λ x. run 1 x p) n)
straight-run (suc (suc zero)) k p pos r =
    let e : p / 512 ≡ (p - k) / 512 = omega arith in
    let n : p % 512 - (p - k) % 512 ≡ k = omega arith in
    rw (eq-eqb (p / 512) ((p - k) / 512) e, le-ltb (p % 512) ((p - k) % 512) (omega arith), straight) (ap (λ x. run 2 x p) n)
straight-run (suc (suc (suc d))) k p pos r =
    let e : p / 512 ≢ (p + 512 * k) / 512 = omega arith in
    let n : (p + 512 * k) / 512 - p / 512 ≡ k = omega arith in
    rw (ne_eqb (p / 512) ((p + 512 * k) / 512) e, lt-ltb (p / 512) ((p + 512 * k) / 512) (omega arith), straight) (ap₂ (λ x y. run y x p) n (omega arith))

pub far-zero : (d p : ℕ) → far d 0 p ≡ p
unfolding far
far-zero zero p = omega arith
far-zero (suc zero) p = omega arith
far-zero (suc (suc zero)) p = omega arith
far-zero (suc (suc (suc d))) p = omega arith

-- The first unit taken off.
pub far-first : (d k p : ℕ) → OnGrid d (suc k) p → far d k (move d p) ≡ far d (suc k) p
unfolding move far OnGrid
far-first zero k p r = omega arith
far-first (suc zero) k p r = omega arith
far-first (suc (suc zero)) k p r = omega arith
far-first (suc (suc (suc d))) k p r = omega arith

pub on_grid_first : (d k p : ℕ) → OnGrid d (suc k) p → OnGrid d k (move d p)
unfolding move OnGrid
on_grid_first zero k p r = omega arith
on_grid_first (suc zero) k p r = omega arith
on_grid_first (suc (suc zero)) k p r = omega arith
on_grid_first (suc (suc (suc d))) k p r = r

pub on_grid_less : (d k p : ℕ) → OnGrid d (suc k) p → OnGrid d k p
unfolding OnGrid
on_grid_less zero k p r = omega arith
on_grid_less (suc zero) k p r = omega arith
on_grid_less (suc (suc zero)) k p r = omega arith
on_grid_less (suc (suc (suc d))) k p r = r

-- One unit more.
pub on_grid_more : (d k p : ℕ) → OnGrid d k p → OnGrid d 1 (far d k p) → OnGrid d (suc k) p
unfolding far OnGrid
on_grid_more zero k p r s = omega arith
on_grid_more (suc zero) k p r s = omega arith
on_grid_more (suc (suc zero)) k p r s = omega arith
on_grid_more (suc (suc (suc d))) k p r s = r

pub far-step : (d k p : ℕ) → OnGrid d (suc k) p → move d (far d k p) ≡ far d (suc k) p
unfolding move far OnGrid
far-step zero k p r = omega arith
far-step (suc zero) k p r = omega arith
far-step (suc (suc zero)) k p r = omega arith
far-step (suc (suc (suc d))) k p r = omega arith

pub far_one : (d p : ℕ) → OnGrid d 1 p → far d 1 p ≡ move d p
far_one d p r = sym (far-step d 0 p r) ∙ ap (move d) (far-zero d p)

pub run_snoc : (d k p : ℕ) → OnGrid d (suc k) p → run d (suc k) p ≡ run d k p ++ (edge (far d k p) d ∷ [])
unfolding run
run_snoc d zero p r = ap (λ x. edge x d ∷ []) (sym (far-zero d p))
run_snoc d (suc k) p r =
    ap (λ t. edge p d ∷ t) (run_snoc d k (move d p) (on_grid_first d (suc k) p r) ∙ ap (λ x. run d k (move d p) ++ (edge x d ∷ [])) (far-first d k p (on_grid_less d (suc k) p r)))

pub on_grid_one : (d k p : ℕ) → OnGrid d (suc k) p → OnGrid d 1 p
unfolding OnGrid
on_grid_one zero k p r = omega arith
on_grid_one (suc zero) k p r = omega arith
on_grid_one (suc (suc zero)) k p r = omega arith
on_grid_one (suc (suc (suc d))) k p r = r
