-- Sums over the four sides of each pixel of an image.
use Rattle.std.specs.Prelude.{◌≡◌, refl, ℕ, zero, suc, ◌+◌, ◌≤◌, ◌<◌}
use Rattle.std.proofs.Common.{sym, ap, ◌∙◌}
use Rattle.winding.specs.Sums.{sum, sum_same, sum_none, sum-add, sum-le}

-- The sum over the sides d of the pixels (x, y) of an image of side w.
unfoldable pub over_sides : ℕ → (ℕ → ℕ → ℕ → ℕ) → ℕ
unfolding sum
over_sides w f = sum 4 (λ d. sum w (λ y. sum w (λ x. f x y d)))

pub sides_same : (w : ℕ) (f g : ℕ → ℕ → ℕ → ℕ) → ((x y d : ℕ) → x < w → y < w → d < 4 → f x y d ≡ g x y d) → over_sides w f ≡ over_sides w g
unfolding over_sides
sides_same w f g h = sum_same 4 _ _ (λ d k. sum_same w _ _ (λ y b. sum_same w _ _ (λ x a. h x y d a b k)))

pub sides-le : (w : ℕ) (f g : ℕ → ℕ → ℕ → ℕ) → ((x y d : ℕ) → x < w → y < w → f x y d ≤ g x y d) → over_sides w f ≤ over_sides w g
unfolding over_sides
sides-le w f g h = sum-le 4 _ _ (λ d k. sum-le w _ _ (λ y b. sum-le w _ _ (λ x a. h x y d a b)))

pub sides_none : (w : ℕ) → over_sides w (λ x y d. 0) ≡ 0
unfolding over_sides
sides_none w = sum_none 4 _ (λ d. sum_none w _ (λ y. sum_none w _ (λ x. refl)))

pub sides-add : (w : ℕ) (f g : ℕ → ℕ → ℕ → ℕ) → over_sides w (λ x y d. f x y d + g x y d) ≡ over_sides w f + over_sides w g
unfolding over_sides
sides-add w f g =
    sum_same 4 _ _ (λ d k. sum_same w _ _ (λ y b. sum-add w (λ x. f x y d) (λ x. g x y d))
    ∙ sum-add w (λ y. sum w (λ x. f x y d)) (λ y. sum w (λ x. g x y d)))
    ∙ sum-add 4 (λ d. sum w (λ y. sum w (λ x. f x y d))) (λ d. sum w (λ y. sum w (λ x. g x y d)))

pub sides_swap : (k w : ℕ) (f : ℕ → ℕ → ℕ → ℕ → ℕ) → sum k (λ r. over_sides w (f r)) ≡ over_sides w (λ x y d. sum k (λ r. f r x y d))
unfolding sum
sides_swap zero w f = sym (sides_none w)
sides_swap (suc k) w f =
    ap (λ (s : ℕ). s + over_sides w (f k)) (sides_swap k w f) ∙ sym (sides-add w (λ x y d. sum k (λ r. f r x y d)) (f k))
