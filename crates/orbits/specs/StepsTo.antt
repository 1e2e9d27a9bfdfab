-- How far it is to a number along a step, and the list of what lies on the way: for a loop that walks along an orbit.
use Rattle.std.specs.Prelude.{◌≡◌, ◌≢◌, [], ◌∷◌}
use Rattle.std.proofs.Math.Path.{refl, ap}
use Rattle.std.proofs.Common.{sym, ◌∙◌, not-suc-le-zero, arith, eq-eqb, ne_eqb}
use Prim.Native.Nat.{ℕ, zero, suc, ◌≤◌, ◌<◌}
use Rattle.orbits.specs.Orbits.{iter, iter_out, walk, until, Returns}

-- k steps lead from e to s, and no fewer do.
pub record StepsTo (f : ℕ → ℕ) (s e k : ℕ) : Type 0 where
  pub reaches : iter f k e ≡ s
  pub first : (i : ℕ) → i < k → iter f i e ≢ s

module _ (f : ℕ → ℕ) (s : ℕ) where
  closer : (e k : ℕ) → StepsTo f s e (suc k) → StepsTo f s (f e) k
  unfolding iter
  closer e k a = record { reaches = iter_out f k e ∙ a.reaches; first = λ i h c. a.first (suc i) (omega arith) (sym (iter_out f i e) ∙ c) }

  -- After the first step round.
  pub round : (k : ℕ) → Returns f s (suc k) → StepsTo f s (f s) k
  unfolding iter
  round k r = record { reaches = iter_out f k s ∙ r.back; first = λ i h c. r.first (suc i) (omega arith) (omega arith) (sym (iter_out f i s) ∙ c) }

  -- Nothing is left on the way from s to s.
  pub arrived : (fuel e : ℕ) → e ≡ s → until fuel f s e ≡ []
  unfolding until
  arrived zero e h = refl
  arrived (suc fuel) e h = rw (eq-eqb e s h, until)

  as_walk : (k fuel e : ℕ) → k ≤ fuel → StepsTo f s e k → until fuel f s e ≡ walk f k e
  unfolding until walk iter
  as_walk zero fuel e h a = arrived fuel e a.reaches
  as_walk (suc k) zero e h a = absurd (not-suc-le-zero h)
  as_walk (suc k) (suc fuel) e h a =
      rw (ne_eqb e s (a.first 0 (omega arith)), until) (ap (λ t. e ∷ t) (as_walk k fuel (f e) (omega arith) (closer e k a)))

  -- One step further along the orbit.
  pub record Further (fuel e k : ℕ) : Type 0 where
    pub left : ℕ
    pub less : left < k
    pub ahead : StepsTo f s (f e) left
    pub list : until fuel f s e ≡ e ∷ until fuel f s (f e)

  pub further : (fuel e k : ℕ) → k ≤ fuel → e ≢ s → StepsTo f s e k → Further fuel e k
  unfolding iter walk
  further fuel e zero h n a = absurd (n a.reaches)
  further fuel e (suc k) h n a =
      record {
        left = k;
        less = omega arith;
        ahead = closer e k a;
        list = as_walk (suc k) fuel e h a ∙ ap (λ t. e ∷ t) (sym (as_walk k fuel (f e) (omega arith) (closer e k a)));
      }
