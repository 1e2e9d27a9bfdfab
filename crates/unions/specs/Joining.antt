-- Pairs joined in a forest one after the other: its roots are the representatives of these pairs.
use Rattle.std.specs.Prelude.{◌≡◌, refl, ◌⊎◌, ℕ, ◌<◌, length, set}
use Rattle.std.proofs.Common.{sym, ap, ◌∙◌, inl, inr, arith, length-set}
use mathlib.Core.List.Memᴰ
use mathlib.Core.List.{List, [], ◌∷◌, Memᴰ}
use Rattle.unions.specs.Pairs.{Pair, pair_of}
use Rattle.unions.specs.Representatives.{rep, join_at}
use Rattle.unions.specs.Roots.{Low, root, root-le, roots_join, roots_same}
use Rattle.unions.specs.Halving.{RootFound}

-- The forest p that came of p₀ has the roots f.
pub record Forest (p₀ : List ℕ) (f : ℕ → ℕ) (p : List ℕ) : Type 0 where
  pub roots : root p ≡ f
  pub low : Low p
  pub long : length p ≡ length p₀

pub unchanged : {p : List ℕ} → Low p → Forest p (root p) p
unchanged low = record { roots = refl; low = low; long = refl }

-- Two places joined: their roots were found, and the larger is hung below the smaller.
module _ {p₀ p₁ p : List ℕ} {a b ra rb : ℕ} (first : RootFound p₀ a p₁ ra) (second : RootFound p₁ b p rb) where
  root_a : ra ≡ root p a
  root_a = first.value ∙ ap (λ (f : ℕ → ℕ). f a) (sym (second.roots ∙ first.roots))

  root_b : rb ≡ root p b
  root_b = second.value ∙ ap (λ (f : ℕ → ℕ). f b) (sym second.roots)

  pub a_inside : a < length p₀ → ra < length p
  a_inside h = omega (arith, root_a, root-le p second.low a, first.long, second.long)

  pub b_inside : b < length p₀ → rb < length p
  b_inside h = omega (arith, root_b, root-le p second.low b, first.long, second.long)

  as_before : join_at (root p) (pair_of a b) ≡ join_at (root p₀) (pair_of a b)
  as_before = ap (λ (f : ℕ → ℕ). join_at f (pair_of a b)) (second.roots ∙ first.roots)

  pub under_a : ra < rb → rb < length p → Forest p₀ (join_at (root p₀) (pair_of a b)) (set p rb ra)
  under_a l h =
      let j = roots_join p second.low (pair_of a b) ra rb l h (inl (root_a, root_b)) in
      record { roots = j.1 ∙ as_before; low = j.0; long = length-set p rb ra ∙ second.long ∙ first.long }

  pub under_b : rb < ra → ra < length p → Forest p₀ (join_at (root p₀) (pair_of a b)) (set p ra rb)
  under_b l h =
      let j = roots_join p second.low (pair_of a b) rb ra l h (inr (root_b, root_a)) in
      record { roots = j.1 ∙ as_before; low = j.0; long = length-set p ra rb ∙ second.long ∙ first.long }

  pub one_root : ra ≡ rb → Forest p₀ (join_at (root p₀) (pair_of a b)) p
  one_root e = record {
    roots = roots_same p (pair_of a b) (sym root_a ∙ e ∙ root_b) ∙ as_before;
    low = second.low;
    long = second.long ∙ first.long;
  }

-- Pairs joined one after the other, the first of the list first.
unfoldable pub joins : (ℕ → ℕ) → List Pair → ℕ → ℕ
unfolding join_at
joins r [] = r
joins r (e ∷ es) = joins (join_at r e) es

-- The pairs joined, the latest in front: the order that `rep` has them in.
unfoldable pub onto : List Pair → List Pair → List Pair
onto [] old = old
onto (e ∷ es) old = onto es (e ∷ old)

pub joins_none : (r : ℕ → ℕ) → joins r [] ≡ r
unfolding joins
joins_none r = refl

pub joins-first : (r : ℕ → ℕ) (e : Pair) (es : List Pair) → joins r (e ∷ es) ≡ joins (join_at r e) es
unfolding joins
joins-first r e es = refl

pub joins-rep : (es old : List Pair) → joins (rep old) es ≡ rep (onto es old)
unfolding joins onto rep
joins-rep [] old = refl
joins-rep (e ∷ es) old = joins-rep es (e ∷ old)

-- The same pairs stand in both.
pub onto_old : (es old : List Pair) (e : Pair) → Memᴰ e old → Memᴰ e (onto es old)
unfolding onto
onto_old [] old e m = m
onto_old (d ∷ es) old e m = onto_old es (d ∷ old) e (Memᴰ.tail m)

pub onto_new : (es old : List Pair) (e : Pair) → Memᴰ e es → Memᴰ e (onto es old)
unfolding onto
onto_new [] old e m = absurd (Memᴰ.not-nil m)
onto_new (d ∷ es) old e m = pick (onto_new es (d ∷ old) e) (Memᴰ.cases_cons m)
  where
    pick : (Memᴰ e es → Memᴰ e (onto es (d ∷ old))) → (e ≡ d) ⊎ Memᴰ e es → Memᴰ e (onto es (d ∷ old))
    pick ih (inl h) = onto_old es (d ∷ old) e (Memᴰ.head h)
    pick ih (inr n) = ih n

pub onto_cases : (es old : List Pair) (e : Pair) → Memᴰ e (onto es old) → Memᴰ e es ⊎ Memᴰ e old
unfolding onto
onto_cases [] old e m = inr m
onto_cases (d ∷ es) old e m = pick (onto_cases es (d ∷ old) e m)
  where
    split : (e ≡ d) ⊎ Memᴰ e old → Memᴰ e (d ∷ es) ⊎ Memᴰ e old
    split (inl h) = inl (Memᴰ.head h)
    split (inr n) = inr n

    pick : Memᴰ e es ⊎ Memᴰ e (d ∷ old) → Memᴰ e (d ∷ es) ⊎ Memᴰ e old
    pick (inl n) = inl (Memᴰ.tail n)
    pick (inr n) = split (Memᴰ.cases_cons n)

-- Where the roots were the representatives of some pairs, they are those of these pairs too.
pub forest_rep : {p₀ p : List ℕ} (es old : List Pair) → root p₀ ≡ rep old → Forest p₀ (joins (root p₀) es) p → root p ≡ rep (onto es old)
forest_rep es old h j = j.roots ∙ ap (λ (f : ℕ → ℕ). joins f es) h ∙ joins-rep es old
