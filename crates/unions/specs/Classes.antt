-- The representatives of 0, 1, .. as a list: the executable form.
use Rattle.std.specs.Prelude.{◌≡◌, refl, ℕ, ◌<◌, min, max, length, get_or}
use Rattle.std.proofs.Common.{◌∙◌, arith}
use mathlib.Core.List.{List, [], ◌∷◌, map, Memᴰ}
use Rattle.std.proofs.lemmas.List.{length-map}
use Rattle.sequences.specs.Maps.{get_d_map}
use Rattle.sequences.specs.Ranges.{range, length-range, range_at}
use Rattle.unions.specs.Pairs.{Pair}
use Rattle.unions.specs.Representatives.{merge, rep, join_at}

-- The representatives of the numbers below N: at first each number is its own, then pair after pair the larger representative
-- is replaced by the smaller wherever it stands.
unfoldable pub classes : ℕ → List Pair → List ℕ
unfolding range merge
classes N [] = range 0 N
classes N (e ∷ es) =
    let rs = classes N es in
    let a = get_or rs e.one 0 in
    let b = get_or rs e.two 0 in
    map (merge (min a b) (max a b)) rs

pub length-classes : (N : ℕ) (es : List Pair) → length (classes N es) ≡ N
unfolding classes
length-classes N [] = length-range 0 N
length-classes N (e ∷ es) = length-map (classes N es) _ ∙ length-classes N es

-- All numbers of the pairs are below N.
unfoldable pub Inside : ℕ → List Pair → Type 0
Inside N [] = Unit {0}
Inside N (e ∷ es) = (e.one < N) × (e.two < N) × Inside N es

pub inside_each : (N : ℕ) (es : List Pair) → ((e : Pair) → Memᴰ e es → (e.one < N) × (e.two < N)) → Inside N es
unfolding Inside
inside_each N [] h = tt
inside_each N (e ∷ es) h =
    ((h e (Memᴰ.head refl)).0, (h e (Memᴰ.head refl)).1, inside_each N es (λ f m. h f (Memᴰ.tail m)))

pub classes-rep : (N : ℕ) (es : List Pair) → Inside N es → (i : ℕ) → i < N → get_or (classes N es) i 0 ≡ rep es i
unfolding classes Inside rep join_at
classes-rep N [] w i h = range_at 0 N i h ∙ omega arith
classes-rep N (e ∷ es) w i h =
    let a : get_or (classes N es) e.one 0 ≡ rep es e.one = classes-rep N es w.2 e.one w.0 in
    let b : get_or (classes N es) e.two 0 ≡ rep es e.two = classes-rep N es w.2 e.two w.1 in
    get_d_map _ (classes N es) i 0 0 (omega (arith, length-classes N es)) ∙ rw (a, b, classes-rep N es w.2 i h)
