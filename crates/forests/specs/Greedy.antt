-- Lists in which each entry is the least number that may come next: what may come first in any order with each child before its parent.
use Rattle.std.specs.Prelude.{◌≡◌, refl, List, [], ◌∷◌, ◌++◌, ℕ, zero, suc, ◌≤◌, ◌<◌, length, get_or}
use Rattle.std.proofs.Common.{sym, ap, ◌∙◌, inl, inr, arith}
use Rattle.std.proofs.Math.Decide.{dec_lt}
use Rattle.orbits.specs.Members.{In, Distinct, in_none}
use Rattle.forests.specs.Orders.{EachOnce, ChildrenFirst, each_in}
use Rattle.forests.specs.LeastOrder.{after}
use Rattle.forests.specs.Entries.{Done, done_in, done_later, done_sooner}

module _ (N : ℕ) (up : ℕ → ℕ) where
  -- All children of p are placed.
  abbrev pub Ready : List ℕ → ℕ → Type 0
  Ready placed p = (c : ℕ) → c < N → up c ≡ suc p → In c placed

  -- The number x is not placed, and may be: all its children are.
  pub record Free (placed : List ℕ) (x : ℕ) : Type 0 where
    pub below : x < N
    pub fresh : In x placed → ⊥
    pub children : Ready placed x

  -- The least such number.
  pub record Next (placed : List ℕ) (x : ℕ) : Type 0 where
    pub free : Free placed x
    pub least : (y : ℕ) → Free placed y → x ≤ y

  pub data Greedy : List ℕ → List ℕ → Type 0 where
    end : {placed : List ℕ} → Greedy placed []
    next : {placed : List ℕ} {x : ℕ} {l : List ℕ} → Next placed x → Greedy (x ∷ placed) l → Greedy placed (x ∷ l)

  pub greedy_append : {placed k l : List ℕ} → Greedy placed k → Greedy (after k placed) l → Greedy placed (k ++ l)
  unfolding after
  greedy_append end h = h
  greedy_append (next n g) h = next n (greedy_append g h)

  -- What an entry of the list is.
  record Entry (placed l : List ℕ) (i : ℕ) : Type 0 where
    pub below : get_or l i 0 < N
    pub fresh : Done placed l i (get_or l i 0) → ⊥
    pub children : (c : ℕ) → c < N → up c ≡ suc (get_or l i 0) → Done placed l i c
    pub least : (y : ℕ) → y < N → (Done placed l i y → ⊥) → ((c : ℕ) → c < N → up c ≡ suc y → Done placed l i c) → get_or l i 0 ≤ y

  entry : (placed l : List ℕ) → Greedy placed l → (i : ℕ) → i < length l → Entry placed l i
  entry placed [] g i h = let z : ⊥ = omega arith in absurd z
  entry placed (x ∷ l) (next n g) zero h = record {
    below = n.free.below;
    fresh = λ d. n.free.fresh (done_in placed l x x d);
    children = λ c b e. inl (n.free.children c b e);
    least = λ y b f k. n.least y (record { below = b; fresh = λ m. f (inl m); children = λ c q e. done_in placed l x c (k c q e) });
  }
  entry placed (x ∷ l) (next n g) (suc i) h =
      let t : Entry (x ∷ placed) l i = entry (x ∷ placed) l g i (omega arith) in
      record {
        below = t.below;
        fresh = λ d. t.fresh (done_sooner placed l x i (get_or l i 0) d);
        children = λ c b e. done_later placed l x i c (t.children c b e);
        least = λ y b f k. t.least y b (λ d. f (done_later placed l x i y d)) (λ c q e. done_sooner placed l x i c (k c q e));
      }

  module _ (l : List ℕ) (g : Greedy [] l) where
    pub greedy_below : (a : ℕ) → In a l → a < N
    greedy_below a (i, h, e) = omega (arith, (entry [] l g i h).below, e)

    pub greedy_once : Distinct l
    greedy_once i j h k e = (entry [] l g j k).fresh (inr (i, h, e))

    pub greedy_children_first : ChildrenFirst up l
    greedy_children_first s p e i j hi hj x y = pick ((entry [] l g j hj).children s (greedy_below s (i, hi, x)) (e ∙ ap suc (sym y)))
      where
        one : (k : ℕ) → get_or l k 0 ≡ s → k < j → Dec (i < j) → i < j
        one k q b (yes c) = c
        one k q b (no c) = absurd (greedy_once k i (omega arith) hi (q ∙ sym x))

        pick : Done [] l j s → i < j
        pick (inl m) = in_none s m
        pick (inr (k, b, q)) = one k q b (dec_lt i j)

    -- No other order has a smaller number at the first place where they differ.
    pub greedy_least : (m : List ℕ) → EachOnce N m → ChildrenFirst up m → (i : ℕ) → i < length l → i < length m
        → ((j : ℕ) → j < i → get_or m j 0 ≡ get_or l j 0) → get_or l i 0 ≤ get_or m i 0
    greedy_least m each f i hl hm same =
        (entry [] l g i hl).least (get_or m i 0) (each.below (get_or m i 0) (i, hm, refl)) apart (λ c b e. child c e (each_in N m each c b))
      where
        apart : Done [] l i (get_or m i 0) → ⊥
        apart (inl n) = in_none (get_or m i 0) n
        apart (inr (j, b, e)) = each.once j i b hm (same j b ∙ e)

        child : (c : ℕ) → up c ≡ suc (get_or m i 0) → In c m → Done [] l i c
        child c e (k, b, q) =
            let before : k < i = f c (get_or m i 0) e k i b hm q refl in
            inr (k, before, sym (same k before) ∙ q)
