-- The least order: every number below N once, each child before its parent, and of all such orders the one with the least number at the
-- first place, then at the second, and so on.
use Rattle.std.specs.Prelude.{◌≡◌, refl, ◌⊎◌, ℕ, ◌-◌, ◌≤◌, ◌<◌, length, get_or}
use Rattle.std.proofs.Common.{sym, ap, ◌∙◌, inl, inr, arith, ext_get_or}
use mathlib.Core.List.{List, [], ◌∷◌}
use Rattle.std.proofs.Math.Nat.{le_antisymm}
use Rattle.sequences.specs.Induction.{strong}
use Rattle.sequences.specs.Ranges.{range, length-range, range_at}
use Rattle.orbits.specs.Members.{In, Distinct, in_later, in_cases, in_none, keyed_length, distinct_length}
use Rattle.forests.specs.Forest.{ParentsBelow}
use Rattle.orbits.specs.Finding.{place_of, place-first, place-holds}
use Rattle.forests.specs.Orders.{EachOnce, ChildrenFirst}
use Rattle.forests.specs.LeastOrder.{after, order_from, least_order}
use Rattle.forests.specs.Greedy.{Ready, greedy_below, greedy_once, greedy_children_first, greedy_least}
use Rattle.forests.specs.Settling.{Settled, Appended, leaf?, fresh_start, order_appends}

-- "the one with the least possible number at the first place, then at the second, and so on" (document 02, request h).
pub record LeastOf (N : ℕ) (Allowed : List ℕ → Type 0) (l : List ℕ) : Type 0 where
  pub each : EachOnce N l
  pub allowed : Allowed l
  pub least : (m : List ℕ) → EachOnce N m → Allowed m → (i : ℕ) → i < N → ((j : ℕ) → j < i → get_or m j 0 ≡ get_or l j 0) → get_or l i 0 ≤ get_or m i 0

-- There is only one.
pub only_least : (N : ℕ) (Allowed : List ℕ → Type 0) (l m : List ℕ) → LeastOf N Allowed l → LeastOf N Allowed m → l ≡ m
only_least N Allowed l m a b = ext_get_or 0 l m (a.each.long ∙ sym b.each.long) (λ i h. same i (omega (arith, a.each.long)))
  where
    same : (i : ℕ) → i < N → get_or l i 0 ≡ get_or m i 0
    same = strong (λ i. i < N → get_or l i 0 ≡ get_or m i 0) (λ i ih h.
        le_antisymm (a.least m b.each b.allowed i h (λ j k. sym (ih j k (omega arith)))) (b.least l a.each a.allowed i h (λ j k. ih j k (omega arith))))

-- The numbers 0, 1, .. below N all stand in a list: it is no shorter than N.
long_enough : (N : ℕ) (l : List ℕ) → ((v : ℕ) → v < N → In v l) → N ≤ length l
long_enough N l all =
    let k : length (range 0 N) ≤ length l =
    keyed_length (λ v. place_of v l) (length l) (range 0 N) distinct (λ a i. placed a (known a i)) (λ a b i j e. apart a b (known a i) (known b j) e) in
    omega (arith, length-range 0 N)
  where
    known : (a : ℕ) → In a (range 0 N) → In a l
    known a (i, h, e) = all a (omega (arith, length-range 0 N, range_at 0 N i (omega (arith, length-range 0 N)), e))

    distinct : Distinct (range 0 N)
    distinct i j h k e = omega (arith, length-range 0 N, range_at 0 N i (omega (arith, length-range 0 N)), range_at 0 N j (omega (arith, length-range 0 N)))

    placed : (a : ℕ) → In a l → place_of a l < length l
    placed a (i, h, e) = omega (arith, place-first a l i h e)

    apart : (a b : ℕ) → In a l → In b l → place_of a l ≡ place_of b l → a ≡ b
    apart a b i j e = sym (place-holds a l i) ∙ ap (λ k. get_or l k 0) e ∙ place-holds b l j

in_after : (a : ℕ) (l placed : List ℕ) → In a (after l placed) → In a l ⊎ In a placed
unfolding after
in_after a [] placed i = inr i
in_after a (x ∷ l) placed i = pick (in_after a l (x ∷ placed) i)
  where
    was : (a ≡ x) ⊎ In a placed → In a (x ∷ l) ⊎ In a placed
    was (inl e) = inl (0, omega arith, sym e)
    was (inr k) = inr k

    pick : In a l ⊎ In a (x ∷ placed) → In a (x ∷ l) ⊎ In a placed
    pick (inl k) = inl (in_later a x l k)
    pick (inr k) = was (in_cases a x placed k)

module _ (N : ℕ) (up : ℕ → ℕ) (low : ParentsBelow N up) where
  -- At the end all numbers are placed: the children of x are larger than x.
  all_placed : (placed : List ℕ) → Settled N up N placed → (x : ℕ) → x < N → In x placed
  all_placed placed s x h = strong (λ k. (x : ℕ) → x < N → N - x ≡ k → In x placed) (λ k ih x h e. one k ih x h e (leaf? N up x)) (N - x) x h refl
    where
      one : (k : ℕ) → ((j : ℕ) → j < k → (x : ℕ) → x < N → N - x ≡ j → In x placed) → (x : ℕ) → x < N → N - x ≡ k → Dec (Ready N up [] x) → In x placed
      one k ih x h e (yes r) = s.leaves x h h r
      one k ih x h e (no n) = s.settled x h (λ c b q. let l : x < c = low c x b q in ih (N - c) (omega arith) c b refl) n

  made : Appended N up N [] (order_from N up N 0 [])
  made = order_appends N up low N 0 [] (omega arith) (fresh_start N up)

  all_in_order : (x : ℕ) → x < N → In x (least_order N up)
  unfolding least_order
  all_in_order x h = pick (in_after x (order_from N up N 0 []) [] (all_placed (after (order_from N up N 0 []) []) made.then x h))
    where
      pick : In x (order_from N up N 0 []) ⊎ In x [] → In x (order_from N up N 0 [])
      pick (inl i) = i
      pick (inr i) = in_none x i

  pub each_once : EachOnce N (least_order N up)
  unfolding least_order
  each_once =
      let once : Distinct (order_from N up N 0 []) = greedy_once N up (order_from N up N 0 []) made.greedy in
      let below : (a : ℕ) → In a (order_from N up N 0 []) → a < N = greedy_below N up (order_from N up N 0 []) made.greedy in
      record {
        long = le_antisymm (distinct_length N (order_from N up N 0 []) once below) (long_enough N (order_from N up N 0 []) all_in_order);
        once = once;
        below = below;
      }

  pub least_order_lem : LeastOf N (ChildrenFirst up) (least_order N up)
  unfolding least_order
  least_order_lem = record {
    each = each_once;
    allowed = greedy_children_first N up (order_from N up N 0 []) made.greedy;
    least = λ m e f i h same. greedy_least N up (order_from N up N 0 []) made.greedy m e f i (omega (arith, each_once.long)) (omega (arith, e.long)) same;
  }
