-- Why the least order places the least number that may come next. Before each number v: all numbers below v without children are placed,
-- and all whose children are placed. So only numbers from v on may come next, and after each number at most its parent may, which is smaller.
use Rattle.std.specs.Prelude.{◌≡◌, ◌≢◌, ◌⊎◌}
use Rattle.std.proofs.Math.Path.{refl, subst}
use Rattle.std.proofs.Common.{sym, inl, inr, arith}
use mathlib.Core.List.{List, [], ◌∷◌, ◌++◌}
use Prim.Native.Nat.{ℕ, zero, suc, ◌+◌, ◌≤◌, ◌<◌}
use Rattle.std.proofs.Math.Decide.{ℕ_discrete, dec_lt}
use Rattle.orbits.specs.Members.{In, in_later, in_cases, in_none}
use Rattle.forests.specs.Forest.{ParentsBelow}
use Rattle.forests.specs.LeastOrder.{climb, after, order_from}
use Rattle.forests.specs.Greedy.{Ready, Free, Next, Greedy, end, next, greedy_append}
use Rattle.forests.specs.Ready.{Decided, ready_says, climb-top, climb_wait, climb_on, order_leaf, order_pass}

after-append : (k l placed : List ℕ) → after (k ++ l) placed ≡ after l (after k placed)
unfolding after
after-append [] l placed = refl
after-append (x ∷ k) l placed = after-append k l (x ∷ placed)

module _ (N : ℕ) (up : ℕ → ℕ) where
  -- The number x has no children.
  abbrev Leaf : ℕ → Type 0
  Leaf x = Ready N up [] x

  pub leaf? : (x : ℕ) → Dec (Leaf x)
  leaf? x = pick (ready_says up [] x N)
    where
      pick : Decided up [] x N → Dec (Leaf x)
      pick (inl (t, r)) = yes r
      pick (inr (t, n)) = no n

  -- Between two numbers without children.
  pub record Settled (v : ℕ) (placed : List ℕ) : Type 0 where
    pub within : (x : ℕ) → In x placed → x < v
    pub closed : (x : ℕ) → In x placed → Ready N up placed x
    pub leaves : (x : ℕ) → x < v → x < N → Leaf x → In x placed
    pub settled : (x : ℕ) → x < N → Ready N up placed x → (Leaf x → ⊥) → In x placed

  -- On the way up from v, where u has just been placed: only its parent may be missing.
  pub record Climbing (v u : ℕ) (placed : List ℕ) : Type 0 where
    pub known : v < N
    pub no_higher : u ≤ v
    pub within : (x : ℕ) → In x placed → x < suc v
    pub closed : (x : ℕ) → In x placed → Ready N up placed x
    pub leaves : (x : ℕ) → x < suc v → x < N → Leaf x → In x placed
    pub settled : (x : ℕ) → x < N → Ready N up placed x → (Leaf x → ⊥) → In x placed ⊎ (up u ≡ suc x)
    pub fresh : (p : ℕ) → up u ≡ suc p → In p placed → ⊥

  -- Nothing is placed.
  pub fresh_start : Settled 0 []
  fresh_start = record {
    within = λ x i. in_none x i;
    closed = λ x i. in_none x i;
    leaves = λ x h k r. absurd (omega arith);
    settled = λ x h r n. absurd (n r);
  }

  -- A number with children is passed over.
  pub passed : (v : ℕ) (placed : List ℕ) → (Leaf v → ⊥) → Settled v placed → Settled (suc v) placed
  passed v placed n s = record {
    within = λ x i. omega (arith, s.within x i);
    closed = s.closed;
    leaves = λ x b k r. pick x k r (dec_lt x v) b;
    settled = s.settled;
  }
    where
      pick : (x : ℕ) → x < N → Leaf x → Dec (x < v) → x < suc v → In x placed
      pick x k r (yes l) b = s.leaves x l k r
      pick x k r (no l) b = let e : x ≡ v = omega arith in absurd (n (subst Leaf e r))

  -- The way up ends.
  pub climbed : (v u : ℕ) (placed : List ℕ) → Climbing v u placed → ((p : ℕ) → up u ≡ suc p → Ready N up placed p → ⊥) → Settled (suc v) placed
  climbed v u placed s f = record {
    within = s.within;
    closed = s.closed;
    leaves = s.leaves;
    settled = λ x b k n. pick x k (s.settled x b k n);
  }
    where
      pick : (x : ℕ) → Ready N up placed x → In x placed ⊎ (up u ≡ suc x) → In x placed
      pick x k (inl i) = i
      pick x k (inr e) = absurd (f x e k)

  -- Placing x completes its parent only.
  ready_sooner : (placed : List ℕ) (x p : ℕ) → up x ≢ suc p → Ready N up (x ∷ placed) p → Ready N up placed p
  ready_sooner placed x p n r c h e = pick (in_cases c x placed (r c h e))
    where
      pick : (c ≡ x) ⊎ In c placed → In c placed
      pick (inl q) = absurd (n (subst (λ y. up y ≡ suc p) q e))
      pick (inr i) = i

  closed_more : (placed : List ℕ) (x : ℕ) → Ready N up placed x → ((y : ℕ) → In y placed → Ready N up placed y) → (y : ℕ) → In y (x ∷ placed) → Ready N up (x ∷ placed) y
  closed_more placed x r f y i c h e = in_later c x placed (pick (in_cases y x placed i) c h e)
    where
      pick : (y ≡ x) ⊎ In y placed → Ready N up placed y
      pick (inl q) = subst (Ready N up placed) (sym q) r
      pick (inr k) = f y k

  settled_free : (v : ℕ) (placed : List ℕ) → Settled v placed → (y : ℕ) → Free N up placed y → v ≤ y
  settled_free v placed s y f = pick (leaf? y) (dec_lt y v)
    where
      pick : Dec (Leaf y) → Dec (y < v) → v ≤ y
      pick (no n) d = absurd (f.fresh (s.settled y f.below f.children n))
      pick (yes r) (yes l) = absurd (f.fresh (s.leaves y l f.below r))
      pick (yes r) (no l) = omega arith

  -- What is appended is the least each time, and all is settled afterwards.
  pub record Appended (v : ℕ) (placed l : List ℕ) : Type 0 where
    pub greedy : Greedy N up placed l
    pub then : Settled v (after l placed)

  nothing : (v : ℕ) (placed l : List ℕ) → l ≡ [] → Settled v placed → Appended v placed l
  unfolding after
  nothing v placed l e s = subst (Appended v placed) (sym e) (record { greedy = end; then = s })

  one_more : (v x : ℕ) (placed k l : List ℕ) → l ≡ x ∷ k → Next N up placed x → Appended v (x ∷ placed) k → Appended v placed l
  unfolding after
  one_more v x placed k l e n a = subst (Appended v placed) (sym e) (record { greedy = next n a.greedy; then = a.then })

  joined : (v w : ℕ) (placed k l : List ℕ) → Appended v placed k → Appended w (after k placed) l → Appended w placed (k ++ l)
  joined v w placed k l a b = record { greedy = greedy_append N up a.greedy b.greedy; then = subst (Settled w) (sym (after-append k l placed)) b.then }

  -- A number without children is placed.
  leaf_next : (v : ℕ) (placed : List ℕ) → v < N → Leaf v → Settled v placed → Next N up placed v
  leaf_next v placed h r s = record {
    free = record { below = h; fresh = λ i. omega (arith, s.within v i); children = λ c b e. in_none c (r c b e) };
    least = settled_free v placed s;
  }

  module _ (low : ParentsBelow N up) where
    pub leaf_climbing : (v : ℕ) (placed : List ℕ) → v < N → Leaf v → Settled v placed → Climbing v v (v ∷ placed)
    leaf_climbing v placed h r s = record {
      known = h;
      no_higher = omega arith;
      within = λ x i. upto x (in_cases x v placed i);
      closed = closed_more placed v (λ c b e. in_none c (r c b e)) s.closed;
      leaves = λ x b k q. leaf x k q (dec_lt x v) b;
      settled = λ x b k n. complete x b k n (ℕ_discrete (up v) (suc x));
      fresh = λ p e i. new p e (in_cases p v placed i);
    }
      where
        upto : (x : ℕ) → (x ≡ v) ⊎ In x placed → x < suc v
        upto x (inl e) = omega arith
        upto x (inr i) = omega (arith, s.within x i)

        leaf : (x : ℕ) → x < N → Leaf x → Dec (x < v) → x < suc v → In x (v ∷ placed)
        leaf x k q (yes l) b = in_later x v placed (s.leaves x l k q)
        leaf x k q (no l) b = (0, omega arith, omega arith)

        complete : (x : ℕ) → x < N → Ready N up (v ∷ placed) x → (Leaf x → ⊥) → Dec (up v ≡ suc x) → In x (v ∷ placed) ⊎ (up v ≡ suc x)
        complete x b k n (yes e) = inr e
        complete x b k n (no e) = inl (in_later x v placed (s.settled x b (ready_sooner placed v x e k) n))

        new : (p : ℕ) → up v ≡ suc p → (p ≡ v) ⊎ In p placed → ⊥
        new p e (inl q) = omega (arith, low v p h e)
        new p e (inr i) = omega (arith, s.within v (s.closed p i v h e))

    module _ (v u : ℕ) (placed : List ℕ) (s : Climbing v u placed) (p : ℕ) (e : up u ≡ suc p) where
      pub parent_lower : p < u
      parent_lower = low u p (omega (arith, s.known, s.no_higher)) e

      -- The parent is placed.
      parent-next : Ready N up placed p → Next N up placed p
      parent-next r = record {
        free = record { below = omega (arith, s.known, s.no_higher, parent_lower); fresh = s.fresh p e; children = r };
        least = λ y f. pick y f (leaf? y);
      }
        where
          among : (y : ℕ) → Free N up placed y → In y placed ⊎ (up u ≡ suc y) → p ≤ y
          among y f (inl i) = absurd (f.fresh i)
          among y f (inr q) = omega arith

          later : (y : ℕ) → Free N up placed y → Leaf y → Dec (y < suc v) → p ≤ y
          later y f k (yes b) = absurd (f.fresh (s.leaves y b f.below k))
          later y f k (no b) = omega (arith, s.no_higher, parent_lower)

          pick : (y : ℕ) → Free N up placed y → Dec (Leaf y) → p ≤ y
          pick y f (no n) = among y f (s.settled y f.below f.children n)
          pick y f (yes k) = later y f k (dec_lt y (suc v))

      pub parent_climbing : Ready N up placed p → Climbing v p (p ∷ placed)
      parent_climbing r = record {
        known = s.known;
        no_higher = omega (arith, s.no_higher, parent_lower);
        within = λ x i. upto x (in_cases x p placed i);
        closed = closed_more placed p r s.closed;
        leaves = λ x b k q. in_later x p placed (s.leaves x b k q);
        settled = λ x b k n. complete x b k n (ℕ_discrete (up p) (suc x));
        fresh = λ g q i. new g q (in_cases g p placed i);
      }
        where
          below : p < N
          below = omega (arith, s.known, s.no_higher, parent_lower)

          upto : (x : ℕ) → (x ≡ p) ⊎ In x placed → x < suc v
          upto x (inl q) = omega (arith, s.no_higher, parent_lower)
          upto x (inr i) = s.within x i

          one : (x : ℕ) → In x placed ⊎ (up u ≡ suc x) → In x (p ∷ placed)
          one x (inl i) = in_later x p placed i
          one x (inr q) = (0, omega arith, omega arith)

          complete : (x : ℕ) → x < N → Ready N up (p ∷ placed) x → (Leaf x → ⊥) → Dec (up p ≡ suc x) → In x (p ∷ placed) ⊎ (up p ≡ suc x)
          complete x b k n (yes q) = inr q
          complete x b k n (no q) = inl (one x (s.settled x b (ready_sooner placed p x q k) n))

          new : (g : ℕ) → up p ≡ suc g → (g ≡ p) ⊎ In g placed → ⊥
          new g q (inl z) = omega (arith, low p g below q)
          new g q (inr i) = s.fresh p e (s.closed g i p below q)

    climb_appends : (k v u : ℕ) (placed : List ℕ) → u ≤ k → Climbing v u placed → Appended (suc v) placed (climb N up placed k u)
    unfolding climb
    climb_appends zero v u placed h s = nothing (suc v) placed [] refl (climbed v u placed s (λ p e r. omega (arith, parent_lower v u placed s p e)))
    climb_appends (suc k) v u placed h s = from (up u) refl (λ p b t. climb_appends k v p (p ∷ placed) b t)
      where
        Again : Type 0
        Again = (p : ℕ) → p ≤ k → Climbing v p (p ∷ placed) → Appended (suc v) (p ∷ placed) (climb N up (p ∷ placed) k p)

        ask : (p : ℕ) → up u ≡ suc p → Again → Decided up placed p N → Appended (suc v) placed (climb N up placed (suc k) u)
        ask p e ih (inl (t, r)) =
            one_more (suc v) p placed (climb N up (p ∷ placed) k p) (climb N up placed (suc k) u) (climb_on N up placed k u p e t) (parent-next v u placed s p e r)
            (ih p (omega (arith, parent_lower v u placed s p e)) (parent_climbing v u placed s p e r))
        ask p e ih (inr (t, n)) =
            nothing (suc v) placed (climb N up placed (suc k) u) (climb_wait N up placed k u p e t)
            (climbed v u placed s (λ q f r. let same : q ≡ p = omega arith in n (subst (Ready N up placed) same r)))

        from : (w : ℕ) → up u ≡ w → Again → Appended (suc v) placed (climb N up placed (suc k) u)
        from zero e ih = nothing (suc v) placed (climb N up placed (suc k) u) (climb-top N up placed k u e) (climbed v u placed s (λ q f r. omega arith))
        from (suc p) e ih = ask p e ih (ready_says up placed p N)

    pub order_appends : (k v : ℕ) (placed : List ℕ) → v + k ≡ N → Settled v placed → Appended N placed (order_from N up k v placed)
    unfolding order_from
    order_appends zero v placed h s = nothing N placed [] refl (subst (λ x. Settled x placed) (omega arith) s)
    order_appends (suc k) v placed h s = pick (ready_says up [] v N) (λ placed t. order_appends k (suc v) placed (omega arith) t)
      where
        Again : Type 0
        Again = (placed : List ℕ) → Settled (suc v) placed → Appended N placed (order_from N up k (suc v) placed)

        pick : Decided up [] v N → Again → Appended N placed (order_from N up (suc k) v placed)
        pick (inl (t, r)) ih =
            let l : List ℕ = v ∷ climb N up (v ∷ placed) v v in
            let c : Appended (suc v) (v ∷ placed) (climb N up (v ∷ placed) v v) = climb_appends v v v (v ∷ placed) (omega arith) (leaf_climbing v placed (omega arith) r s) in
            let a : Appended (suc v) placed l = one_more (suc v) v placed (climb N up (v ∷ placed) v v) l refl (leaf_next v placed (omega arith) r s) c in
            subst (Appended N placed) (sym (order_leaf N up placed k v t)) (joined (suc v) N placed l (order_from N up k (suc v) (after l placed)) a (ih (after l placed) a.then))
        pick (inr (t, n)) ih = subst (Appended N placed) (sym (order_pass N up placed k v t)) (ih placed (passed v placed n s))
