-- How many children of a number are not placed yet, and lists that hold this for each number: the loops that give the least order ask
-- such a list in place of the children.
use Rattle.std.specs.Prelude.{◌≡◌, ◌≢◌, ◌⊎◌, true, false, List, [], ◌∷◌, length, get_or, set}
use Rattle.std.proofs.Math.Path.{refl, sym, ap}
use Rattle.std.proofs.Common.{◌∙◌, subst, inl, inr, arith, length-set, get_or-set_same, get_or-set_other, eq-eqb, ne_eqb}
use Rattle.std.proofs.lemmas.Bool.{false≢true}
use Prim.Native.Nat.{ℕ, zero, suc, ◌-◌, ◌≤◌, ◌<◌}
use Rattle.std.proofs.Math.Decide.{ℕ_discrete}
use Rattle.std.proofs.Math.Dec.{eqb}
use Rattle.orbits.specs.Members.{In, in_dec, in_later, in_cases, in_none}
use Rattle.forests.specs.Forest.{ParentsBelow}
use Rattle.orbits.specs.Finding.{member, member_in, member_not}
use Rattle.forests.specs.LeastOrder.{ready}
use Rattle.forests.specs.Greedy.{Ready}
use Rattle.forests.specs.Ready.{Decided, ready_other, ready_child, ready-missing, ready_says}
use Rattle.forests.specs.Settling.{Settled}

-- How many children of p below k are not placed.
unfoldable pub missing : (ℕ → ℕ) → List ℕ → ℕ → ℕ → ℕ
unfolding member
missing up placed p zero = 0
missing up placed p (suc c) =
    elim (eqb (up c) (suc p)) [
      | true ↦ elim (member c placed) [ true ↦ missing up placed p c | false ↦ suc (missing up placed p c) ]
      | false ↦ missing up placed p c
    ]

module _ (up : ℕ → ℕ) (placed : List ℕ) (p : ℕ) where
  pub missing_none : missing up placed p 0 ≡ 0
  unfolding missing
  missing_none = refl

  pub missing_other : (c : ℕ) → up c ≢ suc p → missing up placed p (suc c) ≡ missing up placed p c
  unfolding missing
  missing_other c h = rw (ne_eqb (up c) (suc p) h, missing)

  missing_placed : (c : ℕ) → up c ≡ suc p → In c placed → missing up placed p (suc c) ≡ missing up placed p c
  unfolding missing
  missing_placed c h i = rw (eq-eqb (up c) (suc p) h, member_in c placed i, missing)

  pub missing-more : (c : ℕ) → up c ≡ suc p → (In c placed → ⊥) → missing up placed p (suc c) ≡ suc (missing up placed p c)
  unfolding missing
  missing-more c h i = rw (eq-eqb (up c) (suc p) h, member_not c placed i, missing)

  pub missing-below : (k : ℕ) → missing up placed p k ≤ k
  missing-below zero = omega (arith, missing_none)
  missing-below (suc c) = pick (ℕ_discrete (up c) (suc p)) (in_dec c placed) (missing-below c)
    where
      pick : Dec (up c ≡ suc p) → Dec (In c placed) → missing up placed p c ≤ c → missing up placed p (suc c) ≤ suc c
      pick (no a) i ih = omega (arith, missing_other c a)
      pick (yes a) (yes i) ih = omega (arith, missing_placed c a i)
      pick (yes a) (no i) ih = omega (arith, missing-more c a i)

  -- Nothing is missing exactly when the test says so.
  ready_is_none_missing : (k : ℕ) → ready up placed p k ≡ eqb (missing up placed p k) 0
  unfolding ready missing
  ready_is_none_missing zero = refl
  ready_is_none_missing (suc c) = pick (ℕ_discrete (up c) (suc p)) (in_dec c placed) (ready_is_none_missing c)
    where
      pick : Dec (up c ≡ suc p) → Dec (In c placed) → ready up placed p c ≡ eqb (missing up placed p c) 0 → ready up placed p (suc c) ≡ eqb (missing up placed p (suc c)) 0
      pick (no a) i ih = ready_other up placed p c a ∙ ih ∙ ap (λ k. eqb k 0) (sym (missing_other c a))
      pick (yes a) (yes i) ih = ready_child up placed p c a i ∙ ih ∙ ap (λ k. eqb k 0) (sym (missing_placed c a i))
      pick (yes a) (no i) ih = ready-missing up placed p c a i ∙ sym (ne_eqb (missing up placed p (suc c)) 0 (λ z. omega (arith, missing-more c a i)))

  pub none_missing : (k : ℕ) → missing up placed p k ≡ 0 → (ready up placed p k ≡ true) × Ready k up placed p
  none_missing k z = pick (ready_says up placed p k)
    where
      pick : Decided up placed p k → (ready up placed p k ≡ true) × Ready k up placed p
      pick (inl d) = d
      pick (inr (t, n)) = absurd (false≢true (sym t ∙ ready_is_none_missing k ∙ eq-eqb (missing up placed p k) 0 z))

  pub some_missing : (k : ℕ) → missing up placed p k ≢ 0 → (ready up placed p k ≡ false) × (Ready k up placed p → ⊥)
  some_missing k z = pick (ready_says up placed p k)
    where
      pick : Decided up placed p k → (ready up placed p k ≡ false) × (Ready k up placed p → ⊥)
      pick (inl (t, r)) = absurd (false≢true (sym (ne_eqb (missing up placed p k) 0 z) ∙ sym (ready_is_none_missing k) ∙ t))
      pick (inr d) = d

-- Lists that hold the same children of p.
missing_same : (up : ℕ → ℕ) (a b : List ℕ) (p k : ℕ) → ((c : ℕ) → c < k → up c ≡ suc p → In c a → In c b) → ((c : ℕ) → c < k → up c ≡ suc p → In c b → In c a)
    → missing up a p k ≡ missing up b p k
unfolding missing
missing_same up a b p zero f g = refl
missing_same up a b p (suc c) f g =
    pick (ℕ_discrete (up c) (suc p)) (in_dec c a) (missing_same up a b p c (λ x h. f x (omega arith)) (λ x h. g x (omega arith)))
  where
    pick : Dec (up c ≡ suc p) → Dec (In c a) → missing up a p c ≡ missing up b p c → missing up a p (suc c) ≡ missing up b p (suc c)
    pick (no e) i ih = missing_other up a p c e ∙ ih ∙ sym (missing_other up b p c e)
    pick (yes e) (yes i) ih = missing_placed up a p c e i ∙ ih ∙ sym (missing_placed up b p c e (f c (omega arith) e i))
    pick (yes e) (no i) ih = missing-more up a p c e i ∙ ap suc ih ∙ sym (missing-more up b p c e (λ j. i (g c (omega arith) e j)))

module _ (up : ℕ → ℕ) (placed : List ℕ) (v : ℕ) where
  in_rest : (c : ℕ) → c ≢ v → In c (v ∷ placed) → In c placed
  in_rest c n i = pick (in_cases c v placed i)
    where
      pick : (c ≡ v) ⊎ In c placed → In c placed
      pick (inl e) = absurd (n e)
      pick (inr j) = j

  -- Placing v changes the count of its parent only.
  missing_apart : (p k : ℕ) → up v ≢ suc p → missing up (v ∷ placed) p k ≡ missing up placed p k
  missing_apart p k n =
      missing_same up (v ∷ placed) placed p k (λ c h e i. in_rest c (λ q. n (subst (λ x. up x ≡ suc p) q e)) i) (λ c h e i. in_later c v placed i)

  pub missing_child : (p k : ℕ) → v < k → up v ≡ suc p → (In v placed → ⊥) → missing up placed p k ≡ suc (missing up (v ∷ placed) p k)
  missing_child p zero h e n = absurd (omega arith)
  missing_child p (suc c) h e n = pick (ℕ_discrete c v) (ℕ_discrete (up c) (suc p)) (in_dec c placed) (λ l. missing_child p c l e n)
    where
      here : c ≡ v → missing up placed p (suc c) ≡ suc (missing up (v ∷ placed) p (suc c))
      here q =
          let ec : up c ≡ suc p = subst (λ x. up x ≡ suc p) (sym q) e in
          missing-more up placed p c ec (λ i. n (subst (λ x. In x placed) q i))
          ∙ ap suc (missing_same up placed (v ∷ placed) p c (λ x l f i. in_later x v placed i) (λ x l f i. in_rest x (λ z. absurd (omega arith)) i)
          ∙ sym (missing_placed up (v ∷ placed) p c ec (0, omega arith, sym q)))

      pick : Dec (c ≡ v) → Dec (up c ≡ suc p) → Dec (In c placed) → (v < c → missing up placed p c ≡ suc (missing up (v ∷ placed) p c))
          → missing up placed p (suc c) ≡ suc (missing up (v ∷ placed) p (suc c))
      pick (yes q) f i ih = here q
      pick (no q) (no f) i ih = missing_other up placed p c f ∙ ih (omega arith) ∙ ap suc (sym (missing_other up (v ∷ placed) p c f))
      pick (no q) (yes f) (yes i) ih = missing_placed up placed p c f i ∙ ih (omega arith) ∙ ap suc (sym (missing_placed up (v ∷ placed) p c f (in_later c v placed i)))
      pick (no q) (yes f) (no i) ih = missing-more up placed p c f i ∙ ap suc (ih (omega arith)) ∙ ap suc (sym (missing-more up (v ∷ placed) p c f (λ j. i (in_rest c q j))))

-- Before v, none of its children is placed: they are larger.
pub missing-before : (N : ℕ) (up : ℕ → ℕ) → ParentsBelow N up → (v : ℕ) (placed : List ℕ) → Settled N up v placed → missing up placed v N ≡ missing up [] v N
missing-before N up low v placed s =
    missing_same up placed [] v N (λ c h e i. absurd (omega (arith, s.within c i, low c v h e))) (λ c h e i. in_none c i)

-- The first N entries of the list are the numbers of missing children; what placing v does to them.
pub record Waits (N : ℕ) (up : ℕ → ℕ) (placed w : List ℕ) : Type 0 where
  pub long : N ≤ length w
  pub holds : (p : ℕ) → p < N → get_or w p 0 ≡ missing up placed p N

pub waits_root : (N : ℕ) (up : ℕ → ℕ) (placed w : List ℕ) (v : ℕ) → up v ≡ 0 → Waits N up placed w → Waits N up (v ∷ placed) w
waits_root N up placed w v e g = record { long = g.long; holds = λ p h. g.holds p h ∙ sym (missing_apart up placed v p N (λ q. omega arith)) }

pub waits_child : (N : ℕ) (up : ℕ → ℕ) (placed w : List ℕ) (v p : ℕ) → v < N → p < N → up v ≡ suc p → (In v placed → ⊥)
    → Waits N up placed w → Waits N up (v ∷ placed) (set w p (get_or w p 0 - 1))
waits_child N up placed w v p hv hp e n g = record { long = omega (arith, length-set w p (get_or w p 0 - 1), g.long); holds = λ q h. pick q h (ℕ_discrete q p) }
  where
    pick : (q : ℕ) → q < N → Dec (q ≡ p) → get_or (set w p (get_or w p 0 - 1)) q 0 ≡ missing up (v ∷ placed) q N
    pick q h (yes s) =
        ap (λ x. get_or (set w p (get_or w p 0 - 1)) x 0) s ∙ get_or-set_same w p (get_or w p 0 - 1) 0 (omega (arith, g.long))
        ∙ omega (arith, g.holds p hp, missing_child up placed v p N hv e n) ∙ ap (λ x. missing up (v ∷ placed) x N) (sym s)
    pick q h (no s) =
        get_or-set_other w p q (get_or w p 0 - 1) 0 s ∙ g.holds q h ∙ sym (missing_apart up placed v q N (λ f. s (omega arith)))
