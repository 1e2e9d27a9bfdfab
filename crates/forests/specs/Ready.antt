-- The tests and branches of the least order, each in words.
use Rattle.std.specs.Prelude.{◌≡◌, refl, ◌≢◌, ◌⊎◌, true, false, List, [], ◌∷◌, ◌++◌}
use Rattle.std.proofs.Common.{sym, ◌∙◌, inr, eq-eqb, ne_eqb}
use Rattle.std.proofs.Math.Path.{subst}
use Rattle.std.proofs.Math.Logic.{inl}
use Prim.Native.Nat.{ℕ, zero, suc, ◌<◌}
use Rattle.std.proofs.Math.Decide.{ℕ_discrete, dec_lt}
use native.Mathlib.Omega.{arith}
use Rattle.orbits.specs.Members.{In, in_dec}
use Rattle.orbits.specs.Finding.{member_in, member_not}
use Rattle.forests.specs.LeastOrder.{ready, climb, after, order_from}
use Rattle.forests.specs.Greedy.{Ready}

module _ (up : ℕ → ℕ) (placed : List ℕ) (p : ℕ) where
  pub ready_other : (c : ℕ) → up c ≢ suc p → ready up placed p (suc c) ≡ ready up placed p c
  unfolding ready
  ready_other c h = rw (ne_eqb (up c) (suc p) h, ready)

  pub ready_child : (c : ℕ) → up c ≡ suc p → In c placed → ready up placed p (suc c) ≡ ready up placed p c
  unfolding ready
  ready_child c h i = rw (eq-eqb (up c) (suc p) h, member_in c placed i, ready)

  pub ready-missing : (c : ℕ) → up c ≡ suc p → (In c placed → ⊥) → ready up placed p (suc c) ≡ false
  unfolding ready
  ready-missing c h i = rw (eq-eqb (up c) (suc p) h, member_not c placed i, ready)

  -- What the test says of the children below k.
  abbrev pub Decided : ℕ → Type 0
  Decided k = ((ready up placed p k ≡ true) × Ready k up placed p) ⊎ ((ready up placed p k ≡ false) × (Ready k up placed p → ⊥))

  pub ready_says : (k : ℕ) → Decided k
  unfolding ready
  ready_says zero = inl (refl, λ c h e. absurd (omega arith))
  ready_says (suc k) = pick (ℕ_discrete (up k) (suc p)) (in_dec k placed) (ready_says k)
    where
      more : (up k ≡ suc p → In k placed) → Ready k up placed p → Ready (suc k) up placed p
      more f r c h e = one (dec_lt c k)
        where
          one : Dec (c < k) → In c placed
          one (yes l) = r c l e
          one (no l) = let s : c ≡ k = omega arith in subst (λ x. In x placed) (sym s) (f (subst (λ x. up x ≡ suc p) s e))

      less : Ready (suc k) up placed p → Ready k up placed p
      less r c h e = r c (omega arith) e

      on : ready up placed p (suc k) ≡ ready up placed p k → (up k ≡ suc p → In k placed) → Decided k → Decided (suc k)
      on q f (inl (t, r)) = inl (q ∙ t, more f r)
      on q f (inr (t, n)) = inr (q ∙ t, λ r. n (less r))

      pick : Dec (up k ≡ suc p) → Dec (In k placed) → Decided k → Decided (suc k)
      pick (no a) i d = on (ready_other k a) (λ e. absurd (a e)) d
      pick (yes a) (yes i) d = on (ready_child k a i) (λ e. i) d
      pick (yes a) (no i) d = inr (ready-missing k a i, λ r. i (r k (omega arith) a))

module _ (N : ℕ) (up : ℕ → ℕ) (placed : List ℕ) (k v : ℕ) where
  pub climb-top : up v ≡ 0 → climb N up placed (suc k) v ≡ []
  unfolding climb
  climb-top h = rw (h, climb)

  pub climb_wait : (p : ℕ) → up v ≡ suc p → ready up placed p N ≡ false → climb N up placed (suc k) v ≡ []
  unfolding climb
  climb_wait p h r = rw (h, r, climb)

  pub climb_on : (p : ℕ) → up v ≡ suc p → ready up placed p N ≡ true → climb N up placed (suc k) v ≡ p ∷ climb N up (p ∷ placed) k p
  unfolding climb
  climb_on p h r = rw (h, r, climb)

  pub order_leaf : ready up [] v N ≡ true
      → order_from N up (suc k) v placed ≡ (v ∷ climb N up (v ∷ placed) v v) ++ order_from N up k (suc v) (after (v ∷ climb N up (v ∷ placed) v v) placed)
  unfolding order_from
  order_leaf r = rw (r, order_from)

  pub order_pass : ready up [] v N ≡ false → order_from N up (suc k) v placed ≡ order_from N up k (suc v) placed
  unfolding order_from
  order_pass r = rw (r, order_from)
