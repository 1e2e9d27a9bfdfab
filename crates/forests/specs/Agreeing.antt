-- Two ways to give the parents of the numbers below N: where they agree there, the test of an order is the same.
use Rattle.std.specs.Prelude.{◌≡◌, List, ℕ, ◌<◌}
use Rattle.std.proofs.Common.{sym, ◌∙◌}
use Rattle.sequences.specs.Cases.{same_test}
use Rattle.forests.specs.Forest.{ParentsBelow}
use Rattle.forests.specs.Orders.{EachOnce, ChildrenFirst}
use Rattle.forests.specs.Checking.{is_children_first, children_first_says}

module _ (N : ℕ) (up other : ℕ → ℕ) (same : (v : ℕ) → v < N → up v ≡ other v) where
  pub parents_below_same : ParentsBelow N up → ParentsBelow N other
  parents_below_same low v p h e = low v p h (same v h ∙ e)

  children_first_same : (l : List ℕ) → EachOnce N l → ChildrenFirst up l → ChildrenFirst other l
  children_first_same l each f s p e i j hi hj x y = f s p (same s (each.below s (i, hi, x)) ∙ e) i j hi hj x y

  children_first_back : (l : List ℕ) → EachOnce N l → ChildrenFirst other l → ChildrenFirst up l
  children_first_back l each f s p e i j hi hj x y = f s p (sym (same s (each.below s (i, hi, x))) ∙ e) i j hi hj x y

  pub test_same : ParentsBelow N up → (l : List ℕ) → EachOnce N l → is_children_first up l ≡ is_children_first other l
  test_same low l each =
      let a = children_first_says N up low l each in
      let b = children_first_says N other (parents_below_same low) l each in
      same_test (is_children_first up l) (is_children_first other l) (λ h. b.1 (children_first_same l each (a.0 h))) (λ h. a.1 (children_first_back l each (b.0 h)))
