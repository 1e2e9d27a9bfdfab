-- What following the bytes says, case by case: document 01's number, 17 or 0, and how many corners there are.
use Rattle.std.specs.Prelude.{◌≡◌, Bool, not, List, ℕ, Option, None, Some}
use Rattle.std.proofs.Math.Path.{refl}
use Rattle.std.proofs.Common.{sym, ap, ◌∙◌, arith}
use Rattle.std.proofs.Math.Bool.{true, false, cond}
use Rattle.std.proofs.Math.ListN.{length}
use Rattle.sequences.specs.Cases.{when}

abbrev pub number_said : Option ℕ → ℕ
number_said None = 17
number_said (Some k) = 0

abbrev pub count_said : Option ℕ → ℕ
count_said None = 0
count_said (Some k) = k

-- The promise where the bytes pass a test or not, and the corners that they have if they do.
pub record Follows (test : Bool) (corners : List ℕ) (answer : Option ℕ) : Type 0 where
  pub number_is : number_said answer ≡ when (not test) 17
  pub count_is : count_said answer ≡ cond test (length corners) 0

module _ {test : Bool} {corners : List ℕ} where
  pub no_chain : test ≡ false → Follows test corners None
  unfolding when
  no_chain h = rw h (record { number_is = refl; count_is = refl })

  pub all_corners_lem : {k : ℕ} → test ≡ true → k ≡ length corners → Follows test corners (Some k)
  unfolding when
  all_corners_lem h e = rw h (record { number_is = refl; count_is = e })

  module _ {answer : Option ℕ} (f : Follows test corners answer) where
    pub said_none : answer ≡ None → test ≡ false
    unfolding when
    said_none e = pick test refl (sym (ap number_said e) ∙ f.number_is)
      where
        pick : (t : Bool) → test ≡ t → 17 ≡ when (not t) 17 → test ≡ false
        pick true h q = absurd (omega (arith, q))
        pick false h q = h

    pub said_some : {k : ℕ} → answer ≡ Some k → (test ≡ true) × (k ≡ length corners)
    unfolding when
    said_some {k} e = pick test refl (sym (ap number_said e) ∙ f.number_is) (sym (ap count_said e) ∙ f.count_is)
      where
        pick : (t : Bool) → test ≡ t → 0 ≡ when (not t) 17 → k ≡ cond t (length corners) 0 → (test ≡ true) × (k ≡ length corners)
        pick true h q c = (h, c)
        pick false h q c = absurd (omega (arith, q))
