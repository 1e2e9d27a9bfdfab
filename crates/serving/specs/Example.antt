-- Outlines of 20, 4 and 16 corners served by turns, and each number of an opening, computed.
use Rattle.std.specs.Prelude.{◌≡◌, refl, false, List, [], ◌∷◌, map, ℕ, zero, suc}
use Rattle.sequences.specs.Ranges.{range}
use Rattle.stretches.specs.Stretch.{holds, start_of, length_of, stretch_of}
use Rattle.serving.specs.declared.State.{State}
use Rattle.serving.specs.Queue.{Lists}
use Rattle.serving.specs.States.{fresh}
use Rattle.serving.specs.Promise.{opened, turned}

-- Corner i is the number i, so that those handed out are easily told.
abbrev three : Lists
three = record { corners = range 0 40; ends = 20 ∷ 24 ∷ 40 ∷ []; cycles = 3 }

abbrev begun : State
begun = (opened (opened (opened fresh 0 3).state 1 3).state 2 3).state

-- The state after so many turns.
abbrev after : ℕ → State
after zero = begun
after (suc n) = (turned (after n) three).state

-- Which cycle each turn serves, and with how many corners: the first goes to the back after its 16, the third closes with its 16.
by_turns_lem : ◌≡◌ {A = List (List ℕ)}
    (map (λ (n : ℕ). (turned (after n) three).cycle ∷ (turned (after n) three).count ∷ []) (0 ∷ 1 ∷ 2 ∷ 3 ∷ []))
    ((0 ∷ 16 ∷ []) ∷ (1 ∷ 4 ∷ []) ∷ (2 ∷ 16 ∷ []) ∷ (0 ∷ 4 ∷ []) ∷ [])
unfolding opened turned fresh stretch_of length_of start_of holds range
by_turns_lem = refl

-- The fourth turn hands out what follows the first 16; then none is open.
rest_of_the_first : (turned (after 3) three).places ≡ 16 ∷ 17 ∷ 18 ∷ 19 ∷ 0 ∷ 0 ∷ 0 ∷ 0 ∷ 0 ∷ 0 ∷ 0 ∷ 0 ∷ 0 ∷ 0 ∷ 0 ∷ 0 ∷ []
unfolding opened turned fresh stretch_of length_of start_of holds range
rest_of_the_first = refl

then_none : (turned (after 4) three).served ≡ false
unfolding opened turned fresh stretch_of length_of start_of holds range
then_none = refl

-- The first so many cycles of nine are open.
abbrev filled : ℕ → State
filled zero = fresh
filled (suc k) = (opened (filled k) k 9).state

-- The next of nine; one that is open; one more where eight are; one of these eight; one that is not below the count, though it is open.
numbers : ◌≡◌ {A = List ℕ}
    ((opened (filled 3) 3 9).number ∷ (opened (filled 3) 1 9).number
    ∷ (opened (filled 8) 8 9).number ∷ (opened (filled 8) 5 9).number ∷ (opened (filled 8) 5 5).number ∷ [])
    (0 ∷ 23 ∷ 24 ∷ 23 ∷ 22 ∷ [])
unfolding opened fresh
numbers = refl
