-- The queue of open outlines, from the front to the back, and what an opening and a turn do with it (document 02, request k).
use Rattle.std.specs.Prelude.{◌≡◌, Bool, true, false, cond, ◌||◌, List, [], ◌∷◌, ◌++◌, ℕ, ◌+◌, ◌-◌, ◌≤◌, ◌<◌, length, take, drop, eqb, ltb, leb}
use Rattle.std.proofs.Math.Path.{refl}
use borrow.Author.Tests.{le-leb, lt-leb, lt-ltb, le-ltb}
use Rattle.sequences.specs.Cases.{first, when}
use Rattle.stretches.specs.Stretch.{stretch_of}
use Rattle.serving.specs.declared.OpenOutline.{OpenOutline}

-- ---- opening

-- Whether cycle k is open.
unfoldable pub is_open : ℕ → List OpenOutline → Bool
is_open k [] = false
is_open k (o ∷ q) = eqb o.cycle k || is_open k q

-- "on opening, new 22 (cycle not below the count), new 23 (already open), new 24 (eight open), in that order": of cycle k.
unfoldable pub opening_number : List OpenOutline → ℕ → ℕ → ℕ
unfolding first when is_open
opening_number q k count = first (when (leb count k) 22) (first (when (is_open k q) 23) (when (leb 8 (length q)) 24))

-- "A new one joins at the back", with nothing handed out.
unfoldable pub joined : List OpenOutline → ℕ → List OpenOutline
joined q k = q ++ record { cycle = k; handed = 0 } ∷ []

-- ---- a turn

-- The lists and the count of cycles that are lent for a turn.
pub record Lists : Type 0 where
  pub corners : List ℕ
  pub ends : List ℕ
  pub cycles : ℕ

abbrev pub lists : List ℕ → List ℕ → ℕ → Lists
lists corners ends count = record { corners = corners; ends = ends; cycles = count }

-- The corners of cycle k in them.
unfoldable pub stretch_in : Lists → ℕ → List ℕ
stretch_in l k = stretch_of l.corners l.ends l.cycles k

-- "the corners still due, which are those of the cycle's stretch in the lists lent for this turn less those already handed out, and none
-- below zero".
unfoldable pub due_of : Lists → OpenOutline → ℕ
unfolding stretch_in
due_of l o = length (stretch_in l o.cycle) - o.handed

-- "A turn hands out up to 16 further corners of one open outline .. The corners follow in order from the first".
unfoldable pub corners_handed_out : Lists → OpenOutline → List ℕ
unfolding stretch_in
corners_handed_out l o = take 16 (drop o.handed (stretch_in l o.cycle))

-- "if more is due it goes to the back, else it closes and its place serves again": the queue after its front, o, was served, of which so
-- many corners were due; q stood behind it.
unfoldable pub after_serving : ℕ → OpenOutline → List OpenOutline → List OpenOutline
after_serving due o q = cond (ltb 16 due) (q ++ record { cycle = o.cycle; handed = o.handed + 16 } ∷ []) q

-- ---- the number, cause by cause

module _ (q : List OpenOutline) (k count : ℕ) where
  pub not-below : count ≤ k → opening_number q k count ≡ 22
  unfolding opening_number first when
  not-below h = rw (le-leb count k h) refl

  module _ (below : k < count) where
    pub already_open : is_open k q ≡ true → opening_number q k count ≡ 23
    unfolding opening_number first when
    already_open h = rw (lt-leb count k below, h) refl

    pub eight_open : is_open k q ≡ false → 8 ≤ length q → opening_number q k count ≡ 24
    unfolding opening_number first when
    eight_open h full = rw (lt-leb count k below, h, le-leb 8 (length q) full) refl

    pub may_open : is_open k q ≡ false → length q < 8 → opening_number q k count ≡ 0
    unfolding opening_number first when
    may_open h room = rw (lt-leb count k below, h, lt-leb 8 (length q) room) refl

-- ---- the queue after a turn

module _ (due : ℕ) (o : OpenOutline) (q : List OpenOutline) where
  pub to_the_back : 16 < due → after_serving due o q ≡ q ++ record { cycle = o.cycle; handed = o.handed + 16 } ∷ []
  unfolding after_serving
  to_the_back h = rw (lt-ltb 16 due h) refl

  pub closes : due ≤ 16 → after_serving due o q ≡ q
  unfolding after_serving
  closes h = rw (le-ltb 16 due h) refl
