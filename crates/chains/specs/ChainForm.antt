-- The form of a chain (cause 17): "bytes 48 to 51 only, start and every point within 0 to 256, closed, first digit 0, last
-- digit 1 or 3, no digit followed by its opposite, at most 262,144 corners" (document 01).
use Rattle.std.specs.Prelude.{◌≡◌, ◌≢◌, ◌⊎◌, Bool, true, false, not, ◌&&◌, ◌||◌, List, [], ◌∷◌, ℕ, zero, suc, ◌+◌, ◌-◌, ◌≤◌, ◌<◌, eqb, leb, ltb, length, get_or}
use Rattle.lattice.specs.Directions.{x_of, y_of, move, opposite, edge}
use Rattle.lattice.specs.Walks.{corners, last_of}
use Rattle.lattice.specs.CycleForm.{inside}
use Rattle.answers.specs.Answers.{Writes, writer_number}
use Rattle.answers.specs.declared.Written.{Written}

-- The digit of a byte.
unfoldable pub digit_of : ℕ → ℕ
digit_of b = b - 48

-- The unit edges that the bytes walk from the point p.
unfoldable pub walk : ℕ → List ℕ → List ℕ
unfolding digit_of
walk p [] = []
walk p (b ∷ bs) = edge p (digit_of b) ∷ walk (move (digit_of b) p) bs

-- A byte 48 to 51.
unfoldable pub is_direction : ℕ → Bool
is_direction b = leb 48 b && leb b 51

-- One unit with the digit d from p ends within 0 to 256.
unfoldable pub free : ℕ → ℕ → Bool
free zero p = ltb (x_of p) 256
free (suc zero) p = ltb 0 (y_of p)
free (suc (suc zero)) p = ltb 0 (x_of p)
free (suc (suc (suc d))) p = ltb (y_of p) 256

-- The byte b at the point p after the digit d: a digit, not the opposite of d, and it stays within.
unfoldable pub allowed : ℕ → ℕ → ℕ → Bool
allowed d p b = is_direction b && (not (eqb (digit_of b) (opposite d)) && free (digit_of b) p)

-- So for all bytes, and they lead to the point `close`.
unfoldable pub leads : ℕ → ℕ → List ℕ → ℕ → Bool
leads d p [] close = eqb p close
leads d p (b ∷ bs) close = elim (allowed d p b) [ true ↦ leads (digit_of b) (move (digit_of b) p) bs close | false ↦ false ]

-- "first digit 0": eastward.
unfoldable pub first_east : List ℕ → Bool
first_east bs = eqb (get_or bs 0 0) 48

-- "last digit 1 or 3": along y, across the first.
unfoldable pub last_byte : List ℕ → ℕ
last_byte bs = last_of 0 bs

unfoldable pub is_across : ℕ → Bool
is_across b = eqb b 49 || eqb b 51

unfoldable pub last_across : List ℕ → Bool
last_across bs = is_across (last_byte bs)

-- "closed": each byte may stand where it does, the last before the first, and they lead back to the start.
unfoldable pub closes : ℕ → List ℕ → Bool
closes start bs = leads (digit_of (last_byte bs)) start bs start

-- "gives the corners" (document 01, "Path, chain and picture").
unfoldable pub corners_of : ℕ → List ℕ → List ℕ
corners_of start bs = corners (walk start bs)

-- All of it, in the order in which the code asks.
unfoldable pub chain_form : ℕ → List ℕ → Bool
chain_form start bs = inside start && (first_east bs && (last_across bs && (closes start bs && leb (length (corners_of start bs)) 262144)))

-- "Chain corners, their number" (document 01, needs).
unfoldable pub read_number : ℕ → List ℕ → List ℕ → ℕ
read_number start bs list = writer_number 17 (chain_form start bs) (length (corners_of start bs)) (length list)

-- What the reader promises of the start, the bytes, the corner list before and after, and the answer.
abbrev pub ChainRead : ℕ → List ℕ → List ℕ → List ℕ → Written → Type 0
ChainRead start bs list list' answer = Writes (read_number start bs list) (corners_of start bs) list list' answer

-- The form in words about each byte; `ChainTest` has that the test holds exactly for it. The point after i bytes:
unfoldable pub point_at : ℕ → List ℕ → ℕ → ℕ
point_at p bs zero = p
point_at p [] (suc i) = p
point_at p (b ∷ bs) (suc i) = point_at (move (digit_of b) p) bs i

pub record ChainForm (start : ℕ) (bs : List ℕ) : Type 0 where
  pub bytes_from : (i : ℕ) → i < length bs → 48 ≤ get_or bs i 0
  pub bytes_to : (i : ℕ) → i < length bs → get_or bs i 0 ≤ 51
  pub start_within : (x_of start ≤ 256) × (y_of start ≤ 256)
  pub points_within : (i : ℕ) → i < length bs → free (digit_of (get_or bs i 0)) (point_at start bs i) ≡ true
  pub closed : point_at start bs (length bs) ≡ start
  pub first-digit : get_or bs 0 0 ≡ 48
  pub last_digit : (last_byte bs ≡ 49) ⊎ (last_byte bs ≡ 51)
  pub no_reversal : (i : ℕ) → i + 1 < length bs → digit_of (get_or bs (i + 1) 0) ≢ opposite (digit_of (get_or bs i 0))
  pub at_most : length (corners_of start bs) ≤ 262144
