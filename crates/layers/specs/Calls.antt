-- Calls that lay one block list over another, one after the other, in any order and grouping.
use Rattle.std.specs.Prelude.{◌≡◌, List, [], ◌∷◌, ◌++◌, ℕ, ◌^◌, length, take}
use Rattle.quadtree.specs.BlockLists.{BlockList, list_of, number_of, RoomFor}
use Rattle.answers.specs.declared.Written.{Written}
use Rattle.block_answers.specs.BlockWriters.{result_of}
use Rattle.overlaying.specs.Promise.{Overlay}

-- What a call leaves: the three lists at exit, and its answer.
pub record Out : Type 0 where
  pub lists : BlockList
  pub answer : Written

abbrev pub result : Out → BlockList
result o = result_of o.lists o.answer

-- A call that laid a over b. It was lent "output lists of the stated length" (document 02, request l), "three lists of 4^n" (request b),
-- whatever stood in them.
pub record Call (n : ℕ) (a b : BlockList) (o : Out) : Type 0 where
  pub lent : BlockList
  pub room : RoomFor (4 ^ n) lent
  pub promise : Overlay n a b lent o.lists o.answer

-- Scans laid over one another: the scans in this order, and the list in the end. The grouping is a binary tree. At each leaf stands a scan,
-- an accepted list; at each fork stands a call, which is given what both branches end with.
pub data Laid (n : ℕ) : List BlockList → BlockList → Type 0 where
  leaf : {a : BlockList} → number_of n a ≡ 0 → Laid n (a ∷ []) a
  fork : {xs ys : List BlockList} {a b : BlockList} {o : Out} → Laid n xs a → Laid n ys b → Call n a b o → Laid n (xs ++ ys) (result o)

-- Each of its calls answers 0.
unfoldable pub AllAnswered : {n : ℕ} {xs : List BlockList} {a : BlockList} → Laid n xs a → Type 0
AllAnswered (leaf e) = Unit {0}
AllAnswered (fork {o = o} s t c) = AllAnswered s × AllAnswered t × (o.answer.number ≡ 0)

-- "the single block of level n and colour 0" (document 02, request l).
abbrev pub single_block : ℕ → BlockList
single_block n = list_of (0 ∷ []) (n ∷ []) (0 ∷ [])

-- A call gives the list a, "block for block" (document 02, request l): it answers 0 and the number of blocks of a, and up to there its
-- lists are those of a.
pub record Gives (a : BlockList) (o : Out) : Type 0 where
  pub answered : o.answer.number ≡ 0
  pub counted : o.answer.count ≡ length a.codes
  pub in_codes : take o.answer.count o.lists.codes ≡ a.codes
  pub in_levels : take o.answer.count o.lists.levels ≡ a.levels
  pub in_colours : take o.answer.count o.lists.colours ≡ a.colours

-- Two calls give one list, "block for block".
pub record SameList (o p : Out) : Type 0 where
  pub first_answered : o.answer.number ≡ 0
  pub second_answered : p.answer.number ≡ 0
  pub counted : o.answer.count ≡ p.answer.count
  pub in_codes : take o.answer.count o.lists.codes ≡ take p.answer.count p.lists.codes
  pub in_levels : take o.answer.count o.lists.levels ≡ take p.answer.count p.lists.levels
  pub in_colours : take o.answer.count o.lists.colours ≡ take p.answer.count p.lists.colours
