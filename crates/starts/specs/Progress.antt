-- The listing under way: what the lent lists hold after the first cycles, and how one stretch of pixels leads on to the next.
use Rattle.std.specs.Prelude.{◌≡◌, refl, ℕ, ◌+◌, ◌-◌, ◌*◌, ◌^◌, ◌≤◌, take, drop, get_or, ℤ}
use Rattle.std.proofs.Math.Path.{sym, ap}
use Rattle.std.proofs.Common.{◌∙◌, subst, arith, length-append, take-add, drop-drop}
use mathlib.Core.List.{List, [], ◌∷◌, ◌++◌}
use Rattle.std.proofs.Math.ListN.{length}
use Rattle.sequences.specs.Over.{over, length_over}
use Rattle.grid.specs.Cycles.{is_start}
use Rattle.grid.specs.Listing.{keep, owners, ends, all_corners, areas, corner_count}
use Rattle.links.specs.OverTwice.{over_twice}
use Rattle.links.specs.Ahead.{all_starts, Ahead, ahead_first, ahead_after, keep_append, MarksOf}
use Rattle.links.specs.FirstCycles.{first_cycles, starts_few, length-first-owners, length-first-ends, length-first-areas, corners_room, count_grows}
use Rattle.cycles.specs.Mapped.{nums_of, Mapped, Marked}
use Rattle.cycles.specs.Promise.{cycle_marked}
use Rattle.starts.specs.declared.Counts.{Counts}
use Rattle.std.specs.Borrow.{Bor, MutBor}
use denote.Triple.Both.{Both}

-- What is lent and counted while cycles are listed: the work list with the map in front, the owner, end, corner and area lists, and how
-- many cycles and corners are written.
pub record State : Type 0 where
  pub work : List ℕ
  pub owned : List ℕ
  pub ended : List ℕ
  pub points : List ℕ
  pub sums : List ℤ
  pub cycles : ℕ
  pub corners : ℕ

abbrev pub state : List ℕ → List ℕ → List ℕ → List ℕ → List ℤ → Counts → State
state work owned ended points sums k =
    record { work = work; owned = owned; ended = ended; points = points; sums = sums; cycles = k.cycles; corners = k.corners }

-- Nothing is written yet.
abbrev pub none_counted : Counts
none_counted = record { cycles = 0; corners = 0 }

-- A list that a function was lent: as it was at entry, and as it is at exit.
abbrev pub LentList : Type 0 → Type 0
LentList A = Both (Bor (List A)) (Bor (List A))

-- The same of a list that it was lent to change.
abbrev pub LentToChange : Type 0 → Type 0
LentToChange A = Both (MutBor (List A)) (MutBor (List A))

-- The lists of a state as a function found them, with the counts that it was given; and as it leaves them, with those that it returns.
abbrev pub entry_state : LentToChange ℕ → LentToChange ℕ → LentToChange ℕ → LentToChange ℕ → LentToChange ℤ → Counts → State
entry_state work owned ended points sums k = state work.entry.now owned.entry.now ended.entry.now points.entry.now sums.entry.now k

abbrev pub exit_state : LentToChange ℕ → LentToChange ℕ → LentToChange ℕ → LentToChange ℕ → LentToChange ℤ → Counts → State
exit_state work owned ended points sums k = state work.exit.now owned.exit.now ended.exit.now points.exit.now sums.exit.now k

-- "Owner and end lists, 4^n each. Corners, 4 times 4^n" (document 01, "When the answer is a number"); "the area list needs 4^n entries"
-- (document 02, request c).
pub record CycleRoom (n : ℕ) (s : State) : Type 0 where
  pub small : n ≤ 8
  pub for_owners : 4 ^ n ≤ length s.owned
  pub for_ends : 4 ^ n ≤ length s.ended
  pub for_corners : 4 * 4 ^ n ≤ length s.points
  pub for_areas : 4 ^ n ≤ length s.sums

-- The map with the marks of the cycles that start at these pixels, one after the other.
unfoldable pub cycles_marked : ℕ → List ℕ → List ℕ → List ℕ
unfolding cycle_marked
cycles_marked n [] map = map
cycles_marked n (c ∷ cs) map = cycles_marked n cs (cycle_marked n map c)

-- The starts of the cycles that follow the first k, up to the first k'.
abbrev pub starts_between : ℕ → List ℕ → ℕ → ℕ → List ℕ
starts_between n nums k k' = take (k' - k) (drop k (all_starts n nums))

-- The first cycles of the listing stand in the lists of s, laid over those of s₀, and just their eastward edges are marked: those of the
-- cycles that s has besides s₀ are marked besides.
pub record Listed (n : ℕ) (nums : List ℕ) (s₀ s : State) : Type 0 where
  pub few : s.cycles ≤ length (all_starts n nums)
  pub in_owners : s.owned ≡ over (owners (first_cycles n nums s.cycles)) s₀.owned
  pub in_ends : s.ended ≡ over (ends (first_cycles n nums s.cycles)) s₀.ended
  pub in_corners : s.points ≡ over (all_corners (first_cycles n nums s.cycles)) s₀.points
  pub in_areas : s.sums ≡ over (areas (first_cycles n nums s.cycles)) s₀.sums
  pub corners_so_far : s.corners ≡ corner_count (first_cycles n nums s.cycles)
  pub in_work : s.work ≡ cycles_marked n (starts_between n nums s₀.cycles s.cycles) s₀.work
  pub mapped : Mapped n s.work
  pub numbers : nums_of n s.work ≡ nums
  pub marks : MarksOf n nums (take s.cycles (all_starts n nums)) (Marked n s.work)
  pub long : length s.work ≡ length s₀.work
  pub beyond : (j : ℕ) → 4 ^ n ≤ j → get_or s.work j 0 ≡ get_or s₀.work j 0

-- The lists hold the first cycles, and the pixels cs come next.
pub record PixelsNext (n : ℕ) (cs : List ℕ) (s : State) : Type 0 where
  pub room : CycleRoom n s
  pub listed : Listed n (nums_of n s.work) s s
  pub ahead : Ahead n (nums_of n s.work) cs s.cycles

-- The cycles that start at the pixels cs are listed besides.
pub record StartsListed (n : ℕ) (cs : List ℕ) (s₀ s : State) : Type 0 where
  pub counted : s.cycles ≡ s₀.cycles + length (keep (is_start n (nums_of n s₀.work)) cs)
  pub listed : Listed n (nums_of n s₀.work) s₀ s

-- ---- lengths

module _ {n : ℕ} {nums : List ℕ} {s₀ s : State} (room : CycleRoom n s₀) (l : Listed n nums s₀ s) where
  pub same_owners : length s.owned ≡ length s₀.owned
  same_owners =
      ap length l.in_owners
      ∙ length_over (owners (first_cycles n nums s.cycles)) s₀.owned (omega (arith, length-first-owners n nums s.cycles l.few, l.few, starts_few n nums, room.for_owners))

  pub same_ends : length s.ended ≡ length s₀.ended
  same_ends =
      ap length l.in_ends
      ∙ length_over (ends (first_cycles n nums s.cycles)) s₀.ended (omega (arith, length-first-ends n nums s.cycles l.few, l.few, starts_few n nums, room.for_ends))

  pub same_corners : length s.points ≡ length s₀.points
  unfolding corner_count
  same_corners =
      ap length l.in_corners
      ∙ length_over (all_corners (first_cycles n nums s.cycles)) s₀.points (omega (arith, corners_room n nums room.small s.cycles, room.for_corners))

  pub same_areas : length s.sums ≡ length s₀.sums
  same_areas =
      ap length l.in_areas
      ∙ length_over (areas (first_cycles n nums s.cycles)) s₀.sums (omega (arith, length-first-areas n nums s.cycles l.few, l.few, starts_few n nums, room.for_areas))

  pub room_after : CycleRoom n s
  room_after = record {
    small = room.small;
    for_owners = omega (arith, same_owners, room.for_owners);
    for_ends = omega (arith, same_ends, room.for_ends);
    for_corners = omega (arith, same_corners, room.for_corners);
    for_areas = omega (arith, same_areas, room.for_areas);
  }

-- ---- one stretch after the other

marked_append : (n : ℕ) (xs ys map : List ℕ) → cycles_marked n (xs ++ ys) map ≡ cycles_marked n ys (cycles_marked n xs map)
unfolding cycles_marked
marked_append n [] ys map = refl
marked_append n (x ∷ xs) ys map = marked_append n xs ys (cycle_marked n map x)

between_then : (n : ℕ) (nums : List ℕ) (a b c : ℕ) → a ≤ b → b ≤ c → starts_between n nums a c ≡ starts_between n nums a b ++ starts_between n nums b c
between_then n nums a b c h k =
    let e : c - a ≡ b - a + (c - b) = omega arith in
    let f : a + (b - a) ≡ b = omega arith in
    ap (λ (z : ℕ). take z (drop a (all_starts n nums))) e
    ∙ take-add (b - a) (c - b) (drop a (all_starts n nums))
    ∙ ap (λ (l : List ℕ). starts_between n nums a b ++ take (c - b) l) (drop-drop (b - a) a (all_starts n nums) ∙ ap (λ (z : ℕ). drop z (all_starts n nums)) f)

pub none_between : (n : ℕ) (nums : List ℕ) (k : ℕ) (map : List ℕ) → map ≡ cycles_marked n (starts_between n nums k k) map
unfolding cycles_marked
none_between n nums k map = let e : 0 ≡ k - k = omega arith in ap (λ (z : ℕ). cycles_marked n (take z (drop k (all_starts n nums))) map) e

module _ {n : ℕ} {nums : List ℕ} where
  pub listed_then : {s₀ s₁ s₂ : State} → Listed n nums s₀ s₁ → Listed n nums s₁ s₂ → s₀.cycles ≤ s₁.cycles → s₁.cycles ≤ s₂.cycles → Listed n nums s₀ s₂
  unfolding corner_count
  listed_then {s₀} {s₁} {s₂} a b l h = record {
    few = b.few;
    in_owners =
        b.in_owners ∙ ap (over (owners (first_cycles n nums s₂.cycles))) a.in_owners
        ∙ over_twice (owners (first_cycles n nums s₂.cycles)) (owners (first_cycles n nums s₁.cycles)) s₀.owned
        (omega (arith, length-first-owners n nums s₁.cycles a.few, length-first-owners n nums s₂.cycles b.few));
    in_ends =
        b.in_ends ∙ ap (over (ends (first_cycles n nums s₂.cycles))) a.in_ends
        ∙ over_twice (ends (first_cycles n nums s₂.cycles)) (ends (first_cycles n nums s₁.cycles)) s₀.ended
        (omega (arith, length-first-ends n nums s₁.cycles a.few, length-first-ends n nums s₂.cycles b.few));
    in_corners =
        b.in_corners ∙ ap (over (all_corners (first_cycles n nums s₂.cycles))) a.in_corners
        ∙ over_twice (all_corners (first_cycles n nums s₂.cycles)) (all_corners (first_cycles n nums s₁.cycles)) s₀.points
        (count_grows n nums s₁.cycles s₂.cycles h);
    in_areas =
        b.in_areas ∙ ap (over (areas (first_cycles n nums s₂.cycles))) a.in_areas
        ∙ over_twice (areas (first_cycles n nums s₂.cycles)) (areas (first_cycles n nums s₁.cycles)) s₀.sums
        (omega (arith, length-first-areas n nums s₁.cycles a.few, length-first-areas n nums s₂.cycles b.few));
    corners_so_far = b.corners_so_far;
    in_work =
        b.in_work ∙ ap (cycles_marked n (starts_between n nums s₁.cycles s₂.cycles)) a.in_work
        ∙ sym (marked_append n (starts_between n nums s₀.cycles s₁.cycles) (starts_between n nums s₁.cycles s₂.cycles) s₀.work)
        ∙ ap (λ (cs : List ℕ). cycles_marked n cs s₀.work) (sym (between_then n nums s₀.cycles s₁.cycles s₂.cycles l h));
    mapped = b.mapped;
    numbers = b.numbers;
    marks = b.marks;
    long = b.long ∙ a.long;
    beyond = λ j l. b.beyond j l ∙ a.beyond j l;
  }

  -- Lists that hold the first cycles hold them over themselves.
  pub listed_self : {s₀ s : State} → Listed n nums s₀ s → Listed n nums s s
  listed_self {s₀} {s} a = record {
    few = a.few;
    in_owners = again (owners (first_cycles n nums s.cycles)) s.owned s₀.owned a.in_owners;
    in_ends = again (ends (first_cycles n nums s.cycles)) s.ended s₀.ended a.in_ends;
    in_corners = again (all_corners (first_cycles n nums s.cycles)) s.points s₀.points a.in_corners;
    in_areas = again (areas (first_cycles n nums s.cycles)) s.sums s₀.sums a.in_areas;
    corners_so_far = a.corners_so_far;
    in_work = none_between n nums s.cycles s.work;
    mapped = a.mapped;
    numbers = a.numbers;
    marks = a.marks;
    long = refl;
    beyond = λ j l. refl;
  }
    where
      again : {A : Type 0} (new list old : List A) → list ≡ over new old → list ≡ over new list
      again new list old e = e ∙ sym (ap (over new) e ∙ over_twice new new old (omega arith))

module _ {n : ℕ} where
  pub none_listed : {cs : List ℕ} {s : State} → PixelsNext n cs s → StartsListed n [] s s
  unfolding keep
  none_listed a = record { counted = omega arith; listed = a.listed }

  pub next-first : {s : State} (xs ys : List ℕ) → PixelsNext n (xs ++ ys) s → PixelsNext n xs s
  next-first {s} xs ys a = record { room = a.room; listed = a.listed; ahead = ahead_first xs ys s.cycles a.ahead }

  pub next-after : {s₀ s : State} (xs ys : List ℕ) → PixelsNext n (xs ++ ys) s₀ → StartsListed n xs s₀ s → PixelsNext n ys s
  next-after {s₀} {s} xs ys a t = record {
    room = room_after a.room t.listed;
    listed = subst (λ (m : List ℕ). Listed n m s s) (sym t.listed.numbers) (listed_self t.listed);
    ahead =
        subst (λ (m : List ℕ). Ahead n m ys s.cycles) (sym t.listed.numbers)
        (subst (Ahead n (nums_of n s₀.work) ys) (sym t.counted) (ahead_after xs ys s₀.cycles a.ahead));
  }

  pub starts_listed_then : {s₀ s₁ s₂ : State} (xs ys : List ℕ) → StartsListed n xs s₀ s₁ → StartsListed n ys s₁ s₂ → StartsListed n (xs ++ ys) s₀ s₂
  starts_listed_then {s₀} {s₁} {s₂} xs ys t u =
      let nums : List ℕ = nums_of n s₀.work in
      let same : nums_of n s₁.work ≡ nums = t.listed.numbers in
      let more : s₂.cycles ≡ s₁.cycles + length (keep (is_start n nums) ys) =
      u.counted ∙ ap (λ (m : List ℕ). s₁.cycles + length (keep (is_start n m) ys)) same in
      record {
        counted =
            omega (
              arith,
              t.counted,
              more,
              ap length (keep_append (is_start n nums) xs ys),
              length-append (keep (is_start n nums) xs) (keep (is_start n nums) ys),
            );
        listed = listed_then t.listed (subst (λ (m : List ℕ). Listed n m s₁ s₂) same u.listed) (omega (arith, t.counted)) (omega arith);
      }
