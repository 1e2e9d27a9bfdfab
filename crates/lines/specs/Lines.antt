-- The text of a listing of cycles, one line a region, and the same text written cycle after cycle.
use Rattle.std.specs.Prelude.{◌≡◌, ◌≢◌, Bool, true, false, not, eqb, length}
use Rattle.std.proofs.Math.Path.{refl, sym, ap, ap₂}
use Rattle.std.proofs.Common.{◌∙◌, arith, length-append, eq-eqb, ne_eqb}
use mathlib.Core.List.{List, [], ◌∷◌, ◌++◌, flat_map, append_assoc, append-nil}
use Prim.Native.Nat.{ℕ, zero, suc, ◌+◌, ◌*◌, ◌≤◌, ◌<◌}
use Rattle.sequences.specs.Ranges.{range}
use Rattle.lattice.specs.CycleForm.{cycle_form}
use Rattle.grid.specs.Listing.{Cycle, all_corners, points_at}
use Rattle.svg.specs.Svg.{path_data, need_suffices}

-- "the path data of its cycles joined" (document 01, "Path, chain and picture"): those of the region r.
unfoldable pub data_of : ℕ → List Cycle → List ℕ
unfolding path_data
data_of r [] = []
data_of r (c ∷ cs) = elim (eqb c.region r) [ true ↦ path_data c.points ++ data_of r cs | false ↦ data_of r cs ]

-- "then LF", which is the byte 10.
unfoldable pub line : List Cycle → ℕ → List ℕ
unfolding data_of
line l r = data_of r l ++ (10 ∷ [])

-- "one line a region .. Line 0 is region 0".
unfoldable pub lines : ℕ → List Cycle → List ℕ
unfolding flat_map line range
lines regions l = flat_map (line l) (range 0 regions)

-- A cycle of the region r is the last of it where no further one of r comes next.
unfoldable pub is_last : ℕ → List Cycle → Bool
is_last r [] = true
is_last r (c ∷ cs) = not (eqb c.region r)

-- LF after the last cycle of a region.
unfoldable pub line_end : Bool → List ℕ
line_end true = 10 ∷ []
line_end false = []

-- The text written cycle after cycle.
unfoldable pub by_cycles : List Cycle → List ℕ
unfolding path_data is_last line_end
by_cycles [] = []
by_cycles (c ∷ cs) = (path_data c.points ++ line_end (is_last c.region cs)) ++ by_cycles cs

-- All cycles of a list bound the region r; none of them bounds the region r.
abbrev pub AllOf : ℕ → List Cycle → Type 0
AllOf r [] = Unit {0}
AllOf r (c ∷ cs) = (c.region ≡ r) × AllOf r cs

abbrev pub NoneOf : ℕ → List Cycle → Type 0
NoneOf r [] = Unit {0}
NoneOf r (c ∷ cs) = (c.region ≢ r) × NoneOf r cs

data_here : (r : ℕ) (c : Cycle) (cs : List Cycle) → c.region ≡ r → data_of r (c ∷ cs) ≡ path_data c.points ++ data_of r cs
unfolding data_of
data_here r c cs h = rw (eq-eqb c.region r h, data_of) refl

data_elsewhere : (r : ℕ) (c : Cycle) (cs : List Cycle) → c.region ≢ r → data_of r (c ∷ cs) ≡ data_of r cs
unfolding data_of
data_elsewhere r c cs h = rw (ne_eqb c.region r h, data_of) refl

no_data : (r : ℕ) (cs : List Cycle) → NoneOf r cs → data_of r cs ≡ []
unfolding data_of
no_data r [] h = refl
no_data r (c ∷ cs) h = data_elsewhere r c cs h.0 ∙ no_data r cs h.1

data_append : (r : ℕ) (xs ys : List Cycle) → data_of r (xs ++ ys) ≡ data_of r xs ++ data_of r ys
unfolding data_of
data_append r [] ys = refl
data_append r (c ∷ xs) ys = pick (eqb c.region r) (data_append r xs ys)
  where
    pick : (b : Bool) → data_of r (xs ++ ys) ≡ data_of r xs ++ data_of r ys
        → elim b as (λ _. List ℕ) [ true ↦ path_data c.points ++ data_of r (xs ++ ys) | false ↦ data_of r (xs ++ ys) ]
        ≡ elim b as (λ _. List ℕ) [ true ↦ path_data c.points ++ data_of r xs | false ↦ data_of r xs ] ++ data_of r ys
    pick true ih = ap (λ (l : List ℕ). path_data c.points ++ l) ih ∙ sym (append_assoc (path_data c.points) (data_of r xs) (data_of r ys))
    pick false ih = ih

-- The cycles of one region, one after the other, make its line.
last_cycle : (r : ℕ) (cs : List Cycle) → NoneOf r cs → is_last r cs ≡ true
unfolding is_last
last_cycle r [] h = refl
last_cycle r (d ∷ cs) h = ap not (ne_eqb d.region r h.0)

not_last : (r : ℕ) (d : Cycle) (cs : List Cycle) → d.region ≡ r → is_last r (d ∷ cs) ≡ false
unfolding is_last
not_last r d cs h = ap not (eq-eqb d.region r h)

one_region : (r : ℕ) (xs ys : List Cycle) → 0 < length xs → AllOf r xs → NoneOf r ys → by_cycles (xs ++ ys) ≡ line xs r ++ by_cycles ys
unfolding by_cycles line line_end data_of
one_region r [] ys some all none = absurd (omega arith)
one_region r (c ∷ []) ys some all none =
    let e : is_last c.region ys ≡ true = ap (λ (x : ℕ). is_last x ys) all.0 ∙ last_cycle r ys none in
    let d : data_of r (c ∷ []) ≡ path_data c.points = data_here r c [] all.0 ∙ simp append-nil in
    ap (λ (b : Bool). (path_data c.points ++ line_end b) ++ by_cycles ys) e ∙ ap (λ (l : List ℕ). (l ++ (10 ∷ [])) ++ by_cycles ys) (sym d)
one_region r (c ∷ d ∷ xs) ys some all none =
    let e : is_last c.region (d ∷ (xs ++ ys)) ≡ false = not_last c.region d (xs ++ ys) (all.1.0 ∙ sym all.0) in
    let rest : by_cycles (d ∷ (xs ++ ys)) ≡ line (d ∷ xs) r ++ by_cycles ys = one_region r (d ∷ xs) ys (omega arith) all.1 none in
    let here : data_of r (c ∷ d ∷ xs) ≡ path_data c.points ++ data_of r (d ∷ xs) = data_here r c (d ∷ xs) all.0 in
    ap (λ (b : Bool). (path_data c.points ++ line_end b) ++ by_cycles (d ∷ (xs ++ ys))) e
    ∙ ap (λ (l : List ℕ). (path_data c.points ++ []) ++ l) rest
    ∙ (simp (append-nil, append_assoc))
    ∙ sym (ap (λ (l : List ℕ). (l ++ (10 ∷ [])) ++ by_cycles ys) here)

-- Cycles made region after region.
flat_same : {A : Type 0} (f g : ℕ → List A) (a k : ℕ) → ((r : ℕ) → a ≤ r → f r ≡ g r) → flat_map f (range a k) ≡ flat_map g (range a k)
unfolding flat_map range
flat_same f g a zero h = refl
flat_same f g a (suc k) h = ap₂ ◌++◌ (h a (omega arith)) (flat_same f g (suc a) k (λ r l. h r (omega arith)))

none_of_others : (r s : ℕ) (cs : List Cycle) → r ≢ s → AllOf r cs → NoneOf s cs
none_of_others r s [] d h = tt
none_of_others r s (c ∷ cs) d h = (λ e. d (sym h.0 ∙ e), none_of_others r s cs d h.1)

none_append : (r : ℕ) (xs ys : List Cycle) → NoneOf r xs → NoneOf r ys → NoneOf r (xs ++ ys)
none_append r [] ys h k = k
none_append r (c ∷ xs) ys h k = (h.0, none_append r xs ys h.1 k)

module _ (f : ℕ → List Cycle) where
  -- The regions from a on, k of them: each has a cycle, and f gives its cycles alone.
  abbrev pub Regionwise : ℕ → ℕ → Type 0
  Regionwise a k = (r : ℕ) → a ≤ r → r < a + k → (0 < length (f r)) × AllOf r (f r)

  later : (a k : ℕ) → Regionwise a k → (s : ℕ) → s < a → NoneOf s (flat_map f (range a k))
  unfolding flat_map range
  later a zero h s l = tt
  later a (suc k) h s l =
      none_append s (f a) (flat_map f (range (suc a) k)) (none_of_others a s (f a) (λ e. omega arith) (h a (omega arith) (omega arith)).1)
      (later (suc a) k (λ r m n. h r (omega arith) (omega arith)) s (omega arith))

  -- Written cycle after cycle, they give one line a region.
  pub cycles_give_lines : (a k : ℕ) → Regionwise a k → by_cycles (flat_map f (range a k)) ≡ flat_map (line (flat_map f (range a k))) (range a k)
  unfolding flat_map range by_cycles line
  cycles_give_lines a zero h = refl
  cycles_give_lines a (suc k) h =
      let here = h a (omega arith) (omega arith) in
      let more : Regionwise (suc a) k = λ r m n. h r (omega arith) (omega arith) in
      let rest : List Cycle = flat_map f (range (suc a) k) in
      let gone : NoneOf a rest = later (suc a) k more a (omega arith) in
      let first : data_of a (f a) ≡ data_of a (f a ++ rest) =
      sym (data_append a (f a) rest ∙ ap (λ (l : List ℕ). data_of a (f a) ++ l) (no_data a rest gone) ∙ simp append-nil) in
      let others : flat_map (line rest) (range (suc a) k) ≡ flat_map (line (f a ++ rest)) (range (suc a) k) =
      flat_same (line rest) (line (f a ++ rest)) (suc a) k
      (λ r l. ap (λ (x : List ℕ). x ++ (10 ∷ [])) (sym (data_append r (f a) rest
      ∙ ap (λ (x : List ℕ). x ++ data_of r rest) (no_data r (f a) (none_of_others a r (f a) (λ e. omega arith) here.1))))) in
      one_region a (f a) rest here.0 here.1 gone
      ∙ ap₂ (λ (x y : List ℕ). (x ++ (10 ∷ [])) ++ y) first (cycles_give_lines (suc a) k more ∙ others)

-- Each cycle of a list is a cycle form.
abbrev pub Forms : List Cycle → Type 0
Forms [] = Unit {0}
Forms (c ∷ cs) = (cycle_form c.points ≡ true) × Forms cs

pub each_form : (l : List Cycle) → ((k : ℕ) → k < length l → cycle_form (points_at l k) ≡ true) → Forms l
unfolding points_at
each_form [] h = tt
each_form (c ∷ cs) h = (h 0 (omega arith), each_form cs (λ k l. h (suc k) (omega arith)))

-- What a text of cycles needs: 9 a cycle, 4 a corner, and 1 a line, of which there are not more than cycles.
unfoldable pub cycles_need : List Cycle → ℕ
unfolding all_corners
cycles_need l = 10 * length l + 4 * length (all_corners l)

pub cycles_need-more : (c : Cycle) (cs : List Cycle) → cycles_need (c ∷ cs) ≡ 10 + 4 * length c.points + cycles_need cs
unfolding cycles_need all_corners
cycles_need-more c cs = omega (arith, length-append c.points (all_corners cs))

pub end_length : (b : Bool) → length (line_end b) ≤ 1
unfolding line_end
end_length true = omega arith
end_length false = omega arith

pub cycles_need_suffices : (l : List Cycle) → Forms l → length (by_cycles l) ≤ cycles_need l
unfolding by_cycles
cycles_need_suffices [] h = omega arith
cycles_need_suffices (c ∷ cs) h =
    let b : Bool = is_last c.region cs in
    omega (
      arith,
      length-append (path_data c.points ++ line_end b) (by_cycles cs),
      length-append (path_data c.points) (line_end b),
      end_length b,
      need_suffices c.points h.0,
      cycles_need-more c cs,
      cycles_need_suffices cs h.1,
    )
