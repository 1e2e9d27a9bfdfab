-- Successive numbers as a list, and lists made by a rule from their places.
use Rattle.std.specs.Prelude.{◌≡◌, refl, List, [], ◌∷◌, ◌++◌, map, ℕ, zero, suc, ◌+◌, ◌<◌, length, get_or}
use Rattle.std.proofs.Common.{sym, ap, ◌∙◌, arith, ext_get_or}
use Rattle.std.proofs.lemmas.List.{length-map}
use Rattle.sequences.specs.Maps.{get_d_map}

-- The k numbers from a on.
unfoldable pub range : ℕ → ℕ → List ℕ
range a zero = []
range a (suc k) = a ∷ range (suc a) k

pub length-range : (a k : ℕ) → length (range a k) ≡ k
unfolding range
length-range a zero = refl
length-range a (suc k) = ap suc (length-range (suc a) k)

pub range_at : (a k i : ℕ) → i < k → get_or (range a k) i 0 ≡ a + i
unfolding range
range_at a zero i h = absurd (omega arith)
range_at a (suc k) zero h = omega arith
range_at a (suc k) (suc i) h = omega (arith, range_at (suc a) k i (omega arith))

pub range-append : (a j k : ℕ) → range a (j + k) ≡ range a j ++ range (a + j) k
unfolding range
range-append a zero k =
    let e : 0 + k ≡ k = omega arith in
    let f : a ≡ a + 0 = omega arith in
    ap (range a) e ∙ ap (λ (b : ℕ). range b k) f
range-append a (suc j) k =
    let e : suc j + k ≡ suc (j + k) = omega arith in
    let f : suc a + j ≡ a + suc j = omega arith in
    ap (range a) e ∙ ap (λ (l : List ℕ). a ∷ l) (range-append (suc a) j k ∙ ap (λ (b : ℕ). range (suc a) j ++ range b k) f)

-- The list of k entries whose entry at i is `rule i`.
unfoldable pub tabulate : ℕ → (ℕ → ℕ) → List ℕ
unfolding range
tabulate k rule = map rule (range 0 k)

pub length-tabulate : (k : ℕ) (rule : ℕ → ℕ) → length (tabulate k rule) ≡ k
unfolding tabulate
length-tabulate k rule = length-map (range 0 k) rule ∙ length-range 0 k

pub tabulate_at : (k : ℕ) (rule : ℕ → ℕ) (i : ℕ) → i < k → get_or (tabulate k rule) i 0 ≡ rule i
unfolding tabulate
tabulate_at k rule i h = get_d_map rule (range 0 k) i 0 0 (omega (arith, length-range 0 k)) ∙ ap rule (range_at 0 k i h ∙ omega arith)

-- A list is made by the rule that its entries follow.
pub tabulate_from : (k : ℕ) (rule : ℕ → ℕ) (l : List ℕ) → length l ≡ k → ((i : ℕ) → i < k → get_or l i 0 ≡ rule i) → l ≡ tabulate k rule
tabulate_from k rule l long same =
    ext_get_or 0 l (tabulate k rule) (long ∙ sym (length-tabulate k rule)) (λ i h. same i (omega arith) ∙ sym (tabulate_at k rule i (omega arith)))

-- Two rules that agree below k make one list.
pub tabulate_same : (k : ℕ) (rule other : ℕ → ℕ) → ((i : ℕ) → i < k → rule i ≡ other i) → tabulate k rule ≡ tabulate k other
tabulate_same k rule other same =
    tabulate_from k other (tabulate k rule) (length-tabulate k rule) (λ i h. tabulate_at k rule i h ∙ same i h)
