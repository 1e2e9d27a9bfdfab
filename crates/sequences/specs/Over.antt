-- A list laid over the front of another: what a lent list holds after it was written from its front on.
use Rattle.std.specs.Prelude.{◌≡◌, refl, List, [], ◌∷◌, ◌++◌, ℕ, ◌+◌, ◌-◌, ◌≤◌, ◌<◌, length, take, drop, set, get_or}
use Rattle.std.proofs.Common.{sym, ap, ◌∙◌, append_assoc, arith, length-append, length-drop, drop-drop, take_at, drop_at, get_or-append-add, get_or-drop}
use Rattle.std.proofs.Math.ListN.{get_or-append}

-- The list `old` with `new` in the place of its first entries; what lies beyond is unchanged.
unfoldable pub over : {A : Type 0} → List A → List A → List A
over new old = new ++ drop (length new) old

pub over_none : {A : Type 0} (old : List A) → over [] old ≡ old
unfolding over
over_none old = refl

pub length_over : {A : Type 0} (new old : List A) → length new ≤ length old → length (over new old) ≡ length old
unfolding over
length_over new old h = omega (arith, length-append new (drop (length new) old), length-drop (length new) old)

store-next : {A : Type 0} (new old : List A) (v : A) → length new < length old → set (over new old) (length new) v ≡ over (new ++ (v ∷ [])) old
unfolding over
store-next [] [] v h = absurd (omega arith)
store-next [] (y ∷ old) v h = refl
store-next (x ∷ new) [] v h = absurd (omega arith)
store-next {A} (x ∷ new) (y ∷ old) v h = ap (λ (l : List A). x ∷ l) (store-next new old v (omega arith))

-- A store just past what was written.
pub over_push : {A : Type 0} (new old : List A) (v : A) (at : ℕ) → at ≡ length new → at < length old → set (over new old) at v ≡ over (new ++ (v ∷ [])) old
over_push new old v at e h = ap (λ (n : ℕ). set (over new old) n v) e ∙ store-next new old v (omega arith)

-- A second list laid over what lies past the first.
pub over_more : {A : Type 0} (new more old : List A) → take (length new) (over new old) ++ over more (drop (length new) (over new old)) ≡ over (new ++ more) old
unfolding over
over_more new more old =
    rw (take_at new (drop (length new) old) (length new) refl, drop_at new (drop (length new) old) (length new) refl, drop-drop, length-append, append_assoc) refl

-- An entry of what was written, and one beyond, or d past the end.
pub over_inside_or : {A : Type 0} (d : A) (new old : List A) (i : ℕ) → i < length new → get_or (over new old) i d ≡ get_or new i d
unfolding over
over_inside_or d new old i h = get_or-append new (drop (length new) old) d i h

pub over_beyond_or : {A : Type 0} (d : A) (new old : List A) (i : ℕ) → length new ≤ i → get_or (over new old) i d ≡ get_or old i d
unfolding over
over_beyond_or d new old i h =
    let k : ℕ = i - length new in
    let e : i ≡ length new + k = omega arith in
    ap (λ (j : ℕ). get_or (new ++ drop (length new) old) j d) e
    ∙ get_or-append-add new (drop (length new) old) k d
    ∙ get_or-drop (length new) old k d
    ∙ ap (λ (j : ℕ). get_or old j d) (sym e)

-- So for numbers, or 0 past the end.
pub over_inside : (new old : List ℕ) (i : ℕ) → i < length new → get_or (over new old) i 0 ≡ get_or new i 0
over_inside = over_inside_or 0

pub over_beyond : (new old : List ℕ) (i : ℕ) → length new ≤ i → get_or (over new old) i 0 ≡ get_or old i 0
over_beyond = over_beyond_or 0

-- What was written, read back.
pub take_over : {A : Type 0} (new old : List A) → take (length new) (over new old) ≡ new
unfolding over
take_over new old = take_at new (drop (length new) old) (length new) refl
