-- One value stored along a stretch of a list.
use Rattle.std.specs.Prelude.{◌≡◌, refl, length, get_or, replicate, take, drop}
use Rattle.std.proofs.Math.Path.{sym, ap}
use Rattle.std.proofs.Common.{◌∙◌, add-zero, add-one, ext_get_or, get_or-set_same, get_or-set_other}
use mathlib.Core.List.{List, [], ◌∷◌, ◌++◌, append_assoc}
use Prim.Native.Nat.{ℕ, zero, suc, ◌+◌, ◌-◌, ◌≤◌, ◌<◌}
use Rattle.std.proofs.Math.Decide.{ℕ_discrete, dec_lt}
use native.Mathlib.Omega.{arith}
use Rattle.std.proofs.Math.ListN.{set, length-set}
use Rattle.std.proofs.lemmas.List.{length-replicate, get_or-replicate, take-append-drop, set-append_right, length-take-le, drop-set-add, drop-set, replicate-append-replicate}
use Rattle.sequences.specs.Over.{over, length_over, over_inside, over_beyond}

-- The list with v at the s places from `from` on.
unfoldable pub fill : {A : Type 0} → List A → ℕ → ℕ → A → List A
fill l from zero v = l
fill l from (suc s) v = set (fill l from s v) (from + s) v

pub length-fill : {A : Type 0} (l : List A) (from s : ℕ) (v : A) → length (fill l from s v) ≡ length l
unfolding fill
length-fill l from zero v = refl
length-fill l from (suc s) v = length-set (fill l from s v) (from + s) v ∙ length-fill l from s v

pub fill-inside : (l : List ℕ) (from s v i : ℕ) → from + s ≤ length l → from ≤ i → i < from + s → get_or (fill l from s v) i 0 ≡ v
unfolding fill
fill-inside l from zero v i h a b = absurd (omega arith)
fill-inside l from (suc s) v i h a b = pick (ℕ_discrete i (from + s)) (fill-inside l from s v i (omega arith) a)
  where
    pick : Dec (i ≡ from + s) → (i < from + s → get_or (fill l from s v) i 0 ≡ v) → get_or (set (fill l from s v) (from + s) v) i 0 ≡ v
    pick (yes e) ih = rw e (get_or-set_same (fill l from s v) (from + s) v 0 (omega (arith, length-fill l from s v)))
    pick (no d) ih = get_or-set_other (fill l from s v) (from + s) i v 0 d ∙ ih (omega arith)

pub fill-before : (l : List ℕ) (from s v i : ℕ) → i < from → get_or (fill l from s v) i 0 ≡ get_or l i 0
unfolding fill
fill-before l from zero v i h = refl
fill-before l from (suc s) v i h = get_or-set_other (fill l from s v) (from + s) i v 0 (omega arith) ∙ fill-before l from s v i h

pub fill-beyond : (l : List ℕ) (from s v i : ℕ) → from + s ≤ i → get_or (fill l from s v) i 0 ≡ get_or l i 0
unfolding fill
fill-beyond l from zero v i h = refl
fill-beyond l from (suc s) v i h = get_or-set_other (fill l from s v) (from + s) i v 0 (omega arith) ∙ fill-beyond l from s v i (omega arith)

-- What comes before, the value s times, what comes after.
pub fill_parts : {A : Type 0} (l : List A) (from s : ℕ) (v : A) → from + s ≤ length l → fill l from s v ≡ take from l ++ (replicate s v ++ drop (from + s) l)
unfolding fill
fill_parts l from zero v h = rw add-zero (sym (take-append-drop from l))
fill_parts l from (suc s) v h =
    let n : from + s - from ≡ s = omega arith in
    let z : s - s ≡ 0 = omega arith in
    let e : from + s + 0 ≡ from + s = omega arith in
    let next : from + s + 1 ≡ from + suc s = omega arith in
    ap (λ k. set k (from + s) v) (fill_parts l from s v (omega arith))
    ∙ set-append_right (take from l) (replicate s v ++ drop (from + s) l) from (from + s) v (length-take-le from l (omega arith)) (omega arith)
    ∙ ap (λ k. take from l ++ k)
    (ap (λ k. set (replicate s v ++ drop (from + s) l) k v) n
    ∙ set-append_right (replicate s v) (drop (from + s) l) s s v (length-replicate s v) (omega arith)
    ∙ ap (λ k. replicate s v ++ k)
    (ap (λ k. set (drop (from + s) l) k v) z ∙ sym (drop-set-add (from + s) l 0 v) ∙ ap (λ k. drop (from + s) (set l k v)) e ∙ drop-set l (from + s) v (omega arith) ∙ ap (λ k. v ∷ drop k l) next)
    ∙ sym (append_assoc (replicate s v) (v ∷ []) (drop (from + suc s) l))
    ∙ ap (λ k. k ++ drop (from + suc s) l) (replicate-append-replicate s 1 v ∙ ap (λ k. replicate k v) (add-one s)))

-- From the front of the list on.
pub fill-front : (l : List ℕ) (s v : ℕ) → s ≤ length l → fill l 0 s v ≡ over (replicate s v) l
fill-front l s v h =
    ext_get_or 0 (fill l 0 s v) (over (replicate s v) l)
    (length-fill l 0 s v ∙ sym (length_over (replicate s v) l (omega (arith, length-replicate s v))))
    (λ i a. pick i (dec_lt i s))
  where
    pick : (i : ℕ) → Dec (i < s) → get_or (fill l 0 s v) i 0 ≡ get_or (over (replicate s v) l) i 0
    pick i (yes b) =
        fill-inside l 0 s v i (omega arith) (omega arith) (omega arith)
        ∙ sym (over_inside (replicate s v) l i (omega (arith, length-replicate s v)) ∙ get_or-replicate s i v 0 b)
    pick i (no b) = fill-beyond l 0 s v i (omega arith) ∙ sym (over_beyond (replicate s v) l i (omega (arith, length-replicate s v)))

-- ---- the loop that stores it: the places before x are done

pub record Filling (l₀ : List ℕ) (from s v : ℕ) (l : List ℕ) (x : ℕ) : Type 0 where
  pub first : from ≤ x
  pub last : x ≤ from + s
  pub long : length l ≡ length l₀
  pub list : l ≡ fill l₀ from (x - from) v

pub begin : (l : List ℕ) (from s v : ℕ) → Filling l from s v l from
unfolding fill
begin l from s v =
    let e : from - from ≡ 0 = omega arith in
    record { first = omega arith; last = omega arith; long = refl; list = sym (ap (λ (k : ℕ). fill l from k v) e) }

module _ {l₀ : List ℕ} {from s v : ℕ} {l : List ℕ} {x : ℕ} (g : Filling l₀ from s v l x) where
  pub again : x < from + s → Filling l₀ from s v (set l x v) (x + 1)
  unfolding fill
  again less =
      let f : from ≤ x = g.first in
      let e : x + 1 - from ≡ suc (x - from) = omega arith in
      let at : x ≡ from + (x - from) = omega arith in
      record {
        first = omega arith;
        last = omega arith;
        long = length-set l x v ∙ g.long;
        list =
            ap (λ (k : List ℕ). set k x v) g.list
            ∙ ap (λ (i : ℕ). set (fill l₀ from (x - from) v) i v) at
            ∙ sym (ap (λ (k : ℕ). fill l₀ from k v) e);
      }

  pub finish : from + s ≤ x → l ≡ fill l₀ from s v
  finish h =
      let e : x - from ≡ s = omega (arith, g.first, g.last) in
      g.list ∙ ap (λ (k : ℕ). fill l₀ from k v) e
