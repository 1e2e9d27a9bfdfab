-- The state that holds a queue, and fixed numbers of places.
use Rattle.std.specs.Prelude.{◌≡◌, refl, List, [], ◌∷◌, ◌++◌, ℕ, suc, ◌-◌, ◌<◌, min, length, take, drop, get_or, set, replicate}
use Rattle.std.proofs.Common.{sym, ap, ap₂, ◌∙◌, arith, drop-cons}
use Rattle.std.proofs.lemmas.List.{get_or-replicate, set-get_or}
use Rattle.sequences.specs.Over.{over, over_push, over_beyond_or}
use Rattle.serving.specs.declared.OpenOutline.{OpenOutline}
use Rattle.serving.specs.declared.State.{State}

-- The outlines that are open in a state: those in its first places, as many as it says, eight at most.
unfoldable pub queue_of : State → List OpenOutline
queue_of s = take (min 8 s.length) s.outlines

-- An unused place.
abbrev pub unused : OpenOutline
unused = record { cycle = 0; handed = 0 }

-- A queue in eight places.
unfoldable pub in_eight : List OpenOutline → List OpenOutline
unfolding over
in_eight q = over q (replicate 8 unused)

-- What stands in the first place.
abbrev pub front : List OpenOutline → OpenOutline
front outlines = get_or outlines 0 unused

-- The state of a queue.
unfoldable pub state_of : List OpenOutline → State
unfolding in_eight
state_of q = record { outlines = in_eight q; length = length q }

-- "the fresh state with none open": all zeros.
unfoldable pub fresh : State
unfolding state_of
fresh = state_of []

pub fresh_is_zeros : fresh ≡ record { outlines = replicate 8 unused; length = 0 }
unfolding fresh over
fresh_is_zeros = refl

-- Corners in sixteen places: "the answer's unused places are 0".
unfoldable pub in_sixteen : List ℕ → List ℕ
unfolding over
in_sixteen corners = over corners (replicate 16 0)

-- ---- laws

-- Where some are open, the first place holds the front.
pub front-first : (outlines : List OpenOutline) (size : ℕ) → 0 < size → 0 < length outlines
    → take size outlines ≡ front outlines ∷ take (size - 1) (drop 1 outlines)
front-first outlines size some long =
    let e : size ≡ suc (size - 1) = omega arith in
    ap (λ j. take j outlines) e ∙ ap (λ (l : List OpenOutline). take (suc (size - 1)) l) (drop-cons outlines 0 unused long)

-- An unused place behind a queue is one of those that are unused anyway.
pub unused-behind : (q : List OpenOutline) → length q < 8 → in_eight (q ++ unused ∷ []) ≡ in_eight q
unfolding in_eight
unused-behind q room =
    let empty : List OpenOutline = replicate 8 unused in
    let there : unused ≡ get_or (over q empty) (length q) unused =
    sym (over_beyond_or unused q empty (length q) (omega arith) ∙ get_or-replicate 8 (length q) unused unused room) in
    sym (over_push q empty unused (length q) refl room)
    ∙ ap (λ (o : OpenOutline). set (over q empty) (length q) o) there
    ∙ set-get_or (over q empty) (length q) unused

-- Places that hold a queue, and its length.
pub holds_queue : (q : List OpenOutline) {outlines : List OpenOutline} {n : ℕ} → outlines ≡ in_eight q → n ≡ length q
    → ◌≡◌ {A = State} (record { outlines = outlines; length = n }) (state_of q)
unfolding state_of
holds_queue q e l = ap₂ (λ (a : List OpenOutline) (b : ℕ). record { outlines = a; length = b }) e l
