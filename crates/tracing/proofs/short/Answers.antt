-- The tests stand in the order of the definition's; the code groups them from the left.
use Rattle.std.proofs.Common.{◌≡◌, ℕ, ◌*◌, ◌^◌, ◌≤◌, ◌∙◌, sym, ap, refl, Bool, true, false, length, arith, lt-ltb, le-ltb}
use Rattle.std.proofs.Math.Bool.{◌||◌}
use Rattle.std.proofs.Math.Dec.{ltb}
use Rattle.sequences.specs.Powers.{pow4_mono}
use Rattle.location.specs.Levels.{pixels_of, pixels_are_power}
use Rattle.tracing.specs.Tracing.{Lent, lent, is_too_short}
use Rattle.tracing.proofs.short.Goals as goal
use Rattle.tracing.proofs.short.Goals.{Joined-ends-whole, then-labels-count, else-labels-count, then-work-whole, else-work-whole, then-owners-whole, else-owners-whole, then-ends-whole, else-ends-whole}

size : (n : ℕ) {whole : ℕ} → n ≤ 8 → whole ≡ pixels_of n → whole ≡ 4 ^ n
size n h e = e ∙ pixels_are_power n (omega arith)

grouped : (a b c d e f : Bool) → a || (b || (c || (d || (e || f)))) ≡ ((((a || b) || c) || d) || e) || f
grouped true b c d e f = refl
grouped false true c d e f = refl
grouped false false true d e f = refl
grouped false false false true e f = refl
grouped false false false false true f = refl
grouped false false false false false f = refl

-- All tests but the last, and all of them.
first_five : ℕ → ℕ → Lent → Bool
first_five count whole b =
    (((ltb (length b.label_list) count || ltb (length b.work_list) (2 * whole)) || ltb (length b.owner_list) whole) || ltb (length b.end_list) whole)
    || ltb (length b.corner_list) (4 * whole)

all_six : (n count whole : ℕ) (b : Lent) → whole ≡ 4 ^ n → is_too_short n count b ≡ first_five count whole b || ltb (length b.area_list) whole
unfolding first_five is_too_short
all_six n count whole b e =
    rw e
    (grouped (ltb (length b.label_list) count) (ltb (length b.work_list) (2 * 4 ^ n)) (ltb (length b.owner_list) (4 ^ n)) (ltb (length b.end_list) (4 ^ n))
    (ltb (length b.corner_list) (4 * 4 ^ n)) (ltb (length b.area_list) (4 ^ n)))

-- A test after others: where they hold they are the whole, else the last one is.
held : {v u : Bool} (b : Bool) → u ≡ true → v ≡ u → v ≡ u || b
held b h k = k ∙ h ∙ sym (ap (λ s. s || b) h)

failed : {v u : Bool} (b : Bool) → u ≡ false → v ≡ b → v ≡ u || b
failed b h k = k ∙ sym (ap (λ s. s || b) h)

five : (c : Joined-ends-whole) → c.if-ends-whole.value
    ≡ first_five c.args.count c.pixels-whole.result (lent c.args.labels.now c.args.work.now c.args.owners.now c.args.ends.now c.args.corners.now c.args.areas.now)
unfolding first_five
five c =
    let whole = c.pixels-whole.result in
    let two : c.if-labels-count.value ≡ ltb (length c.args.labels.now) c.args.count || ltb (length c.args.work.now) (2 * whole) =
    elim c.if-labels-count.branch [
      | then-labels-count w ↦ held _ (lt-ltb _ _ w.if-labels-count.true) w.value-is
      | else-labels-count w ↦ failed _ (le-ltb _ _ w.if-labels-count.false) w.value-is
    ] in
    let three : c.if-work-whole.value ≡ c.if-labels-count.value || ltb (length c.args.owners.now) whole =
    elim c.if-work-whole.branch [
      | then-work-whole w ↦ held _ w.if-work-whole.true w.value-is
      | else-work-whole w ↦ failed _ w.if-work-whole.false w.value-is
    ] in
    let four : c.if-owners-whole.value ≡ c.if-work-whole.value || ltb (length c.args.ends.now) whole =
    elim c.if-owners-whole.branch [
      | then-owners-whole w ↦ held _ w.if-owners-whole.true w.value-is
      | else-owners-whole w ↦ failed _ w.if-owners-whole.false w.value-is
    ] in
    let last : c.if-ends-whole.value ≡ c.if-owners-whole.value || ltb (length c.args.corners.now) (4 * whole) =
    elim c.if-ends-whole.branch [
      | then-ends-whole w ↦ held _ w.if-ends-whole.true w.value-is
      | else-ends-whole w ↦ failed _ w.if-ends-whole.false w.value-is
    ] in
    rw (last, four, three, two) refl

pub overflow_mul-whole : goal.overflow_mul-whole
overflow_mul-whole c = omega (arith, size _ c.requires c.pixels-whole.ensures, pow4_mono c.requires)

pub overflow_mul-whole-else-ends-whole : goal.overflow_mul-whole-else-ends-whole
overflow_mul-whole-else-ends-whole c = omega (arith, size _ c.requires c.pixels-whole.ensures, pow4_mono c.requires)

pub returns-then-corners-whole : goal.returns-then-corners-whole
returns-then-corners-whole c =
    let tests = five (goal.at.returns-then-corners-whole c).Joined-ends-whole in
    c.if-corners-whole.true
    ∙ sym (all_six _ _ _ _ (size _ c.requires c.pixels-whole.ensures) ∙ ap (λ t. t || ltb (length c.args.areas.now) c.pixels-whole.result) (sym tests ∙ c.if-corners-whole.true))

pub returns-else-corners-whole : goal.returns-else-corners-whole
returns-else-corners-whole c =
    let tests = five (goal.at.returns-else-corners-whole c).Joined-ends-whole in
    sym (all_six _ _ _ _ (size _ c.requires c.pixels-whole.ensures) ∙ ap (λ t. t || ltb (length c.args.areas.now) c.pixels-whole.result) (sym tests ∙ c.if-corners-whole.false))
