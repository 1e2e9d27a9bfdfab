-- Powers of 2 and of 4: positive, growing, dividing one another.
use Rattle.std.specs.Prelude.{◌≡◌, refl, ℕ, zero, suc, ◌+◌, ◌*◌, ◌^◌, ◌≤◌, ◌<◌}
use Rattle.std.proofs.Common.{sym, ap, ◌∙◌, subst, pow-suc, arith, pow-add}
use Rattle.std.specs.Int.{◌∣◌}
use Rattle.std.proofs.Math.Nat.{one-le-pow, pow-le-pow_right, le_dest, dvd-mul_right, mul-mul-mul_comm}

pub pow2_pos : (k : ℕ) → 0 < 2 ^ k
pow2_pos k = one-le-pow k 2 (omega arith)

pub pow4_pos : (k : ℕ) → 0 < 4 ^ k
pow4_pos k = one-le-pow k 4 (omega arith)

pub pow2_mono : {i j : ℕ} → i ≤ j → 2 ^ i ≤ 2 ^ j
pow2_mono h = pow-le-pow_right {n = 2} (omega arith) h

pub pow4_mono : {i j : ℕ} → i ≤ j → 4 ^ i ≤ 4 ^ j
pow4_mono h = pow-le-pow_right {n = 4} (omega arith) h

pub pow4_divides : {i j : ℕ} → i ≤ j → 4 ^ i ∣ 4 ^ j
pow4_divides {i} {j} h =
    let d = le_dest h in
    subst (λ k. 4 ^ i ∣ 4 ^ k) d.1 (subst (λ x. 4 ^ i ∣ x) (sym (pow-add 4 i d.0)) (dvd-mul_right (4 ^ i) (4 ^ d.0)))

-- A square of side 2^k has 4^k pixels.
pub square_of_side : (k : ℕ) → 2 ^ k * 2 ^ k ≡ 4 ^ k
square_of_side zero = refl
square_of_side (suc k) =
    ap (λ (s : ℕ). s * s) (pow-suc 2 k) ∙ mul-mul-mul_comm (2 ^ k) 2 (2 ^ k) 2 ∙ ap (λ (a : ℕ). a * 4) (square_of_side k) ∙ sym (pow-suc 4 k)

pub pow2_double : (k : ℕ) → 2 ^ (2 * k) ≡ 4 ^ k
pow2_double k =
    let e : 2 * k ≡ k + k = omega arith in
    ap (λ (j : ℕ). 2 ^ j) e ∙ pow-add 2 k k ∙ square_of_side k
