-- Which byte is which: no digit is white, and a white byte is plain or the number sign.
use Rattle.std.specs.Prelude.{◌≡◌, refl, Bool, true, false, ℕ}
use Rattle.std.proofs.Common.{sym, ◌∙◌, true≢false, arith, eqb-true, ne_eqb}
use Rattle.headers.specs.Space.{is_space, is_sign, is_white}
use Rattle.headers.specs.Number.{is_digit}
use Rattle.headers.specs.NumberLaws.{digit-range}

-- Where one of two tests fails what the other passes, this holds the other way round too.
apart : (test other : ℕ → Bool) → ((b : ℕ) → test b ≡ true → other b ≡ false) → (b : ℕ) → other b ≡ true → test b ≡ false
apart test other h b e = pick (test b) refl
  where
    pick : (t : Bool) → test b ≡ t → test b ≡ false
    pick true d = absurd (true≢false (sym e ∙ h b d))
    pick false d = d

pub digit_not_space : (b : ℕ) → is_digit b ≡ true → is_space b ≡ false
unfolding is_space
digit_not_space b e =
    let (l, h) = digit-range b e in
    rw (ne_eqb b 32 (λ w. omega arith), ne_eqb b 9 (λ w. omega arith), ne_eqb b 10 (λ w. omega arith), ne_eqb b 13 (λ w. omega arith)) refl

pub digit_not_white : (b : ℕ) → is_digit b ≡ true → is_white b ≡ false
unfolding is_white
digit_not_white b e =
    let (l, h) = digit-range b e in
    rw (digit_not_space b e, ne_eqb b 35 (λ w. omega arith)) refl

pub space_not_digit : (b : ℕ) → is_space b ≡ true → is_digit b ≡ false
space_not_digit = apart is_digit is_space digit_not_space

pub white_not_digit : (b : ℕ) → is_white b ≡ true → is_digit b ≡ false
white_not_digit = apart is_digit is_white digit_not_white

sign_not_space : (b : ℕ) → is_sign b ≡ true → is_space b ≡ false
unfolding is_space is_sign
sign_not_space b e = rw (eqb-true b 35 e) refl

pub space_not_sign : (b : ℕ) → is_space b ≡ true → is_sign b ≡ false
space_not_sign = apart is_sign is_space sign_not_space

pub space_white : (b : ℕ) → is_space b ≡ true → is_white b ≡ true
unfolding is_white
space_white b e = rw e refl

pub white_not_sign : (b : ℕ) → is_white b ≡ true → is_sign b ≡ false → is_space b ≡ true
unfolding is_white
white_not_sign b e d = pick (is_space b) refl
  where
    pick : (t : Bool) → is_space b ≡ t → is_space b ≡ true
    pick true h = h
    pick false h = absurd (true≢false (sym e ∙ rw (h, d) refl))
