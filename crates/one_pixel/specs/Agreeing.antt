-- Two images that differ in one pixel at most.
use Rattle.std.specs.Prelude.{◌≡◌, ◌≢◌, List, ℕ, get_or, set}
use Rattle.std.proofs.Common.{sym, get_or-set_other}

-- Two lists of colours in rising location code agree at each pixel but, perhaps, the one with the code c: "the image with that pixel alone
-- changed" (document 02, request j).
abbrev pub AgreeBut : ℕ → List ℕ → List ℕ → Type 0
AgreeBut c px qx = (d : ℕ) → d ≢ c → get_or qx d 0 ≡ get_or px d 0

pub agree_but_set : (c v : ℕ) (px : List ℕ) → AgreeBut c px (set px c v)
agree_but_set c v px d other = get_or-set_other px c d v 0 other

pub agree_back : (c : ℕ) (px qx : List ℕ) → AgreeBut c px qx → AgreeBut c qx px
agree_back c px qx agree d other = sym (agree d other)
