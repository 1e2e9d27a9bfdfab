-- The causes of a refusal and their numbers.
use Rattle.std.specs.Prelude.{◌≡◌, ℕ, ◌<◌}
use Rattle.std.proofs.Common.{arith}
use Rattle.answers.specs.declared.cause.Cause.{Cause}

-- The number of each cause (docs/ANSWERS.md).
abbrev pub number_of : Cause → ℕ
number_of Cause.SideTooLarge = 1
number_of Cause.LengthsDiffer = 2
number_of Cause.LevelAboveSide = 3
number_of Cause.CodeNotNext = 4
number_of Cause.CodeNotAligned = 5
number_of Cause.PixelsMissing = 6
number_of Cause.SiblingsAlike = 7
number_of Cause.ListTooShort = 8
number_of Cause.RasterLengthWrong = 9
number_of Cause.HeaderMalformed = 10
number_of Cause.SidesUnfit = 11
number_of Cause.MaxvalOutOfRange = 12
number_of Cause.BytesNotSamples = 13
number_of Cause.SampleAboveMaxval = 14
number_of Cause.InputTooLong = 15
number_of Cause.NotCycleForm = 16
number_of Cause.NotChain = 17
number_of Cause.NoImage = 18
number_of Cause.NotEachRegionOnce = 19
number_of Cause.NotInsideOut = 20
number_of Cause.OutsideImage = 21
number_of Cause.NoSuchCycle = 22
number_of Cause.AlreadyOpen = 23
number_of Cause.EightOpen = 24

-- No cause has the number 0, which stands for acceptance.
pub number-pos : (cause : Cause) → 0 < number_of cause
number-pos Cause.SideTooLarge = omega arith
number-pos Cause.LengthsDiffer = omega arith
number-pos Cause.LevelAboveSide = omega arith
number-pos Cause.CodeNotNext = omega arith
number-pos Cause.CodeNotAligned = omega arith
number-pos Cause.PixelsMissing = omega arith
number-pos Cause.SiblingsAlike = omega arith
number-pos Cause.ListTooShort = omega arith
number-pos Cause.RasterLengthWrong = omega arith
number-pos Cause.HeaderMalformed = omega arith
number-pos Cause.SidesUnfit = omega arith
number-pos Cause.MaxvalOutOfRange = omega arith
number-pos Cause.BytesNotSamples = omega arith
number-pos Cause.SampleAboveMaxval = omega arith
number-pos Cause.InputTooLong = omega arith
number-pos Cause.NotCycleForm = omega arith
number-pos Cause.NotChain = omega arith
number-pos Cause.NoImage = omega arith
number-pos Cause.NotEachRegionOnce = omega arith
number-pos Cause.NotInsideOut = omega arith
number-pos Cause.OutsideImage = omega arith
number-pos Cause.NoSuchCycle = omega arith
number-pos Cause.AlreadyOpen = omega arith
number-pos Cause.EightOpen = omega arith

pub number-ne0 : (cause : Cause) → number_of cause ≡ 0 → ⊥
number-ne0 cause none = omega (arith, number-pos cause)
