-- A cause is cast to its number: its place among the variants, and 1.
use Rattle.std.proofs.Common.{◌≡◌, ◌+◌, refl}
use Rattle.answers.specs.declared.cause.Cause.{Cause}
use Rattle.answers.specs.contracts.cause.Cause.{the_type}
use Rattle.answers.specs.Causes.{number_of}
use Rattle.answers.proofs.cause.U32FromCause.from.Goals as goal

number_of_place : (cause : Cause) → denote.Enum.Declared.tag_of the_type cause + 1 ≡ number_of cause
number_of_place Cause.SideTooLarge = refl
number_of_place Cause.LengthsDiffer = refl
number_of_place Cause.LevelAboveSide = refl
number_of_place Cause.CodeNotNext = refl
number_of_place Cause.CodeNotAligned = refl
number_of_place Cause.PixelsMissing = refl
number_of_place Cause.SiblingsAlike = refl
number_of_place Cause.ListTooShort = refl
number_of_place Cause.RasterLengthWrong = refl
number_of_place Cause.HeaderMalformed = refl
number_of_place Cause.SidesUnfit = refl
number_of_place Cause.MaxvalOutOfRange = refl
number_of_place Cause.BytesNotSamples = refl
number_of_place Cause.SampleAboveMaxval = refl
number_of_place Cause.InputTooLong = refl
number_of_place Cause.NotCycleForm = refl
number_of_place Cause.NotChain = refl
number_of_place Cause.NoImage = refl
number_of_place Cause.NotEachRegionOnce = refl
number_of_place Cause.NotInsideOut = refl
number_of_place Cause.OutsideImage = refl
number_of_place Cause.NoSuchCycle = refl
number_of_place Cause.AlreadyOpen = refl
number_of_place Cause.EightOpen = refl

pub returns : goal.returns
returns c = number_of_place c.args.cause
