-- A bad header is answered 10; the fields of a good one are judged, and the raster begins inside the bytes.
use mathlib.Core.Path.{refl, sym, ap, ◌∙◌}
use Prim.Native.Nat.{◌≤◌}
use native.Mathlib.Omega.{arith}
use lib.ListN.{length}
use Rattle.sequences.specs.Tails.{tail-lent}
use Rattle.headers.specs.Header.{Fields}
use Rattle.headers.specs.Sequence.{head-bad, head_on, head-inside}
use Rattle.pgm.specs.Picture.{scan, picture, judged}
use Rattle.pgm.specs.Reading.{refusal}
use Rattle.pgm.specs.Scans.{refused_scan}
use Rattle.pgm.specs.Judging.{nothing_answered, file_answered}
use Rattle.pgm.proofs.read.Goals as goal

pub slice_bounds-judge-count : goal.slice_bounds-judge-count
slice_bounds-judge-count c =
    let inside : c.in-Some.header.raster.at ≤ length c.args.bytes.now = head-inside c.parse.ensures c.in-Some.is in
    inside

pub slice_bounds-judge-start : goal.slice_bounds-judge-start
slice_bounds-judge-start c =
    let inside : c.in-Some.header.raster.at ≤ length c.args.bytes.now = head-inside c.parse.ensures c.in-Some.is in
    inside

pub returns-in_default : goal.returns-in_default
unfolding scan picture refusal
returns-in_default c =
    record {
      answered = nothing_answered _ (refused_scan (head-bad c.parse.ensures c.in_default.is judged)) (omega arith);
      in_bytes = refl;
    }

pub returns : goal.returns
unfolding scan picture
returns c =
    let f : Fields = record { width = c.in-Some.header.width; height = c.in-Some.header.height; maxval = c.in-Some.header.maxval } in
    let fields = head_on c.parse.ensures c.in-Some.is judged in
    let part = tail-lent c.in-Some.header.raster.at c.args.bytes.now in
    record { answered = file_answered (fields ∙ ap (judged f) (sym part)) c.judge.ensures; in_bytes = refl }
