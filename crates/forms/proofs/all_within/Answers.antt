-- The definition recurses over the list as a test of each corner does.
use Rattle.std.proofs.Common.{rules, tests, ◌∙◌}
use Rattle.std.proofs.lemmas.Iterator.{YieldsList-from_slice}
use Rattle.std.proofs.lemmas.Iterator.Search.{all_from_yields_List}
use Rattle.lattice.specs.CycleForm.{inside}
use Rattle.forms.specs.Scan.{all_inside_is}
use Rattle.forms.proofs.all_within.Goals as goal

pub returns : goal.returns
returns c =
    let cs = c.args.corners.now in
    all_from_yields_List inside _ _ c.all.result c.all.ensures.ran (YieldsList-from_slice cs cc) (λ x b q k. search (rules, tests)) ∙ all_inside_is cs
