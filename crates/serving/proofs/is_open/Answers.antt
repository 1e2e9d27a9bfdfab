-- The definition asks each outline the same.
use Rattle.std.proofs.Common.{Bool, eqb, ◌∙◌, ◌||◌, rules, tests, refl}
use Rattle.std.specs.List.{list_any}
use Rattle.std.proofs.lemmas.Iterator.{YieldsList-from_slice}
use Rattle.std.proofs.lemmas.Iterator.Search.{any_from_yields_List}
use Rattle.std.proofs.lemmas.List.Recursion.{same_from_clauses}
use Rattle.serving.specs.declared.OpenOutline.{OpenOutline}
use Rattle.serving.specs.Queue.{is_open}
use Rattle.serving.proofs.is_open.Goals as goal

pub returns : goal.returns
unfolding is_open
returns c =
    let test = λ (o : OpenOutline). eqb o.cycle c.args.cycle in
    any_from_yields_List test _ _ _ c.any.ensures.ran (YieldsList-from_slice c.args.queue.now c.iter.ensures.rest) (λ x b q k. search (rules, tests))
    ∙ same_from_clauses (list_any test) (is_open c.args.cycle) (λ (o : OpenOutline) (b : Bool). test o || b) refl (λ _ _. refl) (λ _ _. refl) c.args.queue.now
