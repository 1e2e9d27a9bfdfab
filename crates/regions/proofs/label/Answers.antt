-- Each block its own parent, the walk, the work list cleared, then the roots numbered: the laws of the walk say what this comes to.
use Rattle.regions.specs.Labelling.{few, walkable, few_parents, labelled}
use Rattle.regions.proofs.label.Goals as goal

pub own_parents-requires : goal.own_parents-requires
own_parents-requires c = few c.requires

pub walk-requires : goal.walk-requires
walk-requires c = walkable c.requires c.own_parents.ensures

pub number_all-requires : goal.number_all-requires
number_all-requires c = (c.walk.ensures.low, few_parents c.requires c.walk.ensures)

pub returns : goal.returns
returns c = labelled c.requires c.walk.ensures c.number_all.ensures.value c.number_all.ensures.labels_after c.fill.ensures
