-- Each pass refuses only what no image has; what passes all has the outlines.
use mathlib.Core.Path.{refl, ◌∙◌}
use Rattle.given_outlines.specs.Needed.{none_has}
use Rattle.restoring.specs.Judging.{none_found, tellable, comparable, not_numbered, retraceable, image_judged}
use Rattle.restoring.proofs.judge.has_image.Goals as goal

pub returns-then-not-lists_agree : goal.returns-then-not-lists_agree
returns-then-not-lists_agree c = none_found refl (c.lists_agree.ensures.none c.if-not-lists_agree.true)

pub tell_regions-told-requires : goal.tell_regions-told-requires
tell_regions-told-requires c =
    let fits = c.lists_agree.ensures.fitting c.if-not-lists_agree.false in
    tellable c.requires fits

pub returns-then-not-told : goal.returns-then-not-told
returns-then-not-told c = none_found c.tell_regions-told.ensures.long (none_has (c.tell_regions-told.ensures.none c.if-not-told.true))

pub numbers_agree-numbered-requires : goal.numbers_agree-numbered-requires
numbers_agree-numbered-requires c =
    let fits = c.lists_agree.ensures.fitting c.if-not-lists_agree.false in
    comparable c.requires fits (c.tell_regions-told.ensures.told c.if-not-told.false) c.tell_regions-told.ensures.long

pub returns-then-not-numbered : goal.returns-then-not-numbered
returns-then-not-numbered c =
    let fits = c.lists_agree.ensures.fitting c.if-not-lists_agree.false in
    none_found (c.numbers_agree-numbered.ensures.long ∙ c.tell_regions-told.ensures.long)
    (not_numbered c.requires fits (c.tell_regions-told.ensures.told c.if-not-told.false) c.tell_regions-told.ensures.long c.numbers_agree-numbered.ensures c.if-not-numbered.true)

pub cycles_agree-requires : goal.cycles_agree-requires
cycles_agree-requires c =
    let fits = c.lists_agree.ensures.fitting c.if-not-lists_agree.false in
    retraceable c.requires fits (c.tell_regions-told.ensures.told c.if-not-told.false) c.tell_regions-told.ensures.long c.numbers_agree-numbered.ensures c.if-not-numbered.false

pub returns : goal.returns
returns c =
    let fits = c.lists_agree.ensures.fitting c.if-not-lists_agree.false in
    image_judged c.requires fits (c.tell_regions-told.ensures.told c.if-not-told.false) c.tell_regions-told.ensures.long c.numbers_agree-numbered.ensures c.if-not-numbered.false
    c.cycles_agree.ensures
