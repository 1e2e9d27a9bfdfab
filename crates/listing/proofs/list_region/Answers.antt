-- `list_region` meets its contract: block j is the next one of the chain, and its link leads on.
use Rattle.std.proofs.Common.{◌≡◌, ◌+◌, ◌-◌, ap, get_or, arith}
use Rattle.listing.specs.Chains.{chain_begin, chain_block, link_inside, link_small, chain_again, chain_less, chain_finish}
use Rattle.listing.proofs.list_region.Goals as goal

pub loop-j-init : goal.loop-j-init
loop-j-init c = chain_begin c.requires

pub list_block-listed-requires : goal.list_block-listed-requires
list_block-listed-requires c =
    let here : c.in-Some.j ≡ c.loop-j.next - 1 = omega (arith, c.in-Some.ensures) in
    rw here (chain_block c.requires c.loop-j.invariant (λ z. omega (arith, c.in-Some.ensures)))

pub overflow_add-next-in-Some : goal.overflow_add-next-in-Some
overflow_add-next-in-Some c =
    let here : c.in-Some.j ≡ c.loop-j.next - 1 = omega (arith, c.in-Some.ensures) in
    omega (arith, link_small c.requires c.loop-j.invariant (λ z. omega (arith, c.in-Some.ensures)) c.pixels-whole.ensures)

pub offset_bounds-work-whole : goal.offset_bounds-work-whole
offset_bounds-work-whole c =
    let here : c.in-Some.j ≡ c.loop-j.next - 1 = omega (arith, c.in-Some.ensures) in
    omega (arith, link_small c.requires c.loop-j.invariant (λ z. omega (arith, c.in-Some.ensures)) c.pixels-whole.ensures)

pub bounds-work-whole : goal.bounds-work-whole
bounds-work-whole c =
    let here : c.in-Some.j ≡ c.loop-j.next - 1 = omega (arith, c.in-Some.ensures) in
    omega (
      arith,
      link_inside c.requires c.loop-j.invariant (λ z. omega (arith, c.in-Some.ensures)) c.pixels-whole.ensures (rw here at c.list_block-listed.ensures),
    )

pub loop-j-smaller : goal.loop-j-smaller
loop-j-smaller c =
    let here : c.in-Some.j ≡ c.loop-j.next - 1 = omega (arith, c.in-Some.ensures) in
    chain_less c.requires c.loop-j.invariant (λ z. omega (arith, c.in-Some.ensures)) c.pixels-whole.ensures (rw here at c.list_block-listed.ensures)
    (ap (λ k. get_or c.list_block-listed.new.work (c.pixels-whole.result + k) 0) here)

pub loop-j-preserved : goal.loop-j-preserved
loop-j-preserved c =
    let here : c.in-Some.j ≡ c.loop-j.next - 1 = omega (arith, c.in-Some.ensures) in
    chain_again c.requires c.loop-j.invariant (λ z. omega (arith, c.in-Some.ensures)) c.pixels-whole.ensures (rw here at c.list_block-listed.ensures)
    (ap (λ k. get_or c.list_block-listed.new.work (c.pixels-whole.result + k) 0) here)

pub returns : goal.returns
returns c = chain_finish c.requires c.loop-j.invariant (omega (arith, c.in_default.ensures))
