-- What was followed tells whether there is a chain (17 where there is none); else 8 where the list is too short, else the corners that
-- were counted.
use mathlib.Core.Path.{◌≡◌, refl, ap}
use mathlib.Core.Bool.{true}
use Prim.Native.Nat.{◌-◌, ◌≤◌}
use native.Mathlib.Omega.{arith}
use lib.ListN.{length, get_or}
use Rattle.lattice.specs.Walks.{turns}
use Rattle.answers.specs.Answers.{answers_cause, answers_short, answers_all}
use Rattle.answers.specs.Put.{put_same}
use Rattle.chains.specs.ChainForm.{chain_form, corners_of, walk, read_number}
use Rattle.chains.specs.ChainParts.{chain_parts, Readable, readable}
use Rattle.chains.specs.Followed.{said_none, said_some}
use Rattle.chains.proofs.read_chain.Goals as goal

pub returns-in_default : goal.returns-in_default
unfolding read_number
returns-in_default c =
    let a = c.args in
    let none = said_none c.corner_count.ensures c.in_default.is in
    answers_cause 17 (chain_form a.start a.bytes.now) (length (corners_of a.start a.bytes.now)) _ 16 refl none refl refl

pub returns-then-corners-n : goal.returns-then-corners-n
unfolding read_number
returns-then-corners-n c =
    let counted : (chain_form c.args.start c.args.bytes.now ≡ true) × (c.in-Some.n ≡ length (corners_of c.args.start c.args.bytes.now)) = said_some c.corner_count.ensures c.in-Some.is in
    let k = counted in
    answers_short 17 (chain_form c.args.start c.args.bytes.now) (length (corners_of c.args.start c.args.bytes.now)) _ k.0 (omega (arith, k.1, c.if-corners-n.true)) refl refl

pub overflow_sub-last : goal.overflow_sub-last
overflow_sub-last c =
    let counted : (chain_form c.args.start c.args.bytes.now ≡ true) × (c.in-Some.n ≡ length (corners_of c.args.start c.args.bytes.now)) = said_some c.corner_count.ensures c.in-Some.is in
    let chain : Readable c.args.start c.args.bytes.now (get_or c.args.bytes.now (length c.args.bytes.now - 1) 0 - 48) = readable c.args.start c.args.bytes.now counted.0 in
    omega (arith, chain.some)

pub bounds-bytes-bytes : goal.bounds-bytes-bytes
bounds-bytes-bytes c =
    let counted : (chain_form c.args.start c.args.bytes.now ≡ true) × (c.in-Some.n ≡ length (corners_of c.args.start c.args.bytes.now)) = said_some c.corner_count.ensures c.in-Some.is in
    let chain : Readable c.args.start c.args.bytes.now (get_or c.args.bytes.now (length c.args.bytes.now - 1) 0 - 48) = readable c.args.start c.args.bytes.now counted.0 in
    omega (arith, chain.some)

pub overflow_sub-last-2 : goal.overflow_sub-last-2
overflow_sub-last-2 c =
    let counted : (chain_form c.args.start c.args.bytes.now ≡ true) × (c.in-Some.n ≡ length (corners_of c.args.start c.args.bytes.now)) = said_some c.corner_count.ensures c.in-Some.is in
    let chain : Readable c.args.start c.args.bytes.now (get_or c.args.bytes.now (length c.args.bytes.now - 1) 0 - 48) = readable c.args.start c.args.bytes.now counted.0 in
    chain.low

pub write_corners-k-requires : goal.write_corners-k-requires
write_corners-k-requires c =
    let counted : (chain_form c.args.start c.args.bytes.now ≡ true) × (c.in-Some.n ≡ length (corners_of c.args.start c.args.bytes.now)) = said_some c.corner_count.ensures c.in-Some.is in
    let chain : Readable c.args.start c.args.bytes.now (get_or c.args.bytes.now (length c.args.bytes.now - 1) 0 - 48) = readable c.args.start c.args.bytes.now counted.0 in
    let r = chain in
    (r.back, omega (arith, ap length r.same, counted.1, c.if-corners-n.false))

pub overflow_cast-result : goal.overflow_cast-result
overflow_cast-result c =
    let counted : (chain_form c.args.start c.args.bytes.now ≡ true) × (c.in-Some.n ≡ length (corners_of c.args.start c.args.bytes.now)) = said_some c.corner_count.ensures c.in-Some.is in
    let chain : Readable c.args.start c.args.bytes.now (get_or c.args.bytes.now (length c.args.bytes.now - 1) 0 - 48) = readable c.args.start c.args.bytes.now counted.0 in
    let most = (chain_parts c.args.start c.args.bytes.now counted.0).most in
    omega (arith, c.write_corners-k.ensures.count_is, ap length chain.same, most)

pub returns : goal.returns
unfolding read_number
returns c =
    let counted : (chain_form c.args.start c.args.bytes.now ≡ true) × (c.in-Some.n ≡ length (corners_of c.args.start c.args.bytes.now)) = said_some c.corner_count.ensures c.in-Some.is in
    let chain : Readable c.args.start c.args.bytes.now (get_or c.args.bytes.now (length c.args.bytes.now - 1) 0 - 48) = readable c.args.start c.args.bytes.now counted.0 in
    let k = counted in
    let room : length (corners_of c.args.start c.args.bytes.now) ≤ length c.args.corners.now = omega (arith, k.1, c.if-corners-n.false) in
    answers_all 17 (chain_form c.args.start c.args.bytes.now) (length (corners_of c.args.start c.args.bytes.now)) _ k.0 room refl
    (put_same (turns (get_or c.args.bytes.now (length c.args.bytes.now - 1) 0 - 48) (walk c.args.start c.args.bytes.now)) (corners_of c.args.start c.args.bytes.now) chain.same c.write_corners-k.ensures)
