use Rattle.std.proofs.Common.{◌≡◌, ◌≤◌, ◌-◌, ◌∙◌, chars, length, take, ap, arith, length-drop}
use Rattle.shared_string.proofs.Behind.{cut-boundary, cut-points}
use Rattle.shared_string.proofs.counted.part.Goals as goal

pub split_at-requires : goal.split_at-requires
split_at-requires c =
    cut-boundary c.behind-from_start.result.now c.behind-from_end.result.now (c.args.end - c.args.start) c.behind-from_end.ensures

pub returns : goal.returns
returns c =
    let start = c.args.start in
    let from_start = c.behind-from_start.result.now in
    let count = c.args.end - start in
    let left : length (chars from_start) ≡ length (chars c.args.text.now) - start = ap length c.behind-from_start.ensures.points ∙ length-drop start (chars c.args.text.now) in
    let inside : count ≤ length (chars from_start) = omega (arith, left, c.requires.inside, c.requires.order) in
    ap chars c.split_at.ensures.front
    ∙ (cut-points from_start c.behind-from_end.result.now count c.behind-from_end.ensures c.behind-from_start.utf8 inside
    ∙ ap (take count) c.behind-from_start.ensures.points)
