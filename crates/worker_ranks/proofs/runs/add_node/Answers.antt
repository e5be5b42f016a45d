use Rattle.std.proofs.Common.{◌≡◌, ◌∙◌, ◌<◌, ◌-◌, ◌∷◌, [], ap, length, map, rules, sym, true}
use Rattle.std.proofs.lemmas.List.{map-append}
use Rattle.worker_ranks.specs.inner.SideBySide.{begins_with}
use Rattle.worker_ranks.specs.inner.Vertices.{vertex_held}
use Rattle.worker_ranks.proofs.Neighbours.{grown-last, one-there}
use Rattle.worker_ranks.proofs.runs.add_node.Goals as goal

pub returns : goal.returns
returns c =
    let i = c.len-count.result - 1 in
    let w = c.args.node.now.worker in
    let long : c.len-count.result ≡ length c.args.runs.now.items = search rules in
    let inside : i < length c.args.runs.now.items = search rules in
    let same = one-there c.args.runs.now.items i c.index_mut.result.now c.index.result.now inside c.index_mut.ensures.value c.index.ensures in
    let is : begins_with w (map vertex_held c.index_mut.result.now.items) ≡ true =
    ap (λ g. begins_with w (map vertex_held g.items)) same ∙ ap (λ xs. begins_with w (map vertex_held xs)) (sym c.deref.ensures.value)
    ∙ sym c.begins_with_one_of.ensures ∙ c.if-not-begins_with_one_of.false
    in
    grown-last (vertex_held c.args.node.now) c.index_mut.result.now c.push.new.self (ap (map vertex_held) c.in_ok-push.ensures.items ∙ map-append vertex_held c.index_mut.result.now.items (c.args.node.now ∷ []))
    is c.args.runs.now.items i (search rules) c.index_mut.ensures.value
