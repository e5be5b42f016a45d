use Rattle.std.proofs.Common.{◌≡◌, ◌++◌, ◌∷◌, ◌<◌, [], length, rules, refl, arith}
use Rattle.std.proofs.lemmas.Option.{slice_get_read}
use Rattle.flow_narrowing.proofs.Joining.{one-joined}
use Rattle.flow_narrowing.proofs.flow.all_joined.Goals as goal

pub loop-i-preserved : goal.loop-i-preserved
loop-i-preserved g c =
    let vs = c.args.first.now in
    let ws = c.args.second.now in
    let i = c.loop-i.i in
    let v = c.index-first-i.result in
    let w = c.index-second-i.result in
    let lt : i < length vs = search rules in
    let below : i < length ws = omega (arith, lt, c.requires.same) in
    let made : c.push.new.self.items ≡ c.loop-i.variables.items ++ c.in_ok-joined.field-0 ∷ [] = search rules in
    one-joined (g.T.Types.atoms c.args.types.now) (g.T.Types.atoms c.loop-i.types) (g.T.Types.atoms c.joined.new.types) c.args.which vs ws c.loop-i.variables.items c.push.new.self.items i v w
    c.in_ok-joined.field-0 c.loop-i.invariant.0 c.joined.ensures.atoms c.loop-i.invariant.1 c.loop-i.invariant.2 c.in_ok-joined.ensures.defined c.in_ok-joined.ensures.joined
    (slice_get_read vs (length vs) i v refl lt c.index-first-i.is) (slice_get_read ws (length ws) i w refl below c.index-second-i.is) made
