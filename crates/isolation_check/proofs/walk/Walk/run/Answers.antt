use Rattle.std.proofs.Common.{Some, ap, arith, length, map, rules, subst, sym, ◌≡◌, []}
use Rattle.std.specs.Prelude.{All}
use Rattle.std.proofs.lemmas.List.Elements.{All-pop}
use Rattle.isolation_check.specs.declared.walk.OpenBody.{OpenBody}
use Rattle.isolation_check.specs.inner.Opened.{AreBelow, open_of}
use Rattle.isolation_check.specs.inner.Views.{parts_of}
use Rattle.isolation_check.specs.Typed.{PartBelow}
use Rattle.isolation_check.proofs.Stepping.{all-walked, none-open}
use Rattle.isolation_check.proofs.walk.Walk.run.Goals as goal

pub returns-in_default-clause-ends : goal.returns-in_default-clause-ends
returns-in_default-clause-ends g c =
    let none : c.loop.self.stack.items ≡ [] = search rules in
    all-walked g.T.Types.passes c.args.bodies (g.T.Types.atoms c.args.types.now) _ (map open_of c.loop.self.stack.items) _ c.loop.self.entered.items (ap (map open_of) none) c.loop.invariant.2

pub go_on-requires-clause-below : goal.go_on-requires-clause-below
go_on-requires-clause-below g c =
    subst (λ env. All (PartBelow (length env)) (parts_of c.in-Some.body.parts.now)) (sym c.loop.invariant.0)
    (All-pop (λ (b : OpenBody). All (PartBelow (length (g.T.Types.atoms c.args.types.now))) (parts_of b.parts.now)) c.loop.self.stack.items c.pop.new.self.items (Some c.in-Some.body) c.in-Some.ensures.items c.loop.invariant.1).1

pub go_on-requires-clause-stack : goal.go_on-requires-clause-stack
go_on-requires-clause-stack g c =
    subst (λ env. AreBelow (length env) c.pop.new.self.items) (sym c.loop.invariant.0)
    (All-pop (λ (b : OpenBody). All (PartBelow (length (g.T.Types.atoms c.args.types.now))) (parts_of b.parts.now)) c.loop.self.stack.items c.pop.new.self.items (Some c.in-Some.body) c.in-Some.ensures.items c.loop.invariant.1).0

pub returns-clause-ends : goal.returns-clause-ends
returns-clause-ends g c =
    let bound = c.loop.invariant.3 in
    let none : c.loop.self.stack.items ≡ [] = none-open c.loop.self.entered.items c.loop.self.stack.items _ _ bound (grind (arith, c.loop-test.false)) in
    all-walked g.T.Types.passes c.args.bodies (g.T.Types.atoms c.args.types.now) _ (map open_of c.loop.self.stack.items) _ c.loop.self.entered.items (ap (map open_of) none) c.loop.invariant.2
