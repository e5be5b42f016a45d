use Rattle.std.proofs.Common.{IfOk, List, inr, subst}
use Rattle.type_model.specs.declared.atoms.AtomDef.{AtomDef}
use Rattle.filler_tables.specs.Asked.{AsksShape, AsksSimple}
use Rattle.filler_tables.specs.inner.Telling.{IsSimple, LacksNil}
use Rattle.filler_tables.proofs.Leading.{leads-on}
use Rattle.filler_tables.proofs.SimpleShapes.{lacks-nil}
use Rattle.filler_tables.proofs.simple.simple_filler.Goals as goal

pub returns-in-Ok-false-clause-simple : goal.returns-in-Ok-false-clause-simple
returns-in-Ok-false-clause-simple g c =
    let t = c.args.t.now in
    subst (λ (env : List AtomDef). LacksNil env t → IfOk c.by_shape.result (IsSimple env t)) c.has_all.ensures.atoms c.by_shape.ensures.simple
    (lacks-nil (g.T.Types.atoms c.args.types.now) t c.in-Ok-false.field-0 c.in-Ok-false.field-0-test c.in-Ok-false.ensures.answer)

pub returns-in-Ok-false-clause-limit : goal.returns-in-Ok-false-clause-limit
returns-in-Ok-false-clause-limit g c =
    let old = g.T.Types.atoms c.args.types.now in
    leads-on g.T.Types.passes old (g.T.Types.atoms c.has_all.new.types) c.has_all.ensures.atoms (λ env asked. AsksShape env c.args.t.now asked) (AsksSimple old c.args.t.now) (λ asked h. inr h) c.by_shape.result c.by_shape.ensures.limit
