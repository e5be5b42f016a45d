use Rattle.std.proofs.Common.{IfOk, List, subst, sym}
use Rattle.type_model.specs.declared.atoms.AtomDef.{AtomDef}
use Rattle.type_model.specs.Inclusion.{FindsShape}
use Rattle.filler_tables.specs.inner.Telling.{IsSimple, LacksNil}
use Rattle.filler_tables.proofs.simple.by_shape.Goals as goal

pub returns-in-Ok-clause-simple : goal.returns-in-Ok-clause-simple
returns-in-Ok-clause-simple g c =
    let t = c.args.t.now in
    subst (λ (env : List AtomDef). LacksNil env t → IfOk c.by_sample.result (IsSimple env t)) c.has_shape.ensures.atoms
    (c.by_sample.ensures.simple c.in-Ok.found (subst (λ (env : List AtomDef). FindsShape env t c.in-Ok.found) (sym c.has_shape.ensures.atoms) c.in-Ok.ensures.found) c.sample_of.ensures)
