use Rattle.std.proofs.Common.{◌∙◌, ℕ, ap, map, subst, sym, None, Some}
use Rattle.checks.proofs.Steps.{ran_out}
use Rattle.graphs.specs.Cycles.{IsOnCycle}
use Rattle.name_resolution.specs.Faults.{cycle_fault, definition_named}
use Rattle.name_resolution.specs.Resolved.{parts}
use Rattle.name_resolution.proofs.Naming.{acyclic, cyclic, found-as}
use Rattle.name_resolution.proofs.named.definition.Goals as goal

pub cycle-requires-clause-acyclic : goal.cycle-requires-clause-acyclic
cycle-requires-clause-acyclic c = λ known. subst (λ next. (i : ℕ) → ¬ IsOnCycle next i) (sym c.requires.graph.parts_are) (c.requires.graph.acyclic known)

pub returns : goal.returns
returns c env = ran_out (definition_named c.args.outlines.now c.args.home c.args.number c.args.d.now) env env

pub returns-in-Ok-Some : goal.returns-in-Ok-Some
returns-in-Ok-Some c env = ran_out (definition_named c.args.outlines.now c.args.home c.args.number c.args.d.now) env env

pub returns-in-Ok : goal.returns-in-Ok
returns-in-Ok c env =
    let outlines = c.args.outlines.now in
    let n = c.args.number in
    let others = c.in-Ok-Some.others in
    cyclic c.args.home outlines n c.args.d.now others.items c.in-Ok.fault env
    (found-as (λ v. v.items) (map (λ v. v.items) c.args.graph.now.parts.items) (parts outlines) n c.in-Ok-Some.field-0 (Some others) c.requires.graph.parts_are
    c.in-Ok-Some.field-0-is c.in-Ok-Some.ensures)
    (c.in-Ok.ensures ∙ ap (cycle_fault outlines n c.args.d.now) c.deref.ensures.value)

pub returns-in-Ok-None : goal.returns-in-Ok-None
returns-in-Ok-None c env =
    let outlines = c.args.outlines.now in
    acyclic c.args.home outlines c.args.number c.args.d.now env c.names.result
    (found-as (λ v. v.items) (map (λ v. v.items) c.args.graph.now.parts.items) (parts outlines) c.args.number c.in-Ok-None.field-0 None c.requires.graph.parts_are
    c.in-Ok-None.field-0-is c.in-Ok-None.ensures)
    (c.names.ensures env)
