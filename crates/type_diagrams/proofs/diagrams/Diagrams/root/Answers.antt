use Rattle.std.proofs.Common.{subst, sym, slice_get}
use Rattle.type_diagrams.specs.Tables.{Leads, condition_at, root_of}
use Rattle.type_diagrams.proofs.Leading.{leads}
use Rattle.type_diagrams.proofs.diagrams.Diagrams.root.Goals as goal

pub returns-clause-leads : goal.returns-clause-leads
returns-clause-leads c v =
    let t = c.args.self.now in
    subst (λ n. Leads t.nodes v n ((condition_at t (slice_get t.diagrams c.args.a)).by_kind c.args.kind v)) (sym c.root.ensures)
    (subst (λ o. Leads t.nodes v (root_of c.diagram.result c.args.kind) ((condition_at t o).by_kind c.args.kind v)) (sym c.diagram.ensures.value)
    (leads t.nodes c.diagram.ensures.nodes v (root_of c.diagram.result c.args.kind) (c.diagram.ensures.over.roots c.args.kind)))
