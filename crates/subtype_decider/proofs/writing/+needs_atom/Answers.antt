use Rattle.std.proofs.Common.{◌-◌, get_or, arith}
use Rattle.std.proofs.lemmas.Bool.{OnTrue_from, OnTrue_at}
use Rattle.type_diagrams.specs.declared.node.Node.{Node}
use Rattle.subtype_decider.specs.Writing.{NeedsAtom}
use Rattle.subtype_decider.proofs.WrittenTypes.{read, atom-NeedsAtom, any-NeedsAtom}
use Rattle.subtype_decider.proofs.writing.+needs_atom.Goals as goal

abbrev none : Node
none = record { on = 0; yes = 0; no = 0 }

pub returns-then-node-ne-MARK : goal.returns-then-node-ne-MARK
returns-then-node-ne-MARK t c =
    let nodes = c.args.nodes.now in
    let m = get_or nodes (c.args.number - 2) none in
    let r = read nodes c.args.number none c.requires.are (omega arith) c.requires.number in
    OnTrue_from _ (NeedsAtom nodes c.args.number)
    (λ _. atom-NeedsAtom nodes c.args.number m.on m.yes m.no r.0 c.if-node-ne-MARK.true (OnTrue_at c.if-needs_atom.true c.needs_atom.ensures))

pub returns-else-node-ne-MARK : goal.returns-else-node-ne-MARK
returns-else-node-ne-MARK t c =
    let nodes = c.args.nodes.now in
    let m = get_or nodes (c.args.number - 2) none in
    let r = read nodes c.args.number none c.requires.are (omega arith) c.requires.number in
    OnTrue_from _ (NeedsAtom nodes c.args.number)
    (λ e. any-NeedsAtom nodes c.args.number m.on m.yes m.no r.0 (OnTrue_at e c.needs_atom-else-node-ne-MARK.ensures) (OnTrue_at c.if-needs_atom.true c.needs_atom.ensures))
