use Rattle.std.proofs.Common.{◌≡◌, Some, length, slice_get, sym, ◌∙◌, ap}
use Rattle.std.proofs.lemmas.Option.{slice_get-get_or}
use Rattle.type_diagrams.specs.Sets.{set_of}
use Rattle.type_diagrams.specs.Conditions.{atom_condition}
use Rattle.type_diagrams.proofs.Shapes.{IfOk-map}
use Rattle.type_diagrams.proofs.Keeping.{extends-more, extends-within, slice_get-grows}
use Rattle.type_diagrams.proofs.Combined.{parts-Gives}
use Rattle.type_diagrams.proofs.TypeParts.{atom-HasParts, parts-over}
use Rattle.type_diagrams.proofs.diagrams.Diagrams.of_atom.Goals as goal

pub returns-in_err-simple-clause-extends : goal.returns-in_err-simple-clause-extends
returns-in_err-simple-clause-extends c =
    extends-more (length c.args.defs.now) c.args.self.now c.set_number-2.new.self c.set_number-2.ensures.extends

pub returns-in_err-root-clause-extends : goal.returns-in_err-root-clause-extends
returns-in_err-root-clause-extends c =
    let most = length c.args.defs.now in
    extends-within most c.args.self.now c.set_number-2.new.self c.literal.new.self
    (extends-more most c.args.self.now c.set_number-2.new.self c.set_number-2.ensures.extends) (c.literal.ensures.extends most (λ apart. c.requires.defined))

pub number-requires : goal.number-requires
number-requires c =
    let t = c.literal.new.self in
    let most = length c.args.defs.now in
    let grown = c.literal.ensures.extends most (λ apart. c.requires.defined) in
    let at = slice_get-grows c.set_number-2.new.self.sets t.sets c.in_ok-simple.simple (set_of c.all.result) grown.keeps.sets c.in_ok-simple.ensures.made in
    let there = slice_get-get_or c.args.defs.now c.args.atom c.index-defs-atom.result c.requires.defined ∙ ap Some (sym c.index-defs-atom.is) in
    parts-over t c.with_root.result (atom_condition c.args.defs.now c.args.atom)
    (atom-HasParts t c.all.result c.in_ok-simple.simple at c.args.defs.now c.args.atom c.index-defs-atom.result there c.kind_of-kind.result c.in_ok-root.root c.without_kinds.result c.with_root.result c.kind_of-kind.ensures c.all.ensures.shapes c.in_ok-root.ensures.made c.without_kinds.ensures c.with_root.ensures.simple c.with_root.ensures.roots)

pub returns-clause-extends : goal.returns-clause-extends
returns-clause-extends c =
    let most = length c.args.defs.now in
    let before = extends-within most c.args.self.now c.set_number-2.new.self c.literal.new.self
    (extends-more most c.args.self.now c.set_number-2.new.self c.set_number-2.ensures.extends) (c.literal.ensures.extends most (λ apart. c.requires.defined)) in
    extends-within most c.args.self.now c.literal.new.self c.number.new.self before (extends-more most c.literal.new.self c.number.new.self c.number.ensures.extends)

pub returns-clause-condition : goal.returns-clause-condition
returns-clause-condition c =
    let t = c.literal.new.self in
    let most = length c.args.defs.now in
    let grown = c.literal.ensures.extends most (λ apart. c.requires.defined) in
    let at = slice_get-grows c.set_number-2.new.self.sets t.sets c.in_ok-simple.simple (set_of c.all.result) grown.keeps.sets c.in_ok-simple.ensures.made in
    let there = slice_get-get_or c.args.defs.now c.args.atom c.index-defs-atom.result c.requires.defined ∙ ap Some (sym c.index-defs-atom.is) in
    IfOk-map (λ n. slice_get c.number.new.self.diagrams n ≡ Some c.with_root.result) _
    (λ n placed. parts-Gives t c.number.new.self c.with_root.result (atom_condition c.args.defs.now c.args.atom) n
    (atom-HasParts t c.all.result c.in_ok-simple.simple at c.args.defs.now c.args.atom c.index-defs-atom.result there c.kind_of-kind.result c.in_ok-root.root c.without_kinds.result c.with_root.result c.kind_of-kind.ensures c.all.ensures.shapes c.in_ok-root.ensures.made c.without_kinds.ensures c.with_root.ensures.simple c.with_root.ensures.roots)
    c.number.ensures.extends.keeps placed)
    c.number.result c.number.ensures.made
