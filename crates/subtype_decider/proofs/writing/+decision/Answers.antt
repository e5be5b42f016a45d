use Rattle.std.proofs.Common.{◌-◌, get_or, true, false}
use Rattle.type_diagrams.specs.declared.node.Node.{Node}
use Rattle.type_diagrams.proofs.Shapes.{IfOk-map}
use Rattle.subtype_decider.specs.Writing.{IsBoth, IsEither, IsLiteralType}
use Rattle.subtype_decider.proofs.WrittenTypes.{read, holding-IsDecisionType, failing-IsDecisionType, true_or-IsDecisionType, or_true-IsDecisionType, or_false-IsDecisionType, false_or-IsDecisionType, both-IsDecisionType}
use Rattle.subtype_decider.proofs.writing.+decision.Goals as goal

abbrev none : Node
none = record { on = 0; yes = 0; no = 0 }

pub returns-in-0-no : goal.returns-in-0-no
returns-in-0-no t c =
    let nodes = c.args.nodes.now in
    let m = get_or nodes (c.args.number - 2) none in
    let r = read nodes c.args.number none c.requires.are c.requires.node c.requires.number in
    IfOk-map (IsLiteralType c.args.kind m.on true) _
    (λ made l. holding-IsDecisionType c.args.kind nodes c.args.number m.on m.yes m.no r.0 r.1 made c.in-1.is c.in-0-no.is l) c.literal.result c.literal.ensures

pub returns-in-1-no : goal.returns-in-1-no
returns-in-1-no t c =
    let nodes = c.args.nodes.now in
    let m = get_or nodes (c.args.number - 2) none in
    let r = read nodes c.args.number none c.requires.are c.requires.node c.requires.number in
    IfOk-map (IsLiteralType c.args.kind m.on false) _
    (λ made l. failing-IsDecisionType c.args.kind nodes c.args.number m.on m.yes m.no r.0 r.1 made c.in-0.is c.in-1-no.is l) c.literal-in-1-no.result c.literal-in-1-no.ensures

pub returns-in_ok-literal-in_default-no : goal.returns-in_ok-literal-in_default-no
returns-in_ok-literal-in_default-no t c =
    let nodes = c.args.nodes.now in
    let m = get_or nodes (c.args.number - 2) none in
    let r = read nodes c.args.number none c.requires.are c.requires.node c.requires.number in
    let literal = c.in_ok-literal-in_default-no in
    let rest = c.in_ok-rest-in_default-no in
    IfOk-map (IsEither literal.field-0 rest.rest) _
    (λ made e. true_or-IsDecisionType c.args.kind nodes c.args.number m.on m.yes m.no r.0 r.1 literal.field-0 rest.rest made c.in-1.is literal.ensures rest.ensures e) c.either.result c.either.ensures

pub returns-in_ok-literal-in_default-no-2 : goal.returns-in_ok-literal-in_default-no-2
returns-in_ok-literal-in_default-no-2 t c =
    let nodes = c.args.nodes.now in
    let m = get_or nodes (c.args.number - 2) none in
    let r = read nodes c.args.number none c.requires.are c.requires.node c.requires.number in
    let literal = c.in_ok-literal-in_default-no-2 in
    let rest = c.in_ok-rest-in_default-no-2 in
    IfOk-map (IsBoth literal.field-0 rest.rest) _
    (λ made e. false_or-IsDecisionType c.args.kind nodes c.args.number m.on m.yes m.no r.0 r.1 literal.field-0 rest.rest made c.in-0.is literal.ensures rest.ensures e) c.both.result c.both.ensures

pub returns-in_ok-literal-in-1-no-2 : goal.returns-in_ok-literal-in-1-no-2
returns-in_ok-literal-in-1-no-2 t c =
    let nodes = c.args.nodes.now in
    let m = get_or nodes (c.args.number - 2) none in
    let r = read nodes c.args.number none c.requires.are c.requires.node c.requires.number in
    let literal = c.in_ok-literal-in-1-no-2 in
    let rest = c.in_ok-rest-in_default in
    IfOk-map (IsEither literal.field-0 rest.rest) _
    (λ made e. or_true-IsDecisionType c.args.kind nodes c.args.number m.on m.yes m.no r.0 r.1 literal.field-0 rest.rest made c.in-1-no-2.is literal.ensures rest.ensures e) c.either-in-1-no-2.result c.either-in-1-no-2.ensures

pub returns-in_ok-literal-in-0-no-2 : goal.returns-in_ok-literal-in-0-no-2
returns-in_ok-literal-in-0-no-2 t c =
    let nodes = c.args.nodes.now in
    let m = get_or nodes (c.args.number - 2) none in
    let r = read nodes c.args.number none c.requires.are c.requires.node c.requires.number in
    let literal = c.in_ok-literal-in-0-no-2 in
    let rest = c.in_ok-rest-in_default in
    IfOk-map (IsBoth literal.field-0 rest.rest) _
    (λ made e. or_false-IsDecisionType c.args.kind nodes c.args.number m.on m.yes m.no r.0 r.1 literal.field-0 rest.rest made c.in-0-no-2.is literal.ensures rest.ensures e) c.both-in-0-no-2.result c.both-in-0-no-2.ensures

pub returns-in_ok-failing-in_default-no-3 : goal.returns-in_ok-failing-in_default-no-3
returns-in_ok-failing-in_default-no-3 t c =
    let nodes = c.args.nodes.now in
    let m = get_or nodes (c.args.number - 2) none in
    let r = read nodes c.args.number none c.requires.are c.requires.node c.requires.number in
    let holding = c.in_ok-holding-in_default-no-3 in
    let failing = c.in_ok-failing-in_default-no-3 in
    IfOk-map (IsEither holding.holding failing.failing) _
    (λ made e. both-IsDecisionType c.args.kind nodes c.args.number m.on m.yes m.no r.0 r.1 c.in_ok-literal-in_default-no-3.field-0 c.in_ok-rest-in_default.rest holding.holding c.in_ok-literal-in_default-no-3-2.field-0 c.in_ok-rest-in_default-no-3.rest failing.failing made
    c.in_ok-literal-in_default-no-3.ensures c.in_ok-rest-in_default.ensures holding.ensures c.in_ok-literal-in_default-no-3-2.ensures c.in_ok-rest-in_default-no-3.ensures failing.ensures e)
    c.either-in_default-no-3.result c.either-in_default-no-3.ensures
