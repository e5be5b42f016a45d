use Rattle.std.proofs.Common.{ℕ, length, rules, subst, arith}
use Rattle.std.proofs.lemmas.List.Elements.{All-contains_itself}
use Rattle.type_diagrams.specs.Projections.{Projects}
use Rattle.type_diagrams.specs.Reach.{Passes, next}
use Rattle.type_diagrams.specs.Tables.{condition}
use Rattle.type_diagrams.proofs.AskedDiagrams.{not_yet, then_all}
use Rattle.type_diagrams.proofs.Reaching.{member-Looks}
use Rattle.subtype_decider.specs.Projections.{kind_at}
use Rattle.subtype_decider.proofs.MoreKnown.{more-known}
use Rattle.subtype_decider.proofs.Passing.{handed}
use Rattle.subtype_decider.proofs.Projected.{kept-further, parts-IsQuestionOf, path-IsReady}
use Rattle.subtype_decider.proofs.Resting.{rest-grown}
use Rattle.subtype_decider.proofs.questions.Questions.project_path.Goals as goal

pub loop-parts-init : goal.loop-parts-init
loop-parts-init g c = record {
  rest = c.requires.rest;
  extends = not_yet (length c.args.env.now) c.args.self.now.diagrams;
  kept = All-contains_itself c.args.self.now.table;
}

pub path_parts-requires : goal.path_parts-requires
path_parts-requires g c =
    let rest = c.loop-parts.invariant.rest in
    path-IsReady c.args.env.now c.loop-parts.self.diagrams c.loop-parts.self.table (condition c.args.self.now.diagrams c.args.question) (kind_at c.args.keys.now) c.args.path.now c.requires.looks c.requires.path rest.defined rest.closed

pub returns-in_err-parts-clause-rest : goal.returns-in_err-parts-clause-rest
returns-in_err-parts-clause-rest g c = rest-grown c.args.env.now c.loop-parts.self c.path_parts.new.dia c.path_parts.ensures.extends c.loop-parts.invariant.rest

pub returns-in_err-parts-clause-extends : goal.returns-in_err-parts-clause-extends
returns-in_err-parts-clause-extends g c = then_all _ _ _ _ c.loop-parts.invariant.extends c.path_parts.ensures.extends

pub returns-in-Parts-clause-rest : goal.returns-in-Parts-clause-rest
returns-in-Parts-clause-rest g c = rest-grown c.args.env.now c.loop-parts.self c.path_parts.new.dia c.path_parts.ensures.extends c.loop-parts.invariant.rest

pub returns-in-Parts-clause-extends : goal.returns-in-Parts-clause-extends
returns-in-Parts-clause-extends g c = then_all _ _ _ _ c.loop-parts.invariant.extends c.path_parts.ensures.extends

pub returns-in-Parts-clause-parts : goal.returns-in-Parts-clause-parts
returns-in-Parts-clause-parts g c =
    let env = c.args.env.now in
    let dia = c.path_parts.new.dia in
    let p = c.args.path.now in
    let keys = c.args.keys.now in
    let kept = c.loop-parts.self.table in
    let rest = rest-grown env c.loop-parts.self dia c.path_parts.ensures.extends c.loop-parts.invariant.rest in
    parts-IsQuestionOf env dia kept p keys c.in-Parts.parts rest.closed (subst (Projects env dia kept (kind_at keys) p keys) c.in-Parts.is c.in_ok-parts.ensures.projects)

pub decide-requires-clause-rest : goal.decide-requires-clause-rest
decide-requires-clause-rest g c = rest-grown c.args.env.now c.loop-parts.self c.path_parts.new.dia c.path_parts.ensures.extends c.loop-parts.invariant.rest

pub decide-requires-clause-looks : goal.decide-requires-clause-looks
decide-requires-clause-looks g c =
    let env = c.args.env.now in
    let dia = c.path_parts.new.dia in
    let p = c.args.path.now in
    let keys = c.args.keys.now in
    let asks = subst (Projects env dia c.loop-parts.self.table (kind_at keys) p keys) c.in-Ask.is c.in_ok-parts.ensures.projects in
    member-Looks env (kind_at keys) p (condition dia c.in-Ask.unknown) asks.2

pub loop-parts-smaller : goal.loop-parts-smaller
loop-parts-smaller g c =
    let env = c.args.env.now in
    let dia = c.path_parts.new.dia in
    let p = c.args.path.now in
    let keys = c.args.keys.now in
    let old = c.loop-parts.self.table in
    let asks = subst (Projects env dia old (kind_at keys) p keys) c.in-Ask.is c.in_ok-parts.ensures.projects in
    let more = more-known old c.decide.new.self.table c.in-Ask.unknown c.loop-parts.invariant.rest.closed.apart c.decide.ensures.kept asks.0 c.in_ok-decide-in-Ask.ensures.knows in
    let small = c.len-known.ensures.small in
    let len = c.len-known.ensures.len in
    omega (arith, more, small, len)

pub loop-parts-preserved : goal.loop-parts-preserved
loop-parts-preserved g c = record {
  rest = c.decide.ensures.rest;
  extends = then_all _ _ _ _ (then_all _ _ _ _ c.loop-parts.invariant.extends c.path_parts.ensures.extends) c.decide.ensures.extends;
  kept = kept-further c.args.self.now.table c.loop-parts.self.table c.decide.new.self.table c.loop-parts.invariant.kept c.decide.ensures.kept;
}

pub returns-in_err-decide-in-Ask-clause-extends : goal.returns-in_err-decide-in-Ask-clause-extends
returns-in_err-decide-in-Ask-clause-extends g c = then_all _ _ _ _ (then_all _ _ _ _ c.loop-parts.invariant.extends c.path_parts.ensures.extends) c.decide.ensures.extends

pub returns-in_err-decide-in-Ask-clause-kept : goal.returns-in_err-decide-in-Ask-clause-kept
returns-in_err-decide-in-Ask-clause-kept g c = kept-further c.args.self.now.table c.loop-parts.self.table c.decide.new.self.table c.loop-parts.invariant.kept c.decide.ensures.kept

pub returns-in_err-decide-in-Ask-clause-limit : goal.returns-in_err-decide-in-Ask-clause-limit
returns-in_err-decide-in-Ask-clause-limit g c asked reached =
    let env = c.args.env.now in
    let dia = c.path_parts.new.dia in
    let p = c.args.path.now in
    let keys = c.args.keys.now in
    let asks = subst (Projects env dia c.loop-parts.self.table (kind_at keys) p keys) c.in-Ask.is c.in_ok-parts.ensures.projects in
    let further = next (condition c.args.self.now.diagrams c.args.question) (condition dia c.in-Ask.unknown) (kind_at keys) p reached c.requires.path asks.2 in
    let h = handed ℕ (Passes env asked) (Passes env asked) c.decide.result c.in_err-decide-in-Ask.field-0.0 c.in_err-decide-in-Ask.was (λ l q. q) (c.decide.ensures.limit asked further) in
    search rules
