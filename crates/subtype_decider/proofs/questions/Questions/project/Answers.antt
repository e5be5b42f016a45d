use Rattle.std.proofs.Common.{ℕ, length, rules, subst, sym, arith}
use Rattle.type_diagrams.specs.Questions.{IsUnionOf}
use Rattle.type_diagrams.specs.Reach.{IsFirst, Passes, Reached}
use Rattle.type_diagrams.specs.Tables.{condition}
use Rattle.type_diagrams.proofs.AskedDiagrams.{then_all}
use Rattle.type_diagrams.proofs.Keeping.{extends-more}
use Rattle.subtype_decider.specs.Projections.{kind_at}
use Rattle.subtype_decider.proofs.Answering.{kept_as}
use Rattle.subtype_decider.proofs.Passing.{handed}
use Rattle.subtype_decider.proofs.Projected.{all-IsQuestionOf, kept-further, more-IsQuestionOf, none-IsQuestionOf}
use Rattle.subtype_decider.proofs.Resting.{rest-grown}
use Rattle.subtype_decider.proofs.questions.Questions.project.Goals as goal

pub returns-in_err-parts-clause-kept : goal.returns-in_err-parts-clause-kept
returns-in_err-parts-clause-kept g c = kept_as c.args.self.now.table c.of.new.self.table c.of.ensures.table

pub loop-path-init : goal.loop-path-init
loop-path-init g c = record {
  rest = c.of.ensures.rest;
  extends = c.of.ensures.extends;
  kept = kept_as c.args.self.now.table c.of.new.self.table c.of.ensures.table;
  parts = none-IsQuestionOf c.args.env.now c.args.keys.now c.of.new.self.diagrams c.in_ok-parts.parts c.deref-path-items.result.now c.in_ok-parts.ensures.gives.diagram c.in_ok-parts.ensures.looks c.in_ok-parts.ensures.shapes;
}

pub returns-in_err-more-clause-extends : goal.returns-in_err-more-clause-extends
returns-in_err-more-clause-extends g c = then_all _ _ _ _ c.loop-path.invariant.extends c.project_path.ensures.extends

pub returns-in_err-more-clause-kept : goal.returns-in_err-more-clause-kept
returns-in_err-more-clause-kept g c = kept-further c.args.self.now.table c.loop-path.self.table c.project_path.new.self.table c.loop-path.invariant.kept c.project_path.ensures.kept

pub returns-in_err-more-clause-limit : goal.returns-in_err-more-clause-limit
returns-in_err-more-clause-limit g c asked reached =
    let env = c.args.env.now in
    let there = subst (Reached env (IsFirst env asked)) (sym (c.loop-path.invariant.extends.keeps.conditions c.args.question c.requires.diagram)) reached in
    let h = handed ℕ (Passes env asked) (Passes env asked) c.project_path.result c.in_err-more.field-0.0 c.in_err-more.was (λ l q. q) (c.project_path.ensures.limit asked there) in
    search rules

pub returns-in_err-parts-2-clause-rest : goal.returns-in_err-parts-2-clause-rest
returns-in_err-parts-2-clause-rest g c = rest-grown c.args.env.now c.project_path.new.self c.union.new.self (extends-more (length c.args.env.now) c.project_path.new.self.diagrams c.union.new.self c.union.ensures.extends) c.project_path.ensures.rest

pub returns-in_err-parts-2-clause-extends : goal.returns-in_err-parts-2-clause-extends
returns-in_err-parts-2-clause-extends g c =
    then_all _ _ _ _ (then_all _ _ _ _ c.loop-path.invariant.extends c.project_path.ensures.extends) (extends-more (length c.args.env.now) c.project_path.new.self.diagrams c.union.new.self c.union.ensures.extends)

pub returns-in_err-parts-2-clause-kept : goal.returns-in_err-parts-2-clause-kept
returns-in_err-parts-2-clause-kept g c = kept-further c.args.self.now.table c.loop-path.self.table c.project_path.new.self.table c.loop-path.invariant.kept c.project_path.ensures.kept

pub loop-path-preserved : goal.loop-path-preserved
loop-path-preserved g c =
    let grown = extends-more (length c.args.env.now) c.project_path.new.self.diagrams c.union.new.self c.union.ensures.extends in record {
      rest = rest-grown c.args.env.now c.project_path.new.self c.union.new.self grown c.project_path.ensures.rest;
      extends = then_all _ _ _ _ (then_all _ _ _ _ c.loop-path.invariant.extends c.project_path.ensures.extends) grown;
      kept = kept-further c.args.self.now.table c.loop-path.self.table c.project_path.new.self.table c.loop-path.invariant.kept c.project_path.ensures.kept;
      parts = more-IsQuestionOf c.args.env.now c.args.keys.now c.loop-path.self.diagrams c.project_path.new.self.diagrams c.union.new.self c.deref-path-items.result.now c.loop-path.path-index c.path-item.result c.loop-path.parts c.in_ok-more.more c.in_ok-parts-2.parts
          c.loop-path-test.true c.path-item.is c.project_path.ensures.extends.keeps c.loop-path.invariant.parts c.in_ok-more.ensures.parts c.in_ok-parts-2.ensures.condition;
    }

pub returns-clause-parts : goal.returns-clause-parts
returns-clause-parts g c =
    let of = condition c.args.self.now.diagrams c.args.question in
    let keys = c.args.keys.now in
    let union = subst (λ k. IsUnionOf of k c.in_ok-paths.paths.items) c.kind_at.ensures c.in_ok-paths.ensures.shapes in
    all-IsQuestionOf c.args.env.now keys c.loop-path.self.diagrams of c.deref-path-items.result.now c.loop-path.path-index c.loop-path.parts (omega arith)
    (subst (IsUnionOf of (kind_at keys)) (sym c.deref-path-items.ensures.value) union) c.loop-path.invariant.parts
