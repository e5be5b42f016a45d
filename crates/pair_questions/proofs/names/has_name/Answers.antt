use Rattle.std.proofs.Common.{◌↔◌, ◌∙◌, All, IsTrue, List, ap, subst, sym}
use Rattle.std.proofs.lemmas.List.{take_all}
use Rattle.std.proofs.lemmas.List.Elements.{All-more}
use Rattle.bal_base.specs.declared.shape.Shape.{Str}
use Rattle.type_model.specs.declared.atoms.AtomDef.{AtomDef}
use Rattle.type_model.specs.declared.basic.SemType.{SemType}
use Rattle.operations.specs.Rows.{IsSingle}
use Rattle.pair_questions.specs.declared.pair.Pair.{Pair}
use Rattle.pair_questions.specs.Pairs.{pair_of}
use Rattle.pair_questions.proofs.Singles.{any-mapped, is-single, no-single, none-mapped}
use Rattle.pair_questions.proofs.names.has_name.Goals as goal

pub returns-then-branch-clause-answers : goal.returns-then-branch-clause-answers
returns-then-branch-clause-answers g c =
    let env = g.T.Types.atoms c.args.types.now in
    let pair = c.pair-item.result in
    let decided = c.in_ok-is_single.field-0 in
    let told = subst (λ (e : List AtomDef). IsTrue decided ↔ IsSingle e pair.key.now (Str c.args.name.now)) c.loop-pair.invariant.0 c.in_ok-is_single.ensures.single in
    any-mapped pair_of (λ (p : SemType × SemType). IsSingle env p.0 (Str c.args.name.now)) c.args.pairs.now c.loop-pair.pair-index pair c.loop-pair-test.true (sym c.pair-item.is)
    (is-single env pair.key.now c.args.name.now decided c.if-branch.true told)

pub loop-pair-preserved : goal.loop-pair-preserved
loop-pair-preserved g c =
    let env = g.T.Types.atoms c.args.types.now in
    let pair = c.pair-item.result in
    let decided = c.in_ok-is_single.field-0 in
    let told = subst (λ (e : List AtomDef). IsTrue decided ↔ IsSingle e pair.key.now (Str c.args.name.now)) c.loop-pair.invariant.0 c.in_ok-is_single.ensures.single in
    let none = no-single env pair.key.now c.args.name.now decided c.if-branch.false told in (
      c.is_single.ensures.atoms ∙ c.loop-pair.invariant.0,
      All-more (λ (p : Pair). ¬ (IsSingle env p.key.now (Str c.args.name.now))) c.args.pairs.now c.loop-pair.pair-index pair c.loop-pair-test.true c.loop-pair.invariant.1
          (subst (λ (p : Pair). ¬ (IsSingle env p.key.now (Str c.args.name.now))) c.pair-item.is none),
    )

pub returns-clause-answers : goal.returns-clause-answers
returns-clause-answers g c =
    let env = g.T.Types.atoms c.args.types.now in
    let all = subst (λ (ps : List Pair). All (λ (p : Pair). ¬ (IsSingle env p.key.now (Str c.args.name.now))) ps) (take_all c.loop-pair.pair-index c.args.pairs.now c.loop-pair-test.false) c.loop-pair.invariant.1 in
    (ap Str c.share.ensures, none-mapped pair_of (λ (p : SemType × SemType). IsSingle env p.0 (Str c.args.name.now)) c.args.pairs.now all)
