use Rattle.std.proofs.Common.{refl, sym, ◌∙◌, arith}
use Rattle.std.proofs.lemmas.Bool.{false≢true}
use Rattle.type_diagrams.specs.Tables.{IsDiagram}
use Rattle.type_diagrams.proofs.AskedDiagrams.{then_all}
use Rattle.empty_product.specs.KeyBases.{IsApartAt}
use Rattle.empty_product.proofs.MappingQuestions.{apart-keeps, item-All, none-more, some-more}
use Rattle.empty_product.proofs.mapping_atoms.is_apart_at_named.Goals as goal

pub returns-in_err-is_apart_at-clause-extends : goal.returns-in_err-is_apart_at-clause-extends
returns-in_err-is_apart_at-clause-extends c = then_all _ _ _ _ c.loop-base.invariant.0 c.is_apart_at.ensures.extends

pub returns-then-branch-clause-extends : goal.returns-then-branch-clause-extends
returns-then-branch-clause-extends c = then_all _ _ _ _ c.loop-base.invariant.0 c.is_apart_at.ensures.extends

pub returns-then-branch-clause-apart : goal.returns-then-branch-clause-apart
returns-then-branch-clause-apart c =
    let env = c.args.env.now in
    let bases = c.args.bases.now in
    let b = c.base-item.result in
    let i = c.loop-base.base-index in
    let diagram = item-All (λ x. IsDiagram c.args.dia.now x.question) bases i b (omega arith) c.base-item.is c.requires.bases in
    let e = apart-keeps env c.args.dia.now c.loop-base.dia c.args.atom b c.loop-base.invariant.0.keeps diagram in
    (λ _. some-more (IsApartAt env c.args.dia.now c.args.atom) bases i b (omega arith) c.base-item.is (e.0 (c.in_ok-is_apart_at.ensures.apart.0 c.if-branch.true)), λ _. refl)

pub loop-base-preserved : goal.loop-base-preserved
loop-base-preserved c =
    let env = c.args.env.now in
    let bases = c.args.bases.now in
    let b = c.base-item.result in
    let i = c.loop-base.base-index in
    let diagram = item-All (λ x. IsDiagram c.args.dia.now x.question) bases i b (omega arith) c.base-item.is c.requires.bases in
    let e = apart-keeps env c.args.dia.now c.loop-base.dia c.args.atom b c.loop-base.invariant.0.keeps diagram in (
      then_all _ _ _ _ c.loop-base.invariant.0 c.is_apart_at.ensures.extends,
      none-more (IsApartAt env c.args.dia.now c.args.atom) bases i b (omega arith) c.base-item.is c.loop-base.invariant.1
          (λ h. false≢true (sym c.if-branch.false ∙ c.in_ok-is_apart_at.ensures.apart.1 (e.1 h))),
    )
