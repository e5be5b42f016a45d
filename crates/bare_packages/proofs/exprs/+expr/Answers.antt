use Rattle.std.proofs.Common.{◌∙◌, ap, arith, subst, sym}
use Rattle.std.specs.List.{AllZip}
use Rattle.declared_reads.specs.Declared.{IsAnything, IsBare, IsBareFunction}
use Rattle.bare_packages.proofs.Bare.{and-bare, check-bare, conditional-bare, elvis-bare, function-bare, loop-more, ok-one, or-bare, parens-bare, strict-bare, trap-bare}
use Rattle.bare_packages.proofs.Fields.{form-of-strict, own-of-check, own-of-elvis, panics-of-check}
use Rattle.bare_packages.proofs.exprs.+expr.Goals as goal

pub expr-returns-in-Trap : goal.expr-returns-in-Trap
expr-returns-in-Trap t c =
    ok-one c.expr-in-Trap.result (λ x. trap-bare c.args.e.now c.in-Trap.operand _ c.in-Trap._ty _ c.in-Trap._at _ c.in-Trap.is c.in-Trap._ty-is c.in-Trap._at-is
    (subst (λ z. IsBare z c.expr-in-Trap.new.e) (c.deref_mut-in-Trap.ensures.value ∙ ap (λ b. b.value) c.in-Trap.operand-is) x)) c.expr-in-Trap.ensures

pub expr-returns-in-Parens : goal.expr-returns-in-Parens
expr-returns-in-Parens t c =
    ok-one c.expr-in-Parens.result (λ x. parens-bare c.args.e.now c.in-Parens.inner _ c.in-Parens._ty _ c.in-Parens._at _ c.in-Parens.is c.in-Parens._ty-is c.in-Parens._at-is
    (subst (λ z. IsBare z c.expr-in-Parens.new.e) (c.deref_mut-in-Parens.ensures.value ∙ ap (λ b. b.value) c.in-Parens.inner-is) x)) c.expr-in-Parens.ensures

pub expr-returns-in_ok-function-in-Function : goal.expr-returns-in_ok-function-in-Function
expr-returns-in_ok-function-in-Function t c =
    ok-one c.expr-in-Function.result (λ x. function-bare c.args.e.now c.in-Function.f _ c.in-Function.value _ c.in-Function._ty _ c.in-Function._at _ c.in-Function.is c.in-Function._ty-is c.in-Function._at-is
    (subst (λ z. IsBareFunction z c.function.new.f) (c.deref_mut-in-Function.ensures.value ∙ ap (λ b. b.value) c.in-Function.f-is) c.in_ok-function-in-Function.ensures)
    (subst (λ z. IsBare z c.expr-in-Function.new.e) (c.deref_mut-in-Function-2.ensures.value ∙ ap (λ b. b.value) c.in-Function.value-is) x)) c.expr-in-Function.ensures

pub expr-returns-in_ok-expr-in-And : goal.expr-returns-in_ok-expr-in-And
expr-returns-in_ok-expr-in-And t c =
    ok-one c.expr-in-And.result (λ y. and-bare c.args.e.now c.in-And.left c.in-And.right _ _ c.in-And._ty _ c.in-And._at _ c.in-And.is c.in-And._ty-is c.in-And._at-is
    (subst (λ z. IsBare z c.expr.new.e) (c.deref_mut.ensures.value ∙ ap (λ b. b.value) c.in-And.left-is) c.in_ok-expr-in-And.ensures)
    (subst (λ z. IsBare z c.expr-in-And.new.e) (c.deref_mut-in-And.ensures.value ∙ ap (λ b. b.value) c.in-And.right-is) y)) c.expr-in-And.ensures

pub expr-returns-in_ok-expr-in-Or : goal.expr-returns-in_ok-expr-in-Or
expr-returns-in_ok-expr-in-Or t c =
    ok-one c.expr-in-Or-2.result (λ y. or-bare c.args.e.now c.in-Or.left c.in-Or.right _ _ c.in-Or._ty _ c.in-Or._at _ c.in-Or.is c.in-Or._ty-is c.in-Or._at-is
    (subst (λ z. IsBare z c.expr-in-Or.new.e) (c.deref_mut-in-Or.ensures.value ∙ ap (λ b. b.value) c.in-Or.left-is) c.in_ok-expr-in-Or.ensures)
    (subst (λ z. IsBare z c.expr-in-Or-2.new.e) (c.deref_mut-in-Or-2.ensures.value ∙ ap (λ b. b.value) c.in-Or.right-is) y)) c.expr-in-Or-2.ensures

pub expr-returns-in_ok-expr-in-Conditional-2 : goal.expr-returns-in_ok-expr-in-Conditional-2
expr-returns-in_ok-expr-in-Conditional-2 t c =
    ok-one c.expr-in-Conditional-3.result (λ y. conditional-bare c.args.e.now c.in-Conditional.condition c.in-Conditional.middle c.in-Conditional.last _ _ _ c.in-Conditional._ty _ c.in-Conditional._at _ c.in-Conditional.is c.in-Conditional._ty-is c.in-Conditional._at-is
    (subst (λ z. IsBare z c.expr-in-Conditional.new.e) (c.deref_mut-in-Conditional.ensures.value ∙ ap (λ b. b.value) c.in-Conditional.condition-is) c.in_ok-expr-in-Conditional.ensures)
    (subst (λ z. IsBare z c.expr-in-Conditional-2.new.e) (c.deref_mut-in-Conditional-2.ensures.value ∙ ap (λ b. b.value) c.in-Conditional.middle-is) c.in_ok-expr-in-Conditional-2.ensures)
    (subst (λ z. IsBare z c.expr-in-Conditional-3.new.e) (c.deref_mut-in-Conditional-3.ensures.value ∙ ap (λ b. b.value) c.in-Conditional.last-is) y)) c.expr-in-Conditional-3.ensures

pub all-loop-e-preserved : goal.all-loop-e-preserved
all-loop-e-preserved t c =
    loop-more c.args.es.now c.loop-e.es c.loop-e.e-index c.e-item.result c.expr.new.e (omega arith) c.loop-e.invariant.0.0 c.loop-e.invariant.0.1 c.loop-e.invariant.1 c.in_ok-expr.ensures

pub expr-returns-in-Strict : goal.expr-returns-in-Strict
expr-returns-in-Strict t c =
    ok-one c.exprs.result (λ z. strict-bare c.args.e.now c.in-Strict.form _ c.in-Strict.operands _ c.in-Strict._ty _ c.in-Strict._at _ c.in-Strict.is (form-of-strict c.args.e.now c.in-Strict.form c.in-Strict.operands c.in-Strict._ty c.in-Strict._at _ c.in-Strict.is) c.in-Strict._ty-is c.in-Strict._at-is
    (subst (λ x. AllZip IsBare x.items c.exprs.new.es.items) c.in-Strict.operands-is z)) c.exprs.ensures

pub expr-returns-in_ok-expr-in-Elvis-2 : goal.expr-returns-in_ok-expr-in-Elvis-2
expr-returns-in_ok-expr-in-Elvis-2 t c =
    ok-one c.retype.result (λ k. elvis-bare c.args.e.now c.in-Elvis.own _ c.in-Elvis.left c.in-Elvis.right _ _ c.in-Elvis.ty _ c.in-Elvis._at _ c.in-Elvis.is (own-of-elvis c.args.e.now c.in-Elvis.own c.in-Elvis.left c.in-Elvis.right c.in-Elvis.ty c.in-Elvis._at _ c.in-Elvis.is) (subst IsAnything (sym k) c.requires) c.in-Elvis._at-is
    (subst (λ z. IsBare z c.expr-in-Elvis.new.e) (c.deref_mut-in-Elvis.ensures.value ∙ ap (λ b. b.value) c.in-Elvis.left-is) c.in_ok-expr-in-Elvis.ensures)
    (subst (λ z. IsBare z c.expr-in-Elvis-2.new.e) (c.deref_mut-in-Elvis-2.ensures.value ∙ ap (λ b. b.value) c.in-Elvis.right-is) c.in_ok-expr-in-Elvis-2.ensures)) c.retype.ensures

pub expr-returns-in_ok-expr-in-Check : goal.expr-returns-in_ok-expr-in-Check
expr-returns-in_ok-expr-in-Check t c =
    ok-one c.retype-in-Check.result (λ k. check-bare c.args.e.now c.in-Check.panics _ c.in-Check.own _ c.in-Check.operand _ c.in-Check.ty _ c.in-Check._at _ c.in-Check.is (panics-of-check c.args.e.now c.in-Check.panics c.in-Check.own c.in-Check.operand c.in-Check.ty c.in-Check._at _ c.in-Check.is) (own-of-check c.args.e.now c.in-Check.panics c.in-Check.own c.in-Check.operand c.in-Check.ty c.in-Check._at _ c.in-Check.is) (subst IsAnything (sym k) c.requires) c.in-Check._at-is
    (subst (λ z. IsBare z c.expr-in-Check.new.e) (c.deref_mut-in-Check.ensures.value ∙ ap (λ b. b.value) c.in-Check.operand-is) c.in_ok-expr-in-Check.ensures)) c.retype-in-Check.ensures
