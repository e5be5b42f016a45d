use Rattle.std.proofs.Common.{◌≡◌, ◌<◌, length, take, sym, subst, ◌∙◌, arith}
use Rattle.std.proofs.lemmas.List.{length-take}
use Rattle.type_diagrams.proofs.AskedDiagrams.{then_all}
use Rattle.type_diagrams.proofs.Keeping.{keeps-further}
use Rattle.empty_product.specs.Lists.{TellsLists}
use Rattle.empty_product.proofs.ItemPlaces.{AreAsked-keeps, AreAsked-take}
use Rattle.empty_product.proofs.LongerLists.{next-TellsLists}
use Rattle.empty_product.proofs.lists.short_lists.Goals as goal

pub returns-in_err-lists_with_length-clause-extends : goal.returns-in_err-lists_with_length-clause-extends
returns-in_err-lists_with_length-clause-extends g c = then_all _ _ _ _ c.loop-length.invariant.0 c.lists_with_length.ensures.extends

pub returns-in-Parts-clause-extends : goal.returns-in-Parts-clause-extends
returns-in-Parts-clause-extends g c = then_all _ _ _ _ c.loop-length.invariant.0 c.lists_with_length.ensures.extends

pub returns-in-Ask-clause-extends : goal.returns-in-Ask-clause-extends
returns-in-Ask-clause-extends g c = then_all _ _ _ _ c.loop-length.invariant.0 c.lists_with_length.ensures.extends

pub returns-in-Parts-clause-tells : goal.returns-in-Parts-clause-tells
returns-in-Parts-clause-tells g c = λ base asked.
    let env = c.args.context.now.env.now in
    let kept = g.M.Member.kept c.args.context.now.m.now in
    let old = c.args.dia.now in
    let mid = c.loop-length.dia in
    let new = c.lists_with_length.new.dia in
    let bases = c.args.bases.now in
    let k = c.loop-length.length in
    let wanted = c.args.literals.now.wanted.now in
    let unwanted = c.args.literals.now.unwanted.now in
    let first = c.loop-length.invariant.0.keeps in
    let told = c.in_ok-lists_with_length.ensures.tells base (AreAsked-take mid base bases k (AreAsked-keeps old mid base bases first asked)) in
    subst (TellsLists env base new kept wanted unwanted (λ n. n ≡ length (take k bases))) c.in-Parts.is told

pub returns-in-Ask-clause-tells : goal.returns-in-Ask-clause-tells
returns-in-Ask-clause-tells g c = λ base asked.
    let env = c.args.context.now.env.now in
    let kept = g.M.Member.kept c.args.context.now.m.now in
    let old = c.args.dia.now in
    let mid = c.loop-length.dia in
    let new = c.lists_with_length.new.dia in
    let bases = c.args.bases.now in
    let k = c.loop-length.length in
    let wanted = c.args.literals.now.wanted.now in
    let unwanted = c.args.literals.now.unwanted.now in
    let first = c.loop-length.invariant.0.keeps in
    let told = c.in_ok-lists_with_length.ensures.tells base (AreAsked-take mid base bases k (AreAsked-keeps old mid base bases first asked)) in
    subst (TellsLists env base new kept wanted unwanted (λ n. n ≡ length (take k bases))) c.in-Ask.is told

pub loop-length-preserved : goal.loop-length-preserved
loop-length-preserved g c =
    let env = c.args.context.now.env.now in
    let kept = g.M.Member.kept c.args.context.now.m.now in
    let old = c.args.dia.now in
    let mid = c.loop-length.dia in
    let new = c.lists_with_length.new.dia in
    let bases = c.args.bases.now in
    let k = c.loop-length.length in
    let wanted = c.args.literals.now.wanted.now in
    let unwanted = c.args.literals.now.unwanted.now in
    let first = c.loop-length.invariant.0.keeps in
    let lt : k < length bases = omega arith in
    let taken : length (take k bases) ≡ k = omega (arith, length-take k bases, lt) in
    let last = keeps-further old mid new first c.lists_with_length.ensures.extends.keeps in (
      then_all _ _ _ _ c.loop-length.invariant.0 c.lists_with_length.ensures.extends,
      λ base asked.
          let told = c.in_ok-lists_with_length.ensures.tells base (AreAsked-take mid base bases k (AreAsked-keeps old mid base bases first asked)) in
          let none = subst (TellsLists env base new kept wanted unwanted (λ n. n ≡ length (take k bases))) c.in-Empty.is told in
          next-TellsLists env base old mid new kept c.requires.sound first last wanted unwanted k (c.loop-length.invariant.1 base asked) (λ items e without. none items (e ∙ sym taken) without),
    )

pub returns-clause-tells : goal.returns-clause-tells
returns-clause-tells g c = λ base asked items long without.
    c.loop-length.invariant.1 base asked items (omega (arith, long)) without
