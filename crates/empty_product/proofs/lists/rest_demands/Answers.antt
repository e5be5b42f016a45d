use Rattle.std.proofs.Common.{◌≡◌, ◌+◌, ◌++◌, ◌∷◌, [], List, map, take, get_or, All, sym, ap, subst, ◌∙◌, refl, arith}
use Rattle.std.proofs.lemmas.List.{take_all, take_more}
use Rattle.std.proofs.lemmas.List.Elements.{All-push}
use Rattle.type_diagrams.specs.Members.{item_of}
use Rattle.type_diagrams.specs.Whole.{Gives}
use Rattle.type_diagrams.proofs.AskedDiagrams.{then_all}
use Rattle.empty_product.specs.declared.further.RestDemand.{RestDemand}
use Rattle.empty_product.proofs.DemandLists.{rest-demands-keep}
use Rattle.empty_product.proofs.lists.rest_demands.Goals as goal

pub returns-in_err-question-clause-extends : goal.returns-in_err-question-clause-extends
returns-in_err-question-clause-extends c = then_all _ _ _ _ c.loop-atom.invariant.0 c.item_question.ensures.extends

pub returns-in_err-push-clause-extends : goal.returns-in_err-push-clause-extends
returns-in_err-push-clause-extends c = then_all _ _ _ _ c.loop-atom.invariant.0 c.item_question.ensures.extends

names-push : (ds : List RestDemand) (d : RestDemand) → map (λ e. e.atom) (ds ++ d ∷ []) ≡ map (λ e. e.atom) ds ++ d.atom ∷ []
names-push [] d = refl
names-push (e ∷ ds) d = ap (λ xs. e.atom ∷ xs) (names-push ds d)

pub loop-atom-preserved : goal.loop-atom-preserved
loop-atom-preserved c =
    let env = c.args.env.now in
    let i = c.loop-atom.atom-index in
    let a = get_or c.args.atoms.now i 0 in
    let d : RestDemand = record { atom = a; question = c.in_ok-question.question } in
    let ds = c.loop-atom.demands.items in
    let Is : RestDemand → Type 0 = λ e. Gives c.item_question.new.dia (item_of env c.args.prefix e.atom) e.question in
    let named : map (λ (e : RestDemand). e.atom) (ds ++ d ∷ []) ≡ take (i + 1) c.args.atoms.now = names-push ds d ∙ ap (λ xs. xs ++ a ∷ []) c.loop-atom.invariant.1 ∙ sym (take_more c.args.atoms.now i 0 (omega arith)) in (
      then_all _ _ _ _ c.loop-atom.invariant.0 c.item_question.ensures.extends,
      subst (λ xs. map (λ (e : RestDemand). e.atom) xs ≡ take (i + 1) c.args.atoms.now) (sym c.in_ok-push.ensures.items) named,
      subst (All Is) (sym c.in_ok-push.ensures.items) (All-push Is ds d (rest-demands-keep env c.loop-atom.dia c.item_question.new.dia c.args.prefix ds c.item_question.ensures.extends.keeps c.loop-atom.invariant.2) c.in_ok-question.ensures.made),
    )

pub returns-clause-atoms : goal.returns-clause-atoms
returns-clause-atoms c = c.loop-atom.invariant.1 ∙ take_all c.loop-atom.atom-index c.args.atoms.now (omega arith)
