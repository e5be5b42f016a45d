use Rattle.std.proofs.Common.{◌≤◌, [], ◌∷◌, ◌++◌, get_or, length, All, Option, rules, arith, ap, sym, subst, ◌∙◌}
use Rattle.std.proofs.lemmas.List.Elements.{All-head, All-tail, All-push}
use Rattle.bal_base.specs.declared.shape.Shape.{Shape}
use Rattle.type_diagrams.specs.Conditions.{IsShapeOf, LooksAtKinds}
use Rattle.type_diagrams.specs.Reach.{Passes}
use Rattle.type_diagrams.specs.Tables.{condition}
use Rattle.type_diagrams.proofs.AskedDiagrams.{then_all}
use Rattle.type_diagrams.proofs.Keeping.{length-grows}
use Rattle.empty_arrow.specs.Arrows.{IsArrow}
use Rattle.empty_arrow.specs.Giving.{AreOutside, TellsGiven}
use Rattle.empty_arrow.specs.Pairs.{AreArguments, AsksArguments}
use Rattle.empty_arrow.proofs.Giving.{no_arguments, left-AreOutside, both-TellsGiven, left-Asks, taken-Asks}
use Rattle.empty_arrow.proofs.PairLaws.{asked-itself}
use Rattle.empty_arrow.proofs.PairSteps.{rest_of, first-rest, rest-shorter}
use Rattle.subtype_decider.proofs.ArrowSteps.{told-none, left-one, left-looks, left-lists}
use Rattle.subtype_decider.proofs.Passing.{handed}
use Rattle.subtype_decider.proofs.questions.Questions.+arrows_give.Goals as goal

pub returns-in_err-has_some-in-len1-up-clause-limit : goal.returns-in_err-has_some-in-len1-up-clause-limit
returns-in_err-has_some-in-len1-up-clause-limit t c asked leads =
    let env = c.args.env.now in
    let of = condition c.args.self.now.diagrams c.args.arguments in
    let Is = Passes env asked in
    let h = handed (Option Shape) Is Is c.has_some.result c.in_err-has_some-in-len1-up.field-0.0 c.in_err-has_some-in-len1-up.was (λ l p. p) (c.has_some.ensures.limit asked (leads of (asked-itself env of c.args.arrows.now))) in
    search rules

pub returns-in-empty-clause-limit : goal.returns-in-empty-clause-limit
returns-in-empty-clause-limit t c asked leads =
    let of = condition c.args.self.now.diagrams c.args.arguments in
    c.taken_give.ensures.limit asked (leads of (asked-itself c.args.env.now of c.args.arrows.now))

pub returns-then-not-branch-clause-gives : goal.returns-then-not-branch-clause-gives
returns-then-not-branch-clause-gives t c =
    let env = c.args.env.now in
    let of = condition c.args.self.now.diagrams c.args.arguments in
    no_arguments env of c.args.taken.now.items c.args.arrows.now c.args.results.now.items (told-none (IsShapeOf env of) c.in_ok-has_some-in-len1-up.field-0 c.if-not-branch.true c.in_ok-has_some-in-len1-up.ensures.some)

pub arrows_give-requires : goal.arrows_give-requires
arrows_give-requires t c =
    let env = c.args.env.now in
    let arrows = c.args.arrows.now in
    let some : 1 ≤ length arrows = omega arith in
    let first = get_or arrows 0 0 in
    let shorter = rest-shorter arrows some in
    let left = c.in_ok-left-in-len1-up.left in
    let old = c.args.self.now.diagrams in
    let found = c.has_some.new.self.diagrams in
    let mid = c.outside.new.self.diagrams in
    let keeps = c.has_some.ensures.extends.keeps in
    let gives = c.in_ok-left-in-len1-up.ensures.gives in
    (omega (arith, shorter), (c.in_ok-left-in-len1-up.ensures.rest, (All-tail (IsArrow env) first (rest_of arrows) (subst (All (IsArrow env)) (first-rest arrows some) c.requires.arrows), (c.requires.taken, (gives.diagram, (left-looks env old found mid c.args.arguments left first c.arrow_of.result.args.now c.defs.result.now c.defs.ensures.value keeps c.requires.diagram c.arrow_of.ensures.args gives c.requires.looks, (left-lists env old found mid c.args.arguments left first c.arrow_of.result.args.now c.defs.result.now c.defs.ensures.value keeps c.requires.diagram c.arrow_of.ensures.args gives c.requires.lists)))))))

pub returns-in_err-outside-in-len1-up-clause-extends : goal.returns-in_err-outside-in-len1-up-clause-extends
returns-in_err-outside-in-len1-up-clause-extends t c = then_all _ _ _ _ c.has_some.ensures.extends (then_all _ _ _ _ c.outside.ensures.extends c.arrows_give.ensures.extends)

pub returns-in-Some-clause-extends : goal.returns-in-Some-clause-extends
returns-in-Some-clause-extends t c = then_all _ _ _ _ c.has_some.ensures.extends (then_all _ _ _ _ c.outside.ensures.extends c.arrows_give.ensures.extends)

pub returns-in_err-push-in-len1-up-clause-extends : goal.returns-in_err-push-in-len1-up-clause-extends
returns-in_err-push-in-len1-up-clause-extends t c = then_all _ _ _ _ c.has_some.ensures.extends (then_all _ _ _ _ c.outside.ensures.extends c.arrows_give.ensures.extends)

pub returns-in_err-outside-in-len1-up-2-clause-extends : goal.returns-in_err-outside-in-len1-up-2-clause-extends
returns-in_err-outside-in-len1-up-2-clause-extends t c =
    then_all _ _ _ _ c.has_some.ensures.extends (then_all _ _ _ _ c.outside.ensures.extends (then_all _ _ _ _ c.arrows_give.ensures.extends c.arrows_give-in-len1-up.ensures.extends))

pub returns-in_ok-outside-in-len1-up-2-clause-extends : goal.returns-in_ok-outside-in-len1-up-2-clause-extends
returns-in_ok-outside-in-len1-up-2-clause-extends t c =
    then_all _ _ _ _ c.has_some.ensures.extends (then_all _ _ _ _ c.outside.ensures.extends (then_all _ _ _ _ c.arrows_give.ensures.extends c.arrows_give-in-len1-up.ensures.extends))

pub returns-in_err-outside-in-len1-up-clause-limit : goal.returns-in_err-outside-in-len1-up-clause-limit
returns-in_err-outside-in-len1-up-clause-limit t c asked leads =
    let env = c.args.env.now in
    let arrows = c.args.arrows.now in
    let some : 1 ≤ length arrows = omega arith in
    let first = get_or arrows 0 0 in
    let left = c.in_ok-left-in-len1-up.left in
    let old = c.args.self.now.diagrams in
    let mid = c.outside.new.self.diagrams in
    let of = condition old c.args.arguments in
    let one = left-one env old c.has_some.new.self.diagrams mid c.args.arguments left first c.arrow_of.result.args.now c.defs.result.now c.defs.ensures.value c.has_some.ensures.extends.keeps c.requires.diagram c.arrow_of.ensures.args c.in_ok-left-in-len1-up.ensures.gives in
    let Is = Passes env asked in
    let limit = c.arrows_give.ensures.limit asked (λ d a. leads d (subst (λ xs. AsksArguments env of xs d) (sym (first-rest arrows some)) (left-Asks env of (condition mid left) c.args.taken.now.items first (rest_of arrows) one d a))) in
    let h = handed (Option Shape) Is Is c.arrows_give.result c.in_err-outside-in-len1-up.field-0.0 c.in_err-outside-in-len1-up.was (λ l p. p) limit in
    search rules

pub returns-in-Some-clause-gives : goal.returns-in-Some-clause-gives
returns-in-Some-clause-gives t c =
    let env = c.args.env.now in
    let arrows = c.args.arrows.now in
    let some : 1 ≤ length arrows = omega arith in
    let first = get_or arrows 0 0 in
    let left = c.in_ok-left-in-len1-up.left in
    let old = c.args.self.now.diagrams in
    let mid = c.outside.new.self.diagrams in
    let of = condition old c.args.arguments in
    let taken = c.args.taken.now.items in
    let one = left-one env old c.has_some.new.self.diagrams mid c.args.arguments left first c.arrow_of.result.args.now c.defs.result.now c.defs.ensures.value c.has_some.ensures.extends.keeps c.requires.diagram c.arrow_of.ensures.args c.in_ok-left-in-len1-up.ensures.gives in
    let out = subst (TellsGiven env (condition mid left) taken (rest_of arrows) c.args.results.now.items c.arrows_give.new.results.items) c.in-Some.is c.in_ok-outside-in-len1-up.ensures.gives in
    subst (λ xs. AreOutside env of taken xs c.in-Some.outside) (sym (first-rest arrows some)) (left-AreOutside env of (condition mid left) taken first (rest_of arrows) one c.in-Some.outside out)

pub arrows_give-requires-in-len1-up : goal.arrows_give-requires-in-len1-up
arrows_give-requires-in-len1-up t c =
    let env = c.args.env.now in
    let arrows = c.args.arrows.now in
    let some : 1 ≤ length arrows = omega arith in
    let first = get_or arrows 0 0 in
    let shorter = rest-shorter arrows some in
    let old = c.args.self.now.diagrams in
    let now = c.arrows_give.new.self.diagrams in
    let to_now = then_all _ old c.has_some.new.self.diagrams now c.has_some.ensures.extends (then_all _ c.has_some.new.self.diagrams c.outside.new.self.diagrams now c.outside.ensures.extends c.arrows_give.ensures.extends) in
    let keeps = to_now.keeps in
    let all = subst (All (IsArrow env)) (first-rest arrows some) c.requires.arrows in
    let is_taken = c.in_ok-push-in-len1-up.ensures.items ∙ ap (λ ts. ts ++ first ∷ []) c.in_ok-outside-in-len1-up.ensures.taken in
    (omega (arith, shorter), (c.in_ok-outside-in-len1-up.ensures.rest, (All-tail (IsArrow env) first (rest_of arrows) all, (subst (All (IsArrow env)) (sym is_taken) (All-push (IsArrow env) c.args.taken.now.items first c.requires.taken (All-head (IsArrow env) first (rest_of arrows) all)), (length-grows old.diagrams now.diagrams c.args.arguments keeps.diagrams c.requires.diagram, (subst (LooksAtKinds env) (sym (keeps.conditions c.args.arguments c.requires.diagram)) c.requires.looks, (subst (AreArguments env) (sym (keeps.conditions c.args.arguments c.requires.diagram)) c.requires.lists)))))))

pub returns-in_err-outside-in-len1-up-2-clause-limit : goal.returns-in_err-outside-in-len1-up-2-clause-limit
returns-in_err-outside-in-len1-up-2-clause-limit t c asked leads =
    let env = c.args.env.now in
    let arrows = c.args.arrows.now in
    let some : 1 ≤ length arrows = omega arith in
    let first = get_or arrows 0 0 in
    let left = c.in_ok-left-in-len1-up.left in
    let old = c.args.self.now.diagrams in
    let mid = c.outside.new.self.diagrams in
    let now = c.arrows_give.new.self.diagrams in
    let of = condition old c.args.arguments in
    let one = left-one env old c.has_some.new.self.diagrams mid c.args.arguments left first c.arrow_of.result.args.now c.defs.result.now c.defs.ensures.value c.has_some.ensures.extends.keeps c.requires.diagram c.arrow_of.ensures.args c.in_ok-left-in-len1-up.ensures.gives in
    let to_now = then_all _ old c.has_some.new.self.diagrams now c.has_some.ensures.extends (then_all _ c.has_some.new.self.diagrams mid now c.outside.ensures.extends c.arrows_give.ensures.extends) in
    let same = to_now.keeps.conditions c.args.arguments c.requires.diagram in
    let Is = Passes env asked in
    let limit = c.arrows_give-in-len1-up.ensures.limit asked (λ d a. leads d (subst (λ xs. AsksArguments env of xs d) (sym (first-rest arrows some)) (taken-Asks env of (condition mid left) c.args.taken.now.items first (rest_of arrows) one d (subst (λ e. AsksArguments env e (rest_of arrows) d) same a)))) in
    let h = handed (Option Shape) Is Is c.arrows_give-in-len1-up.result c.in_err-outside-in-len1-up-2.field-0.0 c.in_err-outside-in-len1-up-2.was (λ l p. p) limit in
    search rules

pub returns-in_ok-outside-in-len1-up-2-clause-gives : goal.returns-in_ok-outside-in-len1-up-2-clause-gives
returns-in_ok-outside-in-len1-up-2-clause-gives t c =
    let env = c.args.env.now in
    let arrows = c.args.arrows.now in
    let some : 1 ≤ length arrows = omega arith in
    let first = get_or arrows 0 0 in
    let left = c.in_ok-left-in-len1-up.left in
    let old = c.args.self.now.diagrams in
    let mid = c.outside.new.self.diagrams in
    let now = c.arrows_give.new.self.diagrams in
    let of = condition old c.args.arguments in
    let taken = c.args.taken.now.items in
    let begun = c.args.results.now.items in
    let some_results = c.arrows_give.new.results.items in
    let all_results = c.arrows_give-in-len1-up.new.results.items in
    let outside = c.in_ok-outside-in-len1-up-2.outside in
    let one = left-one env old c.has_some.new.self.diagrams mid c.args.arguments left first c.arrow_of.result.args.now c.defs.result.now c.defs.ensures.value c.has_some.ensures.extends.keeps c.requires.diagram c.arrow_of.ensures.args c.in_ok-left-in-len1-up.ensures.gives in
    let to_now = then_all _ old c.has_some.new.self.diagrams now c.has_some.ensures.extends (then_all _ c.has_some.new.self.diagrams mid now c.outside.ensures.extends c.arrows_give.ensures.extends) in
    let is_taken = c.in_ok-push-in-len1-up.ensures.items ∙ ap (λ ts. ts ++ first ∷ []) c.in_ok-outside-in-len1-up.ensures.taken in
    let before = subst (TellsGiven env (condition mid left) taken (rest_of arrows) begun some_results) c.in_default.is c.in_ok-outside-in-len1-up.ensures.gives in
    let more = subst (λ ts. TellsGiven env of ts (rest_of arrows) some_results all_results outside) is_taken (subst (λ e. TellsGiven env e c.push.new.self.items (rest_of arrows) some_results all_results outside) (to_now.keeps.conditions c.args.arguments c.requires.diagram) c.in_ok-outside-in-len1-up-2.ensures.gives) in
    subst (λ xs. TellsGiven env of taken xs begun all_results outside) (sym (first-rest arrows some)) (both-TellsGiven env of (condition mid left) taken first (rest_of arrows) one begun some_results all_results before outside more)
