use Rattle.std.proofs.Common.{◌∷◌, [], ◌++◌, Some, None, Option, take, rules, arith, sym, subst, ◌∙◌}
use Rattle.std.proofs.lemmas.List.{take_all, take_more}
use Rattle.std.proofs.lemmas.List.Elements.{All-contains}
use Rattle.bal_base.specs.declared.shape.Shape.{Shape}
use Rattle.type_diagrams.specs.declared.kind.Kind.TheVariants.{Function as Functions}
use Rattle.type_diagrams.specs.Conditions.{LooksAtKinds}
use Rattle.type_diagrams.specs.Reach.{Passes}
use Rattle.type_diagrams.specs.Tables.{condition}
use Rattle.type_diagrams.specs.Turns.{HasLiteralsOf, IsShapeOn}
use Rattle.type_diagrams.proofs.AskedDiagrams.{not_yet, then_all}
use Rattle.type_diagrams.proofs.Keeping.{length-grows}
use Rattle.empty_arrow.specs.Giving.{IsOnOne, IsShort, TellsResults}
use Rattle.empty_arrow.specs.Pairs.{AreArguments}
use Rattle.empty_arrow.proofs.GivenPaths.{no_paths, one-FailAt, one-more_path}
use Rattle.subtype_decider.specs.Leads.{LeadsToPath}
use Rattle.subtype_decider.proofs.Passing.{handed}
use Rattle.subtype_decider.proofs.questions.Questions.paths_give.Goals as goal

pub loop-path-init : goal.loop-path-init
loop-path-init c = (c.requires.rest, not_yet _ _, no_paths c.args.env.now (condition c.args.self.now.diagrams c.args.arguments) c.args.results.now.items)

pub path_gives-requires-clause-rest : goal.path_gives-requires-clause-rest
path_gives-requires-clause-rest c = c.loop-path.invariant.0

pub path_gives-requires-clause-literals : goal.path_gives-requires-clause-literals
path_gives-requires-clause-literals c = All-contains (HasLiteralsOf c.args.env.now Functions) c.args.paths.now c.path-item.result c.requires.literals (c.loop-path.path-index, c.loop-path-test.true, sym c.path-item.is)

pub path_gives-requires-clause-short : goal.path_gives-requires-clause-short
path_gives-requires-clause-short c = All-contains IsShort c.args.paths.now c.path-item.result c.requires.short (c.loop-path.path-index, c.loop-path-test.true, sym c.path-item.is)

pub path_gives-requires-clause-diagram : goal.path_gives-requires-clause-diagram
path_gives-requires-clause-diagram c = length-grows c.args.self.now.diagrams.diagrams c.loop-path.self.diagrams.diagrams c.args.arguments c.loop-path.invariant.1.keeps.diagrams c.requires.diagram

pub path_gives-requires-clause-looks : goal.path_gives-requires-clause-looks
path_gives-requires-clause-looks c = subst (LooksAtKinds c.args.env.now) (sym (c.loop-path.invariant.1.keeps.conditions c.args.arguments c.requires.diagram)) c.requires.looks

pub path_gives-requires-clause-lists : goal.path_gives-requires-clause-lists
path_gives-requires-clause-lists c = subst (AreArguments c.args.env.now) (sym (c.loop-path.invariant.1.keeps.conditions c.args.arguments c.requires.diagram)) c.requires.lists

pub returns-in_err-outside-clause-limit : goal.returns-in_err-outside-clause-limit
returns-in_err-outside-clause-limit c asked leads =
    let env = c.args.env.now in
    let Is = Passes env asked in
    let of = condition c.args.self.now.diagrams c.args.arguments in
    let p = c.path-item.result in
    let one = All-contains (LeadsToPath env asked of) c.args.paths.now p leads (c.loop-path.path-index, c.loop-path-test.true, sym c.path-item.is) in
    let here = subst (λ d. LeadsToPath env asked d p) (sym (c.loop-path.invariant.1.keeps.conditions c.args.arguments c.requires.diagram)) one in
    let h = handed (Option Shape) Is Is c.path_gives.result c.in_err-outside.field-0.0 c.in_err-outside.was (λ l q. q) (c.path_gives.ensures.limit asked here) in
    search rules

pub returns-in-Some-clause-gives : goal.returns-in-Some-clause-gives
returns-in-Some-clause-gives c =
    let env = c.args.env.now in
    let p = c.path-item.result in
    let On = IsShapeOn env Functions p in
    let of = condition c.args.self.now.diagrams c.args.arguments in
    let same = c.loop-path.invariant.1.keeps.conditions c.args.arguments c.requires.diagram in
    let told = subst (TellsResults env On (condition c.loop-path.self.diagrams c.args.arguments) c.loop-path.results.items c.path_gives.new.results.items) c.in-Some.is c.in_ok-outside.ensures.gives in
    let fails = subst (λ d. TellsResults env On d c.loop-path.results.items c.path_gives.new.results.items (Some c.in-Some.outside)) same told in
    one-FailAt env of c.args.paths.now p (c.loop-path.path-index, c.loop-path-test.true, sym c.path-item.is) c.in-Some.outside fails

pub loop-path-preserved : goal.loop-path-preserved
loop-path-preserved c =
    let env = c.args.env.now in
    let p = c.path-item.result in
    let paths = c.args.paths.now in
    let i = c.loop-path.path-index in
    let On = IsShapeOn env Functions p in
    let of = condition c.args.self.now.diagrams c.args.arguments in
    let begun = c.args.results.now.items in
    let mid = c.loop-path.results.items in
    let new = c.path_gives.new.results.items in
    let same = c.loop-path.invariant.1.keeps.conditions c.args.arguments c.requires.diagram in
    let told = subst (TellsResults env On (condition c.loop-path.self.diagrams c.args.arguments) mid new) c.in_default.is c.in_ok-outside.ensures.gives in
    let more = subst (λ d. TellsResults env On d mid new None) same told in
    let further = take_more paths i p c.loop-path-test.true ∙ (λ j. take i paths ++ (sym c.path-item.is) j ∷ []) in (
      c.in_ok-outside.ensures.rest,
      then_all _ _ _ _ c.loop-path.invariant.1 c.path_gives.ensures.extends,
      subst (λ ps. TellsResults env (IsOnOne env ps) of begun new None) (sym further) (one-more_path env of (take i paths) p begun mid new c.loop-path.invariant.2 more),
    )

pub returns-clause-rest : goal.returns-clause-rest
returns-clause-rest c = c.loop-path.invariant.0

pub returns-clause-gives : goal.returns-clause-gives
returns-clause-gives c =
    let env = c.args.env.now in
    subst (λ ps. TellsResults env (IsOnOne env ps) (condition c.args.self.now.diagrams c.args.arguments) c.args.results.now.items c.loop-path.results.items None)
    (take_all c.loop-path.path-index c.args.paths.now (omega arith)) c.loop-path.invariant.2
