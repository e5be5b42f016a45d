use Rattle.std.proofs.Common.{◌∷◌, [], List, All, rules, sym, subst}
use Rattle.type_model.specs.declared.answers.Apply.{Apply}
use Rattle.type_model.specs.Calls.{Applied}
use Rattle.type_diagrams.specs.declared.kind.Kind.TheVariants.{Function as Functions}
use Rattle.type_diagrams.specs.declared.path.Path.{Path}
use Rattle.type_diagrams.specs.Conditions.{condition_of, asks}
use Rattle.type_diagrams.specs.Questions.{HasPaths, IsUnionOf, lists, readonly}
use Rattle.type_diagrams.specs.Reach.{Passes}
use Rattle.type_diagrams.specs.Tables.{condition}
use Rattle.type_diagrams.specs.Turns.{HasLiteralsOf}
use Rattle.empty_arrow.specs.Giving.{FailAt, GiveResults, IsOnOne, IsShort, TellsResults}
use Rattle.empty_arrow.proofs.Base.{same-AreArguments}
use Rattle.empty_arrow.proofs.GivenPaths.{fails-IsOutside, results-IsLeastResult}
use Rattle.empty_arrow.proofs.GraphLaws.{sought-AreArguments}
use Rattle.subtype_decider.specs.Leads.{LeadsToPath}
use Rattle.subtype_decider.proofs.Applying.{given-of, arguments-Looks}
use Rattle.subtype_decider.proofs.FunctionPaths.{paths-LeadsToPath, paths-literals, paths-IsShort}
use Rattle.subtype_decider.proofs.Passing.{handed}
use Rattle.subtype_decider.proofs.questions.Questions.apply.Goals as goal

pub paths_give-requires-clause-literals : goal.paths_give-requires-clause-literals
paths_give-requires-clause-literals c =
    let env = c.args.env.now in
    let found = c.in_ok-functions.ensures in
    let paths = c.in_ok-paths.paths.items in
    let of = condition c.of.new.self.diagrams c.in_ok-functions.functions in
    let of_args = condition c.arguments.new.self.diagrams c.in_ok-arguments.arguments in
    let same = c.arguments.ensures.extends.keeps.conditions c.in_ok-functions.functions found.gives.diagram in
    let has = subst (λ d. HasPaths d Functions paths) same c.in_ok-paths.ensures.ordered in
    subst (All (HasLiteralsOf env Functions)) (sym c.deref.ensures.value) (paths-literals env c.defs-defs.ensures.env.bound c.args.f.now c.args.args.now of of_args found.gives.condition c.in_ok-arguments.ensures.gives.condition found.looks paths has)

pub paths_give-requires-clause-short : goal.paths_give-requires-clause-short
paths_give-requires-clause-short c =
    let env = c.args.env.now in
    let found = c.in_ok-functions.ensures in
    let paths = c.in_ok-paths.paths.items in
    let of = condition c.of.new.self.diagrams c.in_ok-functions.functions in
    let of_args = condition c.arguments.new.self.diagrams c.in_ok-arguments.arguments in
    let same = c.arguments.ensures.extends.keeps.conditions c.in_ok-functions.functions found.gives.diagram in
    let has = subst (λ d. HasPaths d Functions paths) same c.in_ok-paths.ensures.ordered in
    subst (All IsShort) (sym c.deref.ensures.value) (paths-IsShort env c.defs-defs.ensures.env.bound c.args.f.now c.args.args.now of of_args found.gives.condition c.in_ok-arguments.ensures.gives.condition found.looks paths has)

pub paths_give-requires-clause-looks : goal.paths_give-requires-clause-looks
paths_give-requires-clause-looks c = arguments-Looks c.args.env.now c.args.args.now (condition c.arguments.new.self.diagrams c.in_ok-arguments.arguments) c.in_ok-arguments.ensures.gives.condition

pub paths_give-requires-clause-lists : goal.paths_give-requires-clause-lists
paths_give-requires-clause-lists c =
    let env = c.args.env.now in
    let asked = asks (condition_of env c.args.args.now ∷ lists env ∷ []) (readonly env ∷ []) in
    same-AreArguments env (condition c.arguments.new.self.diagrams c.in_ok-arguments.arguments) asked c.in_ok-arguments.ensures.gives.condition (sought-AreArguments env c.defs-defs.ensures.env.bound (condition_of env c.args.args.now))

pub returns-in_err-outside-clause-limit : goal.returns-in_err-outside-clause-limit
returns-in_err-outside-clause-limit c =
    let env = c.args.env.now in
    let f = c.args.f.now in
    let args = c.args.args.now in
    let found = c.in_ok-functions.ensures in
    let paths = c.in_ok-paths.paths.items in
    let of = condition c.of.new.self.diagrams c.in_ok-functions.functions in
    let of_args = condition c.arguments.new.self.diagrams c.in_ok-arguments.arguments in
    let same = c.arguments.ensures.extends.keeps.conditions c.in_ok-functions.functions found.gives.diagram in
    let has = subst (λ d. HasPaths d Functions paths) same c.in_ok-paths.ensures.ordered in
    let leads = subst (All (LeadsToPath env (Applied f args) of_args)) (sym c.deref.ensures.value) (paths-LeadsToPath env c.defs-defs.ensures.env.bound f args of of_args found.gives.condition c.in_ok-arguments.ensures.gives.condition found.looks paths has) in
    let Is = Passes env (Applied f args) in
    let h = handed Apply Is Is c.paths_give.result c.in_err-outside.field-0.0 c.in_err-outside.was (λ l q. q) (c.paths_give.ensures.limit (Applied f args) leads) in
    search rules

pub returns-in-Some-clause-applies : goal.returns-in-Some-clause-applies
returns-in-Some-clause-applies c =
    let env = c.args.env.now in
    let found = c.in_ok-functions.ensures in
    let paths = c.in_ok-paths.paths.items in
    let of = condition c.of.new.self.diagrams c.in_ok-functions.functions in
    let of_args = condition c.arguments.new.self.diagrams c.in_ok-arguments.arguments in
    let same = c.arguments.ensures.extends.keeps.conditions c.in_ok-functions.functions found.gives.diagram in
    let union = subst (λ d. IsUnionOf d Functions paths) same c.in_ok-paths.ensures.shapes in
    let told = subst (TellsResults env (IsOnOne env c.deref.result.now) of_args c.new-results.result.items c.paths_give.new.results.items) c.in-Some.is c.in_ok-outside.ensures.gives in
    let fails = subst (λ (ps : List Path). FailAt env (IsOnOne env ps) of_args c.in-Some.outside) c.deref.ensures.value told in
    fails-IsOutside env c.defs-defs.ensures.env.bound c.args.f.now c.args.args.now c.requires.functions of of_args found.shapes c.in_ok-arguments.ensures.gives.condition paths union c.in-Some.outside fails

pub returns-clause-defined : goal.returns-clause-defined
returns-clause-defined c =
    let env = c.args.env.now in
    let of_args = condition c.arguments.new.self.diagrams c.in_ok-arguments.arguments in
    let begun = c.new-results.result.items in
    let types = c.paths_give.new.results.items in
    let told = subst (TellsResults env (IsOnOne env c.deref.result.now) of_args begun types) c.in-None.is c.in_ok-outside.ensures.gives in
    let give = given-of env (IsOnOne env c.deref.result.now) of_args begun types c.new-results.ensures.items told in
    (c.in_ok-one_of-in-None.ensures env).defined give.defined

pub returns-clause-applies : goal.returns-clause-applies
returns-clause-applies c =
    let env = c.args.env.now in
    let found = c.in_ok-functions.ensures in
    let paths = c.in_ok-paths.paths.items in
    let of = condition c.of.new.self.diagrams c.in_ok-functions.functions in
    let of_args = condition c.arguments.new.self.diagrams c.in_ok-arguments.arguments in
    let same = c.arguments.ensures.extends.keeps.conditions c.in_ok-functions.functions found.gives.diagram in
    let union = subst (λ d. IsUnionOf d Functions paths) same c.in_ok-paths.ensures.shapes in
    let begun = c.new-results.result.items in
    let types = c.paths_give.new.results.items in
    let told = subst (TellsResults env (IsOnOne env c.deref.result.now) of_args begun types) c.in-None.is c.in_ok-outside.ensures.gives in
    let give = given-of env (IsOnOne env c.deref.result.now) of_args begun types c.new-results.ensures.items told in
    let gives = subst (λ (ps : List Path). GiveResults env (IsOnOne env ps) of_args types) c.deref.ensures.value give in
    results-IsLeastResult env c.defs-defs.ensures.env.bound c.args.f.now c.args.args.now c.requires.functions of of_args found.shapes c.in_ok-arguments.ensures.gives.condition paths union types gives c.in_ok-one_of-in-None.field-0 (c.in_ok-one_of-in-None.ensures env)
