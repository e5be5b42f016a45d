use Rattle.std.proofs.Common.{◌≡◌, ◌∙◌, None, Some, Ok, map, refl, rules, subst, sym, ap}
use Rattle.checks.proofs.Steps.{some_is}
use Rattle.checks.specs.Checks.{Comes}
use Rattle.name_resolution.specs.Definitions.{definitions_of}
use Rattle.type_builder.specs.Listing.{first_main, placed_of}
use Rattle.type_builder.specs.MainFunction.{main_fits_if, main_of}
use Rattle.type_builder.proofs.Listed.{sites-placed}
use Rattle.type_builder.proofs.MainListed.{main-listed}
use Rattle.type_builder.proofs.main_function.listed_fits.Goals as goal

pub returns-in-None-clause-comes : goal.returns-in-None-clause-comes
returns-in-None-clause-comes g c =
    let old = g.T.Types.atoms c.args.types.now in
    let sites = ap (map placed_of) c.deref.ensures.value ∙ sites-placed (definitions_of g.whole) c.args.listing.now c.requires.1.1.0 in
    let none : first_main c.args.home (map placed_of c.deref.result.now) ≡ None = search rules in
    let main : main_of g.whole ≡ None = sym (main-listed g.whole) ∙ ap (λ h. first_main h (definitions_of g.whole)) c.requires.1.0 ∙ ap (first_main c.args.home) (sym sites) ∙ none in
    subst (λ o. Comes (main_fits_if g.T.Types.passes c.args.names.now g.whole.main o) old (Ok tt) old) (sym main) (some_is (λ s u. u ≡ tt) old old tt refl refl)

pub returns-in-Some-clause-comes : goal.returns-in-Some-clause-comes
returns-in-Some-clause-comes g c =
    let old = g.T.Types.atoms c.args.types.now in
    let new = g.T.Types.atoms c.function_fits.new.types in
    let sites = ap (map placed_of) c.deref.ensures.value ∙ sites-placed (definitions_of g.whole) c.args.listing.now c.requires.1.1.0 in
    let some : first_main c.args.home (map placed_of c.deref.result.now) ≡ Some c.in-Some.f.now = search rules in
    let main : main_of g.whole ≡ Some c.in-Some.f.now = sym (main-listed g.whole) ∙ ap (λ h. first_main h (definitions_of g.whole)) c.requires.1.0 ∙ ap (first_main c.args.home) (sym sites) ∙ some in
    subst (λ o. Comes (main_fits_if g.T.Types.passes c.args.names.now g.whole.main o) old c.function_fits.result new) (sym main)
    (subst (λ h. Comes (main_fits_if g.T.Types.passes c.args.names.now h (Some c.in-Some.f.now)) old c.function_fits.result new) (sym c.requires.1.0) c.function_fits.ensures.comes)
