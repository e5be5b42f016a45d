use Rattle.std.proofs.Common.{◌≡◌, ◌↔◌, IsSomeAnd, All, List, Option, IsTrue, true, sym, subst, refl, ◌∙◌, arith}
use Rattle.std.proofs.lemmas.Bool.{false≢true}
use Rattle.bal_base.specs.declared.text.Text.{Text}
use Rattle.bal_base.specs.declared.shape.Shape.{Shape}
use Rattle.bal_base.specs.declared.shape.Case.{Case}
use Rattle.bal_base.proofs.Loops.{one_more, one_fails, at_end}
use Rattle.bal_base.proofs.Tests.{by_parts, by_read_parts}
use Rattle.type_model.specs.declared.basic.Ty.{Ty}
use Rattle.type_model.specs.declared.atoms.FieldDef.{FieldDef}
use Rattle.type_model.specs.declared.atoms.AtomDef.TheVariants.{Error as ErrorAtom, Future as FutureAtom}
use Rattle.type_model.specs.Places.{HasRequired, item_type}
use Rattle.type_model.specs.Membership.{In, Fits, ListFits, MappingFits, FunctionFits, FutureFits}
use Rattle.type_model.specs.Elements.{ItemsIn, MemberIn, CaseMaps}
use Rattle.type_model.proofs.Same.{itself}
use Rattle.type_model.proofs.Unfolding.{Fits-List, Fits-Mapping, Fits-Function, Fits-Future}
use Rattle.subtype_decider.specs.Keys.{has_required}
use Rattle.subtype_decider.specs.Arguments.{ArgumentsIn}
use Rattle.subtype_decider.proofs.KeyTests.{has_required-exact}
use Rattle.subtype_decider.proofs.Steps.{by_ref, items_more, In-arguments}
use Rattle.subtype_decider.proofs.member.+holds.Goals as goal

-- ---- the parts of a shape

pub fits-returns-in-List : goal.fits-returns-in-List
fits-returns-in-List t c =
    let env = c.args.env.now in
    let d = c.args.def.now in
    let Q : List Shape → Type 0 = λ xs. ListFits xs (ItemsIn env xs) d in
    by_read_parts (λ s. Fits env s d) Q c.in-List.is c.as_slice.ensures (Fits-List env c.in-List.mark c.in-List.items d) c.list_fits.ensures

pub fits-returns-in-Mapping : goal.fits-returns-in-Mapping
fits-returns-in-Mapping t c =
    let env = c.args.env.now in
    let d = c.args.def.now in
    let Q : List (Text × Shape) → Type 0 = λ ms. MappingFits ms (λ fs rest. All (MemberIn env fs rest) ms) d in
    by_read_parts (λ s. Fits env s d) Q c.in-Mapping.is c.as_slice-in-Mapping.ensures (Fits-Mapping env c.in-Mapping.mark c.in-Mapping.fields d) c.mapping_fits.ensures

pub fits-returns-in-Function : goal.fits-returns-in-Function
fits-returns-in-Function t c =
    let env = c.args.env.now in
    let d = c.args.def.now in
    let Q : List Case → Type 0 = λ cs. FunctionFits c.in-Function.isolated (λ args outcome. All (CaseMaps env args outcome) cs) d in
    by_read_parts (λ s. Fits env s d) Q c.in-Function.is c.as_slice-in-Function.ensures (Fits-Function env c.in-Function.isolated c.in-Function.graph d) c.function_fits.ensures

pub fits-returns-in-Error-def : goal.fits-returns-in-Error-def
fits-returns-in-Error-def t c =
    let env = c.args.env.now in
    let detail_type = c.in-Error-def.t in
    let test = subst (λ x. IsTrue c.holds.result ↔ In env x detail_type) c.deref.ensures c.holds.ensures in
    let is = by_parts (λ s. Fits env s (ErrorAtom detail_type)) c.in-Error.is itself test in
    subst (λ e. IsTrue c.holds.result ↔ Fits env c.args.shape.now e) (sym c.in-Error-def.is) is

pub fits-returns-in-Future-def : goal.fits-returns-in-Future-def
fits-returns-in-Future-def t c =
    let env = c.args.env.now in
    let outcome = c.in-Future-def.result in
    let d = FutureAtom outcome in
    let Q : List Shape → Type 0 = λ xs. FutureFits (λ t'. All (λ x. In env x t') xs) d in
    let is = by_read_parts (λ s. Fits env s d) Q c.in-Future.is c.as_slice-in-Future-def.ensures (Fits-Future env c.in-Future.results d) c.all_in.ensures in
    subst (λ e. IsTrue c.all_in.result ↔ Fits env c.args.shape.now e) (sym c.in-Future-def.is) is

-- ---- the items of a list

pub items_in-returns-then-not-item_in : goal.items_in-returns-then-not-item_in
items_in-returns-then-not-item_in t c =
    let env = c.args.env.now in
    let T = item_type c.args.fixed.now c.args.rest.now c.loop-i.i in
    let x = c.index-items-i.result in
    let P : Ty → Type 0 = λ t'. In env x t'.sem in
    let same = by_ref T c.type_at_place.result P c.type_at_place.ensures.value in (
      λ h. absurd (false≢true h),
      λ all. absurd (false≢true (sym c.if-not-item_in.true ∙ c.item_in.ensures.1 (same.1 (subst (λ y. IsSomeAnd T (λ t'. In env y t'.sem)) (sym c.index-items-i.is) (all c.loop-i.i x c.loop-i-test.true))))),
    )

pub items_in-loop-i-preserved : goal.items_in-loop-i-preserved
items_in-loop-i-preserved t c =
    let env = c.args.env.now in
    let T = item_type c.args.fixed.now c.args.rest.now c.loop-i.i in
    let x = c.index-items-i.result in
    let P : Ty → Type 0 = λ t'. In env x t'.sem in
    let same = by_ref T c.type_at_place.result P c.type_at_place.ensures.value in
    items_more env c.args.fixed.now c.args.rest.now c.args.items.now c.loop-i.i x c.loop-i-test.true c.index-items-i.is (same.0 (c.item_in.ensures.0 c.if-not-item_in.false)) c.loop-i.invariant

pub items_in-returns : goal.items_in-returns
items_in-returns t c = (λ h i d lt. c.loop-i.invariant i d (omega (arith, lt, c.loop-i-test.false)), λ h. refl)

-- ---- the members of a mapping

pub mapping_fits-returns-then-has_required : goal.mapping_fits-returns-then-has_required
mapping_fits-returns-then-has_required t c =
    let env = c.args.env.now in
    let ms = c.args.members.now in
    let rest = c.in-Mapping.rest in
    let E : List FieldDef → Option Ty → Type 0 = λ fs more. All (MemberIn env fs more) ms in
    let tested = subst (λ fs. has_required fs ms ≡ true) c.as_slice.ensures (sym c.has_required.ensures ∙ c.if-has_required.true) in
    let there = (has_required-exact c.in-Mapping.fields ms).0 tested in
    let each = subst (λ fs. IsTrue c.members_in.result ↔ E fs rest) c.as_slice-then-has_required.ensures c.members_in.ensures in
    subst (λ d. IsTrue c.members_in.result ↔ MappingFits ms E d) (sym c.in-Mapping.is) (λ h. (there, each.0 h), λ h. each.1 h.1)

pub mapping_fits-returns-else-has_required : goal.mapping_fits-returns-else-has_required
mapping_fits-returns-else-has_required t c =
    let env = c.args.env.now in
    let ms = c.args.members.now in
    let E : List FieldDef → Option Ty → Type 0 = λ fs more. All (MemberIn env fs more) ms in
    let tested = λ (h : HasRequired c.in-Mapping.fields ms). subst (λ fs. has_required fs ms ≡ true) (sym c.as_slice.ensures) ((has_required-exact c.in-Mapping.fields ms).1 h) in
    subst (λ d. IsTrue c.has_required.result ↔ MappingFits ms E d) (sym c.in-Mapping.is) (
      λ h. absurd (false≢true (sym c.if-has_required.false ∙ h)),
      λ h. c.has_required.ensures ∙ tested h.0,
    )

pub members_in-loop-m-preserved : goal.members_in-loop-m-preserved
members_in-loop-m-preserved t c =
    one_more (MemberIn c.args.env.now c.args.fields.now c.args.rest.now) c.args.members.now c.loop-m.m-index c.m-item.result (grind (arith, c.loop-m-test.true)) c.m-item.is c.loop-m.invariant (c.member_in.ensures.0 c.if-not-member_in.false)

pub members_in-returns : goal.members_in-returns
members_in-returns t c =
    at_end (MemberIn c.args.env.now c.args.fields.now c.args.rest.now) c.args.members.now c.loop-m.m-index (grind (arith, c.loop-m-test.false)) c.loop-m.invariant

-- ---- the results of a future

pub all_in-loop-x-preserved : goal.all_in-loop-x-preserved
all_in-loop-x-preserved t c =
    one_more (λ x. In c.args.env.now x c.args.t.now) c.args.shapes.now c.loop-x.x-index c.x-item.result (grind (arith, c.loop-x-test.true)) c.x-item.is c.loop-x.invariant (c.holds.ensures.0 c.if-not-holds.false)

pub all_in-returns-then-not-holds : goal.all_in-returns-then-not-holds
all_in-returns-then-not-holds t c =
    one_fails (λ x. In c.args.env.now x c.args.t.now) c.args.shapes.now c.loop-x.x-index c.x-item.result c.holds.result (grind (arith, c.loop-x-test.true)) c.x-item.is c.holds.ensures.1 c.if-not-holds.true

pub all_in-returns : goal.all_in-returns
all_in-returns t c =
    at_end (λ x. In c.args.env.now x c.args.t.now) c.args.shapes.now c.loop-x.x-index (grind (arith, c.loop-x-test.false)) c.loop-x.invariant

-- ---- the cases of a function

pub cases_map-loop-case-preserved : goal.cases_map-loop-case-preserved
cases_map-loop-case-preserved t c =
    one_more (CaseMaps c.args.env.now c.args.args.now c.args.outcome.now) c.args.cases.now c.loop-case.case-index c.case-item.result (grind (arith, c.loop-case-test.true)) c.case-item.is c.loop-case.invariant (c.case_maps.ensures.0 c.if-not-case_maps.false)

pub cases_map-returns-then-not-case_maps : goal.cases_map-returns-then-not-case_maps
cases_map-returns-then-not-case_maps t c =
    one_fails (CaseMaps c.args.env.now c.args.args.now c.args.outcome.now) c.args.cases.now c.loop-case.case-index c.case-item.result c.case_maps.result (grind (arith, c.loop-case-test.true)) c.case-item.is c.case_maps.ensures.1 c.if-not-case_maps.true

pub cases_map-returns : goal.cases_map-returns
cases_map-returns t c =
    at_end (CaseMaps c.args.env.now c.args.args.now c.args.outcome.now) c.args.cases.now c.loop-case.case-index (grind (arith, c.loop-case-test.false)) c.loop-case.invariant

pub case_maps-returns-then-not-arguments_in : goal.case_maps-returns-then-not-arguments_in
case_maps-returns-then-not-arguments_in t c =
    let env = c.args.env.now in
    let items = c.args.case.now.args in
    let args = c.args.args.now in (
      λ r h. absurd (false≢true (sym c.if-not-arguments_in.true ∙ c.arguments_in.ensures.1 (subst (λ xs. ArgumentsIn env xs args) (sym c.as_slice.ensures) ((In-arguments env items args).0 h)))),
      λ m. refl,
    )

pub case_maps-returns-in-Some : goal.case_maps-returns-in-Some
case_maps-returns-in-Some t c =
    let env = c.args.env.now in
    let items = c.args.case.now.args in
    let args = c.args.args.now in
    let given = (In-arguments env items args).1 (subst (λ xs. ArgumentsIn env xs args) c.as_slice.ensures (c.arguments_in.ensures.0 c.if-not-arguments_in.false)) in
    let P : Option Shape → Type 0 = λ o. IsSomeAnd o (λ x. In env x c.args.outcome.now) in
    (λ r h. subst P (sym c.in-Some.is) (c.holds.ensures.0 r), λ m. c.holds.ensures.1 (subst P c.in-Some.is (m given)))

pub case_maps-returns-in-None : goal.case_maps-returns-in-None
case_maps-returns-in-None t c =
    let env = c.args.env.now in
    let items = c.args.case.now.args in
    let args = c.args.args.now in
    let given = (In-arguments env items args).1 (subst (λ xs. ArgumentsIn env xs args) c.as_slice.ensures (c.arguments_in.ensures.0 c.if-not-arguments_in.false)) in
    let P : Option Shape → Type 0 = λ o. IsSomeAnd o (λ x. In env x c.args.outcome.now) in
    (λ r h. absurd (false≢true r), λ m. absurd (subst P c.in-None.is (m given)))
