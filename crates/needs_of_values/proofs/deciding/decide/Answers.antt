use Rattle.std.proofs.Common.{length, refl, subst, sym}
use Rattle.expr_needs.specs.declared.kind.Kind.TheVariants as kind
use Rattle.type_model.specs.Defined.{IsDefined}
use Rattle.check_words.specs.Stands.{PartBelow}
use Rattle.check_words.specs.Words.{sem}
use Rattle.check_words.proofs.Standing.{last-has, stands-beside}
use Rattle.check_work.specs.Views.{state_of}
use Rattle.needs_of_values.proofs.Asked.{handed-on}
use Rattle.needs_of_values.proofs.Sorting.{last-of, decides-come, decides-stops, over-same, settled-so, settles-not, within-so}
use Rattle.needs_of_values.proofs.deciding.decide.Goals as goal

pub is_of_kind-requires-clause-defined : goal.is_of_kind-requires-clause-defined
is_of_kind-requires-clause-defined g c =
    let env = g.T.Types.atoms c.args.types.now in
    subst (IsDefined env) (sym c.shapes_of-s.ensures) (last-has (PartBelow (length env)) _ _ (last-of _ _ _ c.as_slice.ensures.value c.in-Some.ensures) c.requires.stands.found).0

pub settle-requires-clause-defined : goal.settle-requires-clause-defined
settle-requires-clause-defined g c =
    let env = g.T.Types.atoms c.args.types.now in
    subst (λ s. IsDefined (g.T.Types.atoms c.is_of_kind.new.types) s) (sym c.shapes_of-s.ensures)
    (subst (λ a. IsDefined a (sem c.in-Some.e.now)) (sym c.in_ok-ints.ensures.atoms) (last-has (PartBelow (length env)) _ _ (last-of _ _ _ c.as_slice.ensures.value c.in-Some.ensures) c.requires.stands.found).0)

pub returns-clause-stands : goal.returns-clause-stands
returns-clause-stands g c = stands-beside (state_of (g.T.Types.atoms c.args.types.now) c.args.work.now) c.requires.stands _ _ _ _

pub returns-in_err-ints-clause-comes : goal.returns-in_err-ints-clause-comes
returns-in_err-ints-clause-comes g c =
    let s = state_of (g.T.Types.atoms c.args.types.now) c.args.work.now in
    handed-on _ s s _ _ c.from_residual.ensures
    (decides-stops g.T.Types.passes s c.args.at _ (last-of _ _ _ c.as_slice.ensures.value c.in-Some.ensures) _
    (over-same _ s _ _ _ refl c.in_err-ints.ensures.atoms
    (within-so g.T.Types.passes c.args.at _ _ c.shapes_of-s.ensures _ _ kind.Integer _ c.in_err-ints.ensures.comes)))

pub returns-in_err-settle-clause-comes : goal.returns-in_err-settle-clause-comes
returns-in_err-settle-clause-comes g c =
    let s = state_of (g.T.Types.atoms c.args.types.now) c.args.work.now in
    handed-on _ s s _ _ c.from_residual-in_err-settle.ensures
    (settles-not g.T.Types.passes s c.args.at _ (last-of _ _ _ c.as_slice.ensures.value c.in-Some.ensures) c.in_ok-ints.ints
    (over-same _ s _ _ _ refl c.in_ok-ints.ensures.atoms
    (within-so g.T.Types.passes c.args.at _ _ c.shapes_of-s.ensures _ _ kind.Integer _ c.in_ok-ints.ensures.comes)) _
    (over-same _ s _ _ _ c.in_ok-ints.ensures.atoms c.in_err-settle.ensures.atoms
    (settled-so g.T.Types.passes c.args.at _ _ c.shapes_of-s.ensures _ _ c.in_ok-ints.ints _ c.in_err-settle.ensures.comes)))

pub returns-clause-comes : goal.returns-clause-comes
returns-clause-comes g c =
    let s = state_of (g.T.Types.atoms c.args.types.now) c.args.work.now in
    decides-come g.T.Types.passes s c.args.at _ (last-of _ _ _ c.as_slice.ensures.value c.in-Some.ensures) c.in_ok-ints.ints
    (over-same _ s _ _ _ refl c.in_ok-ints.ensures.atoms
    (within-so g.T.Types.passes c.args.at _ _ c.shapes_of-s.ensures _ _ kind.Integer _ c.in_ok-ints.ensures.comes)) _
    (over-same _ s _ _ _ c.in_ok-ints.ensures.atoms c.in_ok-settle.ensures.atoms
    (settled-so g.T.Types.passes c.args.at _ _ c.shapes_of-s.ensures _ _ c.in_ok-ints.ints _ c.in_ok-settle.ensures.comes)) c.in_ok-push.ensures.items
