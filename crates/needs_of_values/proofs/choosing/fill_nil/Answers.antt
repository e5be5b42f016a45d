use Rattle.std.proofs.Common.{◌∙◌, ◌++◌, ◌∷◌, [], ◌⊎◌, All, ap, length, map, subst, sym}
use Rattle.descriptors.specs.Described.{IsPlain}
use Rattle.operations.specs.Kinds.{IsNil}
use Rattle.type_model.specs.Membership.{In}
use Rattle.typed_tree.specs.Exprs.{type_of}
use Rattle.check_words.specs.Sharing.{SameShared}
use Rattle.check_words.specs.Stands.{PartBelow}
use Rattle.check_words.specs.Words.{sem}
use Rattle.check_words.proofs.Standing.{shared-below}
use Rattle.check_work.specs.Views.{state_of, unit_of}
use Rattle.check_work.proofs.Noting.{at-hand}
use Rattle.needs_of_values.specs.Parts.{OfLastTwo}
use Rattle.needs_of_values.proofs.Chosen.{fills-nil-come, fills-nil-stand, first-of-two}
use Rattle.needs_of_values.proofs.Pairs.{holds-too}
use Rattle.needs_of_values.proofs.choosing.fill_nil.Goals as goal

pub type_without_nil-requires : goal.type_without_nil-requires
type_without_nil-requires g c = subst (All (PartBelow (length (g.T.Types.atoms c.args.types.now)))) (sym c.as_slice-2.ensures.value) c.requires.found

pub returns-clause-stands : goal.returns-clause-stands
returns-clause-stands g c =
    let env = g.T.Types.atoms c.args.types.now in
    let m = c.in_ok-put_elvis.ensures in
    let u = c.in_ok-own.ensures in
    let first = subst (OfLastTwo (λ a b. SameShared (type_of a) c.in_ok-kept.kept)) c.as_slice.ensures.value c.in_ok-kept.ensures in
    let same = holds-too (λ a b. SameShared (type_of a) c.in_ok-kept.kept) _ first.a first.b m.a m.b first.last first.holds m.last in
    fills-nil-stand (state_of env c.args.work.now) (map unit_of c.args.work.now.around.items) (unit_of u.unit) (at-hand _ _ _ u.was) c.in_ok-kept.kept _
    (at-hand _ _ _ u.is ∙ ap (λ v. map unit_of c.args.work.now.around.items ++ v ∷ []) u.more) c.args.at m.a m.b m.e _ _ _ m.made m.after c.requires
    (shared-below (length env) (type_of m.a) c.in_ok-kept.kept same (first-of-two (PartBelow (length env)) _ c.requires.found _ _ m.last)) c.in_ok-ty.ensures.below

pub returns-clause-comes : goal.returns-clause-comes
returns-clause-comes g c =
    let env = g.T.Types.atoms c.args.types.now in
    let m = c.in_ok-put_elvis.ensures in
    let u = c.in_ok-own.ensures in
    let first = subst (OfLastTwo (λ a b. SameShared (type_of a) c.in_ok-kept.kept)) c.as_slice.ensures.value c.in_ok-kept.ensures in
    let same = holds-too (λ a b. SameShared (type_of a) c.in_ok-kept.kept) _ first.a first.b m.a m.b first.last first.holds m.last in
    let two = subst (OfLastTwo (λ a b. IsPlain (λ x. (In env x (sem a) × ¬ IsNil x) ⊎ In env x (sem b)) env c.in_ok-ty.ty.value)) c.as_slice-2.ensures.value c.in_ok-ty.ensures.is in
    fills-nil-come (state_of env c.args.work.now) (map unit_of c.args.work.now.around.items) (unit_of u.unit) (at-hand _ _ _ u.was) c.in_ok-kept.kept _
    (at-hand _ _ _ u.is ∙ ap (λ v. map unit_of c.args.work.now.around.items ++ v ∷ []) u.more) c.args.at m.a m.b m.e _ _ _ m.made m.after u.number m.last same
    (holds-too (λ a b. IsPlain (λ x. (In env x (sem a) × ¬ IsNil x) ⊎ In env x (sem b)) env c.in_ok-ty.ty.value) _ two.a two.b m.a m.b two.last two.holds m.last)
