use Rattle.std.proofs.Common.{◌∙◌, ap, length, subst, sym}
use Rattle.checks.specs.Checks.{Comes}
use Rattle.type_model.specs.declared.answers.Keys.TheVariants.{AnyIndex}
use Rattle.type_model.specs.declared.basic.Ty.{Ty}
use Rattle.type_model.specs.Defined.{IsDefined}
use Rattle.typed_tree.specs.SharedTypes.{Shared}
use Rattle.check_words.specs.Members.{member_at}
use Rattle.check_words.specs.Stands.{PartBelow}
use Rattle.check_words.proofs.Coming.{given, next}
use Rattle.check_words.proofs.Standing.{last-has}
use Rattle.check_kinds.proofs.Over.{over-at}
use Rattle.check_work.specs.Views.{state_of}
use Rattle.needs_of_loops.proofs.Answered.{read-last}
use Rattle.needs_of_loops.proofs.items.item_type.Goals as goal

pub member_at-requires : goal.member_at-requires
member_at-requires g c =
    subst (λ (v : Ty). IsDefined (g.T.Types.atoms c.args.types.now) v.sem) (sym (c.deref.ensures ∙ ap (λ (t : Shared). t.value) c.ty.ensures))
    (last-has (PartBelow (length (g.T.Types.atoms c.args.types.now))) _ _ (read-last _ _ _ c.as_slice.ensures.value c.in-Some.ensures) c.requires.found).0

pub returns-in-Some-clause-comes : goal.returns-in-Some-clause-comes
returns-in-Some-clause-comes g c =
    let s = state_of (g.T.Types.atoms c.args.types.now) c.args.work.now in
    next _ _ _ _ _ c.in-Some.e.now s (given _ s c.in-Some.e.now (read-last _ _ _ c.as_slice.ensures.value c.in-Some.ensures))
    (subst (λ (v : Ty). Comes (member_at g.T.Types.passes v.sem AnyIndex c.args.at) s c.member_at.result (state_of (g.T.Types.atoms c.member_at.new.types) c.args.work.now))
    (c.deref.ensures ∙ ap (λ (t : Shared). t.value) c.ty.ensures) (over-at _ s _ _ c.member_at.ensures.comes))
