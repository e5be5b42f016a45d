-- Lines of one operand, or of none.
use Rattle.std.proofs.Common.{List, [], ◌∷◌, append-nil, refl, sym}
use Rattle.std.proofs.lemmas.List.Elements.{All-nil}
use Rattle.bal_base.specs.declared.place.Place.{Place}
use Rattle.bal_tree.specs.declared.name.Literal.{Literal}
use Rattle.bal_tree.specs.declared.name.QualifiedName.{QualifiedName}
use Rattle.bal_tree.specs.declared.name.Word.{Word}
use Rattle.descriptors.specs.declared.names.Names.{Names}
use Rattle.type_model.specs.declared.answers.TypeLimit.{TypeLimit}
use Rattle.type_model.specs.declared.atoms.AtomDef.{AtomDef}
use Rattle.type_model.specs.Calls.{Asked}
use Rattle.typed_tree.specs.Listed.{one, ◌&◌}
use Rattle.expr_needs.specs.declared.expected.Expected.TheVariants as expected
use Rattle.expr_needs.specs.declared.kind.Kind.TheVariants as kind
use Rattle.expr_needs.specs.ExprTable.{Reading, against, freely}
use Rattle.expr_needs.specs.Needs.{Encloses, GivesLiteral, GivesNamed, ReadsField, ReadsOptional, Traps}
use Rattle.typed_needs.specs.MemberReads.{ReadsAreTyped}
use Rattle.typed_needs.specs.Pieces.{ConditionsAreTyped}
use Rattle.typed_needs.proofs.Conditions.{conditions-are-typed}
use Rattle.typed_needs.proofs.MemberReads.{reads-are-typed}
use Rattle.typed_needs.proofs.Naming.{name-is-typed}
use Rattle.typed_needs.proofs.Opened.{literal-is-typed, trap-is-typed}
use Rattle.calm_needs.specs.Calm.{NeedsAreCalm}
use Rattle.typed_exprs.specs.Lines.{Claim, Knows}
use Rattle.typed_exprs.proofs.Operands.{against-typed}
use Rattle.typed_exprs.proofs.Operators.{calm-so, made-step, made-with, of-kind-ready, step-path}
use Rattle.typed_exprs.proofs.Plain.{none-ready}
use Rattle.typed_exprs.proofs.Steps.{before, calm-keeps, calm-path, parted, so-far}

module _ (passes : List AtomDef → Asked → TypeLimit → Type 0) (names : Names) (env : List AtomDef) (calm : NeedsAreCalm passes names) where
  -- ---- no operand

  pub literal : (l : Literal) → Claim passes names env (λ e. one (GivesLiteral l))
  literal l e place old new ready s kept far named =
      let kept-new = calm-keeps place old new (calm-so passes names env calm (GivesLiteral l) tt old new s) s.1 kept in
      made-step passes names env calm (GivesLiteral l) tt place 0 [] old old new (sym (append-nil old.found)) refl (All-nil _) kept s
      (literal-is-typed env passes names place l old new (before env place new kept-new far) s.0)

  pub name : (q : QualifiedName) → Claim passes names env (λ e. one (GivesNamed q))
  name q e place old new ready s kept far named =
      let kept-new = calm-keeps place old new (calm-so passes names env calm (GivesNamed q) tt old new s) s.1 kept in
      made-step passes names env calm (GivesNamed q) tt place 0 [] old old new (sym (append-nil old.found)) refl (All-nil _) kept s
      (name-is-typed env passes names place q old new (before env place new kept-new far) s.0 kept.stored named)

  -- ---- one operand

  pub enclosed : (a : Reading) (at : Place) → Knows passes names env a → Claim passes names env (λ e. a.needs e & one (Encloses at))
  enclosed a at ka e place old new ready run kept far named =
      let (m, ra, s) = parted passes names env (a.needs e) (one (Encloses at)) old new run in
      let c = calm.encloses at m new s.0 in
      let far-m = so-far env place m new (calm-path m new c.on c.units) far in
      let x = ka.claim e place old m ready ra kept far-m named in
      let conditions : ConditionsAreTyped passes names env place = conditions-are-typed env passes names place in
      made-with passes names env calm place 1 (x.part ∷ []) old m new x.found refl x.units x.kept c s.1
      (conditions.enclosed at m new x.part s.0 (record { kept = old.found; is = x.found }) x.typed)

  pub trapped : (a : Reading) (at : Place) → Knows passes names env a → Claim passes names env (λ e. freely a & one (Traps at))
  trapped a at ka e place old new ready run kept far named =
      let (m, ra, s) = parted passes names env (freely a) (one (Traps at)) old new run in
      let c = calm-so passes names env calm (Traps at) tt m new s in
      let far-m = so-far env place m new (step-path passes names env calm (Traps at) tt m new s) far in
      let x = ka.claim expected.Nothing place old m (none-ready passes names env calm e old ready) ra kept far-m named in
      let kept-new = calm-keeps place m new c s.1 x.kept in
      made-with passes names env calm place 1 (x.part ∷ []) old m new x.found refl x.units x.kept c s.1
      (trap-is-typed env passes names place at m new x.part (before env place m x.kept far-m) (before env place new kept-new far) s.0 (record { kept = old.found; is = x.found }) x.typed)

  pub field : (a : Reading) (w : Word) (at : Place) → Knows passes names env a → Claim passes names env (λ e. against kind.AnyMapping a & one (ReadsField w at))
  field a w at ka e place old new ready run kept far named =
      let (m, ra, s) = parted passes names env (against kind.AnyMapping a) (one (ReadsField w at)) old new run in
      let c = calm-so passes names env calm (ReadsField w at) tt m new s in
      let far-m = so-far env place m new (step-path passes names env calm (ReadsField w at) tt m new s) far in
      let x = against-typed passes names env kind.AnyMapping a ka place old m (of-kind-ready passes names env calm e kind.AnyMapping old ready) ra kept far-m named in
      let kept-new = calm-keeps place m new c s.1 x.kept in
      let reads : ReadsAreTyped passes names env place = reads-are-typed passes names env place in
      made-with passes names env calm place 1 (x.part ∷ []) old m new x.found refl x.units x.kept c s.1
      (reads.fields w at m new x.part (before env place m x.kept far-m) (before env place new kept-new far) s.0 (record { kept = old.found; is = x.found }) x.typed)

  pub optional : (a : Reading) (w : Word) (at : Place) → Knows passes names env a → Claim passes names env (λ e. against kind.MappingOrNil a & one (ReadsOptional w at))
  optional a w at ka e place old new ready run kept far named =
      let (m, ra, s) = parted passes names env (against kind.MappingOrNil a) (one (ReadsOptional w at)) old new run in
      let c = calm-so passes names env calm (ReadsOptional w at) tt m new s in
      let far-m = so-far env place m new (step-path passes names env calm (ReadsOptional w at) tt m new s) far in
      let x = against-typed passes names env kind.MappingOrNil a ka place old m (of-kind-ready passes names env calm e kind.MappingOrNil old ready) ra kept far-m named in
      let kept-new = calm-keeps place m new c s.1 x.kept in
      let reads : ReadsAreTyped passes names env place = reads-are-typed passes names env place in
      made-with passes names env calm place 1 (x.part ∷ []) old m new x.found refl x.units x.kept c s.1
      (reads.optional w at m new x.part (before env place m x.kept far-m) (before env place new kept-new far) s.0 (record { kept = old.found; is = x.found }) x.typed x.holds)
