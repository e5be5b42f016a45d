-- A field whose name isn't taken.
use Rattle.std.proofs.Common.{◌≡◌, ◌≢◌, ◌<◌, ◌++◌, List, [], ◌∷◌, get_or, AllPairs, Bool, true, false, Ok, Err, Some, sym, subst, ◌∙◌}
use Rattle.std.specs.List.{list_any}
use Rattle.std.specs.Cmp.Lexicographic.{bytes_decides}
use Rattle.std.proofs.lemmas.Bool.{false≢true}
use Rattle.std.proofs.lemmas.List.{get_or-map, length-map, map-append}
use Rattle.std.proofs.lemmas.List.Folds.{list_any_at}
use Rattle.std.proofs.lemmas.List.Quantifiers.{all_pairs_push}
use Rattle.bal_base.specs.declared.fault.Fault.{Fault}
use Rattle.bal_base.specs.declared.fault.FaultCode.TheVariants.{Duplicate}
use Rattle.bal_base.specs.declared.fault.Kept.TheVariants.{Nothing}
use Rattle.bal_base.specs.declared.stop.Stop.TheVariants.{Fault as OwnFault}
use Rattle.bal_base.specs.declared.text.Text.{Text}
use Rattle.bal_tree.specs.declared.name.Word.{Word}
use Rattle.type_model.specs.declared.atoms.FieldDef.{FieldDef}
use Rattle.type_model.specs.declared.basic.Ty.{Ty}
use Rattle.type_model.specs.Defined.{TyBelow}
use Rattle.type_model.specs.Places.{is_same_text}
use Rattle.checks.specs.Checks.{either, gives, refuses}
use Rattle.checks.specs.Questions.{IsFault}
use Rattle.descriptors.specs.declared.draft.Draft.{Draft}
use Rattle.descriptors.specs.Described.{field_of, names_of, new_field}
use Rattle.descriptors.specs.Drafts.{Drafts}
use Rattle.descriptors.specs.Steps.{FieldBelow}
use Rattle.descriptors.proofs.Drafting.{drafts-just, drafts-refused}

module _ (taken : List Text) (name : Word) (may_lack : Bool) (t : Ty) (d : Draft) where
  pub field-given : (f : FieldDef) → list_any (is_same_text name.name) taken ≡ false → f ≡ field_of name may_lack t
      → Drafts (λ n. TyBelow n t) FieldBelow (new_field taken name may_lack t) d (Ok f) d
  field-given f free is = subst
      (λ b. Drafts (λ n. TyBelow n t) FieldBelow (either b (refuses (λ s g. IsFault Duplicate (Some name.at) Nothing g)) (gives {S = Draft} (field_of name may_lack t))) d (Ok f) d)
      (sym free) (drafts-just (λ n. TyBelow n t) FieldBelow d (field_of name may_lack t) f is (λ n le below. below))

  pub field-refused : (f : Fault) → list_any (is_same_text name.name) taken ≡ true → IsFault Duplicate (Some name.at) Nothing f
      → Drafts (λ n. TyBelow n t) FieldBelow (new_field taken name may_lack t) d (Err (OwnFault f)) d
  field-refused f used is = subst
      (λ b. Drafts (λ n. TyBelow n t) FieldBelow (either b (refuses (λ s g. IsFault Duplicate (Some name.at) Nothing g)) (gives {S = Draft} (field_of name may_lack t))) d (Err (OwnFault f)) d)
      (sym used) (drafts-refused (λ n. TyBelow n t) FieldBelow d (λ s g. IsFault Duplicate (Some name.at) Nothing g) f is)

module _ (done : List FieldDef) (f : FieldDef) where
  pub names-more : names_of (done ++ f ∷ []) ≡ names_of done ++ f.name ∷ []
  names-more = map-append (λ (g : FieldDef). g.name) done (f ∷ [])

  pub distinct-more : AllPairs (λ (a b : FieldDef). a.name ≢ b.name) done → list_any (is_same_text f.name) (names_of done) ≡ false
      → AllPairs (λ (a b : FieldDef). a.name ≢ b.name) (done ++ f ∷ [])
  distinct-more all free = all_pairs_push (λ (a b : FieldDef). a.name ≢ b.name) done f all
      (λ k d lt e. false≢true (sym free ∙ list_any_at (is_same_text f.name) (names_of done) k d.name (subst (λ n. k < n) (sym (length-map done (λ (g : FieldDef). g.name))) lt)
      ((bytes_decides f.name (get_or (names_of done) k d.name)).1 (sym (get_or-map (λ (g : FieldDef). g.name) done k d d.name lt ∙ e)))))
