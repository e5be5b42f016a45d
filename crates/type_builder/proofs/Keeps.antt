-- What a call says of the draft of a type, as what is said of the type that is kept.
use Rattle.std.proofs.Common.{◌≡◌, ℕ, Result, Ok, Err, IsErr, IsErrAnd, sym, subst}
use Rattle.std.proofs.lemmas.Bool.{false≢true}
use Rattle.bal_base.specs.declared.fault.Fault.{Fault}
use Rattle.bal_base.specs.declared.stop.Stop.{Stop}
use Rattle.bal_base.specs.declared.stop.Stop.TheVariants.{Memory, Fault as OwnFault}
use Rattle.bal_tree.specs.declared.def.Def.TheVariants.{«Type» as TypeOf}
use Rattle.bal_tree.specs.declared.def.TypeDef.{TypeDef}
use Rattle.bal_tree.specs.declared.types.TypeTree.{TypeTree}
use Rattle.type_model.specs.Defined.{TyBelow}
use Rattle.type_model.specs.declared.basic.Ty.{Ty}
use Rattle.checks.specs.Checks.{Check, Comes, Gives, Refuses}
use Rattle.descriptors.specs.declared.draft.Draft.{Draft}
use Rattle.descriptors.specs.declared.names.Meaning.TheVariants.{TypeName}
use Rattle.descriptors.specs.declared.names.Names.{Names}
use Rattle.descriptors.specs.declared.names.Scope.{Scope}
use Rattle.descriptors.specs.Descriptors.{descriptor_of}
use Rattle.descriptors.specs.Drafts.{AreNamesBelow, Drafts, drafted}
use Rattle.name_resolution.specs.Definitions.{Placed, scope_at}
use Rattle.type_builder.specs.Flat.{IsFlatType}
use Rattle.type_builder.proofs.FlatShapes.{flat-type-below}
use Rattle.type_builder.specs.Passes.{IsEmptyFrom, IsKept, IsKeptBy, IsNoted}

pub given : {S A : Type 0} (m : Check S A) (s t : S) (a : A) → Comes m s (Ok a) t → m s (Gives a) t
unfolding Comes
given m s t a h = h

pub refused : {S A : Type 0} (m : Check S A) (s t : S) (f : Fault) → Comes m s (Err (OwnFault f)) t → m s (Refuses f) t
unfolding Comes
refused m s t f h = h

module _ (first : ℕ) (p : Placed) (old : Names) (d : TypeDef) (is : p.def ≡ TypeOf d) (scope : Scope) (scope_is : scope ≡ scope_at p) (tree : TypeTree) (tree_is : tree ≡ d.ty.value)
    (s t : Draft) (empty : IsEmptyFrom first s) where
  abbrev it : Check Draft Ty
  it = drafted old (scope_at p) (descriptor_of d.ty.value)

  abbrev Its : Result Ty (Stop Fault) → Type 0
  Its r = Drafts (AreNamesBelow old) TyBelow (drafted old scope (descriptor_of tree)) s r t

  there : (r : Result Ty (Stop Fault)) → Its r → Drafts (AreNamesBelow old) TyBelow (drafted old (scope_at p) (descriptor_of d.ty.value)) s r t
  there r h =
      subst (λ x. Drafts (AreNamesBelow old) TyBelow (drafted old (scope_at p) (descriptor_of x)) s r t) tree_is
      (subst (λ x. Drafts (AreNamesBelow old) TyBelow (drafted old x (descriptor_of tree)) s r t) scope_is h)

  pub type-kept : (new : Names) (u w : Ty) (v : Unit {0}) → Its (Ok u) → IsFlatType u w → IsNoted p (TypeName w) old new → IsKept first p old (Ok v) new
  type-kept new u w v h flat noted =
      let drafts = there (Ok u) h in
      subst (λ def. IsKeptBy first p old new def (Ok v)) (sym is)
      (w, record { start = s; empty = empty; end = t; written = u; comes = given it s t u drafts.comes; flat = flat; below = λ n le g. flat-type-below n u w flat (drafts.over n le g) }, noted)

  stopped : (new : Names) (stop : Stop Fault) → Its (Err stop) → IsKept first p old (Err stop) new
  stopped new (OwnFault f) h =
      subst (λ def. IsKeptBy first p old new def (Err (OwnFault f))) (sym is)
      (record { start = s; empty = empty; end = t; comes = refused it s t f (there (Err (OwnFault f)) h).comes })
  stopped new Memory h = subst (λ def. IsKeptBy first p old new def (Err Memory)) (sym is) tt

  -- what stopped the draft is handed on
  pub type-stops : (new : Names) (stop : Stop Fault) (r : Result (Unit {0}) (Stop Fault)) → IsErr r × IsErrAnd r (λ e. e ≡ stop) → Its (Err stop) → IsKept first p old r new
  type-stops new stop (Ok v) e h = absurd (false≢true e.0)
  type-stops new stop (Err other) e h = subst (λ s. IsKept first p old (Err s) new) (sym e.1) (stopped new stop h)
