-- The type of a descriptor, or a wider one of the last part, is wanted: what the needs mean.
use Rattle.std.proofs.Common.{◌≡◌, ◌++◌, All, List, [], ◌∷◌, Option, Some, Ok, Err, length, refl, subst, sym}
use Rattle.bal_base.specs.declared.fault.Fault.{Fault}
use Rattle.bal_base.specs.declared.stop.Stop.{Stop}
use Rattle.bal_tree.specs.declared.types.TypeTree.{TypeTree}
use Rattle.checks.specs.Checks.{Comes}
use Rattle.checks.proofs.Steps.{stops}
use Rattle.descriptors.specs.declared.names.Names.{Names}
use Rattle.descriptors.specs.Described.{described_whole}
use Rattle.descriptors.specs.Descriptors.{descriptor_of}
use Rattle.flow_narrowing.specs.Flows.{IfShared}
use Rattle.type_model.specs.declared.atoms.AtomDef.{AtomDef}
use Rattle.type_model.specs.declared.basic.Ty.{Ty}
use Rattle.type_model.specs.Calls.{KeepsTypes}
use Rattle.type_model.specs.Defined.{TyBelow}
use Rattle.typed_tree.specs.SharedTypes.{Shared}
use Rattle.check_words.specs.Stands.{Stands}
use Rattle.check_words.specs.State.{State}
use Rattle.check_words.specs.Values.{describes}
use Rattle.check_words.specs.Words.{Atoms}
use Rattle.check_words.proofs.Coming.{asked, given, next}
use Rattle.check_words.proofs.Flowing.{want-put}
use Rattle.check_words.proofs.Growing.{stands-grows}
use Rattle.check_words.proofs.Standing.{also-has, stands-wants}

module _ (names : Names) (tree : TypeTree) (s : State) (env : Atoms) where
  pub describes-come : (t : Ty) (x : Shared) (ws : List (Option Shared)) → Comes (described_whole names s.site.scope (descriptor_of tree)) s.atoms (Ok t) env → x.value ≡ t
      → ws ≡ s.wants ++ Some x ∷ [] → Comes (describes names tree) s (Ok tt) (record s { atoms = env; wants = ws })
  describes-come t x ws h is more = let mid : State = record s { atoms = env } in
      next _ _ _ _ _ s.site.scope s (given _ s s.site.scope refl)
      (next _ _ _ _ _ t mid (asked _ s env (Ok t) h)
      (next _ _ _ _ _ x mid (given _ mid x is) (want-put mid (Some x) (Some x) ws refl more)))

  pub describes-stops : (stop : Stop Fault) → Comes (described_whole names s.site.scope (descriptor_of tree)) s.atoms (Err stop) env → Comes (describes names tree) s (Err stop) (record s { atoms = env })
  describes-stops stop h =
      next _ _ _ _ _ s.site.scope s (given _ s s.site.scope refl) (stops _ _ s (record s { atoms = env }) stop (asked _ s env (Err stop) h))

-- one more is wanted
pub wants-stand : (s : State) → Stands s → (w : Option Shared) (ws : List (Option Shared)) → IfShared (TyBelow (length s.atoms)) w → ws ≡ s.wants ++ w ∷ [] → Stands (record s { wants = ws })
wants-stand s h w ws below more =
    stands-wants s h ws (subst (All (IfShared (TyBelow (length s.atoms)))) (sym more) (also-has (IfShared (TyBelow (length s.atoms))) s.wants w h.wants below))

-- the same over more atoms
pub describes-stand : (s : State) → Stands s → (env : List AtomDef) → KeepsTypes s.atoms env → (t : Ty) (x : Shared) (ws : List (Option Shared)) → TyBelow (length env) t → x.value ≡ t
    → ws ≡ s.wants ++ Some x ∷ [] → Stands (record s { atoms = env; wants = ws })
describes-stand s h env kept t x ws below is more =
    wants-stand (record s { atoms = env }) (stands-grows s env kept h) (Some x) ws (subst (TyBelow (length env)) (sym is) below) more
