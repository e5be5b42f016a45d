-- How the type of a member is found, step by step.
use Rattle.std.proofs.Common.{◌≡◌, ◌<◌, ◌+◌, ◌++◌, ◌∷◌, [], ℕ, List, All, Bool, true, false, Some, Result, Ok, Err, IfOk, Vec, length, refl, sym, subst, arith}
use Rattle.std.specs.Bool.{⊤}
use Rattle.std.proofs.lemmas.List.{length-append}
use Rattle.std.proofs.lemmas.List.Elements.{All-cons, All-nil}
use Rattle.bal_base.specs.declared.fault.Fault.{Fault}
use Rattle.bal_base.specs.declared.fault.FaultCode.TheVariants.{NoField}
use Rattle.bal_base.specs.declared.place.Place.{Place}
use Rattle.bal_base.specs.declared.stop.Stop.{Stop}
use Rattle.bal_base.specs.declared.stop.Stop.TheVariants.{Memory, Fault as OwnFault}
use Rattle.bal_base.specs.declared.text.Text.{Text}
use Rattle.descriptors.specs.Described.{IsPlain, plain}
use Rattle.descriptors.specs.Language.{IsEverything}
use Rattle.checks.specs.Checks.{Comes, gives, gives_some, refuses}
use Rattle.checks.specs.Questions.{adds, member}
use Rattle.type_model.specs.declared.answers.Keys.{Keys}
use Rattle.type_model.specs.declared.answers.TypeLimit.{TypeLimit}
use Rattle.type_model.specs.declared.atoms.AtomDef.{AtomDef}
use Rattle.type_model.specs.declared.atoms.AtomDef.TheVariants.{Mapping as MappingAtom}
use Rattle.type_model.specs.declared.atoms.FieldDef.{FieldDef}
use Rattle.type_model.specs.declared.basic.SemType.{SemType}
use Rattle.type_model.specs.Calls.{Asked}
use Rattle.type_model.specs.Defined.{DefBelow, IsDefined, TyBelow}
use Rattle.type_model.specs.Places.{HasDistinctFields}
use Rattle.check_words.specs.Words.{Atoms, done, fails, unless}
use Rattle.check_kinds.specs.Over.{ComesOver}
use Rattle.check_kinds.proofs.Over.{over-on, over-out, over-stops}
use Rattle.check_members.specs.Taken.{AreHaving, IsNoField, if_there, with_field_of}

pub ruleset outs = (over-out)

pub over-gives : {A : Type 0} (a : A) (env : Atoms) → ComesOver (gives a) env (Ok a) env
unfolding ComesOver Comes gives_some
over-gives a env s e = (refl, subst (λ (o : Atoms). record s { atoms = o } ≡ s) e refl)

pub over-fails : (at : Place) (env : Atoms) (stop : Stop Fault) → IsNoField at stop → ComesOver (fails {A = Unit {0}} NoField at) env (Err stop) env
unfolding ComesOver Comes refuses
over-fails at env (OwnFault f) h s e = (h, subst (λ (o : Atoms). record s { atoms = o } ≡ s) e refl)
over-fails at env Memory h s e = tt

module _ (at : Place) (env : Atoms) where
  pub there-gives : (t : SemType) → ComesOver (if_there true t at) env (Ok t) env
  there-gives t = over-on done (λ u. gives t) env env env tt (Ok t) (over-gives tt env) (over-gives t env)

  pub absent-stops : (t : SemType) (stop : Stop Fault) → IsNoField at stop → ComesOver (if_there false t at) env (Err stop) env
  absent-stops t stop h = over-stops (fails NoField at) (λ u. gives t) env env stop (over-fails at env stop h)

  pub there-goes : (b : Bool) → b ≡ true → ComesOver (unless b NoField at) env (Ok tt) env
  there-goes b e = subst (λ (c : Bool). ComesOver (unless c NoField at) env (Ok tt) env) (sym e) (over-gives tt env)

  pub absent-fails : (b : Bool) (stop : Stop Fault) → b ≡ false → IsNoField at stop → ComesOver (unless b NoField at) env (Err stop) env
  absent-fails b stop e h = subst (λ (c : Bool). ComesOver (unless c NoField at) env (Err stop) env) (sym e) (over-fails at env stop h)

  pub if-there : (b : Bool) (t : SemType) → b ≡ true → ComesOver (if_there b t at) env (Ok t) env
  if-there b t e = subst (λ (c : Bool). ComesOver (if_there c t at) env (Ok t) env) (sym e) (there-gives t)

  pub if-absent : (b : Bool) (t : SemType) (stop : Stop Fault) → b ≡ false → IsNoField at stop → ComesOver (if_there b t at) env (Err stop) env
  if-absent b t stop e h = subst (λ (c : Bool). ComesOver (if_there c t at) env (Err stop) env) (sym e) (absent-stops t stop h)

module _ (defs : List AtomDef) (at : Place) (old new : Atoms) where
  pub adds-more : (Q : Atoms → List AtomDef → Type 0) (r : Result ℕ (Stop Fault)) → Q old defs → Comes (adds (λ o g. g ≡ defs) (Some at)) old r new → Comes (adds Q (Some at)) old r new
  unfolding Comes adds
  adds-more Q (Ok first) q h = (h.0, subst (Q old) (sym h.1) q, h.2, h.3)
  adds-more Q (Err (OwnFault f)) q h = (h.0, subst (Q old) (sym h.1) q, h.2, h.3, h.4)
  adds-more Q (Err Memory) q h = tt

  pub new-there : (first : ℕ) → 0 < length defs → Comes (adds (λ o g. g ≡ defs) (Some at)) old (Ok first) new → first < length new
  unfolding Comes adds
  new-there first lt h =
      subst (λ (n : Atoms). first < length n) (sym h.3)
      (subst (λ (d : List AtomDef). first < length (old ++ d)) (sym h.1) (let e : first ≡ length old = h.2 in rw (length-append old defs) (omega (arith, lt, e))))

pub member-defined : (passes : List AtomDef → Asked → TypeLimit → Type 0) (t : SemType) (keys : Keys) (at : Place) (old new : Atoms) (r : Result SemType (Stop Fault))
    → Comes (member passes t keys (Some at)) old r new → IfOk r (IsDefined old)
unfolding Comes member
member-defined passes t keys at old new (Ok m) h = h.0
member-defined passes t keys at old new (Err stop) h = tt

-- ---- all mappings with a field

one-member : {X : Type 0} (P : X → Type 0) (x : X) → P x → All P (x ∷ [])
one-member P x h = All-cons P x [] h (All-nil P)

every-plain : (t : SemType) → IsEverything t → (env : Atoms) → IsPlain (λ x. ⊤) env (plain t)
every-plain t h env = record { shapes = h.shapes env; lists = refl; maps = refl }

below-plain : (n : ℕ) (t : SemType) → IsEverything t → TyBelow n (plain t)
below-plain n t h = (h.defined n, All-nil _, All-nil _)

module _ (name : Text) (t u : SemType) (all_t : IsEverything t) (all_u : IsEverything u) where
  abbrev field : SemType → List FieldDef
  field s = record { name = name; ty = plain s; optional = false } ∷ []

  have-field : AreHaving name (with_field_of name t u)
  have-field = record {
    have = (plain t, plain u, every-plain t all_t, every-plain u all_u, refl);
    named = λ env. one-member (DefBelow (length env + 1)) (MappingAtom (field t) (Some (plain u))) (
      one-member (λ f. TyBelow (length env + 1) f.ty) (record { name = name; ty = plain t; optional = false }) (below-plain (length env + 1) t all_t),
      below-plain (length env + 1) u all_u,
    );
    distinct = one-member HasDistinctFields (MappingAtom (field t) (Some (plain u))) (λ i j d lt in'. absurd (omega (arith, lt, in')));
    some = omega arith;
  }

  pub having-is : {Z E : Type 0} (r : Result (Vec AtomDef Z) E) → IfOk r (λ defs. defs.items ≡ with_field_of name t u) → IfOk r (λ defs. AreHaving name defs.items)
  having-is (Ok defs) e = subst (AreHaving name) (sym e) have-field
  having-is (Err m) e = tt
