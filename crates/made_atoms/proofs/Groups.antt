-- Atoms that are added: what they are, and that what they name is there.
use Rattle.std.proofs.Common.{◌≡◌, ◌<◌, ◌+◌, ◌++◌, ◌∙◌, ℕ, zero, suc, Bool, true, false, List, [], ◌∷◌, length, length-append, map, slice_get, All, Option, Some, None, IfOk, Result, Ok, Err, arith, refl, sym, subst, ap}
use Rattle.std.proofs.lemmas.List.{map-id}
use Rattle.std.proofs.lemmas.List.Elements.{All-cons, All-head, All-nil, All-tail, filter_map-append}
use Rattle.std.specs.Prelude.{filter_map, zip}
use Rattle.bal_base.specs.declared.fault.Fault.{Fault}
use Rattle.bal_base.specs.declared.place.Place.{Place}
use Rattle.bal_base.specs.declared.stop.Stop.{Stop}
use Rattle.bal_base.specs.declared.stop.Stop.TheVariants.{Memory, Fault as OwnFault}
use Rattle.bal_base.specs.declared.text.Text.{Text}
use Rattle.checks.specs.Checks.{Comes}
use Rattle.checks.specs.Questions.{adds}
use Rattle.needs.specs.Needs.{asks}
use Rattle.type_model.specs.declared.atoms.AtomDef.{AtomDef}
use Rattle.type_model.specs.declared.atoms.AtomDef.TheVariants.{List as ListAtom, Mapping as MappingAtom, Error as ErrorAtom}
use Rattle.type_model.specs.declared.atoms.FieldDef.{FieldDef}
use Rattle.type_model.specs.declared.basic.SemType.{Atom}
use Rattle.type_model.specs.declared.basic.Ty.{Ty}
use Rattle.type_model.specs.Defined.{DefBelow, IsDefinedGroup, TyBelow}
use Rattle.type_model.specs.Places.{HasDistinctFields}
use Rattle.type_model.proofs.DefinedLaws.{DefBelow-more}
use Rattle.check_kinds.specs.Over.{ComesOver}
use Rattle.check_kinds.proofs.Over.{over-asks, over-some}
use Rattle.check_words.specs.Constructors.{IsOfMembers, all_known, atom_of, field_with, fields_with}
use Rattle.check_words.specs.State.{ConstructorAtWork}
use Rattle.check_words.specs.Words.{Atoms}
use Rattle.made_atoms.specs.Defs.{IsDefBy, IsDefOf, IsGroupOf, error_defs}

-- what holds of all holds of the one at a place
pub all-at : {A : Type 0} (P : A → Type 0) (xs : List A) (k : ℕ) (x : A) → slice_get xs k ≡ Some x → All P xs → P x
all-at P [] k x e h = absurd (cc)
all-at P (y ∷ ys) zero x e h = let same : y ≡ x = cc in subst P same (All-head P y ys h)
all-at P (y ∷ ys) (suc k) x e h = all-at P ys k x e (All-tail P y ys h)

-- ---- groups

-- a group of which this holds, where it is one of which that holds too
pub adds-then : (P Q : Atoms → Atoms → Type 0) (at : Option Place) (old new : Atoms) (r : Result ℕ (Stop Fault)) → ((defs : Atoms) → P old defs → Q old defs)
    → Comes (adds P at) old r new → Comes (adds Q at) old r new
unfolding Comes adds
adds-then P Q at old new (Ok first) f (defs, p, is, more) = (defs, f defs p, is, more)
adds-then P Q at old new (Err (OwnFault fault)) f (defs, p, full, is, same) = (defs, f defs p, full, is, same)
adds-then P Q at old new (Err Memory) f h = tt

-- the atoms of a group are there
pub group-there : (group : Atoms) (at : Option Place) (old new : Atoms) (first : ℕ) → Comes (adds (λ env defs. defs ≡ group) at) old (Ok first) new
    → first + length group ≡ length new
unfolding Comes adds
group-there group at old new first (defs, p, is, more) =
    ap (λ n. n + length group) is ∙ sym (ap length more ∙ length-append old defs ∙ ap (λ ds. length old + length ds) p)

-- the same group by another name
pub added-group : (defs group : Atoms) (at : Option Place) (old new : Atoms) (r : Result ℕ (Stop Fault)) → defs ≡ group → Comes (adds (λ env ds. ds ≡ defs) at) old r new
    → Comes (adds (λ env ds. ds ≡ group) at) old r new
added-group defs group at old new r e h = subst (λ (g : Atoms). Comes (adds (λ env ds. ds ≡ g) at) old r new) e h

pub one-there : (def : AtomDef) (at : Option Place) (old new : Atoms) (r : Result ℕ (Stop Fault)) → Comes (adds (λ env defs. defs ≡ def ∷ []) at) old r new
    → IfOk r (λ first. first < length new)
one-there def at old new (Ok first) h = let e : first + 1 ≡ length new = group-there (def ∷ []) at old new first h in omega (arith, e)
one-there def at old new (Err stop) h = tt

pub two-there : (def more : AtomDef) (at : Option Place) (old new : Atoms) (r : Result ℕ (Stop Fault)) → Comes (adds (λ env defs. defs ≡ def ∷ more ∷ []) at) old r new
    → IfOk r (λ first. first + 1 < length new)
two-there def more at old new (Ok first) h = let e : first + 2 ≡ length new = group-there (def ∷ more ∷ []) at old new first h in omega (arith, e)
two-there def more at old new (Err stop) h = tt

pub one-defined : (env : Atoms) (def : AtomDef) (defs : Atoms) → defs ≡ def ∷ [] → DefBelow (length env) def → IsDefinedGroup env defs
one-defined env def defs is h =
    subst (IsDefinedGroup env) (sym is)
    (All-cons (DefBelow (length env + 1)) def [] (DefBelow-more (length env) (length env + 1) (omega arith) def h) (All-nil (DefBelow (length env + 1))))

pub one-distinct : (def : AtomDef) (defs : Atoms) → defs ≡ def ∷ [] → HasDistinctFields def → All HasDistinctFields defs
one-distinct def defs is h = subst (All HasDistinctFields) (sym is) (All-cons HasDistinctFields def [] h (All-nil HasDistinctFields))

pub two-distinct : (def more : AtomDef) (defs : Atoms) → defs ≡ def ∷ more ∷ [] → HasDistinctFields def → HasDistinctFields more → All HasDistinctFields defs
two-distinct def more defs is h k =
    subst (All HasDistinctFields) (sym is)
    (All-cons HasDistinctFields def (more ∷ []) h (All-cons HasDistinctFields more [] k (All-nil HasDistinctFields)))

-- ---- fields

module _ (n : ℕ) where
  fields-behind : (key : Option Text) (t : Ty) (keys : List (Option Text)) (types : List Ty) → TyBelow n t → All (λ f. TyBelow n f.ty) (fields_with keys types)
      → All (λ f. TyBelow n f.ty) (fields_with (key ∷ keys) (t ∷ types))
  fields-behind None t keys types h k = k
  fields-behind (Some name) t keys types h k = All-cons (λ f. TyBelow n f.ty) _ (fields_with keys types) h k

  pub fields-below : (keys : List (Option Text)) (types : List Ty) → All (TyBelow n) types → All (λ f. TyBelow n f.ty) (fields_with keys types)
  fields-below [] types h = All-nil (λ f. TyBelow n f.ty)
  fields-below (key ∷ keys) [] h = All-nil (λ f. TyBelow n f.ty)
  fields-below (key ∷ keys) (t ∷ types) h = fields-behind key t keys types (All-head (TyBelow n) t types h) (fields-below keys types (All-tail (TyBelow n) t types h))

  -- of a closed record, and of lists of just these items
  pub record-below : (keys : List (Option Text)) (types : List Ty) (def : AtomDef) → def ≡ MappingAtom (fields_with keys types) None → All (TyBelow n) types → DefBelow n def
  record-below keys types def is h = subst (DefBelow n) (sym is) (fields-below keys types h, tt)

  pub items-below : (types : List Ty) → All (TyBelow n) types → DefBelow n (ListAtom types None)
  items-below types h = (h, tt)

  pub map-below : (t : Ty) → TyBelow n t → DefBelow n (MappingAtom [] (Some t))
  map-below t h = (All-nil (λ (f : FieldDef). TyBelow n f.ty), h)

pub error-defined : (env : Atoms) (keys : List (Option Text)) (types : List Ty) (defs : Atoms) → defs ≡ error_defs keys types (length env) → All (TyBelow (length env)) types
    → IsDefinedGroup env defs
error-defined env keys types defs is h =
    let n : ℕ = length env in
    subst (IsDefinedGroup env) (sym is)
    (All-cons (DefBelow (n + 2)) (MappingAtom (fields_with keys types) None) (ErrorAtom (Atom n) ∷ [])
    (DefBelow-more n (n + 2) (omega arith) (MappingAtom (fields_with keys types) None) (fields-below n keys types h, tt))
    (All-cons (DefBelow (n + 2)) (ErrorAtom (Atom n)) [] (omega arith) (All-nil (DefBelow (n + 2)))))

-- one more key and type, in a loop over both
pub one-field : (pairs : List (Option Text × Ty)) (p : Option Text × Ty) (before after : List FieldDef) → before ≡ filter_map field_with pairs
    → after ≡ before ++ filter_map field_with (p ∷ []) → after ≡ filter_map field_with (pairs ++ p ∷ [])
one-field pairs p before after is more = more ∙ ap (λ fs. fs ++ filter_map field_with (p ∷ [])) is ∙ sym (filter_map-append field_with pairs (p ∷ []))

-- the pairs are those of both lists
pub all-fields : (pairs : List (Option Text × Ty)) (keys : List (Option Text)) (types : List Ty) (fields : List FieldDef) → fields ≡ filter_map field_with pairs
    → map (λ (p : Option Text × Ty). (p.0, p.1)) pairs ≡ zip keys types → fields ≡ fields_with keys types
all-fields pairs keys types fields is all = is ∙ ap (filter_map field_with) (sym (map-id pairs) ∙ all)

-- ---- members

-- what is said of the one definition is said of the group
pub of-members : (c : ConstructorAtWork) (env defs : Atoms) (def : AtomDef) → IsDefOf c.keys c.types env def → defs ≡ def ∷ [] → IsOfMembers c env defs
of-members c env defs def h is = by (all_known c.keys) refl h
  where
    by : (b : Bool) → all_known c.keys ≡ b → IsDefBy b c.keys c.types env def → IsOfMembers c env defs
    by true e k = rw e (is ∙ ap (λ d. d ∷ []) k)
    by false e k = rw e (k.0, k.1, k.2, is ∙ ap (λ d. d ∷ []) k.3)

-- ---- the atom that was chosen, or else one that is added

module _ (P : Atoms → Atoms → Type 0) (at : Place) (choice : Option ℕ) where
  pub chosen-over : (atom : ℕ) (old : Atoms) → choice ≡ Some atom → ComesOver (atom_of choice P at) old (Ok atom) old
  chosen-over atom old e = subst (λ (o : Option ℕ). ComesOver (atom_of o P at) old (Ok atom) old) (sym e) (over-some (λ env a. a ≡ atom) old atom refl)

  pub added-over : (old new : Atoms) (r : Result ℕ (Stop Fault)) → choice ≡ None → Comes (adds P (Some at)) old r new → ComesOver (atom_of choice P at) old r new
  added-over old new r e h = subst (λ (o : Option ℕ). ComesOver (atom_of o P at) old r new) (sym e) (over-asks (adds P (Some at)) old new r h)

-- the one definition, as a group of members
pub group-of : (keys : List (Option Text)) (types : List Ty) (def : AtomDef) (at : Option Place) (old new : Atoms) (r : Result ℕ (Stop Fault)) → IsDefOf keys types old def
    → Comes (adds (λ env defs. defs ≡ def ∷ []) at) old r new → Comes (adds (IsGroupOf keys types) at) old r new
group-of keys types def at old new r h k = adds-then (λ env defs. defs ≡ def ∷ []) (IsGroupOf keys types) at old new r (λ defs is. (def, h, is)) k

-- the very definitions, as a group over how many there are
pub error-group : (keys : List (Option Text)) (types : List Ty) (defs : Atoms) (first : ℕ) (at : Option Place) (old new : Atoms) (r : Result ℕ (Stop Fault)) → first ≡ length old
    → defs ≡ error_defs keys types first → Comes (adds (λ env ds. ds ≡ defs) at) old r new → Comes (adds (λ env ds. ds ≡ error_defs keys types (length env)) at) old r new
error-group keys types defs first at old new r e is h =
    adds-then (λ env ds. ds ≡ defs) (λ env ds. ds ≡ error_defs keys types (length env)) at old new r (λ ds same. same ∙ is ∙ ap (error_defs keys types) e) h

-- a group of which this holds, where it is one of which that holds too
pub atom-then : (choice : Option ℕ) (P Q : Atoms → Atoms → Type 0) (at : Place) (old : Atoms) (r : Result ℕ (Stop Fault)) (new : Atoms)
    → ((env defs : Atoms) → P env defs → Q env defs) → ComesOver (atom_of choice P at) old r new → ComesOver (atom_of choice Q at) old r new
unfolding ComesOver Comes asks adds
atom-then (Some atom) P Q at old r new f h = h
atom-then None P Q at old (Ok first) new f h = λ s e. let x = h s e in ((x.0.0, f s.atoms x.0.0 x.0.1, x.0.2, x.0.3), x.1)
atom-then None P Q at old (Err (OwnFault fault)) new f h = λ s e. let x = h s e in ((x.0.0, f s.atoms x.0.0 x.0.1, x.0.2, x.0.3, x.0.4), x.1)
atom-then None P Q at old (Err Memory) new f h = λ s e. tt

pub members-atom : (c : ConstructorAtWork) (at : Place) (old : Atoms) (r : Result ℕ (Stop Fault)) (new : Atoms)
    → ComesOver (atom_of c.choice (IsGroupOf c.keys c.types) at) old r new → ComesOver (atom_of c.choice (IsOfMembers c) at) old r new
members-atom c at old r new h = atom-then c.choice (IsGroupOf c.keys c.types) (IsOfMembers c) at old r new (λ env defs g. of-members c env defs g.0 g.1 g.2) h
