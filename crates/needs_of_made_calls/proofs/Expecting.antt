-- What is expected of the next argument.
use Rattle.std.proofs.Common.{◌≡◌, ◌++◌, ◌∙◌, ℕ, true, false, List, [], ◌∷◌, length, All, get_or, slice_get, Option, Some, None, IfSome, option_to_list, Result, Ok, Err, IfOk, refl, sym, subst, ap}
use Rattle.std.proofs.lemmas.List.Elements.{All-get_or}
use Rattle.std.proofs.lemmas.Option.{get_or_from_slice_get, slice_get_within}
use Rattle.bal_base.specs.declared.fault.Fault.{Fault}
use Rattle.bal_base.specs.declared.place.Place.{Place}
use Rattle.bal_base.specs.declared.stop.Stop.{Stop}
use Rattle.bal_base.specs.declared.stop.Stop.TheVariants.{Memory}
use Rattle.checks.specs.Checks.{Comes}
use Rattle.checks.proofs.Steps.{ran_out, stops}
use Rattle.descriptors.specs.declared.names.Signature.{Signature}
use Rattle.descriptors.specs.Described.{IsCopy}
use Rattle.descriptors.specs.Steps.{SignatureBelow}
use Rattle.flow_narrowing.specs.Flows.{IfShared}
use Rattle.expr_needs.specs.declared.kind.Kind.{Kind}
use Rattle.operations.specs.declared.library.LibraryCall.{LibraryCall}
use Rattle.operations.specs.declared.library.LibraryCall.TheVariants.{Println}
use Rattle.type_model.specs.declared.answers.Keys.TheVariants.{AnyIndex}
use Rattle.type_model.specs.declared.answers.TypeLimit.{TypeLimit}
use Rattle.type_model.specs.declared.atoms.AtomDef.{AtomDef}
use Rattle.type_model.specs.declared.basic.SemType.{SemType}
use Rattle.type_model.specs.declared.basic.Ty.{Ty}
use Rattle.type_model.specs.Calls.{Asked}
use Rattle.type_model.specs.Defined.{TyBelow}
use Rattle.typed_tree.specs.SharedTypes.{Shared, sem_of}
use Rattle.check_kinds.specs.Over.{ComesOver}
use Rattle.check_calls.specs.Results.{is_push}
use Rattle.check_calls.proofs.GivenResults.{as-kind, as-pushed}
use Rattle.check_words.specs.Calls.{expects_argument, expects_by, expects_of_library, expects_pushed, parameter_of, wants_copy, wants_kind}
use Rattle.check_words.specs.Library.{Takes, argument_of, row_of}
use Rattle.check_words.specs.Members.{IsStored, member_at}
use Rattle.check_words.specs.Stands.{Stands}
use Rattle.check_words.specs.State.{CallAtWork, IsLast, OfLibrary, State}
use Rattle.check_words.specs.Words.{Atoms, OfKind, Step, wants, wants_some}
use Rattle.check_words.proofs.Coming.{given, next}
use Rattle.check_words.proofs.Flowing.{want-put}
use Rattle.check_words.proofs.Same.{are-same}
use Rattle.check_words.proofs.Standing.{also-has, stands-wants}
use Rattle.needs_of_made_calls.specs.Expected.{WantsOver, wanted_end, with_want}

pub out-wants : (check : Step) (old new : Atoms) → WantsOver check old (Err Memory) new
unfolding WantsOver
out-wants check old new s e = ran_out check s (record s { atoms = new })

want-that : (s : State) (w : Option Shared) → Comes (wants w) s (Ok tt) (record s { wants = s.wants ++ w ∷ [] })
want-that s w = want-put s w w (s.wants ++ w ∷ []) (are-same w) refl

-- nothing is known
pub wants-any : (env : Atoms) → WantsOver (wants None) env (Ok None) env
unfolding WantsOver
wants-any env s e = subst (λ (o : Atoms). Comes (wants None) s (Ok tt) (record s { atoms = o; wants = s.wants ++ None ∷ [] })) e (want-that s None)

some-wanted : (P : Atoms → Ty → Type 0) (s : State) (t : Shared) → P s.atoms t.value → Comes (wants_some P) s (Ok tt) (record s { wants = s.wants ++ Some t ∷ [] })
some-wanted P s t p = next _ _ _ _ _ t s (given _ s t p) (want-that s (Some t))

-- a type of which this holds
pub wants-this : (P : Atoms → Ty → Type 0) (env : Atoms) (t : Shared) → P env t.value → WantsOver (wants_some P) env (Ok (Some t)) env
unfolding WantsOver
wants-this P env t p s e =
    subst (λ (o : Atoms). Comes (wants_some P) s (Ok tt) (record s { atoms = o; wants = s.wants ++ Some t ∷ [] })) e
    (some-wanted P s t (subst (λ (o : Atoms). P o t.value) (sym e) p))

pub copy-wanted : (ts : List Ty) (t : Ty) (u : Shared) (env : Atoms) → option_to_list (Some t) ≡ ts → IsCopy t u.value → WantsOver (wants_copy ts) env (Ok (Some u)) env
copy-wanted ts t u env is h = subst (λ xs. WantsOver (wants_copy xs) env (Ok (Some u)) env) is (wants-this (λ e. IsCopy t) env u h)

pub kind-wanted : (k : Option Kind) (kind : Kind) (t : Shared) (env : Atoms) → k ≡ Some kind → OfKind kind env t.value → WantsOver (wants_kind k) env (Ok (Some t)) env
kind-wanted k kind t env is h = subst (λ o. WantsOver (wants_kind o) env (Ok (Some t)) env) (sym is) (wants-this (OfKind kind) env t h)

pub any-wanted : (k : Option Kind) (env : Atoms) → k ≡ None → WantsOver (wants_kind k) env (Ok None) env
any-wanted k env is = subst (λ o. WantsOver (wants_kind o) env (Ok None) env) (sym is) (wants-any env)

own-call : (call : LibraryCall) → (row_of call).call ≡ call
own-call Println = refl
own-call call = refl

module _ (passes : List AtomDef → Asked → TypeLimit → Type 0) (at : Place) (old new : Atoms) where
  module _ (container : Shared) where
    pub member-then : (m : SemType) (r : Result (Option Shared) (Stop Fault)) → ComesOver (member_at passes (sem_of container) AnyIndex at) old (Ok m) new
        → WantsOver (wants_some (IsStored container.value AnyIndex m)) new r new → WantsOver (expects_pushed passes (Some container) at) old r new
    unfolding WantsOver ComesOver
    member-then m r h k s e =
        next (member_at passes (sem_of container) AnyIndex at) (λ x. wants_some (IsStored container.value AnyIndex x)) s (with_want (record s { atoms = new }) r) (wanted_end r) m
        (record s { atoms = new }) (h s e) (k (record s { atoms = new }) refl)

    pub member-stops : (stop : Stop Fault) → ComesOver (member_at passes (sem_of container) AnyIndex at) old (Err stop) new → WantsOver (expects_pushed passes (Some container) at) old (Err stop) new
    unfolding WantsOver ComesOver
    member-stops stop h s e = stops (member_at passes (sem_of container) AnyIndex at) _ s (record s { atoms = new }) stop (h s e)

  module _ (call : LibraryCall) (receiver : Option Shared) (takes : Takes) (r : Result (Option Shared) (Stop Fault)) where
    pub pushed-so : is_push call ≡ true → WantsOver (expects_pushed passes receiver at) old r new → WantsOver (expects_of_library passes call receiver takes at) old r new
    unfolding WantsOver
    pushed-so is h s e = as-pushed passes call receiver takes at s (with_want (record s { atoms = new }) r) (wanted_end r) is (h s e)

    pub kind-so : is_push call ≡ false → WantsOver (wants_kind takes) old r new → WantsOver (expects_of_library passes call receiver takes at) old r new
    unfolding WantsOver
    kind-so is h s e = as-kind passes call receiver takes at s (with_want (record s { atoms = new }) r) (wanted_end r) is (h s e)

  -- of a call of the library by its row
  pub row-expected : (call : LibraryCall) (receiver : Option Shared) (n : ℕ) (r : Result (Option Shared) (Stop Fault))
      → WantsOver (expects_of_library passes call receiver (argument_of (row_of call) n) at) old r new → WantsOver (expects_by passes (OfLibrary (row_of call) receiver) n at) old r new
  row-expected call receiver n r h = subst (λ x. WantsOver (expects_of_library passes x receiver (argument_of (row_of call) n) at) old r new) (sym (own-call call)) h

  pub argument-expected : (s : State) (c : CallAtWork) (r : Result (Option Shared) (Stop Fault)) → s.atoms ≡ old → IsLast s.calls c → WantsOver (expects_by passes c.callee c.args at) old r new
      → Comes (expects_argument passes at) s (wanted_end r) (with_want (record s { atoms = new }) r)
  unfolding WantsOver
  argument-expected s c r e last h = next _ _ s _ _ c s (given _ s c last) (h s e)

-- ---- the parameter with a number

one-of : {A : Type 0} (x y : A) (zs : List A) → x ∷ [] ≡ zs → y ∷ [] ≡ zs → x ≡ y
one-of x y zs e f = ap (λ ys. get_or ys 0 x) (e ∙ sym f)

has-at : {A : Type 0} (P : A → Type 0) (xs : List A) (k : ℕ) (x : A) → slice_get xs k ≡ Some x → All P xs → P x
has-at P xs k x e all = subst P (get_or_from_slice_get xs k x x e) (All-get_or P xs k x (slice_get_within xs k x e) all)

in-parameters : (n : ℕ) (f : Signature) (number : ℕ) (t : Ty) (p rest : Option Ty) → slice_get f.params number ≡ p → f.rest ≡ rest → t ∷ [] ≡ parameter_of f number
    → SignatureBelow n f → TyBelow n t
in-parameters n f number t (Some u) rest e r is h = let there : u ∷ [] ≡ parameter_of f number = rw e refl in
    subst (TyBelow n) (one-of u t (parameter_of f number) there is) (has-at (TyBelow n) f.params number u e h.0)
in-parameters n f number t None (Some u) e r is h = let there : u ∷ [] ≡ parameter_of f number = rw (e, r) refl in
    subst (TyBelow n) (one-of u t (parameter_of f number) there is) (subst (λ o. IfSome o (TyBelow n)) r h.1)
in-parameters n f number t None None e r is h = let none : [] ≡ parameter_of f number = rw (e, r) refl in absurd (cc)

pub parameter-below : (n : ℕ) (f : Signature) (number : ℕ) (t : Ty) → option_to_list (Some t) ≡ parameter_of f number → SignatureBelow n f → TyBelow n t
parameter-below n f number t is h = in-parameters n f number t (slice_get f.params number) f.rest refl refl is h

-- ---- what stands

pub want-stands : (s : State) → Stands s → (w : Option Shared) (ws : List (Option Shared)) → IfShared (TyBelow (length s.atoms)) w → ws ≡ s.wants ++ w ∷ []
    → Stands (record s { wants = ws })
want-stands s h w ws below e =
    stands-wants s h ws (subst (All (IfShared (TyBelow (length s.atoms)))) (sym e) (also-has (IfShared (TyBelow (length s.atoms))) s.wants w h.wants below))

-- over the same atoms
pub below-over : (old new : Atoms) (r : Result (Option Shared) (Stop Fault)) → new ≡ old → IfOk r (IfShared (TyBelow (length new))) → IfOk r (IfShared (TyBelow (length old)))
below-over old new r e h = subst (λ (n : Atoms). IfOk r (IfShared (TyBelow (length n)))) e h

pub ruleset expecting = (out-wants)
