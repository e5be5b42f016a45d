-- Calls and anonymous functions: two runs of each need agree, but for those that add atoms.
use Rattle.std.proofs.Common.{◌≡◌, ◌||◌, ◌++◌, ℕ, suc, Bool, true, false, List, [], ◌∷◌, fold, length, map, Option, Some, None, is_some, if◌then◌else◌, refl, sym, subst, ap, ◌∙◌}
use Rattle.std.specs.List.{AllZip, list_any}
use Rattle.bal_base.specs.declared.fault.FaultCode.TheVariants.{Arity, Duplicate, NoField}
use Rattle.bal_base.specs.declared.place.Place.{Place}
use Rattle.bal_base.specs.declared.text.Name.{Name}
use Rattle.bal_tree.specs.declared.name.Word.{Word}
use Rattle.checks.specs.Agreement.{AreTwins}
use Rattle.flow_narrowing.specs.declared.flow.Variable.{Variable}
use Rattle.operations.specs.declared.library.LibraryCall.{LibraryCall}
use Rattle.operations.specs.declared.library.LibraryCall.TheVariants.{Push}
use Rattle.type_model.specs.declared.answers.Keys.TheVariants.{AnyIndex}
use Rattle.type_model.specs.declared.answers.TypeLimit.{TypeLimit}
use Rattle.type_model.specs.declared.atoms.AtomDef.{AtomDef}
use Rattle.type_model.specs.declared.basic.Ty.{Ty}
use Rattle.type_model.specs.Calls.{Asked}
use Rattle.type_model.specs.Places.{is_same_text}
use Rattle.typed_tree.specs.declared.expr.TypedExpr.{TypedExpr}
use Rattle.typed_tree.specs.Exprs.{type_of}
use Rattle.typed_tree.specs.SharedTypes.{Shared, sem_of}
use Rattle.check_words.specs.Calls.{Capture, argument_fits, begins_anonymous, begins_value, calls, calls_library, calls_method, calls_value, capture_if, captured_as, captures, closes_unit, expects_argument, expects_by, expects_of_library, expects_pushed, has_parameter, in_function, is_argument, is_captured, is_new, is_receiver, is_seen, new_number, one_more, opens_unit, parameter, parameter_of, picks, unit_around, unit_within, wants_copy, wants_kind, with_captured, with_parameter}
use Rattle.check_words.specs.Library.{LibraryRow, Takes, argument_of, methods_named, takes_so_many}
use Rattle.check_words.specs.Sharing.{SameOption, SameShared, SameUnit}
use Rattle.check_words.specs.State.{CallAtWork, Called, OfFunction, OfLibrary, OfValue, State, UnitAtWork, all_but, find_variable, shared_now}
use Rattle.check_words.specs.Words.{Atoms, sem}
use Rattle.check_answers.specs.Pieces as say
use Rattle.check_answers.specs.TwinStates.{CallTwins, CalledTwins, CapturedTwins, PartTwins, SharedTwins, UnitTwins, VariableTwins}
use Rattle.check_answers.specs.TwinTypes.{TwinAtoms}
use Rattle.check_answers.proofs.Handed.{shared-handed, unit-handed}
use Rattle.check_answers.proofs.Leading.{Any2, Leads, Pairs, leads-becomes, leads-either, leads-fails, leads-gives, leads-handles, leads-nothing, leads-some, leads-then, leads-unless}
use Rattle.check_answers.proofs.Meanings.{copies-twin, itself-twin, kinds-twin}
use Rattle.check_answers.proofs.MemberReads.{member-at-leads}
use Rattle.check_answers.proofs.Questions.{Before, Behind, D, Equal, before-atoms, below-if-leads, whether-kind-leads}
use Rattle.check_answers.proofs.Seeing.{narrowed-both, now-twins, variables-found}
use Rattle.check_answers.proofs.Setting.{with-done, with-units, with-ways}
use Rattle.check_answers.proofs.Statements.{with-variable-same}
use Rattle.check_answers.proofs.Storing.{stored-twin}
use Rattle.check_answers.proofs.Values.{wants-some-weak, wants-weak}
use Rattle.check_answers.proofs.Words.{call-leads, no-more-leads, opens-call-leads, part-leads, sets-call-leads, sets-unit-leads, unit-leads, want-leads, wanted-leads}
use Rattle.check_answers.proofs.Zips.{zip-append, zip-but, zip-last, zip-long, zip-one}

module _ (m n : Atoms) where
  abbrev B : Pairs
  B = Before m n

  abbrev A : Pairs
  A = Behind m n

  abbrev E : Ty → Ty → Type 0
  E = D m n

  -- ---- what is called

  pub calls-leads : (c d : Called) → CalledTwins E E c d → Leads B B Any2 (calls c) (calls d)
  calls-leads c d h = opens-call-leads m n E E _ _ (record { callee = h; args = refl })

  pub calls-library-leads : (r : LibraryRow) (t u : Option Shared) (count : ℕ) (at : Place) → SameOption (SharedTwins E E) t u
      → Leads B B Any2 (calls_library r t count at) (calls_library r u count at)
  calls-library-leads r t u count at h =
      leads-then B B B Any2 Any2 _ _ _ _ (leads-unless B (takes_so_many r count) (takes_so_many r count) Arity at refl)
      (λ x y k. calls-leads (OfLibrary r t) (OfLibrary r u) (refl, h))

  -- ---- names that are new

  any-same : (vs us : List Variable) (name : Name) → AllZip (VariableTwins E E) vs us
      → list_any (λ v. is_same_text v.name name) us ≡ list_any (λ v. is_same_text v.name name) vs
  any-same [] [] name h = refl
  any-same (v ∷ vs) (u ∷ us) name h =
      ap (λ i. is_same_text i name || list_any (λ v. is_same_text v.name name) us) h.0.name ∙ ap (λ b. is_same_text v.name name || b) (any-same vs us name h.1)
  any-same [] (u ∷ us) name h = absurd h
  any-same (v ∷ vs) [] name h = absurd h

  units-same : (us vs : List UnitAtWork) (name : Name) → AllZip (UnitTwins E E) us vs
      → list_any (λ u. list_any (λ v. is_same_text v.name name) u.flow.variables) vs ≡ list_any (λ u. list_any (λ v. is_same_text v.name name) u.flow.variables) us
  units-same [] [] name h = refl
  units-same (u ∷ us) (v ∷ vs) name h =
      ap (λ b. b || list_any (λ u. list_any (λ v. is_same_text v.name name) u.flow.variables) vs) (any-same u.flow.variables v.flow.variables name h.0.flow.variables)
      ∙ ap (λ b. list_any (λ v. is_same_text v.name name) u.flow.variables || b) (units-same us vs name h.1)
  units-same [] (v ∷ vs) name h = absurd h
  units-same (u ∷ us) [] name h = absurd h

  seen-same : (name : Name) (s t : State) → B s t → is_seen name t ≡ is_seen name s
  seen-same name s t p =
      ap (λ b. b || list_any (is_same_text name) t.site.workers) (units-same s.units t.units name p.states.units)
      ∙ ap (λ ws. list_any (λ u. list_any (λ v. is_same_text v.name name) u.flow.variables) s.units || list_any (is_same_text name) ws) p.states.site.workers

  equal-bools : (a b c d : Bool) → c ≡ a → d ≡ b → b ≡ a → d ≡ c
  equal-bools a b c d e f h = f ∙ h ∙ sym e

  pub new-leads : (w : Word) → Leads B B Any2 (is_new w) (is_new w)
  new-leads w =
      leads-then B B B Equal Any2 _ _ _ _ (leads-some B Equal _ _ (λ s t a b p x y. equal-bools _ _ a b x y (seen-same w.name s t p)))
      (λ b c e. leads-either B B Any2 b c _ _ _ _ e (leads-fails B B Any2 Duplicate w.at) (leads-gives B Any2 tt tt tt))

  -- ---- units

  pub number-leads : Leads B B Equal new_number new_number
  number-leads =
      leads-then B B B Equal Equal _ _ _ _ (leads-some B Equal _ _ (λ s t a b p x y. y ∙ p.states.done.next_unit ∙ sym x))
      (λ k l e. leads-then B B B Any2 Equal _ _ _ _
      (leads-becomes B B _ _ (λ s t p. record {
        first = p.first;
        second = p.second;
        states = with-done E E s t p.states _ _ (record {
          next_unit = ap suc e;
          functions = p.states.done.functions;
          workers = p.states.done.workers;
          variables = p.states.done.variables;
          initialisers = p.states.done.initialisers;
        });
      }))
      (λ x y i. leads-gives B Equal k l e))

  pub opens-unit-leads : (u v : UnitAtWork) → UnitTwins E E u v → Leads B B Any2 (opens_unit u) (opens_unit v)
  opens-unit-leads u v h =
      leads-then B B B (UnitTwins E E) Any2 _ _ _ _ (leads-handles B _ SameUnit SameUnit u v (λ a b p q. unit-handed E E u v a b h p q))
      (λ a b k. leads-becomes B B _ _ (λ s t p. record {
        first = p.first;
        second = p.second;
        states = let q = with-units E E s t p.states _ _ (zip-one (UnitTwins E E) s.units t.units a b p.states.units k) in with-ways E E _ _ q None None tt;
      }))

  pub closes-unit-leads : Leads B B (UnitTwins E E) closes_unit closes_unit
  closes-unit-leads =
      leads-then B B B _ (UnitTwins E E) _ _ _ _ (unit-leads m n E E)
      (λ u v h. leads-then B B B Any2 (UnitTwins E E) _ _ _ _
      (leads-becomes B B _ _ (λ s t p. record {
        first = p.first;
        second = p.second;
        states = let q = with-units E E s t p.states _ _ (zip-but (UnitTwins E E) 1 s.units t.units p.states.units) in with-ways E E _ _ q None None tt;
      }))
      (λ x y k. leads-gives B (UnitTwins E E) u v h))

  within-same : (u v : UnitAtWork) (k l : ℕ) → l ≡ k → UnitTwins E E u v → UnitTwins E E (unit_within u k) (unit_within v l)
  within-same u v k l e h =
      record {
        number = e;
        worker = h.worker;
        slots = tt;
        params = refl;
        rest = refl;
        rest_member = tt;
        result = h.result;
        arrow = refl;
        future = refl;
        captured = tt;
        flow = record { variables = tt; reached = h.flow.reached };
      }

  pub begins-anonymous-leads : Leads B B Any2 begins_anonymous begins_anonymous
  begins-anonymous-leads =
      leads-then B B B _ Any2 _ _ _ _ (unit-leads m n E E)
      (λ u v h. leads-then B B B Equal Any2 _ _ _ _ number-leads (λ k l e. opens-unit-leads _ _ (within-same u v k l e h)))

  -- ---- parameters

  parameter-same : (name : Name) (k l : ℕ) (t u : Shared) (assigned : Bool) → l ≡ k → SharedTwins E E t u
      → VariableTwins E E (parameter name k t assigned) (parameter name l u assigned)
  parameter-same name k l t u assigned e h =
      record { name = refl; slot = e; declared = h; narrowed = tt; fixed = refl; assigned = refl; captured = refl }

  pub with-parameter-same : (name : Name) (t w : Shared) (u v : UnitAtWork) → SharedTwins E E t w → UnitTwins E E u v
      → UnitTwins E E (with_parameter name t u) (with_parameter name w v)
  with-parameter-same name t w u v k h =
      record {
        number = h.number;
        worker = h.worker;
        slots = zip-one (SharedTwins E E) u.slots v.slots t w h.slots k;
        params = ap suc h.params;
        rest = h.rest;
        rest_member = h.rest_member;
        result = h.result;
        arrow = h.arrow;
        future = h.future;
        captured = h.captured;
        flow = with-variable-same m n _ _ u.flow v.flow
            (parameter-same name (length u.slots) (length v.slots) t w false (sym (zip-long (SharedTwins E E) u.slots v.slots h.slots)) k) h.flow;
      }

  pub has-parameter-leads : (w : Word) → Leads B B Any2 (has_parameter w) (has_parameter w)
  has-parameter-leads w =
      leads-then B B B Any2 Any2 _ _ _ _ (new-leads w)
      (λ x y z. leads-then B B B _ Any2 _ _ _ _ (wanted-leads m n E E)
      (λ t u h. leads-then B B B Any2 Any2 _ _ _ _ (no-more-leads m n E E 1)
      (λ a b c. leads-then B B B _ Any2 _ _ _ _ (unit-leads m n E E)
      (λ v o k. sets-unit-leads m n E E _ _ (with-parameter-same w.name t u v o h k)))))

  -- ---- captured variables

  abbrev CaptureTwins : Capture → Capture → Type 0
  CaptureTwins c d = VariableTwins E E c.0 d.0 × (d.1 ≡ c.1)

  captured-same : (cs ds : List Capture) (name other : Name) → other ≡ name → AllZip CaptureTwins cs ds → is_captured ds other ≡ is_captured cs name
  captured-same [] [] name other e h = refl
  captured-same (c ∷ cs) (d ∷ ds) name other e h =
      ap (λ i. is_same_text i other || is_captured ds other) h.0.0.name ∙ ap (λ i. is_same_text c.0.name i || is_captured ds other) e
      ∙ ap (λ b. is_same_text c.0.name name || b) (captured-same cs ds name other e h.1)
  captured-same [] (d ∷ ds) name other e h = absurd h
  captured-same (c ∷ cs) [] name other e h = absurd h

  chosen-captures : (b c : Bool) (cs ds es fs : List Capture) → c ≡ b → AllZip CaptureTwins cs es → AllZip CaptureTwins ds fs
      → AllZip CaptureTwins (if b then cs else ds) (if c then es else fs)
  chosen-captures true true cs ds es fs e h k = h
  chosen-captures false false cs ds es fs e h k = k
  chosen-captures true false cs ds es fs e h k = absurd (cc)
  chosen-captures false true cs ds es fs e h k = absurd (cc)

  capture-same : (cs ds : List Capture) (at : Place) (o p : Option Variable) → AllZip CaptureTwins cs ds → SameOption (VariableTwins E E) o p
      → AllZip CaptureTwins (capture_if cs at o) (capture_if ds at p)
  capture-same cs ds at None None h k = h
  capture-same cs ds at (Some v) (Some u) h k =
      chosen-captures (is_captured cs v.name) (is_captured ds u.name) cs (cs ++ (v, at) ∷ []) ds (ds ++ (u, at) ∷ [])
      (captured-same cs ds v.name u.name k.name h) h (zip-one CaptureTwins cs ds (v, at) (u, at) h (k, refl))
  capture-same cs ds at None (Some u) h k = absurd k
  capture-same cs ds at (Some v) None h k = absurd k

  captures-from : (vs us : List Variable) (ws : List Word) (cs ds : List Capture) → AllZip (VariableTwins E E) vs us → AllZip CaptureTwins cs ds
      → AllZip CaptureTwins (fold (λ done u. capture_if done u.at (find_variable vs u.name)) cs ws) (fold (λ done u. capture_if done u.at (find_variable us u.name)) ds ws)
  captures-from vs us [] cs ds h k = k
  captures-from vs us (w ∷ ws) cs ds h k = captures-from vs us ws _ _ h (capture-same cs ds w.at _ _ k (variables-found E E vs us w.name h))

  pub captures-same : (vs us : List Variable) (ws : List Word) → AllZip (VariableTwins E E) vs us → AllZip CaptureTwins (captures vs ws) (captures us ws)
  captures-same vs us ws h = captures-from vs us ws [] [] h tt

  as-captured : (c d : Capture) → CaptureTwins c d → CapturedTwins E (captured_as c) (captured_as d)
  as-captured c d h = (
    ap (λ k. say.IsCaptured k (is_some d.0.narrowed) d.1) h.0.slot ∙ ap (λ b. say.IsCaptured c.0.slot b d.1) (narrowed-both E E c.0.narrowed d.0.narrowed h.0.narrowed)
        ∙ ap (say.IsCaptured c.0.slot (is_some c.0.narrowed)) h.1,
    now-twins E E c.0 d.0 h.0,
  )

  pub all-as-captured : (cs ds : List Capture) → AllZip CaptureTwins cs ds → AllZip (CapturedTwins E) (map captured_as cs) (map captured_as ds)
  all-as-captured [] [] h = tt
  all-as-captured (c ∷ cs) (d ∷ ds) h = (as-captured c d h.0, all-as-captured cs ds h.1)
  all-as-captured [] (d ∷ ds) h = absurd h
  all-as-captured (c ∷ cs) [] h = absurd h

  slots-same : (cs ds : List Capture) → AllZip CaptureTwins cs ds → AllZip (SharedTwins E E) (map (λ c. shared_now c.0) cs) (map (λ c. shared_now c.0) ds)
  slots-same [] [] h = tt
  slots-same (c ∷ cs) (d ∷ ds) h = (now-twins E E c.0 d.0 h.0.0, slots-same cs ds h.1)
  slots-same [] (d ∷ ds) h = absurd h
  slots-same (c ∷ cs) [] h = absurd h

  inner-same : (k l : ℕ) (cs ds : List Capture) → l ≡ k → AllZip CaptureTwins cs ds → AllZip (VariableTwins E E) (in_function k cs) (in_function l ds)
  inner-same k l [] [] e h = tt
  inner-same k l (c ∷ cs) (d ∷ ds) e h = (
    record {
      name = h.0.0.name;
      slot = e;
      declared = now-twins E E c.0 d.0 h.0.0;
      narrowed = tt;
      fixed = h.0.0.fixed;
      assigned = h.0.0.assigned;
      captured = refl;
    },
    inner-same (suc k) (suc l) cs ds (ap suc e) h.1,
  )
  inner-same k l [] (d ∷ ds) e h = absurd h
  inner-same k l (c ∷ cs) [] e h = absurd h

  with-captured-same : (cs ds : List Capture) (t w : Shared) (u v : UnitAtWork) → AllZip CaptureTwins cs ds → SharedTwins E E t w → UnitTwins E E u v
      → UnitTwins E E (with_captured cs t u) (with_captured ds w v)
  with-captured-same cs ds t w u v c k h =
      record {
        number = h.number;
        worker = h.worker;
        slots = zip-append (SharedTwins E E) u.slots _ v.slots _ h.slots (slots-same cs ds c);
        params = h.params;
        rest = h.rest;
        rest_member = h.rest_member;
        result = k;
        arrow = h.arrow;
        future = h.future;
        captured = all-as-captured cs ds c;
        flow = record {
          variables = zip-append (VariableTwins E E) u.flow.variables _ v.flow.variables _ h.flow.variables
              (inner-same (length u.slots) (length v.slots) cs ds (sym (zip-long (SharedTwins E E) u.slots v.slots h.slots)) c);
          reached = h.flow.reached;
        };
      }

  around-leads : Leads B B (UnitTwins E E) unit_around unit_around
  around-leads =
      leads-some B _ _ _ (λ s t a b p x y. zip-last (UnitTwins E E) (all_but 1 s.units) (all_but 1 t.units) a b (zip-but (UnitTwins E E) 1 s.units t.units p.states.units) x y)

  pub begins-value-leads : (used : List Word) → Leads B B Any2 (begins_value used) (begins_value used)
  begins-value-leads used =
      leads-then B B B _ Any2 _ _ _ _ (wanted-leads m n E E)
      (λ t w k. leads-then B B B _ Any2 _ _ _ _ around-leads
      (λ a b i. leads-then B B B _ Any2 _ _ _ _ (unit-leads m n E E)
      (λ u v h. sets-unit-leads m n E E _ _
      (with-captured-same _ _ t w u v (captures-same a.flow.variables b.flow.variables used i.flow.variables) k h))))

  -- ---- arguments

  module _ (passes : List AtomDef → Asked → TypeLimit → Type 0) where
    receiver-leads : (k : Takes) (e f : TypedExpr) (at : Place) → PartTwins E E e f → Leads B B Equal (is_receiver passes k e at) (is_receiver passes k f at)
    receiver-leads None e f at h = leads-gives B Equal true true refl
    receiver-leads (Some k) e f at h = whether-kind-leads passes m n B (before-atoms m n) k (sem e) (sem f) at h.ty.twins.shapes

    picks-leads : (rows : List LibraryRow) (e f : TypedExpr) (at : Place) → PartTwins E E e f → Leads B B Equal (picks passes rows e at) (picks passes rows f at)
    picks-leads [] e f at h = leads-fails B B Equal NoField at
    picks-leads (r ∷ rows) e f at h =
        leads-then B B B Equal Equal _ _ _ _ (receiver-leads r.receiver e f at h)
        (λ b c k. leads-either B B Equal b c _ _ _ _ k (leads-gives B Equal r r refl) (picks-leads rows e f at h))

    pub calls-method-leads : (w : Word) (count : ℕ) (at : Place) → Leads B B Any2 (calls_method passes w count at) (calls_method passes w count at)
    calls-method-leads w count at =
        leads-then B B B _ Any2 _ _ _ _ (part-leads m n E E)
        (λ e f h. leads-then B B B Equal Any2 _ _ _ _ (picks-leads (methods_named w.name) e f at h)
        (λ r q k. leads-then B B B (SharedTwins E E) Any2 _ _ _ _
        (leads-handles B _ SameShared SameShared (type_of e) (type_of f) (λ a b x y. shared-handed E E (type_of e) (type_of f) a b h.ty x y))
        (λ t u i. subst (λ row. Leads B B Any2 (calls_library r (Some t) count at) (calls_library row (Some u) count at)) (sym k)
        (calls-library-leads r (Some t) (Some u) count at i))))

    pub calls-value-leads : Leads B B Any2 (calls_value passes) (calls_value passes)
    calls-value-leads = calls-leads OfValue OfValue tt

    kind-leads : (k : Takes) → Leads B A Any2 (wants_kind k) (wants_kind k)
    kind-leads None = wants-weak m n None None tt
    kind-leads (Some k) = wants-some-weak m n _ _ (kinds-twin m n k)

    module _ (twins : TwinAtoms m n) where
      copy-leads : (ts : List Ty) → Leads B A Any2 (wants_copy ts) (wants_copy ts)
      copy-leads [] = leads-nothing B A Any2 _
      copy-leads (t ∷ ts) = wants-some-weak m n _ _ (λ a b x y. copies-twin m n t t a b (itself-twin m n twins t) x y)

      pushed-leads : (o p : Option Shared) (at : Place) → SameOption (SharedTwins E E) o p → Leads B A Any2 (expects_pushed passes o at) (expects_pushed passes p at)
      pushed-leads None None at h = leads-nothing B A Any2 _
      pushed-leads (Some t) (Some u) at h =
          leads-then B B A (λ a b. AreTwins m a n b) Any2 _ _ _ _ (member-at-leads m n passes (sem_of t) (sem_of u) AnyIndex AnyIndex at refl h.twins.shapes)
          (λ a b k. wants-some-weak m n _ _ (λ s r x y. stored-twin m n t.value u.value AnyIndex a b s r twins h.twins k x y))
      pushed-leads None (Some u) at h = absurd h
      pushed-leads (Some t) None at h = absurd h

      library-leads : (call : LibraryCall) (o p : Option Shared) (k : Takes) (at : Place) → SameOption (SharedTwins E E) o p
          → Leads B A Any2 (expects_of_library passes call o k at) (expects_of_library passes call p k at)
      library-leads Push o p k at h = pushed-leads o p at h
      library-leads call o p k at h = kind-leads k

      by-leads : (c d : Called) (k l : ℕ) (at : Place) → l ≡ k → CalledTwins E E c d → Leads B A Any2 (expects_by passes c k at) (expects_by passes d l at)
      by-leads (OfFunction f) (OfFunction g) k l at e h =
          subst (λ i. Leads B A Any2 (expects_by passes (OfFunction f) k at) (expects_by passes (OfFunction i) l at)) (sym h)
          (subst (λ i. Leads B A Any2 (wants_copy (parameter_of f k)) (wants_copy (parameter_of f i))) (sym e) (copy-leads (parameter_of f k)))
      by-leads OfValue OfValue k l at e h = wants-weak m n None None tt
      by-leads (OfLibrary r o) (OfLibrary q p) k l at e h =
          subst (λ i. Leads B A Any2 (expects_by passes (OfLibrary r o) k at) (expects_by passes (OfLibrary i p) l at)) (sym h.0)
          (subst (λ i. Leads B A Any2 (expects_of_library passes r.call o (argument_of r k) at) (expects_of_library passes r.call p (argument_of r i) at)) (sym e)
          (library-leads r.call o p (argument_of r k) at h.1))
      by-leads (OfFunction f) OfValue k l at e h = absurd h
      by-leads (OfFunction f) (OfLibrary q p) k l at e h = absurd h
      by-leads OfValue (OfFunction g) k l at e h = absurd h
      by-leads OfValue (OfLibrary q p) k l at e h = absurd h
      by-leads (OfLibrary r o) (OfFunction g) k l at e h = absurd h
      by-leads (OfLibrary r o) OfValue k l at e h = absurd h

      pub expects-argument-leads : (at : Place) → Leads B A Any2 (expects_argument passes at) (expects_argument passes at)
      expects-argument-leads at =
          leads-then B B A _ Any2 _ _ _ _ (call-leads m n E E) (λ c d h. by-leads c.callee d.callee c.args d.args at h.args h.callee)

    one-more-same : (c d : CallAtWork) → CallTwins E E c d → CallTwins E E (one_more c) (one_more d)
    one-more-same c d h = record { callee = h.callee; args = ap suc h.args }

    fits-leads : (c d : CallAtWork) (at : Place) → CallTwins E E c d → Leads B B Any2 (argument_fits passes c at) (argument_fits passes d at)
    fits-leads c d at h =
        leads-then B B B _ Any2 _ _ _ _ (want-leads m n E E)
        (λ w x k. leads-then B B B _ Any2 _ _ _ _ (part-leads m n E E)
        (λ e f i. leads-then B B B Any2 Any2 _ _ _ _ (below-if-leads m n passes w x e f at k i)
        (λ a b j. leads-then B B B Any2 Any2 _ _ _ _ (no-more-leads m n E E 1)
        (λ r s o. sets-call-leads m n E E _ _ (one-more-same c d h)))))

    pub argument-leads : (at : Place) → Leads B B Any2 (is_argument passes at) (is_argument passes at)
    argument-leads at = leads-then B B B _ Any2 _ _ _ _ (call-leads m n E E) (λ c d h. fits-leads c d at h)
