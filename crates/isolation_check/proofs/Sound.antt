-- A walk that refuses nothing, and one that refuses.
use Rattle.std.proofs.Common.{◌≡◌, ◌∙◌, ◌<◌, ◌++◌, ℕ, zero, suc, List, [], ◌∷◌, Option, Some, None, true, false, length, arith, refl, sym, subst, ap, inl, inr}
use Rattle.std.specs.Prelude.{◌⊎◌, Bool, All, Contains, replicate, set, slice_get}
use Rattle.bal_base.specs.declared.fault.Fault.{Fault}
use Rattle.bal_base.specs.declared.fault.FaultCode.TheVariants.{NotIsolated, TypeLimit as TooLarge}
use Rattle.bal_base.specs.declared.place.Place.{Place}
use Rattle.bal_base.specs.declared.text.Name.{Name}
use Rattle.type_model.specs.declared.answers.TypeLimit.{TypeLimit}
use Rattle.type_model.specs.declared.atoms.AtomDef.{AtomDef}
use Rattle.type_model.specs.declared.basic.BasicSet.TheVariants.{Readonly}
use Rattle.type_model.specs.declared.basic.SemType.{SemType, Basic}
use Rattle.type_model.specs.Calls.{Asked}
use Rattle.type_model.specs.Inclusion.{Sub}
use Rattle.typed_tree.specs.declared.package.ModuleVariable.{ModuleVariable}
use Rattle.typed_tree.specs.declared.package.TypedPackage.{TypedPackage}
use Rattle.typed_tree.specs.declared.unit.Captured.{Captured}
use Rattle.typed_tree.specs.declared.unit.TypedFunction.{TypedFunction}
use Rattle.typed_tree.specs.SharedTypes.{sem_of}
use Rattle.std.proofs.lemmas.Bool.{cases_eq}
use Rattle.std.proofs.lemmas.List.{length-replicate, length-set}
use Rattle.std.proofs.lemmas.Option.{slice_get_within}
use Rattle.std.proofs.lemmas.List.Elements.{All-cons, All-contains, All-contains_itself, All-head, All-nil, All-pop, All-push, All-tail, All-weaker}
use Rattle.checks.specs.Checks.{Gives, Outcome, Refuses, either, gives_some, refuses, ◌▷◌}
use Rattle.checks.specs.Questions.{is_below}
use Rattle.descriptors.specs.declared.names.OwnTypes.{OwnTypes}
use Rattle.isolation_check.specs.Isolated.{IsIsolated, IsKeptBy, IsReached, IsSteady, Keeps, called, own_parts, promised, promises}
use Rattle.isolation_check.specs.Parts.{Calls, CallsValue, Captures, Does, Part, Reads, Stores, function_parts}
use Rattle.isolation_check.specs.Walk.{Open, Walks, are_readonly, body, ends, enters, goes_on, has_to_be, is_steady, keeps, leads, leaves, new_at, not_isolated, refuses_here}

pub some-same : {X : Type 0} (x y : X) → Some x ≡ Some y → x ≡ y
some-same x y e = cc

-- ---- which functions were entered

set-here : (bs : List Bool) (i : ℕ) → i < length bs → slice_get (set bs i true) i ≡ Some true
set-here [] i lt = absurd (grind (arith, lt))
set-here (b ∷ bs) zero lt = refl
set-here (b ∷ bs) (suc i) lt = set-here bs i (grind (arith, lt))

set-there : (bs : List Bool) (i j : ℕ) → (j ≡ i → ⊥) → slice_get (set bs i true) j ≡ slice_get bs j
set-there [] i j apart = refl
set-there (b ∷ bs) zero zero apart = absurd (apart refl)
set-there (b ∷ bs) zero (suc j) apart = refl
set-there (b ∷ bs) (suc i) zero apart = refl
set-there (b ∷ bs) (suc i) (suc j) apart = set-there bs i j (λ e. apart (ap suc e))

-- what was entered stays so
stays-in : (bs : List Bool) (i j : ℕ) → slice_get bs j ≡ Some true → slice_get (set bs i true) j ≡ Some true
stays-in [] i j h = h
stays-in (b ∷ bs) zero zero h = refl
stays-in (b ∷ bs) zero (suc j) h = h
stays-in (b ∷ bs) (suc i) zero h = h
stays-in (b ∷ bs) (suc i) (suc j) h = stays-in bs i j h

new-is : (u v : ℕ) (b : Option Bool) → new_at u b ≡ Some v → (u ≡ v) × (b ≡ Some false)
new-is u v (Some false) e = (some-same u v e, refl)
new-is u v (Some true) e = absurd (cc)
new-is u v None e = absurd (cc)

-- where a part leads that is new, it calls that function
pub calls-new : (entered : List Bool) (d : Does) (u : ℕ) → leads entered d ≡ Some u → (d ≡ Calls u) × (slice_get entered u ≡ Some false)
calls-new entered (Calls v) u e =
    let n = new-is v u (slice_get entered v) e in
    (ap Calls n.0, subst (λ w. slice_get entered w ≡ Some false) n.0 n.1)
calls-new entered (Reads m) u e = absurd (cc)
calls-new entered Stores u e = absurd (cc)
calls-new entered (CallsValue t) u e = absurd (cc)
calls-new entered (Captures cs) u e = absurd (cc)

refused-same : (o : Outcome (Unit {0})) (f g : Fault) → o ≡ Refuses f → o ≡ Refuses g → f ≡ g
refused-same o f g d e = cc

-- P holds of each element
all-contained : {X : Type 0} (P : X → Type 0) (xs : List X) → ((x : X) → Contains xs x → P x) → All P xs
all-contained P xs h = All-weaker (Contains xs) P h xs (All-contains_itself xs)

calls-same : (u v : ℕ) → Calls u ≡ Calls v → u ≡ v
calls-same u v e = cc

known-in : (u : ℕ) (b : Option Bool) → new_at u b ≡ None → (b ≡ None → ⊥) → b ≡ Some true
known-in u (Some true) e there = refl
known-in u (Some false) e there = absurd (cc)
known-in u None e there = absurd (there refl)

is-there : {X : Type 0} (xs : List X) (i n : ℕ) (x : X) → slice_get xs i ≡ Some x → n ≡ length xs → i < n
is-there xs i n x at e = subst (λ m. i < m) (sym e) (slice_get_within xs i x at)

not-past : (bs : List Bool) (i : ℕ) → i < length bs → slice_get bs i ≡ None → ⊥
not-past [] i lt e = absurd (grind (arith, lt))
not-past (b ∷ bs) zero lt e = absurd (cc)
not-past (b ∷ bs) (suc i) lt e = not-past bs i (grind (arith, lt)) e

module _ (passes : List AtomDef → Asked → TypeLimit → Type 0) (names : List Name) (at : Place) where
  -- ---- what a question gave, and why it was refused

  below-given : (s t : SemType) (old new : List AtomDef) → has_to_be passes s t names at old (Gives tt) new → (new ≡ old) × Sub old s t
  unfolding ◌▷◌ gives_some refuses is_below
  below-given s t old new (true, mid, asked, rest) = (rest.1 ∙ asked.1, asked.0)
  below-given s t old new (false, mid, asked, rest) = absurd rest

  below-refused : (s t : SemType) (old new : List AtomDef) (f : Fault) → has_to_be passes s t names at old (Refuses f) new → (f.code ≡ TooLarge) ⊎ (¬ Sub old s t)
  unfolding ◌▷◌ gives_some refuses is_below
  below-refused s t old new f (inl (asked, same)) = inl asked.2.has_code
  below-refused s t old new f (inr (true, mid, asked, rest)) = absurd rest
  below-refused s t old new f (inr (false, mid, asked, rest)) = inr (λ sub. asked.0.2 (sub asked.0.0 asked.0.1.0 asked.0.1.1))

  abbrev AreReadonly : List AtomDef → List Captured → Type 0
  AreReadonly env cs = All (λ c. Sub env (sem_of c.ty) (Basic Readonly)) cs

  readonly-given : (cs : List Captured) (old new : List AtomDef) → are_readonly passes cs names at old (Gives tt) new → AreReadonly old cs
  unfolding ◌▷◌
  readonly-given [] old new h = All-nil (λ (c : Captured). Sub old (sem_of c.ty) (Basic Readonly))
  readonly-given (c ∷ cs) old new (u, mid, first, rest) =
      let b = below-given (sem_of c.ty) (Basic Readonly) old mid first in
      All-cons (λ (k : Captured). Sub old (sem_of k.ty) (Basic Readonly)) c cs b.1 (subst (λ m. AreReadonly m cs) b.0 (readonly-given cs mid new rest))

  readonly-refused : (cs : List Captured) (old new : List AtomDef) (f : Fault) → are_readonly passes cs names at old (Refuses f) new → (f.code ≡ TooLarge) ⊎ (¬ AreReadonly old cs)
  unfolding ◌▷◌ gives_some
  readonly-refused [] old new f h = absurd h
  readonly-refused (c ∷ cs) old new f (inl first) = first-refused (below-refused (sem_of c.ty) (Basic Readonly) old new f first)
    where
      first-refused : (f.code ≡ TooLarge) ⊎ (¬ Sub old (sem_of c.ty) (Basic Readonly)) → (f.code ≡ TooLarge) ⊎ (¬ AreReadonly old (c ∷ cs))
      first-refused (inl large) = inl large
      first-refused (inr wrong) = inr (λ all. wrong (All-head (λ (k : Captured). Sub old (sem_of k.ty) (Basic Readonly)) c cs all))
  readonly-refused (c ∷ cs) old new f (inr (u, mid, first, rest)) = rest-refused (readonly-refused cs mid new f rest)
    where
      rest-refused : (f.code ≡ TooLarge) ⊎ (¬ AreReadonly mid cs) → (f.code ≡ TooLarge) ⊎ (¬ AreReadonly old (c ∷ cs))
      rest-refused (inl large) = inl large
      rest-refused (inr wrong) = inr (λ all. wrong (subst (λ m. AreReadonly m cs) (sym (below-given (sem_of c.ty) (Basic Readonly) old mid first).0) (All-tail (λ (k : Captured). Sub old (sem_of k.ty) (Basic Readonly)) c cs all)))

module _ (passes : List AtomDef → Asked → TypeLimit → Type 0) (own : OwnTypes) (p : TypedPackage) (env : List AtomDef) where
  -- ---- one part

  module _ (names : List Name) (at : Place) where
    final-given : (v : ModuleVariable) (b : Bool) → v.is_final ≡ b
        → either b (has_to_be passes (sem_of v.ty) (Basic Readonly) names at) (not_isolated names at) env (Gives tt) env → IsSteady p own env v
    unfolding refuses
    final-given v true is h = (is, (below-given passes names at (sem_of v.ty) (Basic Readonly) env env h).1)
    final-given v false is h = absurd h

    final-refused : (v : ModuleVariable) (b : Bool) (f : Fault) → v.is_final ≡ b
        → either b (has_to_be passes (sem_of v.ty) (Basic Readonly) names at) (not_isolated names at) env (Refuses f) env
        → (f.code ≡ TooLarge) ⊎ (¬ IsSteady p own env v)
    final-refused v true f is h = by (below-refused passes names at (sem_of v.ty) (Basic Readonly) env env f h)
      where
        by : (f.code ≡ TooLarge) ⊎ (¬ Sub env (sem_of v.ty) (Basic Readonly)) → (f.code ≡ TooLarge) ⊎ (¬ IsSteady p own env v)
        by (inl large) = inl large
        by (inr wrong) = inr (λ k. wrong k.1)
    final-refused v false f is h = inr (λ k. let d : true ≡ false = sym k.0 ∙ is in absurd (cc))

    variable-given : (o : Option ModuleVariable) → is_steady passes o names at env (Gives tt) env → (v : ModuleVariable) × (o ≡ Some v) × IsSteady p own env v
    unfolding refuses
    variable-given (Some v) h = (v, refl, final-given v v.is_final refl h)
    variable-given None h = absurd h

    variable-refused : (o : Option ModuleVariable) (f : Fault) → is_steady passes o names at env (Refuses f) env
        → (f.code ≡ TooLarge) ⊎ (¬ ((v : ModuleVariable) × (o ≡ Some v) × IsSteady p own env v))
    unfolding refuses
    variable-refused (Some v) f h = by (final-refused v v.is_final f refl h)
      where
        by : (f.code ≡ TooLarge) ⊎ (¬ IsSteady p own env v) → (f.code ≡ TooLarge) ⊎ (¬ ((w : ModuleVariable) × (Some v ≡ Some w) × IsSteady p own env w))
        by (inl large) = inl large
        by (inr wrong) = inr (λ (w, same, k). wrong (subst (IsSteady p own env) (sym (some-same v w same)) k))
    variable-refused None f h = absurd h.0

    pub part-given : (d : Does) → keeps passes own p d names at env (Gives tt) env → IsKeptBy p own env d
    unfolding refuses
    part-given (Reads m) h = variable-given (slice_get p.variables.items m) h
    part-given Stores h = absurd h
    part-given (Calls u) h = tt
    part-given (CallsValue t) h = (below-given passes names at _ _ env env h).1
    part-given (Captures cs) h = readonly-given passes names at cs env env h

    pub part-refused : (d : Does) (f : Fault) → keeps passes own p d names at env (Refuses f) env → (f.code ≡ TooLarge) ⊎ (¬ IsKeptBy p own env d)
    unfolding refuses gives_some
    part-refused (Reads m) f h = variable-refused (slice_get p.variables.items m) f h
    part-refused Stores f h = inr (λ k. k)
    part-refused (Calls u) f h = absurd h
    part-refused (CallsValue t) f h = below-refused passes names at _ _ env env f h
    part-refused (Captures cs) f h = readonly-refused passes names at cs env env f h

  -- ---- a walk that refuses nothing: what is entered is closed under calls

  abbrev IsIn : List Bool → ℕ → Type 0
  IsIn entered u = slice_get entered u ≡ Some true

  -- the part is kept, and where it leads is entered in the end
  record IsSettled (final : List Bool) (part : Part) : Type 0 where
    pub kept : Keeps p own env part
    pub leads_in : (u : ℕ) (f : TypedFunction) → part.does ≡ Calls u → slice_get p.functions.items u ≡ Some f → IsIn final u

  record IsClosed (entered : List Bool) (opens : List Open) (final : List Bool) : Type 0 where
    pub had : (u : ℕ) → IsIn entered u → IsIn final u
    pub left : All (λ o. All (IsSettled final) o.left) opens
    pub inside : (u : ℕ) (f : TypedFunction) → IsIn final u → ¬ IsIn entered u → slice_get p.functions.items u ≡ Some f → All (IsSettled final) (own_parts (function_parts f))

  module _ (final : List Bool) where
    open-split : (around : List Open) (name : Option Name) (parts : List Part)
        → All (λ o. All (IsSettled final) o.left) (around ++ body name parts ∷ [])
        → All (λ o. All (IsSettled final) o.left) around × All (IsSettled final) parts
    open-split around name parts all = All-pop (λ (o : Open). All (IsSettled final) o.left) (around ++ body name parts ∷ []) around (Some (body name parts)) refl all

    open-more : (around : List Open) (name : Option Name) (part : Part) (parts : List Part) → IsSettled final part
        → All (λ o. All (IsSettled final) o.left) (around ++ body name parts ∷ [])
        → All (λ o. All (IsSettled final) o.left) (around ++ body name (part ∷ parts) ∷ [])
    open-more around name part parts k all =
        let h = open-split around name parts all in
        All-push (λ (o : Open). All (IsSettled final) o.left) around (body name (part ∷ parts)) h.0 (All-cons (IsSettled final) part parts k h.1)

  abbrev IsLong : List Bool → Type 0
  IsLong entered = length entered ≡ length p.functions.items

  entered-closes : (around : List Open) (name : Option Name) (part : Part) (parts : List Part) (entered final : List Bool) (u : ℕ) (f : TypedFunction)
      → IsLong entered → leads entered part.does ≡ Some u → slice_get p.functions.items u ≡ Some f
      → IsClosed ((set entered u true)) ((around ++ body name parts ∷ []) ++ body (Some f.name) (own_parts (function_parts f)) ∷ []) final
      → IsClosed entered (around ++ body name (part ∷ parts) ∷ []) final
  entered-closes around name part parts entered final u f long new at c =
      let h = open-split final (around ++ body name parts ∷ []) (Some f.name) (own_parts (function_parts f)) c.left in
      let calls = calls-new entered part.does u new in
      let in_end : IsIn final u = c.had u (set-here entered u (is-there p.functions.items u (length entered) f at long)) in
      record {
        had = λ v i. c.had v (stays-in entered u v i);
        left = open-more final around name part parts
            (record {
              kept = subst (IsKeptBy p own env) (sym calls.0) tt;
              leads_in = λ v g is there. subst (IsIn final) (calls-same u v (sym calls.0 ∙ is)) in_end;
            })
            h.0;
        inside = λ v g i fresh there. by v g i fresh there h.1 (cases_eq v u);
      }
    where
      by : (v : ℕ) (g : TypedFunction) → IsIn final v → (¬ IsIn entered v) → slice_get p.functions.items v ≡ Some g
          → All (IsSettled final) (own_parts (function_parts f)) → (v ≡ u) ⊎ (v ≡ u → ⊥) → All (IsSettled final) (own_parts (function_parts g))
      by v g i fresh there own_settled (inl same) =
          subst (λ k. All (IsSettled final) (own_parts (function_parts k)))
          (some-same f g (sym at ∙ ap (slice_get p.functions.items) (sym same) ∙ there)) own_settled
      by v g i fresh there own_settled (inr other) = c.inside v g i (λ k. fresh (sym (set-there entered u v other) ∙ k)) there

  closes : (opens : List Open) (entered : List Bool) (o : Outcome (Unit {0})) → Walks passes own p env opens entered o → o ≡ Gives tt → IsLong entered
      → (final : List Bool) × IsClosed entered opens final
  closes opens entered o (ends e) is long = (e, record { had = λ u i. i; left = All-nil (λ (q : Open). All (IsSettled e) q.left); inside = λ u f i new at. absurd (new i) })
  closes opens entered o (leaves around name e r w) is long =
      let (final, c) = closes around e r w is long in
      (final, record { had = c.had; left = All-push (λ (o : Open). All (IsSettled final) o.left) around (body name []) c.left (All-nil (IsSettled final)); inside = c.inside })
  closes opens entered o (refuses_here around name part parts e f k) is long = absurd (cc)
  closes opens entered o (goes_on around name part parts e r k none w) is long =
      let (final, c) = closes (around ++ body name parts ∷ []) e r w is long in (
        final,
        record {
          had = c.had;
          left = open-more final around name part parts
              (record {
                kept = part-given _ part.at part.does k;
                leads_in = λ u f calls at. c.had u (known-in u (slice_get e u) (ap (leads e) (sym calls) ∙ none)
                    (not-past e u (is-there p.functions.items u (length e) f at long)));
              })
              c.left;
          inside = c.inside;
        },
      )
  closes opens entered o (enters around name part parts e r u f new at w) is long =
      let (final, c) = closes ((around ++ body name parts ∷ []) ++ body (Some f.name) (own_parts (function_parts f)) ∷ []) (set e u true) r w is (length-set e u true ∙ long) in
      (final, entered-closes around name part parts e final u f long new at c)

  -- ---- a walk that refuses: what it meets is due

  data IsDue (part : Part) : Type 0 where
    by_promise : Contains (promises p) part → IsDue part
    in_reached : (u : ℕ) (f : TypedFunction) → IsReached p u → slice_get p.functions.items u ≡ Some f → Contains (own_parts (function_parts f)) part → IsDue part

  due-leads : (part : Part) (u : ℕ) → IsDue part → part.does ≡ Calls u → IsReached p u
  due-leads part u (by_promise c) is = promised part u c is
  due-leads part u (in_reached g f r at c) is = called g f part u r at c is

  abbrev IsBroken : Fault → Type 0
  IsBroken f = (f.code ≡ TooLarge) ⊎ ((part : Part) × IsDue part × (¬ Keeps p own env part))

  abbrev AreDue : List Open → Type 0
  AreDue opens = All (λ o. All IsDue o.left) opens

  due-split : (around : List Open) (name : Option Name) (part : Part) (parts : List Part) → AreDue (around ++ body name (part ∷ parts) ∷ [])
      → AreDue around × IsDue part × All IsDue parts
  due-split around name part parts all =
      let h = All-pop (λ (o : Open). All IsDue o.left) (around ++ body name (part ∷ parts) ∷ []) around (Some (body name (part ∷ parts))) refl all in
      (h.0, All-head IsDue part parts h.1, All-tail IsDue part parts h.1)

  broken-by : (part : Part) (f : Fault) → IsDue part → (f.code ≡ TooLarge) ⊎ (¬ IsKeptBy p own env part.does) → IsBroken f
  broken-by part f due (inl large) = inl large
  broken-by part f due (inr wrong) = inr (part, due, wrong)

  breaks : (opens : List Open) (entered : List Bool) (o : Outcome (Unit {0})) (f : Fault) → Walks passes own p env opens entered o → o ≡ Refuses f → AreDue opens → IsBroken f
  breaks opens entered o f (ends e) is due = absurd (cc)
  breaks opens entered o f (leaves around name e r w) is due =
      breaks around e r f w is (All-pop (λ (o : Open). All IsDue o.left) (around ++ body name [] ∷ []) around (Some (body name [])) refl due).0
  breaks opens entered o f (refuses_here around name part parts e g k) is due =
      let h = due-split around name part parts due in
      subst IsBroken (refused-same (Refuses g) g f refl is) (broken-by part g h.1 (part-refused _ part.at part.does g k))
  breaks opens entered o f (goes_on around name part parts e r k none w) is due =
      let h = due-split around name part parts due in
      breaks (around ++ body name parts ∷ []) e r f w is (All-push (λ (o : Open). All IsDue o.left) around (body name parts) h.0 h.2)
  breaks opens entered o f (enters around name part parts e r u g new at w) is due =
      let h = due-split around name part parts due in
      let reached = due-leads part u h.1 (calls-new e part.does u new).0 in
      breaks ((around ++ body name parts ∷ []) ++ body (Some g.name) (own_parts (function_parts g)) ∷ []) (set e u true) r f w is
      (All-push (λ (o : Open). All IsDue o.left) (around ++ body name parts ∷ []) (body (Some g.name) (own_parts (function_parts g))) (All-push (λ (o : Open). All IsDue o.left) around (body name parts) h.0 h.2) (all-contained IsDue (own_parts (function_parts g)) (λ q c. in_reached u g reached at c)))

  -- ---- the whole walk

  module _ (o : Outcome (Unit {0})) (w : Walks passes own p env (body None (promises p) ∷ []) (replicate (length p.functions.items) false) o) where
    none-in : (n u : ℕ) → IsIn (replicate n false) u → ⊥
    none-in zero u i = absurd (cc)
    none-in (suc n) zero i = absurd (cc)
    none-in (suc n) (suc u) i = none-in n u i

    pub is-isolated : o ≡ Gives tt → IsIsolated p own env
    is-isolated is =
        let (final, c) = closes (body None (promises p) ∷ []) (replicate (length p.functions.items) false) o w is (length-replicate (length p.functions.items) false) in
        record { here = settled-kept final (promises p) (first-settled final c); reached = λ u f r at. settled-kept final _ (body-settled final c u f (reached-in final c u r f at) at) }
      where
        settled-kept : (final : List Bool) (parts : List Part) → All (IsSettled final) parts → All (Keeps p own env) parts
        settled-kept final parts all = All-weaker (IsSettled final) (Keeps p own env) (λ x k. k.kept) parts all

        first-settled : (final : List Bool) → IsClosed (replicate (length p.functions.items) false) (body None (promises p) ∷ []) final → All (IsSettled final) (promises p)
        first-settled final c = All-head (λ (o : Open). All (IsSettled final) o.left) (body None (promises p)) [] c.left

        body-settled : (final : List Bool) → IsClosed (replicate (length p.functions.items) false) (body None (promises p) ∷ []) final
            → (u : ℕ) (f : TypedFunction) → IsIn final u → slice_get p.functions.items u ≡ Some f → All (IsSettled final) (own_parts (function_parts f))
        body-settled final c u f i at = c.inside u f i (none-in (length p.functions.items) u) at

        reached-in : (final : List Bool) → IsClosed (replicate (length p.functions.items) false) (body None (promises p) ∷ []) final
            → (u : ℕ) → IsReached p u → (f : TypedFunction) → slice_get p.functions.items u ≡ Some f → IsIn final u
        reached-in final c u (promised part v in_promises calls) f at = (All-contains (IsSettled final) (promises p) part (first-settled final c) in_promises).leads_in u f calls at
        reached-in final c u (called g h part v r there in_body calls) f at =
            (All-contains (IsSettled final) (own_parts (function_parts h)) part (body-settled final c g h (reached-in final c g r h there) there) in_body).leads_in u f calls at

    pub is-not-isolated : (f : Fault) → o ≡ Refuses f → f.code ≡ NotIsolated → IsIsolated p own env → ⊥
    is-not-isolated f is code iso = by (breaks (body None (promises p) ∷ []) (replicate (length p.functions.items) false) o f w is (All-cons (λ (o : Open). All IsDue o.left) (body None (promises p)) [] (all-contained IsDue (promises p) (λ q c. by_promise c)) (All-nil (λ (o : Open). All IsDue o.left))))
      where
        by : IsBroken f → ⊥
        by (inl large) = let d : NotIsolated ≡ TooLarge = sym code ∙ large in absurd (cc)
        by (inr (part, by_promise c, wrong)) = wrong (All-contains (Keeps p own env) (promises p) part iso.here c)
        by (inr (part, in_reached u g r at c, wrong)) = wrong (All-contains (Keeps p own env) (own_parts (function_parts g)) part (iso.reached u g r at) c)
