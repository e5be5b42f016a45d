-- A walk comes to one thing alone, but for questions that are too large.
use Rattle.std.proofs.Common.{◌≡◌, ◌∙◌, ◌++◌, ℕ, List, [], ◌∷◌, Option, Some, None, refl, sym, subst, ap, inl, inr}
use Rattle.std.specs.Prelude.{◌⊎◌, Bool, true, false, Result, Ok, Err, set, slice_get}
use Rattle.std.proofs.lemmas.List.{same_from_push}
use Rattle.bal_base.specs.declared.fault.Fault.{Fault}
use Rattle.bal_base.specs.declared.fault.FaultCode.TheVariants.{NotIsolated, TypeLimit as TooLarge}
use Rattle.bal_base.specs.declared.fault.Kept.TheVariants.{Names as ShowsNames}
use Rattle.bal_base.specs.declared.place.Place.{Place}
use Rattle.bal_base.specs.declared.stop.Stop.{Stop}
use Rattle.bal_base.specs.declared.stop.Stop.TheVariants.{Memory, Fault as OwnFault}
use Rattle.bal_base.specs.declared.text.Name.{Name}
use Rattle.type_model.specs.declared.answers.TypeLimit.{TypeLimit}
use Rattle.type_model.specs.declared.atoms.AtomDef.{AtomDef}
use Rattle.type_model.specs.declared.basic.BasicSet.TheVariants.{Readonly}
use Rattle.type_model.specs.declared.basic.SemType.{SemType, Basic}
use Rattle.type_model.specs.Calls.{Asked}
use Rattle.typed_tree.specs.declared.package.ModuleVariable.{ModuleVariable}
use Rattle.typed_tree.specs.declared.package.TypedPackage.{TypedPackage}
use Rattle.typed_tree.specs.declared.unit.Captured.{Captured}
use Rattle.typed_tree.specs.declared.unit.TypedFunction.{TypedFunction}
use Rattle.typed_tree.specs.SharedTypes.{sem_of}
use Rattle.checks.specs.Checks.{Comes, Gives, Outcome, Refuses, either, gives_some, refuses, ◌▷◌}
use Rattle.checks.specs.Questions.{IsFault, is_below}
use Rattle.descriptors.specs.declared.names.OwnTypes.{OwnTypes}
use Rattle.isolation_check.specs.Alone.{AreOne, IsLimit, IsOnly}
use Rattle.isolation_check.specs.Isolated.{IsKeptBy, own_parts, promises}
use Rattle.isolation_check.specs.Parts.{Calls, CallsValue, Captures, Does, Part, Reads, Stores, function_parts}
use Rattle.isolation_check.specs.Walk.{Open, Walks, are_readonly, body, ends, enters, goes_on, has_to_be, is_steady, isolated, keeps, leads, leaves, not_isolated, path, refuses_here}
use Rattle.isolation_check.proofs.Sound.{calls-new, part-given, part-refused, some-same}

-- ---- one part

-- a fault as the check tells it
abbrev IsTold : List Name → Place → Fault → Type 0
IsTold names at f = IsFault NotIsolated (Some at) (ShowsNames names) f

told-is : (names : List Name) (at : Place) (f : Fault) → IsTold names at f → f ≡ record { code = NotIsolated; at = Some at; kept = ShowsNames names }
told-is names at f told =
    ap (λ c. record { code = c; at = f.at; kept = f.kept }) told.has_code
    ∙ ap (λ a. record { code = NotIsolated; at = a; kept = f.kept }) told.stands
    ∙ ap (λ k. record { code = NotIsolated; at = Some at; kept = k }) told.shows

one-told : (names : List Name) (at : Place) (f g : Fault) → IsTold names at f → IsTold names at g → g ≡ f
one-told names at f g a b = told-is names at g b ∙ sym (told-is names at f a)

-- why a part is refused: a question is too large, or so
abbrev IsWhy : List Name → Place → Fault → Type 0
IsWhy names at f = IsLimit f ⊎ IsTold names at f

module _ (passes : List AtomDef → Asked → TypeLimit → Type 0) (names : List Name) (at : Place) where
  below-why : (s t : SemType) (old new : List AtomDef) (f : Fault) → has_to_be passes s t names at old (Refuses f) new → IsWhy names at f
  unfolding ◌▷◌ gives_some refuses is_below
  below-why s t old new f (inl (asked, same)) = inl asked.2.has_code
  below-why s t old new f (inr (true, mid, asked, rest)) = absurd rest
  below-why s t old new f (inr (false, mid, asked, rest)) = inr rest.0

  readonly-why : (cs : List Captured) (old new : List AtomDef) (f : Fault) → are_readonly passes cs names at old (Refuses f) new → IsWhy names at f
  unfolding ◌▷◌ gives_some
  readonly-why [] old new f h = absurd h
  readonly-why (c ∷ cs) old new f (inl first) = below-why (sem_of c.ty) (Basic Readonly) old new f first
  readonly-why (c ∷ cs) old new f (inr (u, mid, first, rest)) = readonly-why cs mid new f rest

  final-why : (v : ModuleVariable) (b : Bool) (old new : List AtomDef) (f : Fault)
      → either b (has_to_be passes (sem_of v.ty) (Basic Readonly) names at) (not_isolated names at) old (Refuses f) new → IsWhy names at f
  unfolding refuses
  final-why v true old new f h = below-why (sem_of v.ty) (Basic Readonly) old new f h
  final-why v false old new f h = inr h.0

  variable-why : (o : Option ModuleVariable) (old new : List AtomDef) (f : Fault) → is_steady passes o names at old (Refuses f) new → IsWhy names at f
  unfolding refuses
  variable-why (Some v) old new f h = final-why v v.is_final old new f h
  variable-why None old new f h = absurd h.0

module _ (passes : List AtomDef → Asked → TypeLimit → Type 0) (own : OwnTypes) (p : TypedPackage) (env : List AtomDef) where
  part-why : (names : List Name) (at : Place) (d : Does) (f : Fault) → keeps passes own p d names at env (Refuses f) env → IsWhy names at f
  unfolding refuses gives_some
  part-why names at (Reads m) f h = variable-why passes names at (slice_get p.variables.items m) env env f h
  part-why names at Stores f h = inr h.0
  part-why names at (Calls u) f h = absurd h
  part-why names at (CallsValue t) f h = below-why passes names at _ _ env env f h
  part-why names at (Captures cs) f h = readonly-why passes names at cs env env f h

  call-kept : (names : List Name) (at : Place) (d : Does) (u : ℕ) (f : Fault) → d ≡ Calls u → keeps passes own p d names at env (Refuses f) env → ⊥
  unfolding gives_some
  call-kept names at d u f is h = let k : keeps passes own p (Calls u) names at env (Refuses f) env = subst (λ x. keeps passes own p x names at env (Refuses f) env) is h in absurd k

  -- it is kept, and it is refused
  kept-refused : (names : List Name) (at : Place) (d : Does) (f : Fault) → keeps passes own p d names at env (Gives tt) env
      → keeps passes own p d names at env (Refuses f) env → IsLimit f
  kept-refused names at d f k h = by (part-refused passes own p env names at d f h)
    where
      by : (f.code ≡ TooLarge) ⊎ (¬ IsKeptBy p own env d) → IsLimit f
      by (inl large) = large
      by (inr wrong) = absurd (wrong (part-given passes own p env names at d k))

  both-refused : (names : List Name) (at : Place) (d : Does) (f g : Fault) → keeps passes own p d names at env (Refuses f) env
      → keeps passes own p d names at env (Refuses g) env → AreOne (Refuses f) (Refuses g)
  both-refused names at d f g h k = by (part-why names at d f h) (part-why names at d g k)
    where
      by : IsWhy names at f → IsWhy names at g → IsLimit f ⊎ (IsLimit g ⊎ (g ≡ f))
      by (inl large) why = inl large
      by (inr told) (inl large) = inr (inl large)
      by (inr told) (inr also) = inr (inr (one-told names at f g told also))

  -- ---- what is next in a walk

  abbrev Goes : List Open → List Bool → Outcome (Unit {0}) → Type 0
  Goes = Walks passes own p env

  nothing-pushed : {X : Type 0} (xs : List X) (x : X) → [] ≡ xs ++ x ∷ [] → ⊥
  nothing-pushed [] x e = cc
  nothing-pushed (y ∷ xs) x e = cc

  none-left : (opens : List Open) (entered : List Bool) (o : Outcome (Unit {0})) → Goes opens entered o → opens ≡ [] → o ≡ Gives tt
  none-left opens entered o (ends e) is = refl
  none-left opens entered o (leaves around name e r w) is = absurd (nothing-pushed around (body name []) (sym is))
  none-left opens entered o (refuses_here around name part parts e f k) is = absurd (nothing-pushed around (body name (part ∷ parts)) (sym is))
  none-left opens entered o (goes_on around name part parts e r k none w) is = absurd (nothing-pushed around (body name (part ∷ parts)) (sym is))
  none-left opens entered o (enters around name part parts e r u f new at w) is = absurd (nothing-pushed around (body name (part ∷ parts)) (sym is))

  lefts-same : (n m : Option Name) (xs ys : List Part) → body n xs ≡ body m ys → (n ≡ m) × (xs ≡ ys)
  lefts-same n m xs ys e = (ap (λ (o : Open). o.name) e, ap (λ (o : Open). o.left) e)

  none-more : (part : Part) (parts : List Part) → part ∷ parts ≡ [] → ⊥
  none-more part parts e = cc

  pushed-same : (a around : List Open) (n name : Option Name) (xs ys : List Part) → a ++ body n xs ∷ [] ≡ around ++ body name ys ∷ [] → (a ≡ around) × (n ≡ name) × (xs ≡ ys)
  pushed-same a around n name xs ys e =
      let q = same_from_push a around (body n xs) (body name ys) e in
      let r = lefts-same n name xs ys q.1 in
      (q.0, r.0, r.1)

  body-left : (opens : List Open) (entered : List Bool) (o : Outcome (Unit {0})) → Goes opens entered o
      → (around : List Open) (name : Option Name) → opens ≡ around ++ body name [] ∷ [] → Goes around entered o
  body-left opens entered o (ends e) around name is = absurd (nothing-pushed around (body name []) is)
  body-left opens entered o (leaves a n e r w) around name is = subst (λ x. Goes x e r) (pushed-same a around n name [] [] is).0 w
  body-left opens entered o (refuses_here a n part parts e f k) around name is = absurd (none-more part parts (pushed-same a around n name (part ∷ parts) [] is).2)
  body-left opens entered o (goes_on a n part parts e r k none w) around name is = absurd (none-more part parts (pushed-same a around n name (part ∷ parts) [] is).2)
  body-left opens entered o (enters a n part parts e r u f new at w) around name is = absurd (none-more part parts (pushed-same a around n name (part ∷ parts) [] is).2)

  -- the part is refused, or the walk goes on behind it, or into the function that it calls
  abbrev IsNext : List Open → Option Name → Part → List Part → List Bool → Outcome (Unit {0}) → Type 0
  IsNext around name part parts entered o =
      ((f : Fault) × (o ≡ Refuses f) × keeps passes own p part.does (path (around ++ body name (part ∷ parts) ∷ [])) part.at env (Refuses f) env)
      ⊎ ((keeps passes own p part.does (path (around ++ body name (part ∷ parts) ∷ [])) part.at env (Gives tt) env
      × (leads entered part.does ≡ None) × Goes (around ++ body name parts ∷ []) entered o)
      ⊎ ((u : ℕ) × (f : TypedFunction) × (leads entered part.does ≡ Some u) × (slice_get p.functions.items u ≡ Some f)
      × Goes ((around ++ body name parts ∷ []) ++ body (Some f.name) (own_parts (function_parts f)) ∷ []) (set entered u true) o))

  heads-same : (q part : Part) (qs parts : List Part) → q ∷ qs ≡ part ∷ parts → (q ≡ part) × (qs ≡ parts)
  heads-same q part qs parts e = (let a : q ≡ part = cc in a, let b : qs ≡ parts = cc in b)

  moved : (a around : List Open) (n name : Option Name) (q part : Part) (qs parts : List Part) (entered : List Bool) (o : Outcome (Unit {0}))
      → a ++ body n (q ∷ qs) ∷ [] ≡ around ++ body name (part ∷ parts) ∷ [] → IsNext a n q qs entered o → IsNext around name part parts entered o
  moved a around n name q part qs parts entered o is h =
      let e = pushed-same a around n name (q ∷ qs) (part ∷ parts) is in
      let d = heads-same q part qs parts e.2 in
      subst (λ x. IsNext around name part x entered o) d.1
      (subst (λ x. IsNext around name x qs entered o) d.0 (subst (λ x. IsNext around x q qs entered o) e.1 (subst (λ x. IsNext x n q qs entered o) e.0 h)))

  next-is : (opens : List Open) (entered : List Bool) (o : Outcome (Unit {0})) → Goes opens entered o
      → (around : List Open) (name : Option Name) (part : Part) (parts : List Part) → opens ≡ around ++ body name (part ∷ parts) ∷ []
      → IsNext around name part parts entered o
  next-is opens entered o (ends e) around name part parts is = absurd (nothing-pushed around (body name (part ∷ parts)) is)
  next-is opens entered o (leaves a n e r w) around name part parts is = absurd (none-more part parts (sym (pushed-same a around n name [] (part ∷ parts) is).2))
  next-is opens entered o (refuses_here a n q qs e f k) around name part parts is = moved a around n name q part qs parts e (Refuses f) is (inl (f, refl, k))
  next-is opens entered o (goes_on a n q qs e r k none w) around name part parts is = moved a around n name q part qs parts e r is (inr (inl (k, none, w)))
  next-is opens entered o (enters a n q qs e r u f new at w) around name part parts is = moved a around n name q part qs parts e r is (inr (inr (u, f, new, at, w)))

  -- ---- two walks from one place

  refused-as : (f g : Fault) (o : Outcome (Unit {0})) → o ≡ Refuses g → AreOne (Refuses f) (Refuses g) → AreOne (Refuses f) o
  refused-as f g o is h = subst (AreOne (Refuses f)) (sym is) h

  limit-there : (o q : Outcome (Unit {0})) (f : Fault) → q ≡ Refuses f → IsLimit f → AreOne o q
  limit-there (Gives u) q f is large = subst (AreOne (Gives u)) (sym is) large
  limit-there (Refuses g) q f is large = subst (AreOne (Refuses g)) (sym is) (inr (inl large))

  limit-here : (f : Fault) (q : Outcome (Unit {0})) → IsLimit f → AreOne (Refuses f) q
  limit-here f (Gives u) large = large
  limit-here f (Refuses g) large = inl large

  gives-one : (q : Outcome (Unit {0})) → q ≡ Gives tt → AreOne (Gives tt) q
  gives-one q is = subst (AreOne (Gives tt)) (sym is) tt

  none-some : (u : ℕ) (o : Option ℕ) → o ≡ None → o ≡ Some u → ⊥
  none-some u o e d = cc

  abbrev Entered : List Open → Option Name → List Part → TypedFunction → List Open
  Entered around name parts f = (around ++ body name parts ∷ []) ++ body (Some f.name) (own_parts (function_parts f)) ∷ []

  -- where a part is refused in one walk
  one-refused : (around : List Open) (name : Option Name) (part : Part) (parts : List Part) (e : List Bool) (f : Fault) (q : Outcome (Unit {0}))
      → keeps passes own p part.does (path (around ++ body name (part ∷ parts) ∷ [])) part.at env (Refuses f) env
      → IsNext around name part parts e q → AreOne (Refuses f) q
  one-refused around name part parts e f q k (inl (g, is, h)) = refused-as f g q is (both-refused _ part.at part.does f g k h)
  one-refused around name part parts e f q k (inr (inl (h, none, w))) = limit-here f q (kept-refused _ part.at part.does f h k)
  one-refused around name part parts e f q k (inr (inr (u, g, new, at, w))) = absurd (call-kept _ part.at part.does u f (calls-new e part.does u new).0 k)

  -- where it goes on behind it
  one-behind : (around : List Open) (name : Option Name) (part : Part) (parts : List Part) (e : List Bool) (r q : Outcome (Unit {0}))
      → keeps passes own p part.does (path (around ++ body name (part ∷ parts) ∷ [])) part.at env (Gives tt) env
      → leads e part.does ≡ None → (Goes (around ++ body name parts ∷ []) e q → AreOne r q)
      → IsNext around name part parts e q → AreOne r q
  one-behind around name part parts e r q k none rest (inl (g, is, h)) = limit-there r q g is (kept-refused _ part.at part.does g k h)
  one-behind around name part parts e r q k none rest (inr (inl (h, also, x))) = rest x
  one-behind around name part parts e r q k none rest (inr (inr (u, g, new, at, x))) = absurd (none-some u (leads e part.does) none new)

  -- where it enters a function
  one-inside : (around : List Open) (name : Option Name) (part : Part) (parts : List Part) (e : List Bool) (r q : Outcome (Unit {0})) (u : ℕ) (f : TypedFunction)
      → leads e part.does ≡ Some u → slice_get p.functions.items u ≡ Some f → (Goes (Entered around name parts f) (set e u true) q → AreOne r q)
      → IsNext around name part parts e q → AreOne r q
  one-inside around name part parts e r q u f new at rest (inl (g, is, h)) = absurd (call-kept _ part.at part.does u g (calls-new e part.does u new).0 h)
  one-inside around name part parts e r q u f new at rest (inr (inl (h, none, x))) = absurd (none-some u (leads e part.does) none new)
  one-inside around name part parts e r q u f new at rest (inr (inr (n, g, also, there, x))) =
      let same : n ≡ u = some-same n u (sym also ∙ new) in
      let one : g ≡ f = some-same g f (sym there ∙ ap (slice_get p.functions.items) same ∙ at) in
      rest (subst (λ h. Goes (Entered around name parts h) (set e u true) q) one (subst (λ m. Goes (Entered around name parts g) (set e m true) q) same x))

  pub one-walk : (opens : List Open) (entered : List Bool) (o : Outcome (Unit {0})) → Goes opens entered o
      → (q : Outcome (Unit {0})) → Goes opens entered q → AreOne o q
  one-walk opens entered o (ends e) q v = gives-one q (none-left [] e q v refl)
  one-walk opens entered o (leaves around name e r w) q v = one-walk around e r w q (body-left (around ++ body name [] ∷ []) e q v around name refl)
  one-walk opens entered o (refuses_here around name part parts e f k) q v =
      one-refused around name part parts e f q k (next-is (around ++ body name (part ∷ parts) ∷ []) e q v around name part parts refl)
  one-walk opens entered o (goes_on around name part parts e r k none w) q v =
      one-behind around name part parts e r q k none (λ x. one-walk (around ++ body name parts ∷ []) e r w q x)
      (next-is (around ++ body name (part ∷ parts) ∷ []) e q v around name part parts refl)
  one-walk opens entered o (enters around name part parts e r u f new at w) q v =
      one-inside around name part parts e r q u f new at (λ x. one-walk (Entered around name parts f) (set e u true) r w q x)
      (next-is (around ++ body name (part ∷ parts) ∷ []) e q v around name part parts refl)

  pub only-then : (new other : List AtomDef) (r : Result (Unit {0}) (Stop Fault)) (o : Outcome (Unit {0})) → Comes (isolated passes own p) env r new
      → isolated passes own p env o other → IsOnly r o
  unfolding Comes isolated
  only-then new other (Ok u) o h k = one-walk (body None (promises p) ∷ []) _ (Gives u) h.0 o k.0
  only-then new other (Err (OwnFault f)) o h k = one-walk (body None (promises p) ∷ []) _ (Refuses f) h.0 o k.0
  only-then new other (Err Memory) o h k = tt
