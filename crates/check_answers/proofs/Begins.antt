-- Functions begin, and constants: two runs of each need agree.
use Rattle.std.proofs.Common.{◌≡◌, ◌⊎◌, ◌++◌, ◌<◌, ◌≤◌, ℕ, List, [], ◌∷◌, map, length, Option, None, Some, Result, Ok, Err, inl, inr, arith, refl, sym, subst, ap, ◌∙◌}
use Rattle.std.proofs.lemmas.List.Elements.{All-nil}
use Rattle.std.specs.List.{AllZip}
use Rattle.std.specs.Prelude.{⊤}
use Rattle.std.specs.Global.{Box}
use Rattle.bal_base.specs.declared.fault.Fault.{Fault}
use Rattle.bal_base.specs.declared.limits.TheConstants.{MOST_ATOMS}
use Rattle.bal_tree.specs.declared.def.ConstDef.{ConstDef}
use Rattle.bal_tree.specs.declared.def.FunctionDef.{FunctionDef}
use Rattle.bal_tree.specs.declared.def.Worker.{Worker}
use Rattle.bal_tree.specs.declared.types.TypeTree.{TypeTree}
use Rattle.checks.specs.Agreement.{Alike, AreTwins, SameFault}
use Rattle.checks.specs.Checks.{Check, Gives, Outcome, Refuses, gives_some, ◌▷◌}
use Rattle.checks.specs.Questions.{below}
use Rattle.checks.proofs.Alike.{▷-alike}
use Rattle.descriptors.specs.declared.names.Names.{Names}
use Rattle.descriptors.specs.declared.names.Scope.{Scope}
use Rattle.descriptors.specs.declared.names.Signature.{Signature}
use Rattle.descriptors.specs.Described.{IsCopy}
use Rattle.descriptors.specs.Steps.{AreNames}
use Rattle.needs.specs.Needs.{does}
use Rattle.operations.specs.declared.operation.Constant.{Constant}
use Rattle.operations.specs.Rows.{shape_of}
use Rattle.type_model.specs.declared.answers.TypeLimit.{TypeLimit}
use Rattle.type_model.specs.declared.atoms.AtomDef.{AtomDef}
use Rattle.type_model.specs.declared.basic.SemType.{SemType}
use Rattle.type_model.specs.declared.basic.Ty.{Ty}
use Rattle.type_model.specs.Calls.{Asked}
use Rattle.type_model.specs.Defined.{DefBelow, IsClosed, IsDefined}
use Rattle.type_model.proofs.Laws.{In-append}
use Rattle.typed_tree.specs.Skeleton.{events_of_body}
use Rattle.typed_tree.specs.SharedTypes.{Shared, sem_of}
use Rattle.expr_needs.specs.declared.kind.Kind.TheVariants as kind
use Rattle.check_words.specs.Branches.{place_of_value, value_constant}
use Rattle.check_words.specs.Calls.{opens_unit}
use Rattle.check_words.specs.State.{State}
use Rattle.check_words.specs.Units.{AreSlots, begins_function, changes_site, constant_fits, descriptor_type, function_unit, rest_slot, result_or_fault, signature_of, worker_results, workers_of}
use Rattle.check_words.specs.Values.{SingleOf}
use Rattle.check_words.specs.Words.{Atoms, OfKind, Step, asking, becomes, by_handles, some_over}
use Rattle.check_answers.specs.Answers.{TwinsOver}
use Rattle.check_answers.specs.TwinStates.{ResultTwins, SharedTwins, SiteTwins, UnitTwins}
use Rattle.check_answers.specs.TwinTypes.{TwinAtoms, TwinTypes}
use Rattle.check_answers.proofs.Actions.{site-leads}
use Rattle.check_answers.proofs.Agreeing.{HasTooMany, Within, behind-over}
use Rattle.check_answers.proofs.Describing.{GoAt, IsTooMany, LastingShared, Moved, Onward, Since, ends-there, goes-alike, onward-first, onward-twins, type-goes, type-grows}
use Rattle.check_answers.proofs.Initials.{opens-leads}
use Rattle.check_answers.proofs.Lasting.{From, Lasting, from-same, from-then, moved-type, now-so}
use Rattle.check_answers.proofs.Leading.{Any2, Given, Leads, Pairs, leads-becomes, leads-done, leads-from, leads-over, leads-some, leads-then, leads-to}
use Rattle.check_answers.proofs.Meanings.{copies-twin, itself-twin, kinds-twin, same-twin}
use Rattle.check_answers.proofs.Questions.{Before, Behind, D, Equal, W, before-atoms, before-behind, below-leads, stays}
use Rattle.check_answers.proofs.Setting.{with-site}
use Rattle.check_answers.proofs.Zips.{zip-long, zip-map}

-- ---- what no run can leave

-- checks that never refuse, and leave the atoms
abbrev IsGiven : {A : Type 0} → Outcome A → Type 0
IsGiven (Gives a) = ⊤
IsGiven (Refuses f) = ⊥

abbrev KeepsAtoms : {A : Type 0} → Check State A → Type 0
KeepsAtoms {A} c = (s : State) (o : Outcome A) (new : State) → c s o new → IsGiven o × (new.atoms ≡ s.atoms)

module _ {A B : Type 0} where
  keeps-then : (c : Check State A) (next : A → Check State B) → KeepsAtoms c → ((a : A) → KeepsAtoms (next a)) → KeepsAtoms (c ▷ next)
  unfolding ◌▷◌
  keeps-then c next f g s (Gives b) new (a, mid, x, y) = (tt, (let i = f s (Gives a) mid x in let j = g a mid (Gives b) new y in j.1 ∙ i.1))
  keeps-then c next f g s (Refuses e) new (inl x) = absurd (let i = f s (Refuses e) new x in i.0)
  keeps-then c next f g s (Refuses e) new (inr (a, mid, x, y)) = absurd (let j = g a mid (Refuses e) new y in j.0)

keeps-handles : {A : Type 0} (Same : A → A → Type 0) (a : A) → KeepsAtoms (by_handles Same a)
unfolding by_handles
keeps-handles Same a s (Gives b) new x = (tt, ap (λ (k : State). k.atoms) x.1)
keeps-handles Same a s (Refuses e) new x = absurd x

keeps-becomes : (change : State → State) → ((s : State) → (change s).atoms ≡ s.atoms) → KeepsAtoms (becomes change)
unfolding does
keeps-becomes change f s (Gives u) new x = (tt, ap (λ (k : State). k.atoms) x ∙ f s)
keeps-becomes change f s (Refuses e) new x = absurd x

-- ---- types that are said

-- what is said of types that name no atom is said over any atoms
simple-twins : (k l m n : Atoms) (s t : SemType) → IsDefined [] s → IsDefined [] t → AreTwins k s l t → AreTwins m s n t
simple-twins k l m n s t p q h x valid =
    let none : IsClosed [] = All-nil (DefBelow 0) in (
      λ i. (In-append [] n none x t q).0 ((In-append [] l none x t q).1 ((h x valid).0 ((In-append [] k none x s p).0 ((In-append [] m none x s p).1 i)))),
      λ i. (In-append [] m none x s p).0 ((In-append [] k none x s p).1 ((h x valid).1 ((In-append [] l none x t q).0 ((In-append [] n none x t q).1 i)))),
    )

nothing-lasts : (k l : Atoms) (s t : Ty) → OfKind kind.Nothing k s → OfKind kind.Nothing l t → Lasting k l s t
nothing-lasts k l s t x y more others =
    let now = kinds-twin k l kind.Nothing s t x y in
    record { shapes = simple-twins k l (k ++ more) (l ++ others) s.sem t.sem x.1 y.1 now.shapes; lists = now.lists; maps = now.maps }

-- copies of one type are twins over any atoms that are
abbrev CopyTwins : Shared → Shared → Type 0
CopyTwins t u = (m n : Atoms) → TwinAtoms m n → TwinTypes m n t.value u.value

copies-same : (t : Ty) (a b : Shared) → IsCopy t a.value → IsCopy t b.value → CopyTwins a b
copies-same t a b x y m n twins = copies-twin m n t t a.value b.value (itself-twin m n twins t) x y

slots-same : (ts : List Ty) (xs ys : List Shared) → AllZip (λ t u. IsCopy t u.value) ts xs → AllZip (λ t u. IsCopy t u.value) ts ys → AllZip CopyTwins xs ys
slots-same [] [] [] x y = tt
slots-same (t ∷ ts) (a ∷ xs) (b ∷ ys) x y = (copies-same t a b x.0 y.0, slots-same ts xs ys x.1 y.1)
slots-same [] (a ∷ xs) ys x y = absurd x
slots-same [] [] (b ∷ ys) x y = absurd y
slots-same (t ∷ ts) [] ys x y = absurd x
slots-same (t ∷ ts) (a ∷ xs) [] x y = absurd y

-- ---- what workers give

abbrev LastingResult : Atoms → Atoms → Result Shared Fault → Result Shared Fault → Type 0
LastingResult k l (Ok t) (Ok u) = LastingShared k l t u
LastingResult k l (Err f) (Err g) = SameFault f g
LastingResult k l (Ok t) (Err g) = ⊥
LastingResult k l (Err f) (Ok u) = ⊥

-- no worker's descriptor refuses
results-given : (names : Names) (ws : List Worker) (s : State) (f : Fault) (new : State) → ¬ worker_results names ws s (Refuses f) new
unfolding ◌▷◌ gives_some result_or_fault
results-given names [] s f new x = x
results-given names (w ∷ ws) s f new (inl x) = x
results-given names (w ∷ ws) s f new (inr (r, mid, x, inl y)) = results-given names ws mid f new y
results-given names (w ∷ ws) s f new (inr (r, mid, x, inr (rs, behind, y, z))) = z

module _ (names : Names) where
  type-or-grows : (o : Option (Box TypeTree)) (s : State) (p : Outcome Shared) (new : State) → descriptor_type names o s p new → length s.atoms ≤ length new.atoms
  unfolding gives_some
  type-or-grows None s (Gives u) new x = let e : length new.atoms ≡ length s.atoms = ap (λ (k : State). length k.atoms) x.1 in omega (arith, e)
  type-or-grows None s (Refuses f) new x = absurd x
  type-or-grows (Some tree) s p new x = type-grows names tree s p new x

  result-grows : (o : Option (Box TypeTree)) (s : State) (r : Result Shared Fault) (new : State) → result_or_fault (descriptor_type names o) s (Gives r) new
      → length s.atoms ≤ length new.atoms
  unfolding result_or_fault
  result-grows o s (Ok t) new x = type-or-grows o s (Gives t) new x
  result-grows o s (Err f) new x = type-or-grows o s (Refuses f) new x

  results-grow : (ws : List Worker) (s : State) (rs : List (Result Shared Fault)) (new : State) → worker_results names ws s (Gives rs) new → length s.atoms ≤ length new.atoms
  unfolding ◌▷◌ gives_some
  results-grow [] s rs new x = let e : length new.atoms ≡ length s.atoms = ap (λ (k : State). length k.atoms) x.1 in omega (arith, e)
  results-grow (w ∷ ws) s rs new (r, mid, x, (more, behind, y, z)) =
      let i = result-grows w.result s r mid x in
      let j = results-grow ws mid more behind y in
      let e : length new.atoms ≡ length behind.atoms = ap (λ (k : State). length k.atoms) z.1 in omega (arith, i, j, e)

module _ (names : Names) (m n : Atoms) (first : IsClosed m) (second : IsClosed n) (twins : TwinAtoms m n) (one : AreNames m names) (two : AreNames n names) where
  abbrev B : Pairs
  B = Before m n

  abbrev On : State → State → Type 0
  On = Onward names m n first second twins one two

  abbrev SinceThen : State → State → State → State → Type 0
  SinceThen = Since names m n first second twins one two

  abbrev Goes : {A C : Type 0} → (Atoms → Atoms → A → C → Type 0) → State → State → Check State A → Check State C → Type 0
  Goes = GoAt names m n first second twins one two

  begun : (s t : State) → B s t → On s t
  begun = onward-first names m n first second twins one two

  -- ---- what workers give, in both runs

  since-same : (s t : State) → On s t → SinceThen s t s t
  since-same s t h = record { there = h; atoms = from-same names s.atoms t.atoms h.atoms.fine }

  type-or-goes : (o : Option (Box TypeTree)) (s t : State) → On s t → Goes LastingShared s t (descriptor_type names o) (descriptor_type names o)
  unfolding gives_some
  type-or-goes (Some tree) s t h o p s2 t2 x y = type-goes names m n first second twins one two tree s t h o p s2 t2 x y
  type-or-goes None s t h (Gives a) (Gives b) s2 t2 x y =
      subst (λ (i : State). SinceThen s t i t2 × LastingShared i.atoms t2.atoms a b) (sym x.1)
      (subst (λ (j : State). SinceThen s t s j × LastingShared s.atoms j.atoms a b) (sym y.1) (since-same s t h, nothing-lasts s.atoms t.atoms a.value b.value x.0 y.0))
  type-or-goes None s t h (Gives a) (Refuses g) s2 t2 x y = absurd y
  type-or-goes None s t h (Refuses f) p s2 t2 x y = absurd x

  result-goes : (o : Option (Box TypeTree)) (s t : State) → On s t → (r q : Result Shared Fault) (s2 t2 : State) → result_or_fault (descriptor_type names o) s (Gives r) s2
      → result_or_fault (descriptor_type names o) t (Gives q) t2 → (SinceThen s t s2 t2 × LastingResult s2.atoms t2.atoms r q) ⊎ (HasTooMany s2 ⊎ HasTooMany t2)
  unfolding result_or_fault
  result-goes o s t h (Ok a) (Ok b) s2 t2 x y = inl (type-or-goes o s t h (Gives a) (Gives b) s2 t2 x y)
  result-goes o s t h (Ok a) (Err g) s2 t2 x y = let r = type-or-goes o s t h (Gives a) (Refuses g) s2 t2 x y in inr (inl r.1)
  result-goes o s t h (Err f) (Ok b) s2 t2 x y = let r = type-or-goes o s t h (Refuses f) (Gives b) s2 t2 x y in inr (inr r.1)
  result-goes o s t h (Err f) (Err g) s2 t2 x y = by (type-or-goes o s t h (Refuses f) (Refuses g) s2 t2 x y)
    where
      by : (SameFault f g × SinceThen s t s2 t2) ⊎ ((IsTooMany f × HasTooMany t2) ⊎ (IsTooMany g × HasTooMany s2))
          → (SinceThen s t s2 t2 × SameFault f g) ⊎ (HasTooMany s2 ⊎ HasTooMany t2)
      by (inl r) = inl (r.1, r.0)
      by (inr (inl r)) = inr (inr r.1)
      by (inr (inr r)) = inr (inl r.1)

  result-moves : (k l k2 l2 : Atoms) → From names k l k2 l2 → (r q : Result Shared Fault) → LastingResult k l r q → LastingResult k2 l2 r q
  result-moves k l k2 l2 f (Ok t) (Ok u) h = moved-type names k l k2 l2 f t.value u.value h
  result-moves k l k2 l2 f (Err e) (Err g) h = h
  result-moves k l k2 l2 f (Ok t) (Err g) h = absurd h
  result-moves k l k2 l2 f (Err e) (Ok u) h = absurd h

  abbrev ResultsGo : State → State → State → State → List (Result Shared Fault) → List (Result Shared Fault) → Type 0
  ResultsGo s t s2 t2 rs qs = (SinceThen s t s2 t2 × AllZip (LastingResult s2.atoms t2.atoms) rs qs) ⊎ (HasTooMany s2 ⊎ HasTooMany t2)

  -- states that are others
  results-at : (s t i j s2 t2 : State) (rs qs xs ys : List (Result Shared Fault)) → s2 ≡ i → t2 ≡ j → xs ≡ rs → ys ≡ qs → ResultsGo s t i j rs qs → ResultsGo s t s2 t2 xs ys
  results-at s t i j s2 t2 rs qs xs ys e f g h k =
      subst (λ (z : State). ResultsGo s t z t2 xs ys) (sym e) (subst (λ (z : State). ResultsGo s t i z xs ys) (sym f)
      (subst (λ z. ResultsGo s t i j z ys) (sym g) (subst (ResultsGo s t i j rs) (sym h) k)))

  grown-past : (k l : ℕ) → MOST_ATOMS < k → k ≤ l → MOST_ATOMS < l
  grown-past k l p q = omega (arith, p, q)

  results-step : (s t mid mid2 behind behind2 : State) (r q : Result Shared Fault) (rs qs : List (Result Shared Fault)) → length mid.atoms ≤ length behind.atoms
      → length mid2.atoms ≤ length behind2.atoms → (SinceThen s t mid mid2 × LastingResult mid.atoms mid2.atoms r q) ⊎ (HasTooMany mid ⊎ HasTooMany mid2)
      → (On mid mid2 → ResultsGo mid mid2 behind behind2 rs qs) → ResultsGo s t behind behind2 (r ∷ rs) (q ∷ qs)
  results-step s t mid mid2 behind behind2 r q rs qs g1 g2 (inr (inl h)) rest = inr (inl (grown-past (length mid.atoms) (length behind.atoms) h g1))
  results-step s t mid mid2 behind behind2 r q rs qs g1 g2 (inr (inr h)) rest = inr (inr (grown-past (length mid2.atoms) (length behind2.atoms) h g2))
  results-step s t mid mid2 behind behind2 r q rs qs g1 g2 (inl h) rest = by (rest h.0.there)
    where
      by : ResultsGo mid mid2 behind behind2 rs qs → ResultsGo s t behind behind2 (r ∷ rs) (q ∷ qs)
      by (inr k) = inr k
      by (inl k) = inl (
        record { there = k.0.there; atoms = from-then names s.atoms t.atoms mid.atoms mid2.atoms behind.atoms behind2.atoms h.0.atoms k.0.atoms },
        (result-moves mid.atoms mid2.atoms behind.atoms behind2.atoms k.0.atoms r q h.1, k.1),
      )

  results-go : (ws : List Worker) (s t : State) → On s t → (rs qs : List (Result Shared Fault)) (s2 t2 : State) → worker_results names ws s (Gives rs) s2
      → worker_results names ws t (Gives qs) t2 → ResultsGo s t s2 t2 rs qs
  unfolding ◌▷◌ gives_some
  results-go [] s t h rs qs s2 t2 x y = results-at s t s t s2 t2 [] [] rs qs x.1 y.1 x.0 y.0 (inl (since-same s t h, tt))
  results-go (w ∷ ws) s t h rs qs s2 t2 (r, mid, x, (more, behind, y, z)) (q, mid2, x2, (more2, behind2, y2, z2)) =
      results-at s t behind behind2 s2 t2 (r ∷ more) (q ∷ more2) rs qs z.1 z2.1 z.0 z2.0
      (results-step s t mid mid2 behind behind2 r q more more2 (results-grow names ws mid more behind y) (results-grow names ws mid2 more2 behind2 y2)
      (result-goes w.result s t h r q mid mid2 x x2) (λ k. results-go ws mid mid2 k more more2 behind behind2 y y2))

  -- ---- functions

  signature-leads : (d : FunctionDef) → Leads B B Equal (signature_of names d) (signature_of names d)
  signature-leads d =
      leads-then B B B (SiteTwins (D m n) (D m n)) Equal _ _ _ _ (site-leads m n)
      (λ a b h. leads-some B Equal _ _ (λ s t f g p x y. let e : b.scope.«module» ≡ a.scope.«module» = ap (λ (c : Scope). c.«module») h.scope in cc))

  unit-same : (k l : Atoms) → TwinAtoms k l → (f : Signature) (xs ys : List Shared) (r q : Shared) → AllZip CopyTwins xs ys → CopyTwins r q
      → UnitTwins (D k l) (W k l) (function_unit f xs r) (function_unit f ys q)
  unit-same k l same f xs ys r q z h =
      record {
        number = refl;
        worker = refl;
        slots = zip-map CopyTwins (SharedTwins (D k l) (W k l)) (λ t u i. i k l same) xs ys z;
        params = sym (zip-long CopyTwins xs ys z);
        rest = refl;
        rest_member = tt;
        result = h k l same;
        arrow = refl;
        future = refl;
        captured = tt;
        flow = record { variables = tt; reached = refl };
      }

  -- the function begins, with what its workers give
  abbrev Ending : FunctionDef → Signature → List Shared → Shared → List (Result Shared Fault) → Step
  Ending d f slots result results =
      changes_site (λ site. record site { workers = map (λ w. w.name.name) (workers_of d.body); results = Ok result ∷ results; events = events_of_body d.body }) ▷ λ u.
      opens_unit (function_unit f slots result)

  ending-keeps : (d : FunctionDef) (f : Signature) (xs : List Shared) (r : Shared) (rs : List (Result Shared Fault)) → KeepsAtoms (Ending d f xs r rs)
  ending-keeps d f xs r rs =
      keeps-then _ _ (keeps-becomes _ (λ s. refl)) (λ u. keeps-then _ _ (keeps-handles _ _) (λ v. keeps-becomes _ (λ s. refl)))

  results-now : (k l : Atoms) (r q : Result Shared Fault) → LastingResult k l r q → ResultTwins (D k l) (W k l) r q
  results-now k l (Ok t) (Ok u) h = now-so (λ i j. TwinTypes i j t.value u.value) k l h
  results-now k l (Err f) (Err g) h = h
  results-now k l (Ok t) (Err g) h = absurd h
  results-now k l (Err f) (Ok u) h = absurd h

  ending-leads : (k l : Atoms) → TwinAtoms k l → (d : FunctionDef) (f : Signature) (xs ys : List Shared) (r q : Shared) (rs qs : List (Result Shared Fault)) → AllZip CopyTwins xs ys
      → CopyTwins r q → AllZip (LastingResult k l) rs qs → Leads (Before k l) (Behind k l) Any2 (Ending d f xs r rs) (Ending d f ys q qs)
  ending-leads k l same d f xs ys r q rs qs z h i =
      leads-from (Before k l) (Behind k l) (Behind k l) Any2 _ _ (before-behind k l)
      (leads-then (Behind k l) (Behind k l) (Behind k l) Any2 Any2 _ _ _ _
      (leads-becomes (Behind k l) (Behind k l) _ _ (λ s t p. record {
        first = p.first;
        second = p.second;
        states = with-site (D k l) (W k l) s t p.states _ _ (record {
          scope = p.states.site.scope;
          workers = refl;
          results = (h k l same, zip-map (LastingResult k l) (ResultTwins (D k l) (W k l)) (results-now k l) rs qs i);
          events = refl;
        });
      }))
      (λ u v w. opens-leads k l same (W k l) _ _ (unit-same k l same f xs ys r q z h)))

  abbrev Resulting : FunctionDef → Signature → List Shared → Shared → Step
  Resulting d f slots result = worker_results names (workers_of d.body) ▷ λ results. Ending d f slots result results

  resulting-alike : (d : FunctionDef) (f : Signature) (xs ys : List Shared) (r q : Shared) → AllZip CopyTwins xs ys → CopyTwins r q → (s t : State) → B s t
      → Alike Within s t (Resulting d f xs r) (Resulting d f ys q)
  unfolding ◌▷◌
  resulting-alike d f xs ys r q z h s t p (Gives u) (Gives v) s2 t2 (rs, mid, x, y) (qs, mid2, i, j) = by (results-go (workers_of d.body) s t (begun s t p) rs qs mid mid2 x i)
    where
      by : ResultsGo s t mid mid2 rs qs → TwinsOver s2 t2 ⊎ (HasTooMany s2 ⊎ HasTooMany t2)
      by (inl k) =
          let e = ends-there names m n first second twins one two Any2 (Ending d f xs r rs) (Ending d f ys q qs) mid mid2 k.0.there
          (ending-leads mid.atoms mid2.atoms (onward-twins names m n first second twins one two mid mid2 k.0.there) d f xs ys r q rs qs z h k.1)
          (Gives u) (Gives v) s2 t2 y j in inl e.0
      by (inr (inl k)) = let e = ending-keeps d f xs r rs mid (Gives u) s2 y in inr (inl (subst (λ i. MOST_ATOMS < length i) (sym e.1) k))
      by (inr (inr k)) = let e = ending-keeps d f ys q qs mid2 (Gives v) t2 j in inr (inr (subst (λ i. MOST_ATOMS < length i) (sym e.1) k))
  resulting-alike d f xs ys r q z h s t p (Gives u) (Refuses g) s2 t2 x (inl i) = absurd (results-given names (workers_of d.body) t g t2 i)
  resulting-alike d f xs ys r q z h s t p (Gives u) (Refuses g) s2 t2 x (inr (qs, mid2, i, j)) = absurd (let e = ending-keeps d f ys q qs mid2 (Refuses g) t2 j in e.0)
  resulting-alike d f xs ys r q z h s t p (Refuses g) o s2 t2 (inl i) y = absurd (results-given names (workers_of d.body) s g s2 i)
  resulting-alike d f xs ys r q z h s t p (Refuses g) o s2 t2 (inr (rs, mid, i, j)) y = absurd (let e = ending-keeps d f xs r rs mid (Refuses g) s2 j in e.0)

  abbrev with-signature : FunctionDef → Signature → Step
  with-signature d f =
      some_over (λ env (t : Shared). IsCopy f.result t.value) ▷ λ result. gives_some (λ s slots. AreSlots f slots) ▷ λ slots. Resulting d f slots result

  signature-begins : (d : FunctionDef) (f : Signature) (s t : State) → B s t → Alike Within s t (with-signature d f) (with-signature d f)
  signature-begins d f s t p =
      ▷-alike (Given B CopyTwins) Within _ _ _ _ s t
      (leads-some B CopyTwins _ _ (λ i j a b e x y. copies-same f.result a b x y) s t p)
      (λ r q i j h. ▷-alike (Given B (AllZip CopyTwins)) Within _ _ _ _ i j
      (leads-some B (AllZip CopyTwins) _ _ (λ i2 j2 xs ys e x y. slots-same (f.params ++ rest_slot f) xs ys x y) i j h.0)
      (λ xs ys i2 j2 k. resulting-alike d f xs ys r q k.1 h.1 i2 j2 k.0))

  pub begins-function-alike : (d : FunctionDef) (s t : State) → B s t → Alike Within s t (begins_function names d) (begins_function names d)
  begins-function-alike d s t p =
      ▷-alike (Given B Equal) Within _ _ _ _ s t (signature-leads d s t p)
      (λ f g i j h. subst (λ z. Alike Within i j (with-signature d f) (with-signature d z)) (sym h.1) (signature-begins d f i j h.0))

  -- ---- constants

  module _ (passes : List AtomDef → Asked → TypeLimit → Type 0) where
    value-leads : (k l : Atoms) (c : Constant) → Leads (Before k l) (Before k l) (TwinTypes k l) (some_over (SingleOf c)) (some_over (SingleOf c))
    value-leads k l c = leads-over k l (Before k l) _ _ _ (before-atoms k l) (λ a b x y. same-twin k l (λ x. x ≡ shape_of c) a b x y)

    fits-leads : (k l : Atoms) (d : ConstDef) (t u : Shared) → TwinTypes k l t.value u.value
        → Leads (Before k l) (Behind k l) Any2 (some_over (SingleOf (value_constant d.value)) ▷ λ v. asking (below passes v.sem (sem_of t) (Some (place_of_value d.value))))
        (some_over (SingleOf (value_constant d.value)) ▷ λ v. asking (below passes v.sem (sem_of u) (Some (place_of_value d.value))))
    fits-leads k l d t u h =
        stays k l Any2 _ _
        (leads-then (Before k l) (Before k l) (Before k l) (TwinTypes k l) Any2 _ _ _ _ (value-leads k l (value_constant d.value))
        (λ v w e. below-leads passes k l (Before k l) (before-atoms k l) v.sem (sem_of t) w.sem (sem_of u) (Some (place_of_value d.value)) e.shapes h.shapes))

    pub constant-fits-leads : (o : Option (Box TypeTree)) (d : ConstDef) → Leads B TwinsOver Any2 (constant_fits passes names o d) (constant_fits passes names o d)
    constant-fits-leads None d =
        leads-to B B TwinsOver Any2 Any2 _ _ (λ s t a b h k. (behind-over m n s t twins (before-behind m n s t h), tt)) (leads-done B)
    constant-fits-leads (Some tree) d = λ s t p.
        ▷-alike (Moved names m n first second twins one two LastingShared) (Given TwinsOver Any2) _ _ _ _ s t
        (goes-alike names m n first second twins one two LastingShared s t (descriptor_type names (Some tree)) (descriptor_type names (Some tree)) (type-goes names m n first second twins one two tree s t (begun s t p)))
        (λ a b i j r. ends-there names m n first second twins one two Any2 _ _ i j r.0
        (fits-leads i.atoms j.atoms d a b (now-so (λ k l. TwinTypes k l a.value b.value) i.atoms j.atoms r.1)))
