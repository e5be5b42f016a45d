-- Waits, name by name.
use Rattle.std.proofs.Common.{◌≡◌, ◌≤◌, ◌∙◌, ◌++◌, ℕ, suc, false, List, [], ◌∷◌, length, map, All, Option, Some, None, append-nil, append_assoc, arith, length-append, refl, sym, subst, ap}
use Rattle.std.specs.Prelude.{⊤}
use Rattle.std.proofs.lemmas.List.{length-map}
use Rattle.std.proofs.lemmas.List.Elements.{All-cons, All-nil}
use Rattle.bal_base.specs.declared.place.Place.{Place}
use Rattle.bal_base.specs.declared.text.Text.{Text}
use Rattle.bal_tree.specs.declared.action.WaitMember.{WaitMember}
use Rattle.bal_tree.specs.declared.name.QualifiedName.{QualifiedName}
use Rattle.descriptors.specs.declared.names.Names.{Names}
use Rattle.needs.specs.Needs.{in_turn}
use Rattle.operations.specs.Rows.{Surroundings}
use Rattle.type_model.specs.declared.answers.TypeLimit.{TypeLimit}
use Rattle.type_model.specs.declared.atoms.AtomDef.{AtomDef}
use Rattle.type_model.specs.Calls.{Asked}
use Rattle.typed_tree.specs.declared.expr.TypedExpr.{TypedExpr}
use Rattle.typed_tree.specs.Listed.{one, ◌&◌}
use Rattle.typed_tree.specs.SharedTypes.{Shared}
use Rattle.expr_needs.specs.ActionTable.{await_member_needs, await_needs}
use Rattle.expr_needs.specs.Needs.{Awaits, BeginsKeys, TakesKey, WaitsForAll, WaitsForAny}
use Rattle.check_words.specs.Actions.{awaited, futures}
use Rattle.check_words.specs.Constructors.{at_work, with_key}
use Rattle.check_words.specs.Seen.{worker_named}
use Rattle.check_words.specs.State.{AreLast, ConstructorAtWork, IsLast, State}
use Rattle.check_laws.specs.Effects.{parts_awaited}
use Rattle.check_laws.specs.Heights.{none, ◌⊕◌}
use Rattle.check_laws.specs.Laws.{EffectsAreKept}
use Rattle.check_laws.specs.Positions.{Above, OnTop}
use Rattle.tree_promises.specs.Made.{AreTypedExprs}
use Rattle.typed_needs.specs.Between.{IsKept, IsSoFar, IsTypedUnit, units_in}
use Rattle.typed_needs.specs.Placing.{AreNamed}
use Rattle.typed_needs.specs.Waits.{AreResults, FutureGives, WaitsAreTyped, WorkerGives}
use Rattle.typed_needs.proofs.Items.{map-more}
use Rattle.typed_needs.proofs.Placed.{last-same}
use Rattle.typed_needs.proofs.Waits.{waits-are-typed}
use Rattle.calm_needs.specs.Calm.{NeedsAreCalm}
use Rattle.typed_calls.specs.Errors.{AllErrorsAreTyped, ErrorsAreTyped}
use Rattle.typed_calls.specs.WholeWaits.{AllGive, AllWholeWaitsAreTyped, WholeWaitsAreTyped}
use Rattle.typed_exprs.specs.Actions.{ActClaim}
use Rattle.typed_exprs.specs.Lines.{Path, Run}
use Rattle.typed_exprs.proofs.Loops.{chained, go, more-units, no-units, none-made, replaced-last, typed-more, units-more}
use Rattle.typed_exprs.proofs.Operators.{calm-so, made-step, step-path}
use Rattle.typed_exprs.proofs.Steps.{Step, before, calm-keeps, parted, path-on, so-far}

-- ---- where a state stands above itself

on-itself : {A : Type 0} (xs : List A) → OnTop xs 0 xs
on-itself xs = record { more = []; is = sym (append-nil xs); many = refl }

above-itself : (place : Surroundings) (s : State) → IsKept place s → Above s none s
unfolding on-itself
above-itself place s kept =
    record {
      calls = on-itself s.calls;
      found = on-itself s.found;
      wants = on-itself s.wants;
      sorts = on-itself s.sorts;
      accesses = on-itself s.accesses;
      constructors = on-itself s.constructors;
      choices = on-itself s.choices;
      units = record {
        kept = kept.stored.at_hand.kept;
        was = kept.stored.unit;
        now = kept.stored.unit;
        at_hand = kept.stored.at_hand.is;
        on = record { more = []; is = kept.stored.at_hand.is ∙ sym (append-nil (kept.stored.at_hand.kept ++ kept.stored.unit ∷ [])); many = refl };
      };
      site = refl;
      matches = on-itself s.matches;
      blocks = on-itself s.blocks;
      initialiser = refl;
    }

no-members : {A : Type 0} (zs : List A) → length zs ≡ 0 → zs ≡ []
no-members [] e = refl
no-members (z ∷ zs) e = absurd (omega (arith, e))

none-on : {A : Type 0} (xs ys : List A) → OnTop xs 0 ys → ys ≡ xs
none-on xs ys top = top.is ∙ ap (λ zs. xs ++ zs) (no-members top.more top.many) ∙ append-nil xs

last-alone : {A : Type 0} (xs ys zs : List A) (y : A) → length zs ≡ 1 → ys ≡ xs ++ zs → IsLast ys y → ys ≡ xs ++ y ∷ []
last-alone xs ys [] y many is last = absurd (omega (arith, many))
last-alone xs ys (z ∷ []) y many is last = is ∙ ap (λ v. xs ++ v ∷ []) (last-same ys z y (record { kept = xs; is = is }) last)
last-alone xs ys (z ∷ v ∷ zs) y many is last = absurd (omega (arith, many))

one-on : {A : Type 0} (xs ys : List A) (y : A) → OnTop xs 1 ys → IsLast ys y → ys ≡ xs ++ y ∷ []
one-on xs ys y top last = last-alone xs ys top.more y top.many top.is last

-- ---- names one behind another

module _ (env : List AtomDef) (place : Surroundings) where
  -- what one name gives
  abbrev OneGives : Option ℕ → Shared → List TypedExpr → Type 0
  OneGives (Some w) t parts = (parts ≡ []) × WorkerGives env place w t
  OneGives None t parts = (e : TypedExpr) × (parts ≡ e ∷ []) × FutureGives env place e t

  give-more : (names : List (Option ℕ)) (ts : List Shared) (parts : List TypedExpr) (o : Option ℕ) (t : Shared) (more : List TypedExpr) → AllGive env place names ts parts → OneGives o t more
      → AllGive env place (names ++ o ∷ []) (ts ++ t ∷ []) (parts ++ more)
  give-more [] [] [] (Some w) t more h (is, g) = (g, subst (λ ps. AllGive env place [] [] ps) (sym is) tt)
  give-more [] [] [] None t more h (e, is, g) = subst (λ ps. AllGive env place (None ∷ []) (t ∷ []) ps) (sym is) (g, tt)
  give-more (Some v ∷ names) (u ∷ ts) parts o t more h g = (h.0, give-more names ts parts o t more h.1 g)
  give-more (None ∷ names) (u ∷ ts) (e ∷ parts) o t more h g = (h.0, give-more names ts parts o t more h.1 g)
  give-more [] [] (e ∷ parts) o t more h g = absurd h
  give-more [] (u ∷ ts) parts o t more h g = absurd h
  give-more (Some v ∷ names) [] parts o t more h g = absurd h
  give-more (None ∷ names) [] parts o t more h g = absurd h
  give-more (None ∷ names) (u ∷ ts) [] o t more h g = absurd h

  give-many : (names : List (Option ℕ)) (ts : List Shared) (parts : List TypedExpr) → AllGive env place names ts parts → length parts ≡ futures names
  give-many [] [] [] h = refl
  give-many (Some v ∷ names) (u ∷ ts) parts h = give-many names ts parts h.1
  give-many (None ∷ names) (u ∷ ts) (e ∷ parts) h = ap suc (give-many names ts parts h.1)
  give-many [] [] (e ∷ parts) h = absurd h
  give-many [] (u ∷ ts) parts h = absurd h
  give-many (Some v ∷ names) [] parts h = absurd h
  give-many (None ∷ names) [] parts h = absurd h
  give-many (None ∷ names) (u ∷ ts) [] h = absurd h

all-true : {X : Type 0} (xs : List X) → All (λ x. ⊤) xs
all-true [] = All-nil (λ x. ⊤)
all-true (x ∷ xs) = All-cons (λ y. ⊤) x xs tt (all-true xs)

module _ (passes : List AtomDef → Asked → TypeLimit → Type 0) (names : Names) (env : List AtomDef) (calm : NeedsAreCalm passes names) (effects : EffectsAreKept passes)
    (all-errors : AllErrorsAreTyped passes) (all-waits : AllWholeWaitsAreTyped passes) where
  -- one name more
  record Awaited (place : Surroundings) (q : QualifiedName) (old new : State) : Type 0 where
    pub want : Shared
    pub parts : List TypedExpr
    pub wants : new.wants ≡ old.wants ++ Some want ∷ []
    pub found : new.found ≡ old.found ++ parts
    pub typed : AreTypedExprs env place parts
    pub units : All (IsTypedUnit env place) (units_in parts)
    pub kept : IsKept place new
    pub gives : OneGives env place (worker_named old.site.workers q) want parts
    pub site : new.site ≡ old.site
    pub constructors : new.constructors ≡ old.constructors

  stands : (place : Surroundings) (q : QualifiedName) (old new : State) → IsKept place old → Step passes names env (Awaits q) old new
      → (k : ℕ) × Above old (none ⊕ record none { parts = k; wants = 1 }) new
  stands place q old new kept s = (parts_awaited (worker_named old.site.workers q), effects names old (Awaits q) none old new (above-itself place old kept) s.0)

  one-awaited : (place : Surroundings) (q : QualifiedName) (old new : State) → IsKept place old → Step passes names env (Awaits q) old new → IsSoFar env place new → AreNamed env names place
      → AreResults env place old.site.results → Awaited place q old new
  one-awaited place q old new kept s far named results = by (worker_named old.site.workers q) refl
    where
      kept-new : IsKept place new
      kept-new = calm-keeps place old new (calm-so passes names env calm (Awaits q) tt old new s) s.1 kept

      waits : WaitsAreTyped passes names env place
      waits = waits-are-typed passes names env place

      by : (o : Option ℕ) → worker_named old.site.workers q ≡ o → Awaited place q old new
      by (Some w) known =
          let (t, is, gives) = waits.workers q w old new s.0 known results in
          record {
            want = t;
            parts = [];
            wants = ap (λ (x : State). x.wants) is;
            found = ap (λ (x : State). x.found) is ∙ sym (append-nil old.found);
            typed = tt;
            units = All-nil (IsTypedUnit env place);
            kept = kept-new;
            gives = subst (λ o. OneGives env place o t []) (sym known) (refl, gives);
            site = ap (λ (x : State). x.site) is;
            constructors = ap (λ (x : State). x.constructors) is;
          }
      by None known =
          let (k, above) = stands place q old new kept s in
          let f = waits.futures q old new (before env place new kept-new far) s.0 known kept.stored named in
          record {
            want = f.want;
            parts = f.part ∷ [];
            wants = one-on old.wants new.wants (Some f.want) above.wants f.wants;
            found = f.found;
            typed = (f.typed, tt);
            units = none-made env place (f.part ∷ []) (no-units old new (f.part ∷ []) f.found (calm-so passes names env calm (Awaits q) tt old new s).units);
            kept = kept-new;
            gives = subst (λ o. OneGives env place o f.want (f.part ∷ [])) (sym known) (f.part, refl, f.gives);
            site = above.site;
            constructors = none-on old.constructors new.constructors above.constructors;
          }

  -- names so far: what they give is wanted, and futures are parts behind what there was
  record HoldsWait (place : Surroundings) (base : State) (done : List QualifiedName) (s : State) : Type 0 where
    pub ts : List Shared
    pub parts : List TypedExpr
    pub wants : s.wants ≡ base.wants ++ map Some ts
    pub found : s.found ≡ base.found ++ parts
    pub many : length ts ≡ length done
    pub typed : AreTypedExprs env place parts
    pub units : All (IsTypedUnit env place) (units_in parts)
    pub kept : IsKept place s
    pub gives : AllGive env place (awaited base.site done) ts parts
    pub site : s.site ≡ base.site

  wait-more : (place : Surroundings) → AreNamed env names place → (base : State) → AreResults env place base.site.results → (done : List QualifiedName) (q : QualifiedName) (old new : State)
      → Step passes names env (Awaits q) old new → IsSoFar env place new → (h : HoldsWait place base done old) → HoldsWait place base (done ++ q ∷ []) new × (new.constructors ≡ old.constructors)
  wait-more place named base results done q old new s far h =
      let a = one-awaited place q old new h.kept s far named (subst (λ x. AreResults env place x.results) (sym h.site) results) in
      let gives : OneGives env place (worker_named base.site.workers q) a.want a.parts = subst (λ x. OneGives env place (worker_named x.workers q) a.want a.parts) h.site a.gives in (
        record {
          ts = h.ts ++ a.want ∷ [];
          parts = h.parts ++ a.parts;
          wants = a.wants ∙ ap (λ ws. ws ++ Some a.want ∷ []) h.wants ∙ append_assoc base.wants (map Some h.ts) (Some a.want ∷ []) ∙ ap (λ ws. base.wants ++ ws) (sym (map-more Some h.ts a.want));
          found = a.found ∙ ap (λ xs. xs ++ a.parts) h.found ∙ append_assoc base.found h.parts a.parts;
          many = (let l = length-append h.ts (a.want ∷ []) in let d = length-append done (q ∷ []) in let m = h.many in omega (arith, l, d, m));
          typed = typed-more env place h.parts a.parts h.typed a.typed;
          units = units-more env place h.parts a.parts h.units a.units;
          kept = a.kept;
          gives = subst (λ os. AllGive env place os (h.ts ++ a.want ∷ []) (h.parts ++ a.parts)) (sym (map-more (worker_named base.site.workers) done q))
              (give-more env place (awaited base.site done) h.ts h.parts (worker_named base.site.workers q) a.want a.parts h.gives gives);
          site = a.site ∙ h.site;
        },
        a.constructors,
      )

  wait-none : (place : Surroundings) (base s : State) → s.wants ≡ base.wants → s.found ≡ base.found → s.site ≡ base.site → IsKept place s → HoldsWait place base [] s
  wait-none place base s wants found site kept =
      record {
        ts = [];
        parts = [];
        wants = wants ∙ sym (append-nil base.wants);
        found = found ∙ sym (append-nil base.found);
        many = refl;
        typed = tt;
        units = All-nil (IsTypedUnit env place);
        kept = kept;
        gives = tt;
        site = site;
      }

  -- ---- `wait a|b`

  name-path : (q : QualifiedName) → ⊤ → (old new : State) → 1 ≤ length old.units → Run passes names env (await_needs q) old new → Path old new
  name-path q known old new unit s = step-path passes names env calm (Awaits q) tt old new s

  -- what the last wants are, and the last parts
  last-wants : (place : Surroundings) (base s : State) (qs : List QualifiedName) (h : HoldsWait place base qs s) → AreLast s.wants (length qs) (map Some h.ts)
  last-wants place base s qs h = record { kept = base.wants; is = h.wants; many = (let l = length-map h.ts Some in let m = h.many in omega (arith, l, m)) }

  at-site : (place : Surroundings) (base s : State) (qs : List QualifiedName) (h : HoldsWait place base qs s) → AllGive env place (awaited s.site qs) h.ts h.parts
  at-site place base s qs h = subst (λ x. AllGive env place (awaited x qs) h.ts h.parts) (sym h.site) h.gives

  pub any : (q : QualifiedName) (more : List QualifiedName) (at : Place) → ActClaim passes names env (λ s. ⊤) (λ e. in_turn await_needs (q ∷ more) & one (WaitsForAny (q ∷ more) at))
  any q more at e place old new ready peers results run kept far named =
      let qs : List QualifiedName = q ∷ more in
      let (b, rb, s) = parted passes names env (in_turn await_needs qs) (one (WaitsForAny qs at)) old new run in
      let chain = chained passes names env await_needs qs old b rb in
      let far-b = so-far env place b new (step-path passes names env calm (WaitsForAny qs at) tt b new s) far in
      let h : HoldsWait place old qs b =
      go passes names env await_needs place (λ x. ⊤) name-path (HoldsWait place old) (λ done x known m n unit step so h. (wait-more place named old results done x m n step so h).0) qs []
      (all-true qs) old b ready.unit chain far-b (wait-none place old old refl refl refl kept) in
      let give = at-site place old b qs h in
      let count = give-many env place (awaited b.site qs) h.ts h.parts give in
      let kept-new = calm-keeps place b new (calm-so passes names env calm (WaitsForAny qs at) tt b new s) s.1 h.kept in
      let whole : WholeWaitsAreTyped passes names env place = all-waits names env place in
      made-step passes names env calm (WaitsForAny qs at) tt place (futures (awaited b.site qs)) h.parts old b new h.found count h.units h.kept s
      (whole.alternate q more at b new h.ts h.parts (before env place b h.kept far-b) (before env place new kept-new far) s.0 (last-wants place old b qs h)
      (record { kept = old.found; is = h.found; many = count }) h.typed give)

  -- ---- `wait {a, b}`

  abbrev key_of : WaitMember → Text
  key_of m = m.key.name

  abbrev name_of : WaitMember → QualifiedName
  name_of m = m.name

  -- and each name has a key in the constructor that is open
  record HoldsKeys (place : Surroundings) (base : State) (done : List WaitMember) (s : State) : Type 0 where
    pub wait : HoldsWait place base (map name_of done) s
    pub c : ConstructorAtWork
    pub constructors : s.constructors ≡ base.constructors ++ c ∷ []
    pub keys : c.keys ≡ map Some (map key_of done)

  member-path : (m : WaitMember) → ⊤ → (old new : State) → 1 ≤ length old.units → Run passes names env (await_member_needs m) old new → Path old new
  member-path m known old new unit run =
      let (a, sk, sa) = parted passes names env (one (TakesKey m.key.name m.key.at)) (one (Awaits m.name)) old new run in
      path-on old a new (step-path passes names env calm (TakesKey m.key.name m.key.at) tt old a sk) (step-path passes names env calm (Awaits m.name) tt a new sa)

  member-more : (place : Surroundings) → AreNamed env names place → (base : State) → AreResults env place base.site.results → (done : List WaitMember) (m : WaitMember) → ⊤ → (old new : State)
      → 1 ≤ length old.units → Run passes names env (await_member_needs m) old new → IsSoFar env place new → HoldsKeys place base done old → HoldsKeys place base (done ++ m ∷ []) new
  member-more place named base results done m known old new unit run far h =
      let (a, sk, sa) = parted passes names env (one (TakesKey m.key.name m.key.at)) (one (Awaits m.name)) old new run in
      let errors : ErrorsAreTyped passes names env place = all-errors names env place in
      let (fresh, is) = errors.taken m.key.name m.key.at old a h.c sk.0 (record { kept = base.constructors; is = h.constructors }) in
      let kept-a = calm-keeps place old a (calm-so passes names env calm (TakesKey m.key.name m.key.at) tt old a sk) sk.1 h.wait.kept in
      let w = h.wait in
      let held : HoldsWait place base (map name_of done) a = record {
        ts = w.ts;
        parts = w.parts;
        wants = ap (λ (s : State). s.wants) is ∙ w.wants;
        found = ap (λ (s : State). s.found) is ∙ w.found;
        many = w.many;
        typed = w.typed;
        units = w.units;
        kept = kept-a;
        gives = w.gives;
        site = ap (λ (s : State). s.site) is ∙ w.site;
      } in
      let (next, same) = wait-more place named base results (map name_of done) m.name a new sa far held in
      let keyed : ConstructorAtWork = with_key (Some m.key.name) h.c in
      record {
        wait = subst (λ qs. HoldsWait place base qs new) (sym (map-more name_of done m)) next;
        c = keyed;
        constructors = same ∙ ap (λ (s : State). s.constructors) is ∙ replaced-last old.constructors base.constructors h.c keyed h.constructors;
        keys = ap (λ ks. ks ++ Some m.key.name ∷ []) h.keys ∙ sym (map-more Some (map key_of done) m.key.name) ∙ ap (λ ks. map Some ks) (sym (map-more key_of done m));
      }

  pub all : (ms : List WaitMember) (at : Place) → ActClaim passes names env (λ s. ⊤) (λ e. one BeginsKeys & in_turn await_member_needs ms & one (WaitsForAll (map (λ m. m.name) ms) at))
  all ms at e place old new ready peers results run kept far named =
      let qs : List QualifiedName = map name_of ms in
      let (a, sb, rest) = parted passes names env (one BeginsKeys) (in_turn await_member_needs ms & one (WaitsForAll qs at)) old new run in
      let (b, rb, s) = parted passes names env (in_turn await_member_needs ms) (one (WaitsForAll qs at)) a new rest in
      let chain = chained passes names env await_member_needs ms a b rb in
      let unit-a = more-units old a (step-path passes names env calm BeginsKeys tt old a sb) ready.unit in
      let far-b = so-far env place b new (step-path passes names env calm (WaitsForAll qs at) tt b new s) far in
      let errors : ErrorsAreTyped passes names env place = all-errors names env place in
      let is = errors.begun old a sb.0 in
      let kept-a = calm-keeps place old a (calm-so passes names env calm BeginsKeys tt old a sb) sb.1 kept in
      let begun : HoldsKeys place old [] a = record {
        wait = wait-none place old a (ap (λ (x : State). x.wants) is) (ap (λ (x : State). x.found) is) (ap (λ (x : State). x.site) is) kept-a;
        c = at_work None false;
        constructors = ap (λ (x : State). x.constructors) is;
        keys = refl;
      } in
      let h : HoldsKeys place old ms b =
      go passes names env await_member_needs place (λ x. ⊤) member-path (HoldsKeys place old) (member-more place named old results) ms [] (all-true ms) a b unit-a chain far-b begun in
      let give = at-site place old b qs h.wait in
      let count = give-many env place (awaited b.site qs) h.wait.ts h.wait.parts give in
      let kept-new = calm-keeps place b new (calm-so passes names env calm (WaitsForAll qs at) tt b new s) s.1 h.wait.kept in
      let whole : WholeWaitsAreTyped passes names env place = all-waits names env place in
      made-step passes names env calm (WaitsForAll qs at) tt place (futures (awaited b.site qs)) h.wait.parts old b new h.wait.found count h.wait.units h.wait.kept s
      (whole.multiple qs at b new h.c (map key_of ms) h.wait.ts h.wait.parts (before env place b h.wait.kept far-b) (before env place new kept-new far) far.first s.0
      (record { kept = old.constructors; is = h.constructors }) h.keys (length-map ms key_of ∙ sym (length-map ms name_of)) (last-wants place old b qs h.wait)
      (record { kept = old.found; is = h.wait.found; many = count }) h.wait.typed give)
