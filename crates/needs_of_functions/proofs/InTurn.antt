-- What workers give, one more at a time.
use Rattle.std.proofs.Common.{◌≡◌, ◌++◌, ◌+◌, ◌<◌, ◌∙◌, ℕ, List, [], ◌∷◌, length, get_or, take, All, Option, Some, None, IfOk, Result, Ok, Err, map, ap, append_assoc, append-nil, refl, subst, sym}
use Rattle.std.specs.Global.{Box}
use Rattle.std.proofs.lemmas.List.{map_more, take_more}
use Rattle.std.proofs.lemmas.List.Elements.{All-append, All-cons, All-nil, All-weaker}
use Rattle.bal_base.specs.declared.fault.Fault.{Fault}
use Rattle.bal_base.specs.declared.stop.Memory.{Memory as NoMemory}
use Rattle.bal_base.specs.declared.stop.Stop.{Stop}
use Rattle.bal_base.specs.declared.stop.Stop.TheVariants.{Fault as OwnFault}
use Rattle.bal_tree.specs.declared.def.Worker.{Worker}
use Rattle.bal_tree.specs.declared.types.TypeTree.{TypeTree}
use Rattle.checks.specs.Checks.{Check, Comes, gives_some, ◌▷◌}
use Rattle.descriptors.specs.declared.names.Names.{Names}
use Rattle.descriptors.specs.declared.names.Scope.{Scope}
use Rattle.descriptors.specs.Steps.{AreOwnTypes, lifted}
use Rattle.type_model.specs.declared.atoms.AtomDef.{AtomDef}
use Rattle.type_model.specs.Calls.{KeepsTypes}
use Rattle.type_model.specs.Defined.{TyBelow}
use Rattle.typed_tree.specs.SharedTypes.{Shared}
use Rattle.expr_needs.specs.declared.kind.Kind.TheVariants as kind
use Rattle.check_kinds.specs.Over.{ComesOver}
use Rattle.check_kinds.proofs.Over.{over-at, over-out, over-some}
use Rattle.check_words.specs.Actions.{site_now}
use Rattle.check_words.specs.Stands.{SharedBelow}
use Rattle.check_words.specs.State.{State}
use Rattle.check_words.specs.Units.{descriptor_type, result_or_fault, worker_results}
use Rattle.check_words.specs.Words.{Atoms, OfKind}
use Rattle.check_words.proofs.Coming.{given, next}
use Rattle.needs_of_functions.specs.Constants.{described_as}
use Rattle.needs_of_functions.specs.Results.{AddsResult, AddsResults, ComeInTurn, FindsResult, ResultBelow, type_or_nil}
use Rattle.needs_of_functions.proofs.Resting.{shared-grows}

-- ---- the type of one descriptor

module _ (names : Names) (scope : Scope) (old new : Atoms) where
  pub described-there : (tree : Option (Box TypeTree)) (b : Box TypeTree) (root : TypeTree) (r : Result Shared (Stop Fault)) → tree ≡ Some b → root ≡ b.value
      → ComesOver (described_as names scope root) old r new → ComesOver (type_or_nil names scope tree) old r new
  described-there tree b root r is same h =
      subst (λ (x : Option (Box TypeTree)). ComesOver (type_or_nil names scope x) old r new) (sym is)
      (subst (λ (t : TypeTree). ComesOver (described_as names scope t) old r new) same h)

  -- what it is, or its fault
  pub finds-type : (tree : Option (Box TypeTree)) (t : Shared) → ComesOver (type_or_nil names scope tree) old (Ok t) new → FindsResult names scope tree old (Ok t) new
  unfolding ComesOver Comes result_or_fault
  finds-type tree t h = h

  pub finds-fault : (tree : Option (Box TypeTree)) (f : Fault) → ComesOver (type_or_nil names scope tree) old (Err (OwnFault f)) new → FindsResult names scope tree old (Err f) new
  unfolding ComesOver Comes result_or_fault
  finds-fault tree f h = h

pub nil-there : (names : Names) (scope : Scope) (tree : Option (Box TypeTree)) (old : Atoms) (t : Shared) → tree ≡ None → OfKind kind.Nothing old t.value
    → ComesOver (type_or_nil names scope tree) old (Ok t) old
nil-there names scope tree old t is h =
    subst (λ (x : Option (Box TypeTree)). ComesOver (type_or_nil names scope x) old (Ok t) old) (sym is) (over-some (λ env (u : Shared). OfKind kind.Nothing env u.value) old t h)

-- ---- one more

module _ (names : Names) (scope : Scope) where
  turn-more : (ws : List Worker) (w : Worker) (rs : List (Result Shared Fault)) (r : Result Shared Fault) (a b c : Atoms) → ComeInTurn names scope ws a rs b
      → FindsResult names scope w.result b r c → ComeInTurn names scope (ws ++ w ∷ []) a (rs ++ r ∷ []) c
  turn-more [] w [] r a b c h k = (c, subst (λ (e : Atoms). FindsResult names scope w.result e r c) h k, refl)
  turn-more [] w (x ∷ rs) r a b c h k = absurd h
  turn-more (v ∷ ws) w [] r a b c h k = absurd h
  turn-more (v ∷ ws) w (x ∷ rs) r a b c h k = (h.0, h.1, turn-more ws w rs r h.0 b c h.2 k)

  pub results-none : (a : Atoms) (before : List (Result Shared Fault)) → AddsResults names scope [] a before before a
  results-none a before = record { found = []; is = sym (append-nil before); come = refl; below = All-nil (ResultBelow (length a)) }

  result-grows : (old new : List AtomDef) → KeepsTypes old new → (r : Result Shared Fault) → ResultBelow (length old) r → ResultBelow (length new) r
  result-grows old new kept (Ok t) h = shared-grows old new t kept h
  result-grows old new kept (Err f) h = tt

  -- of a list of workers the first i + 1
  pub results-next : (ws : List Worker) (i : ℕ) (w : Worker) (a b c : Atoms) (before mid after : List (Result Shared Fault)) → i < length ws → w ≡ get_or ws i w
      → AddsResults names scope (take i ws) a before mid b → AddsResult names scope w b mid after c → KeepsTypes b c → AddsResults names scope (take (i + 1) ws) a before after c
  results-next ws i w a b c before mid after lt e h k kept =
      record {
        found = h.found ++ k.found ∷ [];
        is = k.is ∙ ap (λ rs. rs ++ k.found ∷ []) h.is ∙ append_assoc before h.found (k.found ∷ []);
        come = subst (λ (us : List Worker). ComeInTurn names scope us a (h.found ++ k.found ∷ []) c)
            (sym (take_more ws i w lt ∙ ap (λ x. take i ws ++ x ∷ []) (sym e))) (turn-more (take i ws) w h.found k.found a b c h.come k.finds);
        below = All-append (ResultBelow (length c)) h.found (k.found ∷ [])
            (All-weaker (ResultBelow (length b)) (ResultBelow (length c)) (result-grows b c kept) h.found h.below)
            (All-cons (ResultBelow (length c)) k.found [] k.below (All-nil (ResultBelow (length c))));
      }

  -- ---- all of them, as the need says

  site-first : (tree : Box TypeTree) (s new : State) (r : Result Shared (Stop Fault)) → Comes (described_as names s.site.scope tree.value) s r new
      → Comes (descriptor_type names (Some tree)) s r new
  site-first tree s new r h = next _ _ _ _ _ s.site s (given _ s s.site refl) h

  found-in : (tree : Option (Box TypeTree)) (s : State) (new : Atoms) (r : Result Shared Fault) → s.site.scope ≡ scope → FindsResult names scope tree s.atoms r new
      → Comes (result_or_fault (descriptor_type names tree)) s (Ok r) (record s { atoms = new })
  unfolding Comes result_or_fault ComesOver
  found-in None s new r e h = h s refl
  found-in (Some tree) s new (Ok t) e h =
      site-first tree s (record s { atoms = new }) (Ok t) (subst (λ (c : Scope). Comes (described_as names c tree.value) s (Ok t) (record s { atoms = new })) (sym e) (h s refl))
  found-in (Some tree) s new (Err f) e h =
      site-first tree s (record s { atoms = new }) (Err (OwnFault f))
      (subst (λ (c : Scope). Comes (described_as names c tree.value) s (Err (OwnFault f)) (record s { atoms = new })) (sym e) (h s refl))

  pub all-found : (ws : List Worker) (s : State) (new : Atoms) (rs : List (Result Shared Fault)) → s.site.scope ≡ scope → ComeInTurn names scope ws s.atoms rs new
      → Comes (worker_results names ws) s (Ok rs) (record s { atoms = new })
  all-found [] s new [] e h = subst (λ (x : Atoms). Comes (worker_results names []) s (Ok []) (record s { atoms = x })) (sym h) (given _ s [] refl)
  all-found [] s new (r ∷ rs) e h = absurd h
  all-found (w ∷ ws) s new [] e h = absurd h
  all-found (w ∷ ws) s new (r ∷ rs) e h =
      next _ _ _ _ _ r (record s { atoms = h.0 }) (found-in w.result s h.0 r e h.1)
      (next _ _ _ _ _ rs (record s { atoms = new }) (all-found ws (record s { atoms = h.0 }) new rs e h.2) (given _ (record s { atoms = new }) (r ∷ rs) refl))

-- ---- small steps

pub mapped-next : {A B : Type 0} (f : A → B) (xs : List A) (i : ℕ) (x : A) (y : B) (before after : List B) → i < length xs → x ≡ get_or xs i x → before ≡ map f (take i xs) → y ≡ f x
    → after ≡ before ++ y ∷ [] → after ≡ map f (take (i + 1) xs)
mapped-next f xs i x y before after lt e h same more =
    more ∙ ap (λ ys. ys ++ y ∷ []) h ∙ ap (λ z. map f (take i xs) ++ z ∷ []) (same ∙ ap f e) ∙ sym (map_more f xs i x lt)

pub nil-lifted : (names : Names) (scope : Scope) (tree : Option (Box TypeTree)) (env : Atoms) (m : Result Shared NoMemory) (r : Result Shared (Stop Fault)) → tree ≡ None → r ≡ lifted m
    → AreOwnTypes env names.own → IfOk m (λ t. (e : Atoms) → AreOwnTypes e names.own → OfKind kind.Nothing e t.value) → ComesOver (type_or_nil names scope tree) env r env
nil-lifted names scope tree env m r is e own h = subst (λ (x : Result Shared (Stop Fault)). ComesOver (type_or_nil names scope tree) env x env) (sym e) (by m h)
  where
    by : (m : Result Shared NoMemory) → IfOk m (λ t. (e : Atoms) → AreOwnTypes e names.own → OfKind kind.Nothing e t.value) → ComesOver (type_or_nil names scope tree) env (lifted m) env
    by (Ok t) k = nil-there names scope tree env t is (k env own)
    by (Err x) k = over-out (type_or_nil names scope tree) env env

pub nil-lifted-below : (names : Names) (env : Atoms) (m : Result Shared NoMemory) (r : Result Shared (Stop Fault)) → r ≡ lifted m → AreOwnTypes env names.own
    → IfOk m (λ t. (e : Atoms) → AreOwnTypes e names.own → TyBelow (length e) t.value) → IfOk r (SharedBelow (length env))
nil-lifted-below names env m r e own h = subst (λ (x : Result Shared (Stop Fault)). IfOk x (SharedBelow (length env))) (sym e) (by m h)
  where
    by : (m : Result Shared NoMemory) → IfOk m (λ t. (e : Atoms) → AreOwnTypes e names.own → TyBelow (length e) t.value) → IfOk (lifted m) (SharedBelow (length env))
    by (Ok t) k = k env own
    by (Err x) k = tt
