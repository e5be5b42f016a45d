-- What comes of checks one behind another, in a loop over what they look at.
use Rattle.std.proofs.Common.{◌≡◌, ◌∙◌, ◌<◌, ◌≤◌, ◌+◌, ◌++◌, ℕ, List, [], ◌∷◌, Result, Ok, Err, map, drop, get_or, length, refl, sym, subst, ap, inl, inr}
use Rattle.std.proofs.lemmas.List.{drop_all, drop_more}
use Rattle.bal_base.specs.declared.fault.Fault.{Fault}
use Rattle.bal_base.specs.declared.stop.Stop.{Stop}
use Rattle.bal_base.specs.declared.stop.Stop.TheVariants.{Memory, Fault as OwnFault}
use Rattle.checks.specs.Checks.{Check, Comes, gives_some, ◌▷◌}
use Rattle.checks.proofs.Steps.{goes_on, some_is, stops}
use Rattle.worker_pairing.specs.Faults.{Atoms, all_pass}
use Rattle.worker_messages.specs.inner.InTurn.{Leads}

module _ {X A : Type 0} (check : A → Check Atoms (Unit {0})) (f : X → A) (env : Atoms) where
  nothing-left : Comes (all_pass check []) env (Ok tt) env
  nothing-left = some_is (λ old b. b ≡ tt) env env tt refl refl

  from-to : (m : Check Atoms (Unit {0})) (cur new : Atoms) (r : Result (Unit {0}) (Stop Fault)) → cur ≡ env → new ≡ env → Comes m cur r new → Comes m env r env
  from-to m cur new r is same h = subst (λ x. Comes m env r x) same (subst (λ x. Comes m x r new) is h)

  pub leads-all : (xs : List A) → Leads check env xs xs
  leads-all xs r h = h

  module _ (whole : List A) (xs : List X) (i : ℕ) where
    first-of : (x : X) → i < length xs → x ≡ get_or xs i x → map f (drop i xs) ≡ f x ∷ map f (drop (i + 1) xs)
    first-of x lt at = ap (map f) (drop_more xs i x lt ∙ ap (λ y. y ∷ drop (i + 1) xs) (sym at))

    pub leads-next : (x : X) (cur new : Atoms) → i < length xs → x ≡ get_or xs i x → cur ≡ env → new ≡ env → Comes (check (f x)) cur (Ok tt) new
        → Leads check env whole (map f (drop i xs)) → Leads check env whole (map f (drop (i + 1) xs))
    leads-next x cur new lt at is same h leads r k =
        leads r
        (subst (λ d. Comes (all_pass check d) env r env) (sym (first-of x lt at))
        (goes_on (check (f x)) (λ _. all_pass check (map f (drop (i + 1) xs))) env env env tt r (from-to (check (f x)) cur new (Ok tt) is same h) k))

    pub leads-stop : (x : X) (cur new : Atoms) (stop : Stop Fault) → i < length xs → x ≡ get_or xs i x → cur ≡ env → new ≡ env → Comes (check (f x)) cur (Err stop) new
        → Leads check env whole (map f (drop i xs)) → Comes (all_pass check whole) env (Err stop) env
    leads-stop x cur new stop lt at is same h leads =
        leads (Err stop)
        (subst (λ d. Comes (all_pass check d) env (Err stop) env) (sym (first-of x lt at))
        (stops (check (f x)) (λ _. all_pass check (map f (drop (i + 1) xs))) env env stop (from-to (check (f x)) cur new (Err stop) is same h)))

    pub leads-end : length xs ≤ i → Leads check env whole (map f (drop i xs)) → Comes (all_pass check whole) env (Ok tt) env
    leads-end le leads = leads (Ok tt) (subst (λ d. Comes (all_pass check (map f d)) env (Ok tt) env) (sym (drop_all i xs le)) nothing-left)

pub at-end : (m : Check Atoms (Unit {0})) (env new : Atoms) (r : Result (Unit {0}) (Stop Fault)) → new ≡ env → Comes m env r env → Comes m env r new
at-end m env new r same h = subst (λ x. Comes m env r x) (sym same) h

-- ---- some behind others

pub single : {A : Type 0} (check : A → Check Atoms (Unit {0})) (x : A) (old new : Atoms) (r : Result (Unit {0}) (Stop Fault)) → Comes (check x) old r new → Comes (all_pass check (x ∷ [])) old r new
single check x old new (Ok u) h = goes_on (check x) (λ _. all_pass check []) old new new u (Ok u) h (some_is (λ o b. b ≡ tt) new new u refl refl)
single check x old new (Err stop) h = stops (check x) (λ _. all_pass check []) old new stop h

module _ {A : Type 0} (check : A → Check Atoms (Unit {0})) (ys : List A) where
  pub all-behind : (xs : List A) (old mid new : Atoms) (r : Result (Unit {0}) (Stop Fault)) → Comes (all_pass check xs) old (Ok tt) mid → Comes (all_pass check ys) mid r new
      → Comes (all_pass check (xs ++ ys)) old r new
  unfolding ◌▷◌ Comes gives_some
  all-behind [] old mid new r h k = subst (λ m. Comes (all_pass check ys) m r new) h.1 k
  all-behind (x ∷ xs) old mid new r (a, between, h, more) k =
      goes_on (check x) (λ _. all_pass check (xs ++ ys)) old between new a r h (all-behind xs between mid new r more k)

  pub stops-before : (xs : List A) (old new : Atoms) (stop : Stop Fault) → Comes (all_pass check xs) old (Err stop) new → Comes (all_pass check (xs ++ ys)) old (Err stop) new
  unfolding ◌▷◌ Comes gives_some
  stops-before xs old new Memory h = tt
  stops-before [] old new (OwnFault f) h = absurd h
  stops-before (x ∷ xs) old new (OwnFault f) (inl h) = inl h
  stops-before (x ∷ xs) old new (OwnFault f) (inr (a, between, h, more)) = inr (a, between, h, stops-before xs between new (OwnFault f) more)
