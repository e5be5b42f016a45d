-- What comes of checks one behind another, in a loop that keeps what each gave.
use Rattle.std.proofs.Common.{◌≡◌, ◌∙◌, ◌<◌, ◌≤◌, ◌+◌, ◌++◌, ℕ, List, [], ◌∷◌, Result, Ok, Err, drop, get_or, length, refl, sym, subst, ap}
use Rattle.std.proofs.lemmas.List.{drop_all, drop_more, append_assoc, append-nil}
use Rattle.bal_base.specs.declared.fault.Fault.{Fault}
use Rattle.bal_base.specs.declared.stop.Stop.{Stop}
use Rattle.bal_base.specs.declared.stop.Stop.TheVariants.{Memory, Fault as OwnFault}
use Rattle.checks.specs.Checks.{Check, Comes, gives, gives_some, ◌▷◌}
use Rattle.checks.proofs.Steps.{goes_on, some_is, stops}
use Rattle.worker_pairing.specs.Faults.{Atoms}
use Rattle.package_plans.specs.Planned.{all_give}
use Rattle.package_plans.specs.inner.InTurn.{Leads, behind}

module _ {A B : Type 0} (check : A → Check Atoms B) (env : Atoms) where
  nothing-left : Comes (all_give check []) env (Ok []) env
  nothing-left = some_is (λ old b. b ≡ []) env env [] refl refl

  -- what the others come to, behind what the first gave
  with-first : (a : A) (rest : List A) (b : B) (r : Result (List B) (Stop Fault)) → Comes (check a) env (Ok b) env → Comes (all_give check rest) env r env
      → Comes (all_give check (a ∷ rest)) env (behind (b ∷ []) r) env
  with-first a rest b (Ok more) h k =
      goes_on (check a) (λ b. all_give check rest ▷ λ more. gives (b ∷ more)) env env env b (Ok (b ∷ more)) h
      (goes_on (all_give check rest) (λ more. gives (b ∷ more)) env env env more (Ok (b ∷ more)) k (some_is (λ old l. l ≡ b ∷ more) env env (b ∷ more) refl refl))
  with-first a rest b (Err stop) h k =
      goes_on (check a) (λ b. all_give check rest ▷ λ more. gives (b ∷ more)) env env env b (Err stop) h
      (stops (all_give check rest) (λ more. gives (b ∷ more)) env env stop k)

  first-stops : (a : A) (rest : List A) (stop : Stop Fault) → Comes (check a) env (Err stop) env → Comes (all_give check (a ∷ rest)) env (Err stop) env
  first-stops a rest stop h = stops (check a) (λ b. all_give check rest ▷ λ more. gives (b ∷ more)) env env stop h

  front : (r : Result (List B) (Stop Fault)) → behind [] r ≡ r
  front (Ok more) = refl
  front (Err stop) = refl

  twice : (done : List B) (b : B) (r : Result (List B) (Stop Fault)) → behind done (behind (b ∷ []) r) ≡ behind (done ++ b ∷ []) r
  twice done b (Ok more) = ap Ok (sym (append_assoc done (b ∷ []) more))
  twice done b (Err stop) = refl

  from-to : {C : Type 0} (m : Check Atoms C) (cur new : Atoms) (r : Result C (Stop Fault)) → cur ≡ env → new ≡ env → Comes m cur r new → Comes m env r env
  from-to m cur new r is same h = subst (λ x. Comes m env r x) same (subst (λ x. Comes m x r new) is h)

  pub leads-all : (xs : List A) → Leads check env xs [] xs
  leads-all xs r h = subst (λ o. Comes (all_give check xs) env o env) (sym (front r)) h

  module _ (whole xs : List A) (i : ℕ) (done : List B) where
    first-of : (x : A) → i < length xs → x ≡ get_or xs i x → drop i xs ≡ x ∷ drop (i + 1) xs
    first-of x lt at = drop_more xs i x lt ∙ ap (λ y. y ∷ drop (i + 1) xs) (sym at)

    pub leads-next : (x : A) (b : B) (cur new : Atoms) → i < length xs → x ≡ get_or xs i x → cur ≡ env → new ≡ env → Comes (check x) cur (Ok b) new
        → Leads check env whole done (drop i xs) → Leads check env whole (done ++ b ∷ []) (drop (i + 1) xs)
    leads-next x b cur new lt at is same h leads r k =
        subst (λ o. Comes (all_give check whole) env o env) (twice done b r)
        (leads (behind (b ∷ []) r)
        (subst (λ d. Comes (all_give check d) env (behind (b ∷ []) r) env) (sym (first-of x lt at))
        (with-first x (drop (i + 1) xs) b r (from-to (check x) cur new (Ok b) is same h) k)))

    pub leads-stop : (x : A) (cur new : Atoms) (stop : Stop Fault) → i < length xs → x ≡ get_or xs i x → cur ≡ env → new ≡ env → Comes (check x) cur (Err stop) new
        → Leads check env whole done (drop i xs) → Comes (all_give check whole) env (Err stop) env
    leads-stop x cur new stop lt at is same h leads =
        leads (Err stop)
        (subst (λ d. Comes (all_give check d) env (Err stop) env) (sym (first-of x lt at))
        (first-stops x (drop (i + 1) xs) stop (from-to (check x) cur new (Err stop) is same h)))

    pub leads-end : length xs ≤ i → Leads check env whole done (drop i xs) → Comes (all_give check whole) env (Ok done) env
    leads-end le leads =
        subst (λ o. Comes (all_give check whole) env (Ok o) env) (append-nil done)
        (leads (Ok []) (subst (λ d. Comes (all_give check d) env (Ok []) env) (sym (drop_all i xs le)) nothing-left))

pub at-end : {C : Type 0} (m : Check Atoms C) (env new : Atoms) (r : Result C (Stop Fault)) → new ≡ env → Comes m env r env → Comes m env r new
at-end m env new r same h = subst (λ x. Comes m env r x) (sym same) h
