-- Modules that end, as answers of calls.
use Rattle.std.proofs.Common.{◌≡◌, ◌++◌, ℕ, List, [], ◌∷◌, Option, Some, None, Ok, ap, refl, sym}
use Rattle.checks.specs.Checks.{Comes}
use Rattle.typed_tree.specs.declared.package.Initialiser.{Initialiser}
use Rattle.check_words.specs.State.{InitialiserAtWork, State}
use Rattle.check_words.specs.Units.{IsInitialiser, ends_module}
use Rattle.check_words.proofs.Coming.{became-this, given, next}

pub module-ends : (m : ℕ) (s : State) (i : InitialiserAtWork) (x : Initialiser) (xs : List Initialiser) → s.initialiser ≡ Some i → IsInitialiser m i x
    → xs ≡ s.done.initialisers ++ x ∷ [] → (o : Option InitialiserAtWork) → o ≡ None → Comes (ends_module m) s (Ok tt) (record s { initialiser = o; done = record s.done { initialisers = xs } })
module-ends m s i x xs is made more o gone = let mid : State = record s { done = record s.done { initialisers = xs } } in
    next _ _ _ _ _ (Some i) s (given _ s (Some i) (sym is))
    (next _ _ _ _ _ tt mid
    (next _ _ _ _ _ x s (given _ s x made) (became-this _ s mid (ap (λ ys. record s { done = record s.done { initialisers = ys } }) more)))
    (became-this _ mid _ (ap (λ y. record mid { initialiser = y }) gone)))

pub empty-ends : (m : ℕ) (s : State) → s.initialiser ≡ None → (o : Option InitialiserAtWork) → o ≡ None → Comes (ends_module m) s (Ok tt) (record s { initialiser = o })
empty-ends m s is o gone = next _ _ _ _ _ None s (given _ s None (sym is)) (next _ _ _ _ _ tt s (given _ s tt refl) (became-this _ s _ (ap (λ y. record s { initialiser = y }) gone)))
