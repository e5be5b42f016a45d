-- What comes of checks that look at one event after another, and of a limit.
use Rattle.std.proofs.Common.{◌≡◌, ◌∙◌, ◌<◌, ◌≤◌, ◌+◌, ℕ, List, [], ◌∷◌, Ok, Err, Some, map, drop, get_or, length, refl, sym, subst, ap, true, false}
use Rattle.std.specs.Prelude.{Bool, Result}
use Rattle.std.proofs.lemmas.Bool.{le-leb, lt-leb}
use Rattle.std.proofs.lemmas.List.{drop_all, drop_more}
use Rattle.bal_base.specs.declared.fault.Fault.{Fault}
use Rattle.bal_base.specs.declared.fault.FaultCode.TheVariants.{WorkerLimit}
use Rattle.bal_base.specs.declared.fault.Kept.TheVariants as kept
use Rattle.bal_base.specs.declared.place.Place.{Place}
use Rattle.bal_base.specs.declared.stop.Stop.{Stop}
use Rattle.bal_base.specs.declared.stop.Stop.TheVariants.{Fault as OwnFault}
use Rattle.checks.specs.Checks.{Comes, Gives, Outcome, Refuses, either, gives, gives_some, refuses}
use Rattle.checks.specs.Questions.{IsFault}
use Rattle.worker_pairing.specs.Faults.{Atoms, has_no_peer, none_bad, within_limit}
use Rattle.worker_pairing.specs.Marks.{Members, Numbered}
use Rattle.worker_members.specs.declared.text.Standing.{Standing}
use Rattle.worker_members.specs.Held.{numbered_held}
use Rattle.worker_faults.specs.inner.InTurn.{Leads, no_peer_among}

-- ---- one event after another

module _ (bad : Numbered → Bool) (fault : Numbered → Fault → Type 0) where
  one-good : (x : Numbered) (rest : List Numbered) (env : Atoms) (o : Outcome (Unit {0})) → bad x ≡ false → none_bad bad fault rest env o env → none_bad bad fault (x ∷ rest) env o env
  one-good x rest env o is h = subst (λ b. either b (refuses (λ _. fault x)) (none_bad bad fault rest) env o env) (sym is) h

  one-bad : (x : Numbered) (rest : List Numbered) (env : Atoms) (f : Fault) → bad x ≡ true → fault x f → none_bad bad fault (x ∷ rest) env (Refuses f) env
  unfolding refuses
  one-bad x rest env f is h = subst (λ b. either b (refuses (λ _. fault x)) (none_bad bad fault rest) env (Refuses f) env) (sym is) (h, refl)

  none-left : (env : Atoms) → none_bad bad fault [] env (Gives tt) env
  unfolding gives_some
  none-left env = (refl, refl)

  pub leads-all : (xs : List Numbered) → Leads bad fault xs xs
  leads-all xs env o h = h

  module _ (whole : List Numbered) (xs : List Standing) (i : ℕ) where
    pub leads-next : (x : Standing) → i < length xs → x ≡ get_or xs i x → bad (numbered_held x) ≡ false
        → Leads bad fault whole (map numbered_held (drop i xs)) → Leads bad fault whole (map numbered_held (drop (i + 1) xs))
    leads-next x lt at is leads env o h =
        leads env o
        (subst (λ d. none_bad bad fault (map numbered_held d) env o env) (sym (drop_more xs i x lt ∙ ap (λ y. y ∷ drop (i + 1) xs) (sym at)))
        (one-good (numbered_held x) (map numbered_held (drop (i + 1) xs)) env o is h))

    pub leads-stop : (x : Standing) (f : Fault) → i < length xs → x ≡ get_or xs i x → bad (numbered_held x) ≡ true → fault (numbered_held x) f
        → Leads bad fault whole (map numbered_held (drop i xs)) → (env : Atoms) → Comes (none_bad bad fault whole) env (Err (OwnFault f)) env
    unfolding Comes
    leads-stop x f lt at is h leads env =
        leads env (Refuses f)
        (subst (λ d. none_bad bad fault (map numbered_held d) env (Refuses f) env) (sym (drop_more xs i x lt ∙ ap (λ y. y ∷ drop (i + 1) xs) (sym at)))
        (one-bad (numbered_held x) (map numbered_held (drop (i + 1) xs)) env f is h))

    pub leads-end : length xs ≤ i → Leads bad fault whole (map numbered_held (drop i xs)) → (env : Atoms) → Comes (none_bad bad fault whole) env (Ok tt) env
    unfolding Comes
    leads-end le leads env =
        leads env (Gives tt) (subst (λ d. none_bad bad fault (map numbered_held d) env (Gives tt) env) (sym (drop_all i xs le)) (none-left env))

-- ---- a limit

pub limit-kept : (most n : ℕ) (at : Place) (env : Atoms) → n ≤ most → Comes (within_limit most n at) env (Ok tt) env
unfolding Comes gives_some
limit-kept most n at env le =
    subst (λ b. either b (gives tt) (refuses (λ _. IsFault WorkerLimit (Some at) (kept.Count n))) env (Gives tt) env) (sym (le-leb n most le)) (refl, refl)

pub limit-passed : (most n : ℕ) (at : Place) (env : Atoms) (f : Fault) → most < n → IsFault WorkerLimit (Some at) (kept.Count n) f → Comes (within_limit most n at) env (Err (OwnFault f)) env
unfolding Comes refuses
limit-passed most n at env f lt is =
    subst (λ b. either b (gives tt) (refuses (λ _. IsFault WorkerLimit (Some at) (kept.Count n))) env (Refuses f) env) (sym (lt-leb n most lt)) (is, refl)

-- ---- by how many workers there are

pub none-among : (ms : Members) (workers : ℕ) (fault : Numbered → Fault → Type 0) (xs : List Numbered) (env : Atoms) (r : Result (Unit {0}) (Stop Fault)) → length ms ≡ workers
    → Comes (none_bad (no_peer_among workers) fault xs) env r env → Comes (none_bad (has_no_peer ms) fault xs) env r env
none-among ms workers fault xs env r same h = subst (λ n. Comes (none_bad (no_peer_among n) fault xs) env r env) (sym same) h
