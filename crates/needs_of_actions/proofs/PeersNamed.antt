-- The workers that actions name, and what they give.
use Rattle.std.proofs.Common.{◌≡◌, ◌++◌, ℕ, zero, suc, All, List, [], ◌∷◌, Option, Some, Ok, Err, refl, slice_get, sym, subst}
use Rattle.std.proofs.lemmas.List.Elements.{All-head, All-tail}
use Rattle.bal_base.specs.declared.fault.Fault.{Fault}
use Rattle.bal_base.specs.declared.stop.Stop.TheVariants.{Fault as OwnFault}
use Rattle.bal_tree.specs.declared.action.Peer.{Peer}
use Rattle.checks.specs.Checks.{Comes, refuses}
use Rattle.typed_tree.specs.SharedTypes.{Shared}
use Rattle.check_words.specs.Actions.{known_result, peer_named, peer_of, result_of, site_now}
use Rattle.check_words.specs.State.{State, UnitAtWork}
use Rattle.check_words.proofs.Coming.{given, next}
use Rattle.check_words.proofs.Flowing.{unit-now}

pub site-now : (s : State) → Comes site_now s (Ok s.site) s
site-now s = given _ s s.site refl

pub peer-comes : (s : State) (kept : List UnitAtWork) (u : UnitAtWork) → s.units ≡ kept ++ u ∷ [] → (p : Peer) (n : Option ℕ) → n ≡ peer_named s.site.workers u.worker p
    → Comes (peer_of p) s (Ok n) s
peer-comes s kept u is p n e = next _ _ _ _ _ s.site s (site-now s) (next _ _ _ _ _ u s (unit-now s kept u is) (given _ s n e))

-- what a worker gives
pub result-known : (s : State) (w : ℕ) (t : Shared) → slice_get s.site.results w ≡ Some (Ok t) → Comes (result_of w) s (Ok t) s
result-known s w t is = next _ _ _ _ _ s.site s (site-now s) (subst (λ k. Comes (known_result k) s (Ok t) s) (sym is) (given _ s t refl))

told : (s : State) (fault : Fault) → Comes (refuses {A = Shared} (λ (s : State) f. f ≡ fault)) s (Err (OwnFault fault)) s
unfolding Comes refuses
told s fault = (refl, refl)

pub result-refused : (s : State) (w : ℕ) (fault : Fault) → slice_get s.site.results w ≡ Some (Err fault) → Comes (result_of w) s (Err (OwnFault fault)) s
result-refused s w fault is =
    next _ _ _ _ _ s.site s (site-now s) (subst (λ k. Comes (known_result k) s (Err (OwnFault fault)) s) (sym is) (told s fault))

-- what holds of all results holds of that of a worker
pub result-has : {A : Type 0} (P : A → Type 0) (xs : List A) (k : ℕ) (x : A) → All P xs → slice_get xs k ≡ Some x → P x
result-has P [] k x h is = absurd (cc)
result-has P (y ∷ ys) zero x h is = let same : y ≡ x = cc in subst P same (All-head P y ys h)
result-has P (y ∷ ys) (suc k) x h is = result-has P ys k x (All-tail P y ys h) is
