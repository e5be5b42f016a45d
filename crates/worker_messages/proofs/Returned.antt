-- What is returned in front of a message.
use Rattle.std.proofs.Common.{◌≡◌, ◌∙◌, ◌<◌, Some, Result, Ok, Err, map, length, refl, sym, subst, ap, arith, take, true, false}
use Rattle.std.specs.Prelude.{All, Bool, List, [], ◌∷◌, ℕ, suc, nat_lt}
use Rattle.std.proofs.lemmas.List.{get_or-map, length-map, take-map}
use Rattle.bal_base.specs.declared.fault.Fault.{Fault}
use Rattle.bal_base.specs.declared.fault.FaultCode.TheVariants.{SuccessBefore}
use Rattle.bal_base.specs.declared.fault.Kept.TheVariants.{Nothing}
use Rattle.bal_base.specs.declared.place.Place.{Place}
use Rattle.bal_base.specs.declared.stop.Stop.{Stop}
use Rattle.bal_base.specs.declared.stop.Stop.TheVariants.{Fault as OwnFault}
use Rattle.type_model.specs.declared.answers.TypeLimit.{TypeLimit}
use Rattle.type_model.specs.declared.atoms.AtomDef.{AtomDef}
use Rattle.type_model.specs.Calls.{Asked}
use Rattle.checks.specs.Checks.{Comes, either, gives, refuses}
use Rattle.checks.specs.Questions.{IsFault}
use Rattle.checks.proofs.Steps.{some_is}
use Rattle.worker_pairing.specs.Events.{before, count, is_message}
use Rattle.worker_pairing.specs.Faults.{Atoms, all_pass, member_passes, named_first, return_passes}
use Rattle.worker_pairing.specs.Marks.{Member, Returning, kinds}
use Rattle.worker_members.specs.declared.held.HeldMember.{HeldMember}
use Rattle.worker_members.specs.declared.held.Said.{Said}
use Rattle.worker_members.specs.Held.{kind_of, member_held, saying_held}
use Rattle.worker_faults.specs.Routes.{kinds_said}
use Rattle.worker_faults.proofs.Counted.{kinds-of-one}
use Rattle.worker_messages.specs.inner.Asked.{asked, judged}

pub judged-error : (at : Place) (b : Bool) (env : Atoms) → b ≡ true → Comes (judged at b) env (Ok tt) env
judged-error at b env is = subst (λ b. Comes (judged at b) env (Ok tt) env) (sym is) (some_is (λ old a. a ≡ tt) env env tt refl refl)

pub judged-other : (at : Place) (b : Bool) (env : Atoms) (f : Fault) → b ≡ false → IsFault SuccessBefore (Some at) Nothing f → Comes (judged at b) env (Err (OwnFault f)) env
unfolding Comes refuses
judged-other at b env f is fault = subst (λ b. Comes (judged at b) env (Err (OwnFault f)) env) (sym is) (fault, refl)

-- only in front of a message it is asked
module _ (passes : List AtomDef → Asked → TypeLimit → Type 0) (m : Member) (r : Returning) (old new : Atoms) (o : Result (Unit {0}) (Stop Fault)) where
  abbrev stands : Bool
  stands = nat_lt (before is_message (kinds m) r.before) (count is_message (kinds m))

  pub return-asked : stands ≡ true → Comes (asked passes r.type r.at) old o new → Comes (return_passes passes m r) old o new
  return-asked is h = subst (λ b. Comes (either b (asked passes r.type r.at) (gives tt)) old o new) (sym is) h

  pub return-free : stands ≡ false → Comes (gives tt) old o new → Comes (return_passes passes m r) old o new
  return-free is h = subst (λ b. Comes (either b (asked passes r.type r.at) (gives tt)) old o new) (sym is) h

-- what holds of each thing that is made
pub of-map : {X Y : Type 0} (P : Y → Type 0) (f : X → Y) (xs : List X) → All P (map f xs) → All (λ x. P (f x)) xs
of-map P f xs h k d lt = subst P (get_or-map f xs k d (f d) lt) (h k (f d) (subst (λ n. k < n) (sym (length-map xs f)) lt))

-- a default worker and named ones
pub own-too : (P : Member → Type 0) (ws : List HeldMember) (own : HeldMember) (named : List HeldMember) → ws ≡ own ∷ named → All P (map member_held ws) → P (member_held own) × All (λ m. P (member_held m)) named
own-too P ws own named is h =
    let all = subst (λ l. All P (map member_held l)) is h in
    (all 0 (member_held own) (omega arith), λ k d lt. of-map P member_held (own ∷ named) all (suc k) d (omega (arith, lt)))

-- no workers
pub none-pass : (passes : List AtomDef → Asked → TypeLimit → Type 0) (ws : List HeldMember) (env : Atoms) → length ws ≡ 0
    → Comes (all_pass (member_passes passes) (named_first passes (map member_held ws))) env (Ok tt) env
none-pass passes [] env none = some_is (λ old a. a ≡ tt) env env tt refl refl
none-pass passes (w ∷ ws) env none = absurd (omega (arith, none))

-- ---- messages behind

pub behind-so : (ss first : List Said) (n x y : ℕ) → first ≡ take n ss → x ≡ count is_message (kinds_said first) → y ≡ count is_message (kinds_said ss)
    → nat_lt x y ≡ nat_lt (before is_message (kinds_said ss) n) (count is_message (kinds_said ss))
behind-so ss first n x y is few all =
    let part : x ≡ before is_message (kinds_said ss) n =
    few ∙ ap (λ l. count is_message (kinds_said l)) is ∙ ap (count is_message) (sym (take-map (λ s. kind_of s.kind) n ss)) in
    (λ i. nat_lt (part i) (all i))

pub behind-held : (ss list : List Said) (n : ℕ) (b : Bool) → list ≡ ss → b ≡ nat_lt (before is_message (kinds_said list) n) (count is_message (kinds_said list))
    → b ≡ nat_lt (before is_message (map (λ s. s.kind) (map saying_held ss)) n) (count is_message (map (λ s. s.kind) (map saying_held ss)))
behind-held ss list n b is same =
    same ∙ ap (λ ks. nat_lt (before is_message ks n) (count is_message ks)) (ap kinds_said is ∙ sym (kinds-of-one ss))
