-- Workers whose types name only the first atoms, as many as are there, are defined.
use Rattle.std.proofs.Common.{◌≡◌, ℕ, List, [], ◌∷◌, All, length, map, subst, sym}
use Rattle.std.proofs.lemmas.List.Elements.{All-cons, All-head, All-map, All-nil, All-tail}
use Rattle.type_model.specs.Defined.{IsDefined}
use Rattle.worker_pairing.specs.Faults.{Atoms}
use Rattle.worker_members.specs.Held.{member_held, returning_held, saying_held}
use Rattle.worker_members.specs.declared.held.HeldMember.{HeldMember}
use Rattle.worker_messages.specs.Defined.{AreDefined, IsMemberDefined}
use Rattle.package_plans.specs.inner.Below.{IsMemberBelow}

module _ (env : Atoms) where
  member-defined : (m : HeldMember) → IsMemberBelow (length env) m → IsMemberDefined env (member_held m)
  member-defined m h =
      record {
        sayings = All-map (λ s. IsDefined env s.type) saying_held m.sayings.items h.sayings;
        returns = All-map (λ r. IsDefined env r.type) returning_held m.returns.items h.returns;
        result = h.result;
      }

  members-defined : (ms : List HeldMember) → All (IsMemberBelow (length env)) ms → AreDefined env (map member_held ms)
  members-defined [] h = All-nil (IsMemberDefined env)
  members-defined (m ∷ ms) h =
      All-cons (IsMemberDefined env) (member_held m) (map member_held ms) (member-defined m (All-head (IsMemberBelow (length env)) m ms h))
      (members-defined ms (All-tail (IsMemberBelow (length env)) m ms h))

-- where these are all atoms that are there
pub all-defined : (env : Atoms) (n : ℕ) (ms : List HeldMember) → length env ≡ n → All (IsMemberBelow n) ms → AreDefined env (map member_held ms)
all-defined env n ms e h = members-defined env ms (subst (λ k. All (IsMemberBelow k) ms) (sym e) h)
