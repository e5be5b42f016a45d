-- Where checks of each in turn let all through, none is bad; and where a plan comes, messages pair up.
use Rattle.std.proofs.Common.{◌≡◌, zero, suc, List, [], ◌∷◌, refl, subst, Bool, true, false, arith}
use Rattle.std.specs.Prelude.{Contains}
use Rattle.bal_base.specs.declared.fault.Fault.{Fault}
use Rattle.type_model.specs.declared.answers.TypeLimit.{TypeLimit}
use Rattle.type_model.specs.declared.atoms.AtomDef.{AtomDef}
use Rattle.type_model.specs.Calls.{Asked}
use Rattle.typed_tree.specs.declared.event.Plan.{Plan}
use Rattle.checks.specs.Checks.{Check, Gives, refuses, either, ◌▷◌}
use Rattle.worker_pairing.specs.Faults.{Atoms, IsPlan, has_no_peer, is_unpaired, none_bad, ordered}
use Rattle.worker_pairing.specs.Laws.{PlansPairUp}
use Rattle.worker_pairing.specs.Marks.{Members, in_text}
use Rattle.worker_pairing.proofs.Paired.{pairs-up}

-- what stands in front of a chain gave something, and what stands behind it the rest
pub parts : {S A B : Type 0} (m : Check S A) (next : A → Check S B) (old : S) (b : B) (new : S) → (m ▷ next) old (Gives b) new → (a : A) × (mid : S) × m old (Gives a) mid × next a mid (Gives b) new
unfolding ◌▷◌
parts m next old b new h = h

module _ {A : Type 0} (bad : A → Bool) (fault : A → Fault → Type 0) where
  abbrev Passes : List A → Type 0
  Passes xs = (a : A) → Contains xs a → bad a ≡ false

  first-passes : (x : A) (xs : List A) → bad x ≡ false → Passes xs → Passes (x ∷ xs)
  first-passes x xs e more a (zero, lt, same) = subst (λ y. bad y ≡ false) same e
  first-passes x xs e more a (suc k, lt, same) = more a (k, omega (arith, lt), same)

  none-there : Passes []
  none-there a (k, lt, same) = absurd (omega (arith, lt))

  none-refused : (x : A) (old : Atoms) (u : Unit {0}) (new : Atoms) → refuses (λ _. fault x) old (Gives u) new → ⊥
  unfolding refuses
  none-refused x old u new h = h

  pub all-good : (xs : List A) (old : Atoms) (u : Unit {0}) (new : Atoms) → none_bad bad fault xs old (Gives u) new → Passes xs
  all-good [] old u new h = none-there
  all-good (x ∷ xs) old u new h = by (bad x) refl h (all-good xs old u new)
    where
      by : (b : Bool) → bad x ≡ b → either b (refuses (λ _. fault x)) (none_bad bad fault xs) old (Gives u) new → (none_bad bad fault xs old (Gives u) new → Passes xs) → Passes (x ∷ xs)
      by true e h more = absurd (none-refused x old u new h)
      by false e h more = first-passes x xs e (more h)

planned : (ms : Members) (old : Atoms) (p : Plan) (new : Atoms) → ordered ms old (Gives p) new → IsPlan ms p
unfolding ordered
planned ms old p new h = h.0

pub plans-pair-up : (passes : List AtomDef → Asked → TypeLimit → Type 0) → PlansPairUp passes
plans-pair-up passes at ms old new p h =
    let a = parts _ _ old p new h in
    let b = parts _ _ a.1 p new a.3 in
    let peers = parts _ _ b.1 p new b.3 in
    let inner = parts _ _ peers.1 p new peers.3 in
    let paired = parts _ _ inner.1 p new inner.3 in
    let returns = parts _ _ paired.1 p new paired.3 in
    let messages = parts _ _ returns.1 p new returns.3 in
    let plan = planned ms messages.1 p new messages.3 in (
      pairs-up ms (record { peers = all-good (has_no_peer ms) _ (in_text ms) b.1 peers.0 peers.1 peers.2; paired = all-good (is_unpaired ms) _ (in_text ms) inner.1 paired.0 paired.1 paired.2 }),
      plan.numbering,
    )
