-- A call that leads to a question passes the limits that the question passes.
use Rattle.std.proofs.Common.{◌≡◌, ⊎_elim, inl, inr, ◌∙◌, ℕ, List, Result, Err, subst}
use Rattle.bal_base.specs.declared.stop.Stop.{Stop}
use Rattle.bal_base.specs.declared.stop.Stop.TheVariants.{Memory, Fault}
use Rattle.bal_base.specs.Stops.{IfFault}
use Rattle.std.proofs.lemmas.List.Elements.{All-weaker}
use Rattle.type_model.specs.declared.atoms.AtomDef.{AtomDef}
use Rattle.type_model.specs.declared.answers.TypeLimit.{TypeLimit}
use Rattle.type_model.specs.declared.answers.TypeLimit.TheVariants.{Questions, Arrows}
use Rattle.type_model.specs.Calls.{Asked, Without, Alone, Applied}
use Rattle.type_diagrams.specs.declared.kind.Kind.{Kind}
use Rattle.type_diagrams.specs.declared.kind.Kind.TheVariants.{List as Lists, Mapping as Mappings, Error as Errors, Function as Functions, Future as Futures}
use Rattle.type_diagrams.specs.declared.path.Path.{Path}
use Rattle.type_diagrams.specs.Conditions.{Condition, AreOne}
use Rattle.type_diagrams.specs.Questions.{IsPartQuestion, IsMemberQuestion}
use Rattle.type_diagrams.specs.Reach.{Reached, first, next, IsFirst, IsOutsideQuestion, Passes}
use Rattle.type_diagrams.proofs.Reaching.{reached-further}
use Rattle.subtype_decider.specs.Leads.{LeadsTo, LeadsPast}

AreOne-trans : (b c d : Condition) → AreOne b c → AreOne c d → AreOne b d
AreOne-trans b c d p q = record {
  simple = λ x is valid. p.simple x is valid ∙ q.simple x is valid;
  by_kind = λ k v. p.by_kind k v ∙ q.by_kind k v;
}

-- ---- what counts as one with a question is one as well

part-one : (ask : ℕ → Condition) (Out : ℕ → Type 0) (p : Path) (c d : Condition) → AreOne d c → IsPartQuestion ask Out p c → IsPartQuestion ask Out p d
part-one ask Out p c d one q = record { avoided = q.avoided; unwanted = q.unwanted; apart = q.apart; question = AreOne-trans d c _ one q.question }

module _ (env : List AtomDef) where
  member-one : (k : Kind) (p : Path) (c d : Condition) → AreOne d c → IsMemberQuestion env k p c → IsMemberQuestion env k p d
  member-one Lists p c d one (place, q) = (place, part-one _ _ p c d one q)
  member-one Mappings p c d one (key, q) = (key, part-one _ _ p c d one q)
  member-one Errors p c d one q = AreOne-trans d c _ one q
  member-one Functions p c d one (a, among, q) = (a, among, (q.0, ⊎_elim (λ o. inl (AreOne-trans d c _ one o)) (λ o. inr (o.0, AreOne-trans d c _ one o.1)) q.1))
  member-one Futures p c d one (a, among, q) = (a, among, AreOne-trans d c _ one q)

  first-one : (asked : Asked) (c d : Condition) → AreOne d c → IsFirst env asked c → IsFirst env asked d
  first-one (Without s t) c d one q = AreOne-trans d c _ one q
  first-one (Alone t) c d one q = AreOne-trans d c _ one q
  first-one (Applied f args) c d one q =
      ⊎_elim (λ o. inl (AreOne-trans d c _ one o)) (λ (o : IsOutsideQuestion env f args c). inr (o.0, o.1, o.2, AreOne-trans d c _ one o.3)) q

  reached-one : (asked : Asked) (c d : Condition) → AreOne d c → Reached env (IsFirst env asked) c → Reached env (IsFirst env asked) d
  reached-one asked c d one (first _ h) = first d (first-one asked c d one h)
  reached-one asked c d one (next b _ k p leads path q) = next b d k p leads path (member-one k p c d one q)

  module _ (asked : Asked) (c : Condition) (reached : Reached env (IsFirst env asked) c) where
    further : (d : Condition) → LeadsTo env c d → Reached env (IsFirst env asked) d
    further d leads = reached-further env (IsFirst env asked) (λ e. AreOne e c) (λ e one. reached-one asked c e one reached) d leads

    pub past-Passes : (limit : TypeLimit) → LeadsPast env c limit → Passes env asked limit
    past-Passes Questions (questions, many, apart, leads) = (questions, many, apart, All-weaker (LeadsTo env c) (Reached env (IsFirst env asked)) further questions leads)
    past-Passes Arrows (d, p, leads, path, many) = (d, p, further d leads, path, many)

-- a limit that is handed on
pub handed : (U : Type 0) {T : Type 0} (P Q : TypeLimit → Type 0) (r : Result T (Stop TypeLimit)) (e : Stop TypeLimit) → r ≡ Err e → ((limit : TypeLimit) → P limit → Q limit) → IfFault r P → IfFault {T = U} {F = TypeLimit} (Err e) Q
handed U P Q r Memory is f h = tt
handed U P Q r (Fault limit) is f h = f limit (subst (λ s. IfFault s P) is h)
