-- Tests, checks and names: two runs of each need agree.
use Rattle.std.proofs.Common.{false, List, Option, None, Some, refl}
use Rattle.bal_base.specs.declared.place.Place.{Place}
use Rattle.bal_base.specs.declared.text.Name.{Name}
use Rattle.bal_tree.specs.declared.name.QualifiedName.{QualifiedName}
use Rattle.flow_narrowing.specs.declared.flow.Flow.{Flow}
use Rattle.flow_narrowing.specs.declared.flow.Variable.{Variable}
use Rattle.operations.specs.Kinds.{IsError}
use Rattle.type_model.specs.declared.answers.TypeLimit.{TypeLimit}
use Rattle.type_model.specs.declared.atoms.AtomDef.{AtomDef}
use Rattle.type_model.specs.Calls.{Asked}
use Rattle.typed_tree.specs.declared.form.StrictForm.TheVariants as form
use Rattle.typed_tree.specs.SharedTypes.{Shared, sem_of}
use Rattle.expr_needs.specs.declared.kind.Kind.TheVariants as kind
use Rattle.check_words.specs.Seen.{variable_named}
use Rattle.check_words.specs.Sharing.{SameOption}
use Rattle.check_words.specs.State.{Ways, shared_now}
use Rattle.check_words.specs.Values.{checks, narrowed_by, tests, ways_if, ways_of_test}
use Rattle.check_words.specs.Words.{Atoms, sem}
use Rattle.check_answers.specs.TwinStates.{FlowTwins, SharedTwins, VariableTwins, WaysTwins}
use Rattle.check_answers.specs.TwinTypes.{TwinTypes}
use Rattle.check_answers.proofs.Leading.{Any2, Leads, Pairs, leads-gives, leads-over, leads-then}
use Rattle.check_answers.proofs.Mapping.{flow-map}
use Rattle.check_answers.proofs.Meanings.{part-twin}
use Rattle.check_answers.proofs.Narrowing.{flow-retyped, narrows-leads}
use Rattle.check_answers.proofs.Questions.{Before, Behind, D, W, before-atoms, below-leads, kind-strict-leads, settled-twins}
use Rattle.check_answers.proofs.Seeing.{named-found, now-twins}
use Rattle.check_answers.proofs.Values.{checked-leads, drops-want-leads}
use Rattle.check_answers.proofs.Words.{flow-leads, part-leads, sets-ways-leads, unit-leads, wanted-leads}

module _ (passes : List AtomDef → Asked → TypeLimit → Type 0) (m n : Atoms) where
  abbrev B : Pairs
  B = Before m n

  abbrev A : Pairs
  A = Behind m n

  abbrev WaysThere : Option Ways → Option Ways → Type 0
  WaysThere = SameOption (WaysTwins (D m n) (W m n))

  flow-weak : (f g : Flow) → FlowTwins (D m n) (D m n) f g → FlowTwins (D m n) (W m n) f g
  flow-weak f g h = flow-map (D m n) (D m n) (D m n) (W m n) (λ a b k. k) (settled-twins m n) f g h

  narrowed-leads : (name : Name) (v u : Variable) (t w : Shared) (at : Place) → VariableTwins (D m n) (D m n) v u → SharedTwins (D m n) (D m n) t w
      → Leads B B WaysThere (narrowed_by passes name v t at) (narrowed_by passes name u w at)
  narrowed-leads name v u t w at h k =
      leads-then B B B _ WaysThere _ _ _ _ (flow-leads m n (D m n) (D m n))
      (λ f g i. leads-then B B B _ WaysThere _ _ _ _
      (narrows-leads m n passes B (shared_now v) t (shared_now u) w at (before-atoms m n) (now-twins (D m n) (D m n) v u h).twins k.twins)
      (λ p q j. leads-gives B WaysThere _ _ (record {
        yes = flow-retyped (D m n) (W m n) name (Some p.0) (Some q.0) f g (flow-weak f g i) j.0;
        no = flow-retyped (D m n) (W m n) name (Some p.1) (Some q.1) f g (flow-weak f g i) j.1;
      })))

  if-leads : (q : QualifiedName) (o p : Option Variable) (t w : Shared) (at : Place) → SameOption (VariableTwins (D m n) (D m n)) o p
      → SharedTwins (D m n) (D m n) t w → Leads B B WaysThere (ways_if passes q o t at) (ways_if passes q p w at)
  if-leads q None None t w at h k = leads-gives B WaysThere None None tt
  if-leads q (Some v) (Some u) t w at h k = narrowed-leads q.word.name v u t w at h k
  if-leads q None (Some u) t w at h k = absurd h
  if-leads q (Some v) None t w at h k = absurd h

  test-leads : (name : Option QualifiedName) (t w : Shared) (at : Place) → SharedTwins (D m n) (D m n) t w
      → Leads B B WaysThere (ways_of_test passes name t at) (ways_of_test passes name w at)
  test-leads None t w at h = leads-gives B WaysThere None None tt
  test-leads (Some q) t w at h =
      leads-then B B B _ WaysThere _ _ _ _ (flow-leads m n (D m n) (D m n))
      (λ f g k. if-leads q (variable_named f.variables q) (variable_named g.variables q) t w at
      (named-found (D m n) (D m n) f.variables g.variables q k.variables) h)

  pub tests-leads : (name : Option QualifiedName) (at : Place) → Leads B A Any2 (tests passes name at) (tests passes name at)
  tests-leads name at =
      leads-then B B A _ Any2 _ _ _ _ (wanted-leads m n (D m n) (D m n))
      (λ t w h. leads-then B B A Any2 Any2 _ _ _ _ (drops-want-leads m n)
      (λ x y k. leads-then B B A WaysThere Any2 _ _ _ _ (test-leads name t w at h)
      (λ o p i. leads-then B A A Any2 Any2 _ _ _ _ (kind-strict-leads m n 1 (form.Is t) (form.Is w) kind.Truth at (refl, h))
      (λ u v j. sets-ways-leads m n (D m n) (W m n) o p i))))

  pub checks-leads : (at : Place) → Leads B A Any2 (checks passes at) (checks passes at)
  checks-leads at =
      leads-then B B A _ Any2 _ _ _ _ (part-leads m n (D m n) (D m n))
      (λ e f h. leads-then B B A _ Any2 _ _ _ _ (unit-leads m n (D m n) (D m n))
      (λ u v k. leads-then B B A (TwinTypes m n) Any2 _ _ _ _
      (leads-over m n B _ _ _ (before-atoms m n) (λ s t x y. part-twin m n (sem e) (sem f) IsError s t h.ty.twins.shapes x y))
      (λ s t i. leads-then B B A Any2 Any2 _ _ _ _
      (below-leads passes m n B (before-atoms m n) s.sem (sem_of u.result) t.sem (sem_of v.result) (Some at) i.shapes k.result.twins.shapes)
      (λ x y j. checked-leads m n false at))))
