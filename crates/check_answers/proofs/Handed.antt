-- What corresponds still does by other handles of the same types.
use Rattle.std.proofs.Common.{◌≡◌, List, [], ◌∷◌, Option, None, Some, ap, sym, subst, ◌∙◌}
use Rattle.std.specs.List.{AllZip}
use Rattle.flow_narrowing.specs.declared.flow.Flow.{Flow}
use Rattle.flow_narrowing.specs.declared.flow.Variable.{Variable}
use Rattle.flow_narrowing.specs.Flows.{AreSame}
use Rattle.type_model.specs.declared.basic.Ty.{Ty}
use Rattle.typed_tree.specs.declared.unit.Captured.{Captured}
use Rattle.typed_tree.specs.SharedTypes.{Shared}
use Rattle.check_words.specs.Sharing.{SameCaptured, SameChoice, SameFlow, SameMatch, SameOption, SameShared, SameUnit, SameVariable, SameWays}
use Rattle.check_words.specs.State.{ChoiceAtWork, MatchAtWork, UnitAtWork, Ways}
use Rattle.check_answers.specs.Pieces.{IsCaptured, Said}
use Rattle.check_answers.specs.TwinStates.{CapturedTwins, ChoiceTwins, ClauseTwins, FlowTwins, MatchTwins, SharedTwins, UnitTwins, VariableTwins, WaysTwins}

-- two lists that correspond, and copies of both
zip-copies : {A : Type 0} (R S : A → A → Type 0) → ((a b c d : A) → R a b → S a c → S b d → R c d)
    → (xs ys us vs : List A) → AllZip R xs ys → AllZip S xs us → AllZip S ys vs → AllZip R us vs
zip-copies R S f [] [] [] [] h p q = tt
zip-copies R S f (x ∷ xs) (y ∷ ys) (u ∷ us) (v ∷ vs) h p q = (f x y u v h.0 p.0 q.0, zip-copies R S f xs ys us vs h.1 p.1 q.1)
zip-copies R S f [] (y ∷ ys) us vs h p q = absurd h
zip-copies R S f (x ∷ xs) [] us vs h p q = absurd h
zip-copies R S f [] [] (u ∷ us) vs h p q = absurd p
zip-copies R S f [] [] [] (v ∷ vs) h p q = absurd q
zip-copies R S f (x ∷ xs) (y ∷ ys) [] vs h p q = absurd p
zip-copies R S f (x ∷ xs) (y ∷ ys) (u ∷ us) [] h p q = absurd q

pub option-copies : {A : Type 0} (R S : A → A → Type 0) → ((a b c d : A) → R a b → S a c → S b d → R c d)
    → (o p u v : Option A) → SameOption R o p → SameOption S o u → SameOption S p v → SameOption R u v
option-copies R S f None None None None h p q = tt
option-copies R S f (Some x) (Some y) (Some u) (Some v) h p q = f x y u v h p q
option-copies R S f None (Some y) u v h p q = absurd h
option-copies R S f (Some x) None u v h p q = absurd h
option-copies R S f None None (Some u) v h p q = absurd p
option-copies R S f None None None (Some v) h p q = absurd q
option-copies R S f (Some x) (Some y) None v h p q = absurd p
option-copies R S f (Some x) (Some y) (Some u) None h p q = absurd q

module _ (D R : Ty → Ty → Type 0) where
  pub shared-handed : (t u v w : Shared) → SharedTwins D R t u → SameShared t v → SameShared u w → SharedTwins D R v w
  shared-handed t u v w h p q = subst (λ s. R s w.value) (sym p) (subst (R t.value) (sym q) h)

  pub want-handed : (t u v w : Option Shared) → SameOption (SharedTwins D R) t u → AreSame t v → AreSame u w → SameOption (SharedTwins D R) v w
  want-handed None None None None h p q = tt
  want-handed (Some t) (Some u) (Some v) (Some w) h p q = shared-handed t u v w h p q
  want-handed None (Some u) v w h p q = absurd h
  want-handed (Some t) None v w h p q = absurd h
  want-handed None None (Some v) w h p q = absurd p
  want-handed None None None (Some w) h p q = absurd q
  want-handed (Some t) (Some u) None w h p q = absurd p
  want-handed (Some t) (Some u) (Some v) None h p q = absurd q

  -- the same in both runs, and then in both copies
  pub equal-handed : {A : Type 0} (a b c d : A) → b ≡ a → c ≡ a → d ≡ b → d ≡ c
  equal-handed a b c d e p q = q ∙ e ∙ sym p

  variable-handed : (a b c d : Variable) → VariableTwins D R a b → SameVariable a c → SameVariable b d → VariableTwins D R c d
  variable-handed a b c d h p q =
      record {
        name = equal-handed a.name b.name c.name d.name h.name p.variable.name q.variable.name;
        slot = equal-handed a.slot b.slot c.slot d.slot h.slot p.variable.slot q.variable.slot;
        declared = shared-handed a.declared b.declared c.declared d.declared h.declared p.variable.declared q.variable.declared;
        narrowed = want-handed a.narrowed b.narrowed c.narrowed d.narrowed h.narrowed p.narrowed q.narrowed;
        fixed = equal-handed a.fixed b.fixed c.fixed d.fixed h.fixed p.variable.fixed q.variable.fixed;
        assigned = equal-handed a.assigned b.assigned c.assigned d.assigned h.assigned p.variable.assigned q.variable.assigned;
        captured = equal-handed a.captured b.captured c.captured d.captured h.captured p.variable.captured q.variable.captured;
      }

  pub flow-handed : (a b c d : Flow) → FlowTwins D R a b → SameFlow a c → SameFlow b d → FlowTwins D R c d
  flow-handed a b c d h p q =
      record {
        variables = zip-copies _ _ variable-handed a.variables b.variables c.variables d.variables h.variables p.variables q.variables;
        reached = equal-handed a.reached b.reached c.reached d.reached h.reached p.reached q.reached;
      }

  pub ways-handed : (a b c d : Ways) → WaysTwins D R a b → SameWays a c → SameWays b d → WaysTwins D R c d
  ways-handed a b c d h p q =
      record { yes = flow-handed a.yes b.yes c.yes d.yes h.yes p.yes q.yes; no = flow-handed a.no b.no c.no d.no h.no p.no q.no }

  pub choice-handed : (a b c d : ChoiceAtWork) → ChoiceTwins D R a b → SameChoice a c → SameChoice b d → ChoiceTwins D R c d
  choice-handed a b c d h p q =
      record {
        before = flow-handed a.before b.before c.before d.before h.before p.before q.before;
        other = flow-handed a.other b.other c.other d.other h.other p.other q.other;
        first = flow-handed a.first b.first c.first d.first h.first p.first q.first;
      }

  pub match-handed : (a b c d : MatchAtWork) → MatchTwins D R a b → SameMatch a c → SameMatch b d → MatchTwins D R c d
  match-handed a b c d h p q =
      record {
        at = equal-handed a.at b.at c.at d.at h.at p.at q.at;
        on = equal-handed a.on b.on c.on d.on h.on p.on q.on;
        before = flow-handed a.before b.before c.before d.before h.before p.before q.before;
        left = shared-handed a.left b.left c.left d.left h.left p.left q.left;
        patterns = equal-handed a.patterns b.patterns c.patterns d.patterns h.patterns p.patterns q.patterns;
        clauses = subst (λ cs. AllZip (ClauseTwins D) cs d.clauses) (sym p.clauses) (subst (AllZip (ClauseTwins D) a.clauses) (sym q.clauses) h.clauses);
        ends = zip-copies _ _ flow-handed a.ends b.ends c.ends d.ends h.ends p.ends q.ends;
      }

  -- what a captured variable is in the pieces of a tree
  abbrev said : Captured → Said
  said c = IsCaptured c.slot c.narrowed c.at

  said-copy : (a c : Captured) → SameCaptured a c → said c ≡ said a
  said-copy a c p =
      ap (λ k. IsCaptured k c.narrowed c.at) p.slot ∙ ap (λ k. IsCaptured a.slot k c.at) p.narrowed ∙ ap (IsCaptured a.slot a.narrowed) p.at

  said-handed : (a b c d : Captured) → said b ≡ said a → SameCaptured a c → SameCaptured b d → said d ≡ said c
  said-handed a b c d e p q = said-copy b d q ∙ e ∙ sym (said-copy a c p)

  captured-handed : (a b c d : Captured) → CapturedTwins D a b → SameCaptured a c → SameCaptured b d → CapturedTwins D c d
  captured-handed a b c d h p q = (
    said-handed a b c d h.0 p q,
    subst (λ s. D s d.ty.value) (sym p.ty) (subst (D a.ty.value) (sym q.ty) h.1),
  )

  pub unit-handed : (a b c d : UnitAtWork) → UnitTwins D R a b → SameUnit a c → SameUnit b d → UnitTwins D R c d
  unit-handed a b c d h p q =
      record {
        number = equal-handed a.number b.number c.number d.number h.number p.number q.number;
        worker = equal-handed a.worker b.worker c.worker d.worker h.worker p.worker q.worker;
        slots = zip-copies _ _ shared-handed a.slots b.slots c.slots d.slots h.slots p.slots q.slots;
        params = equal-handed a.params b.params c.params d.params h.params p.params q.params;
        rest = equal-handed a.rest b.rest c.rest d.rest h.rest p.rest q.rest;
        rest_member = want-handed a.rest_member b.rest_member c.rest_member d.rest_member h.rest_member p.rest_member q.rest_member;
        result = shared-handed a.result b.result c.result d.result h.result p.result q.result;
        arrow = equal-handed a.arrow b.arrow c.arrow d.arrow h.arrow p.arrow q.arrow;
        future = equal-handed a.future b.future c.future d.future h.future p.future q.future;
        captured = zip-copies _ _ captured-handed a.captured b.captured c.captured d.captured h.captured p.captured q.captured;
        flow = flow-handed a.flow b.flow c.flow d.flow h.flow p.flow q.flow;
      }
