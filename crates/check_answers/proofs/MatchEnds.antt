-- The end of a match: two runs of the need agree.
use Rattle.std.proofs.Common.{◌≡◌, ℕ, Bool, true, false, List, [], ◌∷◌, Some, refl, sym, subst, ap}
use Rattle.std.specs.List.{AllZip}
use Rattle.bal_base.specs.declared.place.Place.{Place}
use Rattle.flow_narrowing.specs.declared.flow.Flow.{Flow}
use Rattle.type_model.specs.declared.answers.TypeLimit.{TypeLimit}
use Rattle.type_model.specs.declared.atoms.AtomDef.{AtomDef}
use Rattle.type_model.specs.declared.basic.Ty.{Ty}
use Rattle.type_model.specs.Calls.{Asked}
use Rattle.typed_tree.specs.declared.expr.TypedExpr.{TypedExpr}
use Rattle.typed_tree.specs.declared.stmt.TypedClause.{TypedClause}
use Rattle.typed_tree.specs.declared.stmt.TypedStmt.{TypedStmt}
use Rattle.typed_tree.specs.Exprs.{type_of}
use Rattle.typed_tree.specs.SharedTypes.{sem_of}
use Rattle.check_words.specs.Branches.{closes_match, joins_all, makes_match, some_is_left, with_no_clause}
use Rattle.check_words.specs.Joins.{joins_from, joins_two}
use Rattle.check_words.specs.State.{MatchAtWork, State, all_but, stopped}
use Rattle.check_words.specs.StmtViews.{IsMatch}
use Rattle.check_words.specs.Words.{Atoms}
use Rattle.check_answers.specs.Pieces.{clause_pieces}
use Rattle.check_answers.specs.Pieces as say
use Rattle.check_answers.specs.TwinStates.{ClauseTwins, FlowTwins, MatchTwins, PartTwins, StmtTwins}
use Rattle.check_answers.specs.TwinTypes.{TwinAtoms}
use Rattle.check_answers.proofs.Branches.{sets-wider}
use Rattle.check_answers.proofs.Fixed.{These, these-some}
use Rattle.check_answers.proofs.Joining.{joins-twin}
use Rattle.check_answers.proofs.Keeping.{WithParts, part-kept}
use Rattle.check_answers.proofs.Leading.{Any2, Leads, Pairs, leads-becomes, leads-gives, leads-over, leads-then}
use Rattle.check_answers.proofs.Mapping.{flow-map}
use Rattle.check_answers.proofs.Matches.{matched-same}
use Rattle.check_answers.proofs.Questions.{Before, Behind, D, Equal, W, before-atoms, has-some-leads, settled-twins}
use Rattle.check_answers.proofs.SameTrees.{joined-same, whole-same}
use Rattle.check_answers.proofs.Setting.{with-matches}
use Rattle.check_answers.proofs.Statements.{adds-stmt-leads, pieces-equal}
use Rattle.check_answers.proofs.StmtWriting.{match-written}
use Rattle.check_answers.proofs.Words.{new-slot-leads}
use Rattle.check_answers.proofs.Zips.{zip-but, zip-last, zip-map, zip-one}

module _ (m n : Atoms) (twins : TwinAtoms m n) where
  abbrev B : Pairs
  B = Before m n

  abbrev A : Pairs
  A = Behind m n

  abbrev E : Ty → Ty → Type 0
  E = D m n

  abbrev V : Ty → Ty → Type 0
  V = W m n

  abbrev WeakFlows : Flow → Flow → Type 0
  WeakFlows = FlowTwins E V

  flow-weak : (f g : Flow) → FlowTwins E E f g → FlowTwins E V f g
  flow-weak f g h = flow-map E E E V (λ a b k. k) (settled-twins m n) f g h

  -- ---- several ways that meet

  module _ (F : Pairs) (at : (s t : State) → F s t → (s.atoms ≡ m) × (t.atoms ≡ n)) where
    two-leads : (f g a b : Flow) → WeakFlows f a → WeakFlows g b → Leads F F WeakFlows (joins_two f g) (joins_two a b)
    two-leads f g a b h i = leads-over m n F WeakFlows _ _ at (λ c d p q. joins-twin m n f g c a b d h i p q)

    from-leads : (f a : Flow) (fs gs : List Flow) → WeakFlows f a → AllZip WeakFlows fs gs → Leads F F WeakFlows (joins_from f fs) (joins_from a gs)
    from-leads f a [] [] h i = leads-gives F WeakFlows f a h
    from-leads f a (g ∷ fs) (b ∷ gs) h i = leads-then F F F WeakFlows WeakFlows _ _ _ _ (two-leads f g a b h i.0) (λ c d j. from-leads c d fs gs j i.1)
    from-leads f a [] (b ∷ gs) h i = absurd i
    from-leads f a (g ∷ fs) [] h i = absurd i

    stopped-same : (f g : Flow) → WeakFlows f g → WeakFlows (stopped f) (stopped g)
    stopped-same f g h = record { variables = h.variables; reached = refl }

    all-leads : (f a : Flow) (fs gs : List Flow) → WeakFlows f a → AllZip WeakFlows fs gs → Leads F F WeakFlows (joins_all f fs) (joins_all a gs)
    all-leads f a [] [] h i = leads-gives F WeakFlows _ _ (stopped-same f a h)
    all-leads f a (g ∷ fs) (b ∷ gs) h i = from-leads g b fs gs i.0 i.1
    all-leads f a [] (b ∷ gs) h i = absurd i
    all-leads f a (g ∷ fs) [] h i = absurd i

  -- ---- the ways of a match

  ways-same : (b c : Bool) (k l : MatchAtWork) → c ≡ b → MatchTwins E E k l → AllZip WeakFlows (with_no_clause b k) (with_no_clause c l)
  ways-same true true k l e h =
      zip-map (FlowTwins E E) WeakFlows flow-weak _ _ (zip-one (FlowTwins E E) k.ends l.ends _ _ h.ends (matched-same m n twins E k.on l.on k.left l.left k.before l.before h.on h.left h.before))
  ways-same false false k l e h = zip-map (FlowTwins E E) WeakFlows flow-weak k.ends l.ends h.ends
  ways-same true false k l e h = absurd (cc)
  ways-same false true k l e h = absurd (cc)

  match-same : (a b : ℕ) (e f : TypedExpr) (cs ds : List TypedClause) (at : Place) (s t : TypedStmt) → b ≡ a → PartTwins E E e f → AllZip (ClauseTwins E) cs ds
      → IsMatch a e cs at s → IsMatch b f ds at t → StmtTwins E s t
  match-same a b e f cs ds at s t i h k x y =
      pieces-equal E _ _ _ _ (match-written a e cs at s x) (match-written b f ds at t y)
      (ap (λ j. say.IsMatch j at) i, (whole-same E e f h, joined-same E clause_pieces cs ds k))

  module _ (passes : List AtomDef → Asked → TypeLimit → Type 0) (s t : State) (p : B s t) where
    abbrev P : Pairs
    P = WithParts s.found t.found B

    abbrev N : Pairs
    N = WithParts s.found t.found A

    left-leads : (any : Bool) (k l : MatchAtWork) → MatchTwins E E k l → Leads P P Equal (some_is_left passes any k.left k.at) (some_is_left passes any l.left l.at)
    left-leads true k l h = leads-gives P Equal false false refl
    left-leads false k l h =
        subst (λ i. Leads P P Equal (some_is_left passes false k.left k.at) (some_is_left passes false l.left i)) (sym h.at)
        (has-some-leads passes m n P (λ i j q. before-atoms m n i j q.0) (sem_of k.left) (sem_of l.left) (Some k.at) h.left.twins.shapes)

    closed-at : (i j : State) → These s t i j → P (record i { matches = all_but 1 i.matches }) (record j { matches = all_but 1 j.matches })
    closed-at i j e =
        subst (λ (k : State). P (record k { matches = all_but 1 k.matches }) (record j { matches = all_but 1 j.matches })) (sym e.0)
        (subst (λ (k : State). P (record s { matches = all_but 1 s.matches }) (record k { matches = all_but 1 k.matches })) (sym e.1) (
          record {
            first = p.first;
            second = p.second;
            states = with-matches E E s t p.states _ _ (zip-but (MatchTwins E E) 1 s.matches t.matches p.states.matches);
          },
          refl,
          refl,
        ))

    closes-leads : Leads (These s t) P (MatchTwins E E) closes_match closes_match
    closes-leads =
        leads-then (These s t) (These s t) P (MatchTwins E E) (MatchTwins E E) _ _ _ _
        (these-some s t (MatchTwins E E) _ _ (λ a b x y. zip-last (MatchTwins E E) s.matches t.matches a b p.states.matches x y))
        (λ k l h. leads-then (These s t) P P Any2 (MatchTwins E E) _ _ _ _ (leads-becomes (These s t) P _ _ closed-at)
        (λ x y z. leads-gives P (MatchTwins E E) k l h))

    pub makes-match-leads : (any : Bool) (at : Place) → Leads (These s t) A Any2 (makes_match passes any at) (makes_match passes any at)
    makes-match-leads any at =
        leads-then (These s t) P A (MatchTwins E E) Any2 _ _ _ _ closes-leads
        (λ k l h. leads-then P P A Equal Any2 _ _ _ _ (left-leads any k l h)
        (λ b c e. leads-then P P A WeakFlows Any2 _ _ _ _
        (all-leads P (λ i j q. before-atoms m n i j q.0) k.before l.before (with_no_clause b k) (with_no_clause c l) (flow-weak k.before l.before h.before) (ways-same b c k l e h))
        (λ f g i. leads-then P N A Any2 Any2 _ _ _ _ (sets-wider m n s.found t.found p.states.found f g i)
        (λ a1 a2 a3. leads-then N A A (PartTwins E E) Any2 _ _ _ _ (part-kept m n E V s.found t.found p.states.found)
        (λ u v o. leads-then A A A Equal Any2 _ _ _ _ (new-slot-leads m n E V (type_of u) (type_of v) o.ty.twins)
        (λ x y z. adds-stmt-leads m n V _ _ (λ c1 c2 q r. match-same x y u v k.clauses l.clauses at c1 c2 z o h.clauses q r)))))))
