-- Matches: two runs of each need agree.
use Rattle.std.proofs.Common.{◌≡◌, ◌++◌, Bool, true, false, List, [], ◌∷◌, option_map, Option, None, Some, refl, sym, subst, ap, ◌∙◌}
use Rattle.std.specs.List.{AllZip}
use Rattle.bal_base.specs.declared.fault.FaultCode.TheVariants.{NameAsValue, Unknown}
use Rattle.bal_base.specs.declared.place.Place.{Place}
use Rattle.bal_base.specs.declared.text.Name.{Name}
use Rattle.bal_tree.specs.declared.name.QualifiedName.{QualifiedName}
use Rattle.bal_tree.specs.declared.stmt.Pattern.{Pattern}
use Rattle.bal_tree.specs.declared.stmt.Pattern.TheVariants as pattern
use Rattle.descriptors.specs.declared.names.Meaning.{Meaning}
use Rattle.descriptors.specs.declared.names.Meaning.TheVariants as meaning
use Rattle.descriptors.specs.declared.names.Names.{Names}
use Rattle.flow_narrowing.specs.declared.flow.Flow.{Flow}
use Rattle.flow_narrowing.specs.declared.flow.Variable.{Variable}
use Rattle.operations.specs.declared.operation.Constant.{Constant}
use Rattle.type_model.specs.declared.answers.TypeLimit.{TypeLimit}
use Rattle.type_model.specs.declared.atoms.AtomDef.{AtomDef}
use Rattle.type_model.specs.declared.basic.Ty.{Ty}
use Rattle.type_model.specs.Calls.{Asked}
use Rattle.typed_tree.specs.declared.stmt.TypedClause.{TypedClause}
use Rattle.typed_tree.specs.declared.stmt.TypedPattern.{TypedPattern}
use Rattle.typed_tree.specs.declared.stmt.TypedStmt.{TypedStmt}
use Rattle.typed_tree.specs.SharedTypes.{Shared}
use Rattle.check_words.specs.Branches.{IsOneOf, adds_pattern, begins_clause, begins_match, ends_clause, has_pattern, last_match, matched_as, meaning_pattern, opens_match, place_of_value, seen_pattern, sets_match, value_constant, variable_of_name}
use Rattle.check_words.specs.Joins.{narrows_to}
use Rattle.check_words.specs.Sharing.{SameMatch, SameOption}
use Rattle.check_words.specs.State.{MatchAtWork}
use Rattle.check_words.specs.StmtViews.{IsClause}
use Rattle.check_words.specs.Words.{Atoms}
use Rattle.check_answers.specs.Pieces as say
use Rattle.check_answers.specs.Pieces.{SamePieces, stmt_pieces}
use Rattle.check_answers.specs.TwinStates.{BlockTwins, ClauseTwins, FlowTwins, MatchTwins, SharedTwins, VariableTwins}
use Rattle.check_answers.specs.TwinTypes.{TwinAtoms, TwinTypes}
use Rattle.check_answers.proofs.Handed.{match-handed}
use Rattle.check_answers.proofs.Leading.{Any2, Leads, Pairs, leads-becomes, leads-fails, leads-from, leads-handles, leads-over, leads-some, leads-then}
use Rattle.check_answers.proofs.Mapping.{flow-map, match-map}
use Rattle.check_answers.proofs.Meanings.{same-twin}
use Rattle.check_answers.proofs.Named.{by-seen, constant-in-leads, looks-leads}
use Rattle.check_answers.proofs.Narrowing.{flow-retyped, narrows-leads}
use Rattle.check_answers.proofs.Questions.{Before, Behind, D, Equal, W, before-atoms, before-behind, settled-twins}
use Rattle.check_answers.proofs.Seeing.{named-found}
use Rattle.check_answers.proofs.Setting.{with-matches, with-ways}
use Rattle.check_answers.proofs.Statements.{closes-block-leads, pieces-equal, stmts-same}
use Rattle.check_answers.proofs.StmtWriting.{clause-written}
use Rattle.check_answers.proofs.Words.{At, flow-leads, part-leads, sets-flow-leads}
use Rattle.check_answers.proofs.Zips.{zip-last, zip-one, zip-other}

module _ (m n : Atoms) (twins : TwinAtoms m n) where
  abbrev B : Pairs
  B = Before m n

  abbrev A : Pairs
  A = Behind m n

  abbrev E : Ty → Ty → Type 0
  E = D m n

  abbrev V : Ty → Ty → Type 0
  V = W m n

  -- ---- the match at hand

  module _ (R : Ty → Ty → Type 0) where
    abbrev F : Pairs
    F = At m n E R

    match-leads : Leads F F (MatchTwins E R) last_match last_match
    match-leads = leads-some F _ _ _ (λ s t a b p x y. zip-last (MatchTwins E R) s.matches t.matches a b p.states.matches x y)

    sets-match-leads : (k l : MatchAtWork) → MatchTwins E R k l → Leads F F Any2 (sets_match k) (sets_match l)
    sets-match-leads k l h =
        leads-then F F F (MatchTwins E R) Any2 _ _ _ _ (leads-handles F _ SameMatch SameMatch k l (λ a b p q. match-handed E R k l a b h p q))
        (λ a b i. leads-becomes F F _ _ (λ s t p. record {
          first = p.first;
          second = p.second;
          states = with-matches E R s t p.states _ _ (zip-other (MatchTwins E R) s.matches t.matches a b p.states.matches i);
        }))

  -- ---- how a match begins

  opens-match-leads : (k l : MatchAtWork) → MatchTwins E E k l → Leads B B Any2 (opens_match k) (opens_match l)
  opens-match-leads k l h =
      leads-then B B B (MatchTwins E E) Any2 _ _ _ _ (leads-handles B _ SameMatch SameMatch k l (λ a b p q. match-handed E E k l a b h p q))
      (λ a b i. leads-becomes B B _ _ (λ s t p. record {
        first = p.first;
        second = p.second;
        states = let q = with-matches E E s t p.states _ _ (zip-one (MatchTwins E E) s.matches t.matches a b p.states.matches i) in with-ways E E _ _ q None None tt;
      }))

  name-same : (o p : Option Variable) → SameOption (VariableTwins E E) o p → option_map (λ (v : Variable). v.name) p ≡ option_map (λ (v : Variable). v.name) o
  name-same None None h = refl
  name-same (Some v) (Some u) h = ap Some h.name
  name-same None (Some u) h = absurd h
  name-same (Some v) None h = absurd h

  by-name : (vs us : List Variable) (name : Option QualifiedName) → AllZip (VariableTwins E E) vs us
      → SameOption (VariableTwins E E) (variable_of_name vs name) (variable_of_name us name)
  by-name vs us None h = tt
  by-name vs us (Some q) h = named-found E E vs us q h

  pub begins-match-leads : (name : Option QualifiedName) (at : Place) → Leads B B Any2 (begins_match name at) (begins_match name at)
  begins-match-leads name at =
      leads-then B B B _ Any2 _ _ _ _ (part-leads m n E E)
      (λ e f h. leads-then B B B _ Any2 _ _ _ _ (flow-leads m n E E)
      (λ g i k. opens-match-leads _ _ (record {
        at = refl;
        on = name-same _ _ (by-name g.variables i.variables name k.variables);
        before = k;
        left = h.ty;
        patterns = refl;
        clauses = tt;
        ends = tt;
      })))

  -- ---- patterns

  with-pattern : (k l : MatchAtWork) (c d : Option Constant) (at : Place) → d ≡ c → MatchTwins E E k l
      → MatchTwins E E (record k { patterns = k.patterns ++ record { value = c; at = at } ∷ [] }) (record l { patterns = l.patterns ++ record { value = d; at = at } ∷ [] })
  with-pattern k l c d at e h =
      record {
        at = h.at;
        on = h.on;
        before = h.before;
        left = h.left;
        patterns = ap (λ ps. ps ++ record { value = d; at = at } ∷ []) h.patterns ∙ ap (λ v. k.patterns ++ record { value = v; at = at } ∷ []) e;
        clauses = h.clauses;
        ends = h.ends;
      }

  pattern-leads : (c d : Option Constant) (at : Place) → d ≡ c → Leads B B Any2 (adds_pattern c at) (adds_pattern d at)
  pattern-leads c d at e =
      leads-then B B B _ Any2 _ _ _ _ (match-leads E) (λ k l h. sets-match-leads E _ _ (with-pattern k l c d at e h))

  meaning-leads : (k : Meaning) (at : Place) → Leads B B Any2 (meaning_pattern k at) (meaning_pattern k at)
  meaning-leads (meaning.Constant t) at =
      leads-then B B B Equal Any2 _ _ _ _ (constant-in-leads m n twins t) (λ c d e. pattern-leads (Some c) (Some d) at (ap Some e))
  meaning-leads (meaning.TypeName t) at = leads-fails B B Any2 Unknown at
  meaning-leads (meaning.Variable number final t) at = leads-fails B B Any2 Unknown at
  meaning-leads (meaning.Function f) at = leads-fails B B Any2 Unknown at

  pub has-pattern-leads : (names : Names) (p : Pattern) → Leads B B Any2 (has_pattern names p) (has_pattern names p)
  has-pattern-leads names (pattern.Any at) = pattern-leads None None at refl
  has-pattern-leads names (pattern.Value v) = pattern-leads (Some (value_constant v)) (Some (value_constant v)) (place_of_value v) refl
  has-pattern-leads names (pattern.Name q) =
      leads-then B B B _ Any2 _ _ _ _ (looks-leads m n twins names q)
      (by-seen m n twins B B Any2 (λ seen. seen_pattern seen q.at) (λ seen. seen_pattern seen q.at) (λ v u h. leads-fails B B Any2 Unknown q.at)
      (λ w. leads-fails B B Any2 NameAsValue q.at) (λ c. pattern-leads (Some c) (Some c) q.at refl) (λ r. leads-fails B B Any2 Unknown q.at)
      (λ k. meaning-leads k q.at) (λ code. leads-fails B B Any2 code q.at))

  -- ---- clauses

  flow-weak : (f g : Flow) → FlowTwins E E f g → FlowTwins E V f g
  flow-weak f g h = flow-map E E E V (λ a b k. k) (settled-twins m n) f g h

  match-weak : (k l : MatchAtWork) → MatchTwins E E k l → MatchTwins E V k l
  match-weak k l h = match-map E E E V (λ a b i. i) (settled-twins m n) k l h

  pub matched-same : (R : Ty → Ty → Type 0) (o p : Option Name) (t u : Shared) (f g : Flow) → p ≡ o → SharedTwins E R t u → FlowTwins E R f g
      → FlowTwins E R (matched_as o t f) (matched_as p u g)
  matched-same R None None t u f g e h k = k
  matched-same R (Some a) (Some b) t u f g e h k =
      let i : b ≡ a = cc in subst (λ x. FlowTwins E R (matched_as (Some a) t f) (matched_as (Some x) u g)) (sym i) (flow-retyped E R a (Some t) (Some u) f g k h)
  matched-same R None (Some b) t u f g e h k = absurd (cc)
  matched-same R (Some a) None t u f g e h k = absurd (cc)

  one-of-same : (ps qs : List TypedPattern) (a b : Ty) → qs ≡ ps → IsOneOf ps m a → IsOneOf qs n b → V a b
  one-of-same ps qs a b e x y = same-twin m n _ a b x (subst (λ k. IsOneOf k n b) e y)

  with-left : (k l : MatchAtWork) (t u : Shared) → SharedTwins E V t u → MatchTwins E V k l → MatchTwins E V (record k { left = t }) (record l { left = u })
  with-left k l t u h i =
      record { at = i.at; on = i.on; before = i.before; left = h; patterns = i.patterns; clauses = i.clauses; ends = i.ends }

  module _ (passes : List AtomDef → Asked → TypeLimit → Type 0) where
    at-same : (s t u v : Shared) (a b : Place) → b ≡ a → TwinTypes m n s.value u.value → TwinTypes m n t.value v.value
        → Leads B B (λ p q. TwinTypes m n p.0.value q.0.value × TwinTypes m n p.1.value q.1.value) (narrows_to passes s t a) (narrows_to passes u v b)
    at-same s t u v a b e h k =
        subst (λ i. Leads B B (λ p q. TwinTypes m n p.0.value q.0.value × TwinTypes m n p.1.value q.1.value) (narrows_to passes s t a) (narrows_to passes u v i)) (sym e)
        (narrows-leads m n passes B s t u v a (before-atoms m n) h k)

    pub begins-clause-leads : (any : Bool) → Leads B A Any2 (begins_clause passes any) (begins_clause passes any)
    begins-clause-leads true =
        leads-then B B A _ Any2 _ _ _ _ (match-leads E)
        (λ k l h. leads-from B A A Any2 _ _ (before-behind m n)
        (sets-flow-leads m n E V _ _ (flow-weak _ _ (matched-same E k.on l.on k.left l.left k.before l.before h.on h.left h.before))))
    begins-clause-leads false =
        leads-then B B A _ Any2 _ _ _ _ (match-leads E)
        (λ k l h. leads-then B B A (SharedTwins E V) Any2 _ _ _ _
        (leads-over m n B _ _ _ (before-atoms m n) (λ t u x y. one-of-same k.patterns l.patterns t.value u.value h.patterns x y))
        (λ t u i. leads-then B B A _ Any2 _ _ _ _ (at-same k.left t l.left u k.at l.at h.at h.left.twins i)
        (λ p q j. leads-from B A A Any2 _ _ (before-behind m n) (leads-then A A A Any2 Any2 _ _ _ _
        (sets-match-leads V _ _ (with-left k l p.1 q.1 j.1 (match-weak k l h)))
        (λ x y z. sets-flow-leads m n E V _ _ (matched-same V k.on l.on p.0 q.0 k.before l.before h.on j.0 (flow-weak k.before l.before h.before)))))))

  clause-same : (ps qs : List TypedPattern) (ss ts : List TypedStmt) (at : Place) (c d : TypedClause) → qs ≡ ps → AllZip (λ s t. SamePieces E (stmt_pieces s) (stmt_pieces t)) ss ts
      → IsClause ps ss at c → IsClause qs ts at d → ClauseTwins E c d
  clause-same ps qs ss ts at c d e h x y =
      pieces-equal E _ _ _ _ (clause-written ps ss at c x) (clause-written qs ts at d y) (ap (λ k. say.IsClause k at) e, stmts-same m n ss ts h)

  with-clause : (k l : MatchAtWork) (c d : TypedClause) (f g : Flow) → ClauseTwins E c d → FlowTwins E E f g → MatchTwins E E k l
      → MatchTwins E E (record k { patterns = []; clauses = k.clauses ++ c ∷ []; ends = k.ends ++ f ∷ [] }) (record l { patterns = []; clauses = l.clauses ++ d ∷ []; ends = l.ends ++ g ∷ [] })
  with-clause k l c d f g h i j =
      record {
        at = j.at;
        on = j.on;
        before = j.before;
        left = j.left;
        patterns = refl;
        clauses = zip-one (ClauseTwins E) k.clauses l.clauses c d j.clauses h;
        ends = zip-one (FlowTwins E E) k.ends l.ends f g j.ends i;
      }

  pub ends-clause-leads : (at : Place) → Leads B B Any2 (ends_clause at) (ends_clause at)
  ends-clause-leads at =
      leads-then B B B _ Any2 _ _ _ _ (flow-leads m n E E)
      (λ f g h. leads-then B B B (BlockTwins E) Any2 _ _ _ _ (closes-block-leads m n E)
      (λ b d i. leads-then B B B _ Any2 _ _ _ _ (match-leads E)
      (λ k l j. leads-then B B B (ClauseTwins E) Any2 _ _ _ _
      (leads-some B _ _ _ (λ s t x y p v w. clause-same k.patterns l.patterns b.stmts d.stmts at x y j.patterns i.stmts v w))
      (λ x y z. sets-match-leads E _ _ (with-clause k l x y f g z h j)))))
