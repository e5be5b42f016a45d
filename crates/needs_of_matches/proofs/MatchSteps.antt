-- Matches, as answers of calls.
use Rattle.std.proofs.Common.{◌≡◌, ◌++◌, ◌∙◌, ℕ, List, [], ◌∷◌, length, All, Option, None, Ok, option_map, refl, sym, subst, ap}
use Rattle.std.specs.List.{AllZip}
use Rattle.std.proofs.lemmas.List.Elements.{All-nil, AllZip-push}
use Rattle.bal_base.specs.declared.place.Place.{Place}
use Rattle.bal_base.specs.declared.text.Name.{Name}
use Rattle.bal_tree.specs.declared.name.QualifiedName.{QualifiedName}
use Rattle.checks.specs.Checks.{Comes}
use Rattle.flow_narrowing.specs.declared.flow.Flow.{Flow}
use Rattle.flow_narrowing.specs.declared.flow.Variable.{Variable}
use Rattle.operations.specs.declared.operation.Constant.{Constant}
use Rattle.typed_tree.specs.declared.expr.TypedExpr.{TypedExpr}
use Rattle.typed_tree.specs.declared.stmt.TypedClause.{TypedClause}
use Rattle.typed_tree.specs.declared.stmt.TypedPattern.{TypedPattern}
use Rattle.typed_tree.specs.Exprs.{type_of}
use Rattle.typed_tree.specs.SharedTypes.{Shared}
use Rattle.check_words.specs.Branches.{adds_pattern, begins_match, ends_clause, last_match, sets_match, variable_of_name}
use Rattle.check_words.specs.Sharing.{SameFlow, SameMatch, SameShared}
use Rattle.check_words.specs.Stands.{FlowBelow, MatchBelow, PartBelow, Stands}
use Rattle.check_words.specs.State.{BlockAtWork, IsLast, MatchAtWork, State, UnitAtWork}
use Rattle.check_words.specs.Statements.{closes_block}
use Rattle.check_words.specs.StmtViews.{IsClause}
use Rattle.check_words.specs.Words.{flow_now}
use Rattle.check_words.proofs.Coming.{became-this, given, handed, next}
use Rattle.check_words.proofs.Entering.{unit-stands}
use Rattle.check_words.proofs.Flowing.{flow-now}
use Rattle.check_words.proofs.LastOnes.{kept-is}
use Rattle.check_words.proofs.Same.{same-flow, same-list}
use Rattle.check_words.proofs.Standing.{also-has, flow-below, front-have, last-has, shared-below, stands-matches, stands-ways}

-- ---- the last one

module _ {A : Type 0} where
  same-tail : (x y : A) (xs ys : List A) → x ∷ xs ≡ y ∷ ys → xs ≡ ys
  same-tail x y xs ys e = cc

  same-end : (kept : List A) (a b : A) → kept ++ a ∷ [] ≡ kept ++ b ∷ [] → a ≡ b
  same-end [] a b e = cc
  same-end (x ∷ kept) a b e = same-end kept a b (same-tail x x _ _ e)

  pub same-last : (xs : List A) (a b : A) → IsLast xs a → IsLast xs b → a ≡ b
  same-last xs a b l m =
      let kept : l.kept ≡ m.kept = sym (kept-is 1 xs l.kept (a ∷ []) l.is refl) ∙ kept-is 1 xs m.kept (b ∷ []) m.is refl in
      same-end m.kept a b (subst (λ ks. ks ++ a ∷ [] ≡ m.kept ++ b ∷ []) kept (sym l.is ∙ m.is))

-- ---- a clause more

pub ended-match : (m n x : MatchAtWork) (clause : TypedClause) (end : Flow) → n ≡ record m { patterns = [] } → x ≡ record n { clauses = n.clauses ++ clause ∷ []; ends = n.ends ++ end ∷ [] }
    → x ≡ record m { patterns = []; clauses = m.clauses ++ clause ∷ []; ends = m.ends ++ end ∷ [] }
ended-match m n x clause end left is = is ∙ ap {A = MatchAtWork} {B = MatchAtWork} (λ (k : MatchAtWork). record k { clauses = k.clauses ++ clause ∷ []; ends = k.ends ++ end ∷ [] }) left

-- ---- the match at hand

module _ (s : State) (opened : List MatchAtWork) (m : MatchAtWork) (are : s.matches ≡ opened ++ m ∷ []) where
  pub match-now : Comes last_match s (Ok m) s
  match-now = given _ s m (record { kept = opened; is = are })

  pub match-set : (n x : MatchAtWork) → SameMatch n x → (ms : List MatchAtWork) → ms ≡ opened ++ x ∷ [] → Comes (sets_match n) s (Ok tt) (record s { matches = ms })
  match-set n x same ms more =
      next _ _ _ _ _ x s (handed SameMatch s n x same)
      (became-this _ s (record s { matches = ms })
      (ap (λ xs. record s { matches = xs }) (more ∙ ap (λ xs. xs ++ x ∷ []) (sym (kept-is 1 s.matches opened (m ∷ []) are refl)))))

  pub match-below : Stands s → MatchBelow (length s.atoms) m
  match-below h = last-has (MatchBelow (length s.atoms)) s.matches m (record { kept = opened; is = are }) h.matches

  pub match-stands : (x : MatchAtWork) (ms : List MatchAtWork) → ms ≡ opened ++ x ∷ [] → MatchBelow (length s.atoms) x → Stands s → Stands (record s { matches = ms })
  match-stands x ms more below h =
      let n : ℕ = length s.atoms in
      stands-matches s h ms
      (subst (All (MatchBelow n)) (sym more) (also-has (MatchBelow n) opened x (front-have (MatchBelow n) opened (m ∷ []) (subst (All (MatchBelow n)) are h.matches)) below))

  -- ---- patterns

  module _ (value : Option Constant) (at : Place) (ps : List TypedPattern) (ms : List MatchAtWork) (is : ps ≡ m.patterns ++ record { value = value; at = at } ∷ [])
      (more : ms ≡ opened ++ record m { patterns = ps } ∷ []) where
    pub pattern-comes : Comes (adds_pattern value at) s (Ok tt) (record s { matches = ms })
    pattern-comes =
        next _ _ _ _ _ m s match-now
        (match-set (record m { patterns = m.patterns ++ record { value = value; at = at } ∷ [] }) (record m { patterns = ps })
        (record {
          at = refl;
          on = refl;
          before = same-flow m.before;
          left = refl;
          patterns = is;
          clauses = refl;
          ends = same-list SameFlow same-flow m.ends;
        }) ms more)

    pub pattern-stands : Stands s → Stands (record s { matches = ms })
    pattern-stands h = let below = match-below h in match-stands (record m { patterns = ps }) ms more (record { before = below.before; left = below.left; ends = below.ends }) h

  -- ---- where a clause ends

  module _ (end : Flow) (ps : List TypedPattern) (cs : List TypedClause) (es : List Flow) (ms : List MatchAtWork) (clause : TypedClause) (none : ps ≡ [])
      (clauses : cs ≡ m.clauses ++ clause ∷ []) (ends : es ≡ m.ends ++ end ∷ []) (more : ms ≡ opened ++ record m { patterns = ps; clauses = cs; ends = es } ∷ []) where
    pub clause-comes : (old : State) (at : Place) (f : Flow) (b : BlockAtWork) → Comes flow_now old (Ok f) old → Comes closes_block old (Ok b) s → SameFlow f end
        → IsClause m.patterns b.stmts at clause → Comes (ends_clause at) old (Ok tt) (record s { matches = ms })
    clause-comes old at f b now closed same is =
        next _ _ _ _ _ f old now
        (next _ _ _ _ _ b s closed
        (next _ _ _ _ _ m s match-now
        (next _ _ _ _ _ clause s (given _ s clause is)
        (match-set (record m { patterns = []; clauses = m.clauses ++ clause ∷ []; ends = m.ends ++ f ∷ [] }) (record m { patterns = ps; clauses = cs; ends = es })
        (record {
          at = refl;
          on = refl;
          before = same-flow m.before;
          left = refl;
          patterns = none;
          clauses = clauses;
          ends = subst (AllZip SameFlow (m.ends ++ f ∷ [])) (sym ends) (AllZip-push SameFlow m.ends m.ends f end (same-list SameFlow same-flow m.ends) same);
        }) ms more))))

    pub clause-stands : FlowBelow (length s.atoms) end → Stands s → Stands (record s { matches = ms })
    clause-stands below h =
        let n : ℕ = length s.atoms in
        let all = match-below h in
        match-stands (record m { patterns = ps; clauses = cs; ends = es }) ms more
        (record { before = all.before; left = all.left; ends = subst (All (FlowBelow n)) (sym ends) (also-has (FlowBelow n) m.ends end all.ends below) }) h

-- ---- where a match begins

pub named-by : (vs ws : List Variable) (name : Option QualifiedName) (on : Option Name) → vs ≡ ws → on ≡ option_map (λ v. v.name) (variable_of_name vs name)
    → on ≡ option_map (λ v. v.name) (variable_of_name ws name)
named-by vs ws name on e h = subst (λ (us : List Variable). on ≡ option_map (λ v. v.name) (variable_of_name us name)) e h

module _ (s : State) (kept : List UnitAtWork) (u : UnitAtWork) (is : s.units ≡ kept ++ u ∷ []) (name : Option QualifiedName) (at : Place) (e : TypedExpr) (left : Shared) (before : Flow)
    (on : Option Name) (m : MatchAtWork) (ms : List MatchAtWork) (last : IsLast s.found e) (typed : SameShared (type_of e) left) (known : SameFlow u.flow before)
    (named : on ≡ option_map (λ v. v.name) (variable_of_name u.flow.variables name))
    (opened : m ≡ record { at = at; on = on; before = before; left = left; patterns = []; clauses = []; ends = [] }) (more : ms ≡ s.matches ++ m ∷ []) where
  abbrev begun : MatchAtWork
  begun =
      record {
        at = at;
        on = option_map (λ v. v.name) (variable_of_name u.flow.variables name);
        before = u.flow;
        left = type_of e;
        patterns = [];
        clauses = [];
        ends = [];
      }

  pub begun-comes : Comes (begins_match name at) s (Ok tt) (record s { matches = ms; ways = None })
  begun-comes =
      next _ _ _ _ _ e s (given _ s e last)
      (next _ _ _ _ _ u.flow s (flow-now s kept u is)
      (next _ _ _ _ _ m s
      (handed SameMatch s begun m
      (subst (SameMatch begun) (sym opened) (record { at = refl; on = named; before = known; left = typed; patterns = refl; clauses = refl; ends = tt })))
      (became-this _ s (record s { matches = ms; ways = None }) (ap (λ xs. record s { matches = xs; ways = None }) more))))

  pub begun-stands : Stands s → Stands (record s { matches = ms; ways = None })
  begun-stands h =
      let n : ℕ = length s.atoms in
      let below : MatchBelow n m =
      subst (MatchBelow n) (sym opened)
      (record {
        before = flow-below n u.flow before known (unit-stands s h kept u is).flow;
        left = shared-below n (type_of e) left typed (last-has (PartBelow n) s.found e last h.found);
        ends = All-nil (FlowBelow n);
      }) in
      stands-matches (record s { ways = None }) (stands-ways s h None tt) ms (subst (All (MatchBelow n)) (sym more) (also-has (MatchBelow n) s.matches m h.matches below))
