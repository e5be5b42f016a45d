-- Matches: what is known of variables before them, and behind their clauses, is kept.
use Rattle.std.proofs.Common.{All, Bool, List, None, Option, Some, [], ap, inl, refl, subst, sym, true, false, ◌++◌, ◌∙◌, ◌∷◌, ◌≡◌}
use Rattle.std.proofs.lemmas.List.Elements.{All-append, All-cons, All-head, All-nil, All-tail}
use Rattle.std.specs.List.{AllZip}
use Rattle.bal_base.specs.declared.fault.FaultCode.{FaultCode}
use Rattle.bal_base.specs.declared.fault.FaultCode.TheVariants.{NameAsValue, Unknown}
use Rattle.bal_base.specs.declared.place.Place.{Place}
use Rattle.bal_base.specs.declared.text.Name.{Name}
use Rattle.bal_tree.specs.declared.name.QualifiedName.{QualifiedName}
use Rattle.bal_tree.specs.declared.stmt.Pattern.TheVariants as pattern
use Rattle.bal_tree.specs.declared.stmt.Pattern.{Pattern}
use Rattle.calm_needs.proofs.Calming.{on-beside}
use Rattle.calm_needs.proofs.Ways.{flow-by-handles, flow-known, joined-stored}
use Rattle.calm_needs.proofs.Flows.{join-of, of-handles, of-narrowed}
use Rattle.calm_needs.specs.Calm.{HandSees, IsFlowOf, IsStoredAt}
use Rattle.check_words.specs.Branches.{adds_pattern, begins_clause, begins_match, ends_clause, has_pattern, joins_all, makes_match, matched_as, meaning_pattern, place_of_value, seen_pattern, value_constant, with_no_clause}
use Rattle.check_words.specs.Joins.{joins_from, narrows_to}
use Rattle.check_words.specs.Seen.{Seen, SeenConstant, SeenLibrary, SeenMeaning, SeenNothing, SeenVariable, SeenWorker}
use Rattle.check_words.specs.Sharing.{SameFlow, SameMatch}
use Rattle.check_words.specs.State.{BlockAtWork, IsLast, MatchAtWork, State, UnitAtWork, all_but, replaced}
use Rattle.check_words.specs.Statements.{adds_stmt, takes_part}
use Rattle.check_words.specs.StmtViews.{IsMatch}
use Rattle.check_words.specs.Words.{Step, by_handles, fails, new_slot}
use Rattle.checks.specs.Checks.{Check, Gives, gives_some, refuses, ◌▷◌}
use Rattle.descriptors.specs.declared.names.Meaning.TheVariants as meaning
use Rattle.descriptors.specs.declared.names.Meaning.{Meaning}
use Rattle.descriptors.specs.declared.names.Names.{Names}
use Rattle.flow_narrowing.specs.declared.flow.Flow.{Flow}
use Rattle.flow_narrowing.specs.declared.flow.Variable.{Variable}
use Rattle.needs.specs.Needs.{does}
use Rattle.operations.specs.Rows.{Surroundings}
use Rattle.operations.specs.declared.operation.Constant.{Constant}
use Rattle.type_model.specs.Calls.{Asked}
use Rattle.type_model.specs.declared.answers.TypeLimit.{TypeLimit}
use Rattle.type_model.specs.declared.atoms.AtomDef.{AtomDef}
use Rattle.typed_bodies.proofs.Aside.{Aside, IsAside, Stays, aside-asking, aside-looks-up, aside-some, aside-then, flow-stays, set-sees}
use Rattle.typed_bodies.specs.Claims.{MatchIsKept}
use Rattle.typed_bodies.proofs.Onward.{IsMoved, Onward, moved-on, moved-sets-flow, onward-adds, onward-new-slot, onward-takes-part, onward-then}
use Rattle.typed_needs.proofs.Placed.{all-but-last, last-same}
use Rattle.typed_needs.proofs.Questions.{where-false-behind}
use Rattle.typed_needs.specs.Between.{FlowIsStored}
use Rattle.typed_needs.specs.Placing.{AreStored}
use Rattle.typed_stmts.proofs.Keeping.{by-name, set-stored, stored-beside}
use Rattle.typed_stmts.proofs.Matching.{all-joined-leaves, match-closed, some-left-leaves}
use Rattle.typed_stmts.proofs.Words.{block-closed, flow-seen, flow-set}
use Rattle.typed_tree.specs.Exprs.{type_of}
use Rattle.typed_tree.specs.SharedTypes.{Shared}
use Rattle.typed_tree.specs.declared.stmt.TypedClause.{TypedClause, out-TypedClause}

module _ (place : Surroundings) where
  flows-same : (fs gs : List Flow) → AllZip SameFlow fs gs → All (FlowIsStored place) fs → All (FlowIsStored place) gs
  flows-same [] [] same h = All-nil (FlowIsStored place)
  flows-same (f ∷ fs) (g ∷ gs) same h =
      All-cons (FlowIsStored place) g gs (flow-by-handles place f g same.0 (All-head (FlowIsStored place) f fs h)) (flows-same fs gs same.1 (All-tail (FlowIsStored place) f fs h))
  flows-same [] (g ∷ gs) same h = absurd same
  flows-same (f ∷ fs) [] same h = absurd same

  match-by-handles : (m n : MatchAtWork) → SameMatch m n → MatchIsKept place m → MatchIsKept place n
  match-by-handles m n same h = record { before = flow-by-handles place m.before n.before same.before h.before; ends = flows-same m.ends n.ends same.ends h.ends }

  matched-stored : (on : Option Name) (t : Shared) (f : Flow) → FlowIsStored place f → FlowIsStored place (matched_as on t f)
  matched-stored None t f h = h
  matched-stored (Some name) t f h = by-name place f.variables name (Some t) h

  joins-known : (f : Flow) (gs : List Flow) (r : Flow) (old new : State) → joins_from f gs old (Gives r) new → FlowIsStored place f → FlowIsStored place r
  unfolding ◌▷◌ gives_some
  joins-known f [] r old new (is, e) h = subst (λ x. FlowIsStored place x) (sym is) h
  joins-known f (g ∷ gs) r old new (x, mid, (join, e), rest) h = joins-known x gs r mid new rest (joined-stored place old.atoms f g x join h)

  all-known : (before : Flow) (fs : List Flow) (r : Flow) (old new : State) → joins_all before fs old (Gives r) new → FlowIsStored place before → All (FlowIsStored place) fs
      → FlowIsStored place r
  unfolding gives_some
  all-known before [] r old new (is, e) h all = subst (λ x. FlowIsStored place x) (sym is) h
  all-known before (f ∷ fs) r old new x h all = joins-known f fs r old new x (All-head (FlowIsStored place) f fs all)

  with-no-clause : (left : Bool) (m : MatchAtWork) → MatchIsKept place m → All (FlowIsStored place) (with_no_clause left m)
  with-no-clause true m h =
      All-append (FlowIsStored place) m.ends (matched_as m.on m.left m.before ∷ []) h.ends
      (All-cons (FlowIsStored place) (matched_as m.on m.left m.before) [] (matched-stored m.on m.left m.before h.before) (All-nil (FlowIsStored place)))
  with-no-clause false m h = h.ends

-- ---- and of the same variables

-- what is known before a match, and behind its clauses, is of these variables
pub record MatchOf (vs : List Variable) (m : MatchAtWork) : Type 0 where
  pub before : IsFlowOf vs m.before
  pub ends : All (IsFlowOf vs) m.ends

module _ (vs : List Variable) where
  flows-of : (fs gs : List Flow) → AllZip SameFlow fs gs → All (IsFlowOf vs) fs → All (IsFlowOf vs) gs
  flows-of [] [] same h = All-nil (IsFlowOf vs)
  flows-of (f ∷ fs) (g ∷ gs) same h =
      All-cons (IsFlowOf vs) g gs (of-handles vs f g same.0 (All-head (IsFlowOf vs) f fs h)) (flows-of fs gs same.1 (All-tail (IsFlowOf vs) f fs h))
  flows-of [] (g ∷ gs) same h = absurd same
  flows-of (f ∷ fs) [] same h = absurd same

  match-of-handles : (m n : MatchAtWork) → SameMatch m n → MatchOf vs m → MatchOf vs n
  match-of-handles m n same h = record { before = of-handles vs m.before n.before same.before h.before; ends = flows-of m.ends n.ends same.ends h.ends }

  matched-of : (on : Option Name) (t : Shared) (f : Flow) → IsFlowOf vs f → IsFlowOf vs (matched_as on t f)
  matched-of None t f h = h
  matched-of (Some name) t f h = of-narrowed vs f.variables name (Some t) h

  joins-of : (f : Flow) (gs : List Flow) (r : Flow) (old new : State) → joins_from f gs old (Gives r) new → IsFlowOf vs f → IsFlowOf vs r
  unfolding ◌▷◌ gives_some
  joins-of f [] r old new (is, e) h = subst (λ x. IsFlowOf vs x) (sym is) h
  joins-of f (g ∷ gs) r old new (x, mid, (join, e), rest) h = joins-of x gs r mid new rest (join-of vs old.atoms f g x join h)

  all-of : (before : Flow) (fs : List Flow) (r : Flow) (old new : State) → joins_all before fs old (Gives r) new → IsFlowOf vs before → All (IsFlowOf vs) fs → IsFlowOf vs r
  unfolding gives_some
  all-of before [] r old new (is, e) h all = subst (λ x. IsFlowOf vs x) (sym is) h
  all-of before (f ∷ fs) r old new x h all = joins-of f fs r old new x (All-head (IsFlowOf vs) f fs all)

  no-clause-of : (left : Bool) (m : MatchAtWork) → MatchOf vs m → All (IsFlowOf vs) (with_no_clause left m)
  no-clause-of true m h =
      All-append (IsFlowOf vs) m.ends (matched_as m.on m.left m.before ∷ []) h.ends
      (All-cons (IsFlowOf vs) (matched_as m.on m.left m.before) [] (matched-of m.on m.left m.before h.before) (All-nil (IsFlowOf vs)))
  no-clause-of false m h = h.ends

-- ---- the match at hand changes, and more is known by now

-- `kept`: the matches around it
pub record IsOnMatch (kept : List MatchAtWork) (was : MatchAtWork) (old new : State) : Type 0 where
  pub moved : IsMoved old new
  pub found : new.found ≡ old.found
  pub blocks : new.blocks ≡ old.blocks
  pub choices : new.choices ≡ old.choices
  pub now : MatchAtWork
  pub matches : new.matches ≡ kept ++ now ∷ []
  pub clauses : now.clauses ≡ was.clauses
  pub known : (place : Surroundings) → MatchIsKept place was → MatchIsKept place now
  pub stored : (place : Surroundings) → MatchIsKept place was → IsStoredAt place old → IsStoredAt place new
  pub seen : (vs : List Variable) → MatchOf vs was → MatchOf vs now
  pub sees : (vs : List Variable) → MatchOf vs was → HandSees vs old → HandSees vs new

abbrev pub OnMatch : {A : Type 0} → Check State A → Type 0
OnMatch {A} m = (kept : List MatchAtWork) (was : MatchAtWork) (old new : State) (a : A) → old.matches ≡ kept ++ was ∷ [] → m old (Gives a) new → IsOnMatch kept was old new

pub on-match-on : (kept : List MatchAtWork) (was : MatchAtWork) (r s t : State) → (f : IsOnMatch kept was r s) → IsOnMatch kept f.now s t → IsOnMatch kept was r t
on-match-on kept was r s t f g =
    record {
      moved = moved-on r s t f.moved g.moved;
      found = g.found ∙ f.found;
      blocks = g.blocks ∙ f.blocks;
      choices = g.choices ∙ f.choices;
      now = g.now;
      matches = g.matches;
      clauses = g.clauses ∙ f.clauses;
      known = λ place h. g.known place (f.known place h);
      stored = λ place h stored. g.stored place (f.known place h) (f.stored place h stored);
      seen = λ vs h. g.seen vs (f.seen vs h);
      sees = λ vs h hand. g.sees vs (f.seen vs h) (f.sees vs h hand);
    }

on-match-aside : (kept : List MatchAtWork) (was : MatchAtWork) (r s t : State) → IsAside r s → IsOnMatch kept was s t → IsOnMatch kept was r t
on-match-aside kept was r s t f g =
    record {
      moved = moved-on r s t (record { on = f.stays.on; site = f.stays.site }) g.moved;
      found = g.found ∙ f.stays.found;
      blocks = g.blocks ∙ f.stays.blocks;
      choices = g.choices ∙ f.stays.choices;
      now = g.now;
      matches = g.matches;
      clauses = g.clauses;
      known = g.known;
      stored = λ place h stored. g.stored place h (f.stored place stored);
      seen = g.seen;
      sees = λ vs h hand. g.sees vs h (f.sees vs hand);
    }

behind-aside : {A B : Type 0} (m : Check State A) (next : A → Check State B) → Aside m → ((a : A) → OnMatch (next a)) → OnMatch (m ▷ next)
unfolding ◌▷◌
behind-aside m next f g kept was old new b e (a, mid, x, y) =
    let p = f old mid a x in on-match-aside kept was old mid new p (g a kept was mid new b (p.stays.matches ∙ e) y)

on-match-fails : {A : Type 0} (code : FaultCode) (at : Place) → OnMatch (fails {A = A} code at)
unfolding refuses
on-match-fails code at kept was old new a e x = absurd x

-- where only the match at hand changes
set-match : (kept : List MatchAtWork) (was m n : MatchAtWork) (old new : State) → old.matches ≡ kept ++ was ∷ [] → SameMatch m n → new ≡ record old { matches = replaced old.matches n }
    → m.clauses ≡ was.clauses → m.before ≡ was.before → m.ends ≡ was.ends → IsOnMatch kept was old new
set-match kept was m n old new e same all clauses before ends =
    record {
      moved = record { on = on-beside old new (ap (λ (s : State). s.atoms) all) (ap (λ (s : State). s.units) all); site = ap (λ (s : State). s.site) all };
      found = ap (λ (s : State). s.found) all;
      blocks = ap (λ (s : State). s.blocks) all;
      choices = ap (λ (s : State). s.choices) all;
      now = n;
      matches = ap (λ (s : State). s.matches) all ∙ ap (λ ms. replaced ms n) e ∙ ap (λ ms. ms ++ n ∷ []) (all-but-last kept was);
      clauses = same.clauses ∙ clauses;
      known = λ place h. match-by-handles place m n same
          (record { before = subst (λ f. FlowIsStored place f) (sym before) h.before; ends = subst (λ fs. All (FlowIsStored place) fs) (sym ends) h.ends });
      stored = λ place h stored. stored-beside place old new (ap (λ (s : State). s.units) all) (inl (ap (λ (s : State). s.ways) all)) stored;
      seen = λ vs h. match-of-handles vs m n same
          (record { before = subst (λ f. IsFlowOf vs f) (sym before) h.before; ends = subst (λ fs. All (IsFlowOf vs) fs) (sym ends) h.ends });
      sees = λ vs h hand u last. hand u (subst (λ us. IsLast us u) (ap (λ (s : State). s.units) all) last);
    }

adds-pattern : (c : Option Constant) (at : Place) → OnMatch (adds_pattern c at)
unfolding ◌▷◌ gives_some by_handles does
adds-pattern c at kept was old new u e (m, s1, (last, e1), (n, s2, (same, e2), e3)) =
    let is : m ≡ was = last-same old.matches m was last (record { kept = kept; is = e }) in
    set-match kept was (record m { patterns = m.patterns ++ record { value = c; at = at } ∷ [] }) n old new e same
    (e3 ∙ ap (λ (s : State). record s { matches = replaced s.matches n }) (e2 ∙ e1)) (ap (λ (x : MatchAtWork). x.clauses) is) (ap (λ (x : MatchAtWork). x.before) is)
    (ap (λ (x : MatchAtWork). x.ends) is)

meaning-pattern : (x : Meaning) (at : Place) → OnMatch (meaning_pattern x at)
meaning-pattern (meaning.Constant t) at = behind-aside _ _ (aside-some _) (λ c. adds-pattern (Some c) at)
meaning-pattern (meaning.TypeName t) at = on-match-fails Unknown at
meaning-pattern (meaning.Variable number final t) at = on-match-fails Unknown at
meaning-pattern (meaning.Function f) at = on-match-fails Unknown at

seen-pattern : (seen : Seen) (at : Place) → OnMatch (seen_pattern seen at)
seen-pattern (SeenVariable v) at = on-match-fails Unknown at
seen-pattern (SeenWorker w) at = on-match-fails NameAsValue at
seen-pattern (SeenConstant c) at = adds-pattern (Some c) at
seen-pattern (SeenLibrary r) at = on-match-fails Unknown at
seen-pattern (SeenMeaning m) at = meaning-pattern m at
seen-pattern (SeenNothing code) at = on-match-fails code at

pub on-match-pattern : (names : Names) (p : Pattern) → OnMatch (has_pattern names p)
on-match-pattern names (pattern.Any at) = adds-pattern None at
on-match-pattern names (pattern.Value v) = adds-pattern (Some (value_constant v)) (place_of_value v)
on-match-pattern names (pattern.Name q) = behind-aside _ _ (aside-looks-up names q) (λ seen. seen-pattern seen q.at)

-- ---- clauses that begin: the flow before the match comes back, and more is known of what is matched

flow-on : (kept : List MatchAtWork) (was : MatchAtWork) (f : Flow) (old new : State) → old.matches ≡ kept ++ was ∷ [] → Stays old new
    → ((place : Surroundings) → MatchIsKept place was → IsStoredAt place new) → ((vs : List Variable) → MatchOf vs was → HandSees vs new) → IsOnMatch kept was old new
flow-on kept was f old new e stays stored sees =
    record {
      moved = record { on = stays.on; site = stays.site };
      found = stays.found;
      blocks = stays.blocks;
      choices = stays.choices;
      now = was;
      matches = stays.matches ∙ e;
      clauses = refl;
      known = λ place h. h;
      stored = λ place h before. stored place h;
      seen = λ vs h. h;
      sees = λ vs h hand. sees vs h;
    }

module _ (passes : List AtomDef → Asked → TypeLimit → Type 0) where
  aside-narrows : (s t : Shared) (at : Place) → Aside (narrows_to passes s t at)
  aside-narrows s t at = aside-then _ _ (aside-some _) (λ u. aside-then _ _ (aside-asking _ (where-false-behind passes s.value t.value at)) (λ v. aside-some _))

  pub on-match-clause : (any : Bool) → OnMatch (begins_clause passes any)
  unfolding ◌▷◌ gives_some by_handles does
  on-match-clause true kept was old new u e (m, s1, (last, e1), flowed) =
      let is : m ≡ was = last-same old.matches m was last (record { kept = kept; is = e }) in
      let f : Flow = matched_as m.on m.left m.before in
      let stays : Stays old new = subst (λ (s : State). Stays s new) e1 (flow-stays (λ w. f) s1 new (flow-set f u s1 new flowed)) in
      flow-on kept was f old new e stays
      (λ place h. set-stored place f u s1 new flowed (matched-stored place m.on m.left m.before (subst (λ (x : MatchAtWork). FlowIsStored place x.before) (sym is) h.before)))
      (λ vs h. set-sees vs f s1 new (flow-set f u s1 new flowed) (matched-of vs m.on m.left m.before (subst (λ (x : MatchAtWork). IsFlowOf vs x.before) (sym is) h.before)))
  on-match-clause false kept was old new u e (m, s1, (last, e1), (t, s2, (one, e2), (types, s3, narrowed, (v, s4, (n, s5, (same, e5), e4), flowed)))) =
      let is : m ≡ was = last-same old.matches m was last (record { kept = kept; is = e }) in
      let first = aside-narrows m.left t m.at s2 s3 types narrowed in
      let there : s2 ≡ old = e2 ∙ e1 in
      let put : IsOnMatch kept was s3 s4 =
      set-match kept was (record m { left = types.1 }) n s3 s4 (first.stays.matches ∙ ap (λ (s : State). s.matches) there ∙ e) same
      (e4 ∙ ap (λ (s : State). record s { matches = replaced s.matches n }) e5) (ap (λ (x : MatchAtWork). x.clauses) is) (ap (λ (x : MatchAtWork). x.before) is)
      (ap (λ (x : MatchAtWork). x.ends) is) in
      let so : IsOnMatch kept was old s4 =
      subst (λ (s : State). IsOnMatch kept was s s4) there (on-match-aside kept was s2 s3 s4 first put) in
      let f : Flow = matched_as m.on types.0 m.before in
      let stays : Stays s4 new = flow-stays (λ w. f) s4 new (flow-set f u s4 new flowed) in
      record {
        moved = moved-on old s4 new so.moved (record { on = stays.on; site = stays.site });
        found = stays.found ∙ so.found;
        blocks = stays.blocks ∙ so.blocks;
        choices = stays.choices ∙ so.choices;
        now = so.now;
        matches = stays.matches ∙ so.matches;
        clauses = so.clauses;
        known = so.known;
        stored = λ place h before.
            set-stored place f u s4 new flowed (matched-stored place m.on types.0 m.before (subst (λ (x : MatchAtWork). FlowIsStored place x.before) (sym is) h.before));
        seen = so.seen;
        sees = λ vs h hand.
            set-sees vs f s4 new (flow-set f u s4 new flowed) (matched-of vs m.on types.0 m.before (subst (λ (x : MatchAtWork). IsFlowOf vs x.before) (sym is) h.before));
      }

-- ---- matches that begin

pub record MatchBegun (old new : State) : Type 0 where
  pub begun : MatchAtWork
  pub all : new ≡ record old { matches = old.matches ++ begun ∷ []; ways = None }
  pub clauses : begun.clauses ≡ []
  pub known : (place : Surroundings) → AreStored place old → MatchIsKept place begun
  pub seen : (vs : List Variable) → HandSees vs old → MatchOf vs begun

pub match-begins-so : (name : Option QualifiedName) (at : Place) (old new : State) → begins_match name at old (Gives tt) new → MatchBegun old new
unfolding ◌▷◌ gives_some by_handles does
match-begins-so name at old new (e, s1, (last, e1), (f, s2, seen, (n, s3, (same, e3), e4))) =
    let (w, hand, is, e2) = flow-seen f s1 s2 seen in
    record {
      begun = n;
      all = e4 ∙ ap (λ (s : State). record s { matches = s.matches ++ n ∷ []; ways = None }) (e3 ∙ e2 ∙ e1);
      clauses = same.clauses;
      known = λ place h.
          let flow = (flow-known place f s1 s2 seen (subst (λ (s : State). AreStored place s) (sym e1) h)).0 in
          match-by-handles place _ n same (record { before = flow; ends = All-nil (FlowIsStored place) });
      seen = λ vs h.
          let here : IsFlowOf vs w.flow = h w (subst (λ (s : State). IsLast s.units w) e1 hand) in
          match-of-handles vs _ n same (record { before = subst (λ (g : Flow). IsFlowOf vs g) (sym is) here; ends = All-nil (IsFlowOf vs) });
    }

-- ---- clauses that end: the block at hand is theirs, and what is known behind it waits for the end of the match

pub record ClauseEnded (kept : List MatchAtWork) (was : MatchAtWork) (old new : State) : Type 0 where
  pub block : BlockAtWork
  pub last : IsLast old.blocks block
  pub clause : TypedClause
  pub stmts : (out-TypedClause clause).stmts.items ≡ block.stmts
  pub now : MatchAtWork
  pub all : new ≡ record old { blocks = all_but 1 old.blocks; matches = replaced old.matches now }
  pub matches : new.matches ≡ kept ++ now ∷ []
  pub clauses : now.clauses ≡ was.clauses ++ clause ∷ []
  pub known : (place : Surroundings) → AreStored place old → MatchIsKept place was → MatchIsKept place now
  pub seen : (vs : List Variable) → HandSees vs old → MatchOf vs was → MatchOf vs now

pub clause-ended : (at : Place) (kept : List MatchAtWork) (was : MatchAtWork) (old new : State) → old.matches ≡ kept ++ was ∷ [] → ends_clause at old (Gives tt) new
    → ClauseEnded kept was old new
unfolding ◌▷◌ gives_some by_handles does
clause-ended at kept was old new e (f, s1, seen, (b, s2, closed, (m, s3, (lm, e3), (c, s4, (clause, e4), (n, s5, (same, e5), e6))))) =
    let (w, hand, flow-is, e1) = flow-seen f old s1 seen in
    let (lb, e2) = block-closed b s1 s2 closed in
    let before : s2.matches ≡ old.matches = ap (λ (x : State). x.matches) e2 ∙ ap (λ (x : State). x.matches) e1 in
    let is : m ≡ was = last-same old.matches m was (subst (λ ms. IsLast ms m) before lm) (record { kept = kept; is = e }) in
    let all : new ≡ record old { blocks = all_but 1 old.blocks; matches = replaced old.matches n } =
    e6 ∙ ap (λ (s : State). record s { matches = replaced s.matches n }) (e5 ∙ e4 ∙ e3 ∙ e2 ∙ ap (λ (s : State). record s { blocks = all_but 1 s.blocks }) e1) in
    record {
      block = b;
      last = subst (λ (x : State). IsLast x.blocks b) e1 lb;
      clause = c;
      stmts = clause.1;
      now = n;
      all = all;
      matches = ap (λ (s : State). s.matches) all ∙ ap (λ ms. replaced ms n) e ∙ ap (λ ms. ms ++ n ∷ []) (all-but-last kept was);
      clauses = same.clauses ∙ ap (λ (x : MatchAtWork). x.clauses ++ c ∷ []) is;
      known = λ place h k.
          let flow = (flow-known place f old s1 seen h).0 in
          match-by-handles place _ n same
          (record {
            before = subst (λ (x : MatchAtWork). FlowIsStored place x.before) (sym is) k.before;
            ends = All-append (FlowIsStored place) m.ends (f ∷ []) (subst (λ (x : MatchAtWork). All (FlowIsStored place) x.ends) (sym is) k.ends)
                (All-cons (FlowIsStored place) f [] flow (All-nil (FlowIsStored place)));
          });
      seen = λ vs h k.
          let flow : IsFlowOf vs f = subst (λ (g : Flow). IsFlowOf vs g) (sym flow-is) (h w hand) in
          match-of-handles vs _ n same
          (record {
            before = subst (λ (x : MatchAtWork). IsFlowOf vs x.before) (sym is) k.before;
            ends = All-append (IsFlowOf vs) m.ends (f ∷ []) (subst (λ (x : MatchAtWork). All (IsFlowOf vs) x.ends) (sym is) k.ends)
                (All-cons (IsFlowOf vs) f [] flow (All-nil (IsFlowOf vs)));
          });
    }

-- ---- what is made of a match

abbrev match_end : List TypedClause → Place → Step
match_end cs at = takes_part ▷ λ subject. new_slot (type_of subject) ▷ λ own. adds_stmt (IsMatch own subject cs at)

match-end : (cs : List TypedClause) (at : Place) → Onward (match_end cs at)
match-end cs at = onward-then _ _ onward-takes-part (λ subject. onward-then _ _ (onward-new-slot (type_of subject)) (λ own. onward-adds _))

-- no unit comes, and behind it variables are stored where they were behind its clauses
pub record MatchMade (was : MatchAtWork) (old new : State) : Type 0 where
  pub moved : IsMoved old new
  pub stored : (place : Surroundings) → MatchIsKept place was → IsStoredAt place new
  pub sees : (vs : List Variable) → MatchOf vs was → HandSees vs new

pub match-made : (passes : List AtomDef → Asked → TypeLimit → Type 0) (any : Bool) (at : Place) (was : MatchAtWork) (old new : State) → makes_match passes any at old (Gives tt) new
    → IsLast old.matches was → MatchMade was old new
unfolding ◌▷◌
match-made passes any at was old new (m, s1, closed, (left, s2, asked, (f, s3, joined, (u, s4, flowed, rest)))) last =
    let (lm, e1) = match-closed m old s1 closed in
    let e2 : s2 ≡ s1 = some-left-leaves passes any m.left m.at s1 s2 left asked in
    let e3 : s3 ≡ s2 = all-joined-leaves m.before (with_no_clause left m) s2 s3 f joined in
    let is : m ≡ was = last-same old.matches m was lm last in
    let there : s3 ≡ record old { matches = all_but 1 old.matches } = e3 ∙ e2 ∙ e1 in
    let first : IsMoved old s3 =
    record { on = on-beside old s3 (ap (λ (s : State). s.atoms) there) (ap (λ (s : State). s.units) there); site = ap (λ (s : State). s.site) there } in
    let h = match-end m.clauses at s4 new tt rest in
    record {
      moved = moved-on old s4 new (moved-on old s3 s4 first (moved-sets-flow f s3 s4 u flowed)) h.moved;
      stored = λ place k.
          let k' : MatchIsKept place m = subst (λ (x : MatchAtWork). MatchIsKept place x) (sym is) k in
          h.stored place (set-stored place f u s3 s4 flowed (all-known place m.before (with_no_clause left m) f s2 s3 joined k'.before (with-no-clause place left m k')));
      sees = λ vs k.
          let k' : MatchOf vs m = subst (λ (x : MatchAtWork). MatchOf vs x) (sym is) k in
          h.sees vs (set-sees vs f s3 s4 (flow-set f u s3 s4 flowed) (all-of vs m.before (with_no_clause left m) f s2 s3 joined k'.before (no-clause-of vs left m k')));
    }
