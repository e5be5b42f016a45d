-- Mapping constructors and error constructors.
use Rattle.std.proofs.Common.{◌≡◌, ◌≤◌, ◌∙◌, ◌++◌, ◌+◌, ◌*◌, inr, ℕ, false, List, [], ◌∷◌, length, map, All, Option, Some, None, IfSome, append-nil, append_assoc, arith, refl, sym, ap}
use Rattle.std.specs.Global.{Box}
use Rattle.std.proofs.lemmas.List.Elements.{All-cons, All-head, All-nil, All-tail}
use Rattle.bal_base.specs.declared.place.Place.{Place}
use Rattle.bal_base.specs.declared.text.Text.{Text}
use Rattle.descriptors.specs.declared.names.Names.{Names}
use Rattle.needs.specs.Needs.{in_turn}
use Rattle.operations.specs.Rows.{Surroundings}
use Rattle.type_model.specs.declared.answers.TypeLimit.{TypeLimit}
use Rattle.type_model.specs.declared.atoms.AtomDef.{AtomDef}
use Rattle.type_model.specs.Calls.{Asked}
use Rattle.typed_tree.specs.declared.expr.TypedExpr.{TypedExpr}
use Rattle.typed_tree.specs.Listed.{one, ◌&◌}
use Rattle.expr_needs.specs.declared.kind.Kind.TheVariants as kind
use Rattle.expr_needs.specs.ExprTable.{Reading, against, cause_needs, details_needs, error_needs, freely, mapping_needs, seen_of}
use Rattle.expr_needs.specs.Needs.{MemberSeen, BeginsKeys, ChoosesMapping, LacksCause, MakesError, MakesMapping}
use Rattle.check_words.specs.Constructors.{at_work}
use Rattle.check_words.specs.State.{ConstructorAtWork, State}
use Rattle.typed_needs.specs.Asked.{IsOfIt}
use Rattle.typed_needs.specs.Between.{IsKept, IsSoFar, IsTypedUnit, units_in}
use Rattle.typed_needs.specs.Placing.{AreNamed}
use Rattle.calm_needs.specs.Calm.{AllNeedsAreCalm, NeedsAreCalm}
use Rattle.typed_calls.specs.Errors.{AllErrorsAreTyped, ErrorsAreTyped, Pair, parts_of}
use Rattle.typed_calls.specs.Mappings.{AllMappingsAreTyped, MappingsAreTyped}
use Rattle.typed_exprs.specs.Constructors.{AllConstructorsAreTyped, ConstructorsAreTyped, HoldsDetailsOf, HoldsMembersOf, KnowsDetail, KnowsMember, KnowsPair}
use Rattle.typed_exprs.specs.Lines.{Claim, Knows, Path, Run}
use Rattle.typed_exprs.proofs.Lists.{list}
use Rattle.typed_exprs.proofs.Loops.{Chain, chain-path, chained, go, more-units, no-units, none-made, units-more}
use Rattle.typed_exprs.proofs.Operands.{Operand, against-left, against-typed, two-found, two-units}
use Rattle.typed_exprs.proofs.Operators.{calm-so, made-step, of-kind-ready, step-path}
use Rattle.typed_exprs.proofs.Pairs.{HoldsPairs, computed, detail, member, pair-path, pair-taken, text, word}
use Rattle.typed_exprs.proofs.Steps.{before, calm-keeps, parted, so-far}

seen-keys : (ms : List Reading) → map (λ (m : Reading). m.key) ms ≡ map (λ (m : MemberSeen). m.key) (map seen_of ms)
seen-keys [] = refl
seen-keys (m ∷ ms) = ap (λ (ks : List (Option Text)). m.key ∷ ks) (seen-keys ms)

all-for : (passes : List AtomDef → Asked → TypeLimit → Type 0) (names : Names) (env : List AtomDef) (seen : List MemberSeen) (ms : List Reading) → All (KnowsMember passes names env) ms
    → All (KnowsPair passes names env (HoldsMembersOf passes names env seen)) ms
all-for passes names env seen [] h = All-nil _
all-for passes names env seen (m ∷ ms) h =
    All-cons (KnowsPair passes names env (HoldsMembersOf passes names env seen)) m ms (All-head (KnowsMember passes names env) m ms h seen)
    (all-for passes names env seen ms (All-tail (KnowsMember passes names env) m ms h))

twice-many : (ps : List Pair) → length (parts_of ps) ≡ 2 * length ps
twice-many [] = refl
twice-many (p ∷ ps) = let more = twice-many ps in omega (arith, more)

module _ (passes : List AtomDef → Asked → TypeLimit → Type 0) (names : Names) (env : List AtomDef) (calm : NeedsAreCalm passes names) (all-errors : AllErrorsAreTyped passes)
    (all-mappings : AllMappingsAreTyped passes) where
  abbrev Held : (List Reading → ConstructorAtWork → List Pair → Type 0) → Surroundings → State → List Reading → State → Type 0
  Held Holds = HoldsPairs passes names env calm all-errors all-mappings Holds

  -- pairs, where a constructor was opened
  all-pairs : (Holds : List Reading → ConstructorAtWork → List Pair → Type 0) (place : Surroundings) → AreNamed env names place → (base : State) (ds : List Reading)
      → All (KnowsPair passes names env Holds) ds → (a b : State) → 1 ≤ length a.units → Chain passes names env freely ds a b → IsSoFar env place b → Held Holds place base [] a → Held Holds place base ds b
  all-pairs Holds place named base ds known a b unit chain far begun =
      go passes names env freely place (KnowsPair passes names env Holds) (pair-path passes names env calm all-errors all-mappings Holds) (Held Holds place base)
      (pair-taken passes names env calm all-errors all-mappings Holds place named base) ds [] known a b unit chain far begun

  begin : (Holds : List Reading → ConstructorAtWork → List Pair → Type 0) (place : Surroundings) (old a : State) (c : ConstructorAtWork)
      → a ≡ record old { constructors = old.constructors ++ c ∷ [] } → IsKept place a → Holds [] c [] → Held Holds place old [] a
  begin Holds place old a c is kept holds =
      record {
        c = c;
        constructors = ap (λ (s : State). s.constructors) is;
        pairs = [];
        found = ap (λ (s : State). s.found) is ∙ sym (append-nil old.found);
        many = refl;
        typed = tt;
        units = All-nil (IsTypedUnit env place);
        kept = kept;
        holds = holds;
      }

  mapping : (ms : List Reading) (at : Place) → All (KnowsMember passes names env) ms → Claim passes names env (λ e. mapping_needs ms at e)
  mapping ms at known e place old new ready run kept far named =
      let seen : List MemberSeen = map seen_of ms in
      let count : ℕ = length ms in
      let known' = all-for passes names env seen ms known in
      let (b, rb, sm) = parted passes names env (one (ChoosesMapping e seen at) & in_turn freely ms) (one (MakesMapping count at)) old new run in
      let (a, sa, ri) = parted passes names env (one (ChoosesMapping e seen at)) (in_turn freely ms) old b rb in
      let chain = chained passes names env freely ms a b ri in
      let path-a = step-path passes names env calm (ChoosesMapping e seen at) tt old a sa in
      let unit-a = more-units old a path-a ready.unit in
      let path-b = chain-path passes names env freely place (KnowsPair passes names env (HoldsMembersOf passes names env seen))
      (pair-path passes names env calm all-errors all-mappings (HoldsMembersOf passes names env seen)) ms known' a b unit-a chain in
      let far-b = so-far env place b new (step-path passes names env calm (MakesMapping count at) tt b new sm) far in
      let far-old = so-far env place old a path-a (so-far env place a b path-b far-b) in
      let mappings : MappingsAreTyped passes names env place = all-mappings names env place in
      let (c, is, none, members, required) = mappings.chosen e seen at old a far-old.first sa.0 in
      let kept-a = calm-keeps place old a (calm-so passes names env calm (ChoosesMapping e seen at) tt old a sa) sa.1 kept in
      let h = all-pairs (HoldsMembersOf passes names env seen) place named old ms known' a b unit-a chain far-b
      (begin (HoldsMembersOf passes names env seen) place old a c is kept-a (record { members = members; required = required; keys = none })) in
      let kept-new = calm-keeps place b new (calm-so passes names env calm (MakesMapping count at) tt b new sm) sm.1 h.kept in
      let twice : length (parts_of h.pairs) ≡ 2 * count = (let all = twice-many h.pairs in let many = h.many in omega (arith, all, many)) in
      made-step passes names env calm (MakesMapping count at) tt place (2 * count) (parts_of h.pairs) old b new h.found twice h.units h.kept sm
      (mappings.made count at b new h.c seen h.pairs (before env place b h.kept far-b) (before env place new kept-new far) far.first sm.0
      (record { kept = old.constructors; is = h.constructors }) h.many (record { kept = old.found; is = h.found; many = twice }) h.typed
      (h.holds.keys ∙ seen-keys ms) h.holds.required h.holds.members)

  -- ---- errors

  -- the cause, or nil in its place
  cause-path : (c : Option (Box Reading)) → IfSome c (λ x. Knows passes names env x.value) → (at : Place) (old new : State) → 1 ≤ length old.units
      → Run passes names env (cause_needs c at) old new → Path old new
  cause-path None kc at old new unit run = step-path passes names env calm (LacksCause at) tt old new run
  cause-path (Some x) kc at old new unit run = (against-left passes names env kind.ErrorOrNil x.value kc old new (record { unit = unit; wants = tt }) run).path

  cause-typed : (c : Option (Box Reading)) → IfSome c (λ x. Knows passes names env x.value) → (at : Place) (place : Surroundings) (old new : State) → 1 ≤ length old.units
      → Run passes names env (cause_needs c at) old new → IsKept place old → IsSoFar env place new → AreNamed env names place
      → Operand passes names env place (IsOfIt passes names env kind.ErrorOrNil) old new
  cause-typed None kc at place old new unit s kept far named =
      let errors : ErrorsAreTyped passes names env place = all-errors names env place in
      let kept-new = calm-keeps place old new (calm-so passes names env calm (LacksCause at) tt old new s) s.1 kept in
      let l = errors.lacking at old new (before env place new kept-new far) s.0 in
      record {
        part = l.part;
        found = l.found;
        typed = l.typed;
        units = none-made env place (l.part ∷ []) (no-units old new (l.part ∷ []) l.found (calm-so passes names env calm (LacksCause at) tt old new s).units);
        kept = kept-new;
        holds = λ x i. inr (l.nil x i);
      }
  cause-typed (Some x) kc at place old new unit run kept far named =
      against-typed passes names env kind.ErrorOrNil x.value kc place old new (record { unit = unit; wants = tt }) run kept far named

  error : (m : Reading) (c : Option (Box Reading)) (ds : List Reading) (at : Place) → Knows passes names env m → IfSome c (λ x. Knows passes names env x.value)
      → All (KnowsDetail passes names env) ds → Claim passes names env (λ e. error_needs m c ds at)
  error m c ds at km kc known e place old new ready run kept far named =
      let count : ℕ = length ds in
      let (k, front, back) = parted passes names env (against kind.Text m & cause_needs c at) (details_needs ds at) old new run in
      let (j, rm, rc) = parted passes names env (against kind.Text m) (cause_needs c at) old k front in
      let (b, rd, sm) = parted passes names env (one BeginsKeys & in_turn freely ds) (one (MakesError count at)) k new back in
      let (a, sa, ri) = parted passes names env (one BeginsKeys) (in_turn freely ds) k b rd in
      let chain = chained passes names env freely ds a b ri in
      let ready-m = of-kind-ready passes names env calm e kind.Text old ready in
      let left-m = against-left passes names env kind.Text m km old j ready-m rm in
      let unit-j = more-units old j left-m.path ready.unit in
      let path-k = cause-path c kc at j k unit-j rc in
      let unit-k = more-units j k path-k unit-j in
      let path-a = step-path passes names env calm BeginsKeys tt k a sa in
      let unit-a = more-units k a path-a unit-k in
      let path-b = chain-path passes names env freely place (KnowsDetail passes names env) (pair-path passes names env calm all-errors all-mappings (HoldsDetailsOf passes names env)) ds known a b unit-a chain in
      let far-b = so-far env place b new (step-path passes names env calm (MakesError count at) tt b new sm) far in
      let far-k = so-far env place k a path-a (so-far env place a b path-b far-b) in
      let far-j = so-far env place j k path-k far-k in
      let x = against-typed passes names env kind.Text m km place old j ready-m rm kept far-j named in
      let y = cause-typed c kc at place j k unit-j rc x.kept far-k named in
      let errors : ErrorsAreTyped passes names env place = all-errors names env place in
      let is = errors.begun k a sa.0 in
      let kept-a = calm-keeps place k a (calm-so passes names env calm BeginsKeys tt k a sa) sa.1 y.kept in
      let h = all-pairs (HoldsDetailsOf passes names env) place named k ds known a b unit-a chain far-b
      (begin (HoldsDetailsOf passes names env) place k a (at_work None false) is kept-a (record { fit = tt; distinct = tt })) in
      let front-found : k.found ≡ old.found ++ x.part ∷ y.part ∷ [] = two-found passes names env old j k x.part y.part x.found y.found in
      let parts : List TypedExpr = x.part ∷ y.part ∷ parts_of h.pairs in
      let found : b.found ≡ old.found ++ parts = h.found ∙ ap (λ xs. xs ++ parts_of h.pairs) front-found ∙ append_assoc old.found (x.part ∷ y.part ∷ []) (parts_of h.pairs) in
      let twice : length parts ≡ 2 + 2 * count = (let all = twice-many h.pairs in let many = h.many in omega (arith, all, many)) in
      let units : All (IsTypedUnit env place) (units_in parts) =
      units-more env place (x.part ∷ y.part ∷ []) (parts_of h.pairs) (two-units passes names env place x.part y.part x.units y.units) h.units in
      let kept-new = calm-keeps place b new (calm-so passes names env calm (MakesError count at) tt b new sm) sm.1 h.kept in
      made-step passes names env calm (MakesError count at) tt place (2 + 2 * count) parts old b new found twice units h.kept sm
      (errors.made count at b new h.c x.part y.part h.pairs (before env place new kept-new far) far.first sm.0 (record { kept = k.constructors; is = h.constructors }) h.many
      (record { kept = old.found; is = found; many = twice }) (x.typed, (y.typed, h.typed)) x.holds y.holds h.holds)

  constructors-are-typed : ConstructorsAreTyped passes names env
  constructors-are-typed =
      record {
        list = list passes names env calm;
        word = word passes names env calm all-errors all-mappings;
        text = text passes names env calm all-errors all-mappings;
        computed = computed passes names env calm all-errors all-mappings;
        member = member passes names env calm all-errors all-mappings;
        mapping = mapping;
        detail = detail passes names env calm all-errors all-mappings;
        error = error;
      }

pub all-constructors-are-typed : (passes : List AtomDef → Asked → TypeLimit → Type 0) → AllNeedsAreCalm passes → AllErrorsAreTyped passes → AllMappingsAreTyped passes
    → AllConstructorsAreTyped passes
all-constructors-are-typed passes calm all-errors all-mappings names env = constructors-are-typed passes names env (calm names) all-errors all-mappings
