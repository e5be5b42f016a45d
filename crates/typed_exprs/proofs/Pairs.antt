-- Keys and values, pair by pair: members of mappings and details of errors.
use Rattle.std.proofs.Common.{◌≡◌, ◌≤◌, ◌∙◌, ◌++◌, List, [], ◌∷◌, length, All, Some, None, append_assoc, arith, length-append, refl, sym, subst, ap}
use Rattle.std.specs.Global.{Box}
use Rattle.bal_base.specs.declared.place.Place.{Place}
use Rattle.bal_base.specs.declared.text.Text.{Text}
use Rattle.bal_tree.specs.declared.expr.Call.TheOpen as layer
use Rattle.bal_tree.specs.declared.name.Word.{Word}
use Rattle.bal_tree.specs.ExprLayers.{DetailOf, MemberOf}
use Rattle.descriptors.specs.declared.names.Names.{Names}
use Rattle.operations.specs.Rows.{Surroundings}
use Rattle.type_model.specs.declared.answers.TypeLimit.{TypeLimit}
use Rattle.type_model.specs.declared.atoms.AtomDef.{AtomDef}
use Rattle.type_model.specs.Calls.{Asked}
use Rattle.typed_tree.specs.Listed.{one, ◌&◌}
use Rattle.expr_needs.specs.declared.expected.Expected.TheVariants as expected
use Rattle.expr_needs.specs.declared.kind.Kind.TheVariants as kind
use Rattle.expr_needs.specs.ExprTable.{Reading, against, detail_step, freely, key_step, member_step}
use Rattle.expr_needs.specs.Needs.{MemberSeen, ComputesKey, ExpectsMember, GivesKey, IsDetail, IsMember}
use Rattle.expr_needs.specs.Operators.{expectation}
use Rattle.check_words.specs.Constructors.{with_key, with_member}
use Rattle.check_words.specs.State.{ConstructorAtWork, IsLast, State, replaced}
use Rattle.check_laws.specs.Laws.{IsReady}
use Rattle.tree_promises.specs.Made.{AreTypedExprs}
use Rattle.typed_needs.specs.Between.{IsKept, IsSoFar, IsTypedUnit, units_in}
use Rattle.typed_needs.specs.Placing.{AreNamed}
use Rattle.typed_needs.proofs.Items.{map-more}
use Rattle.calm_needs.specs.Calm.{NeedsAreCalm}
use Rattle.typed_calls.specs.Errors.{AllErrorsAreTyped, ErrorsAreTyped, Pair, parts_of}
use Rattle.typed_calls.specs.Mappings.{AllMappingsAreTyped, MappingsAreTyped}
use Rattle.typed_exprs.specs.Constructors.{HoldsDetailsOf, HoldsMembersOf, KnowsDetail, KnowsKey, KnowsMember, KnowsPair, TakesKey, TakesPair}
use Rattle.typed_exprs.specs.Lines.{Knows, Path, Run}
use Rattle.typed_exprs.proofs.Loops.{member-wanted, more-units, no-units, none-made, replaced-last, typed-more, units-more}
use Rattle.typed_exprs.proofs.Operands.{against-left, against-typed, two-found, two-units}
use Rattle.typed_exprs.proofs.Operators.{calm-so, step-path}
use Rattle.typed_exprs.proofs.Steps.{Step, before, calm-keeps, parted, path-on, so-far}

module _ (passes : List AtomDef → Asked → TypeLimit → Type 0) (names : Names) (env : List AtomDef) (calm : NeedsAreCalm passes names) (all-errors : AllErrorsAreTyped passes)
    (all-mappings : AllMappingsAreTyped passes) where
  -- ---- keys

  -- a key that is this text
  given : (place : Surroundings) (text : Text) (at : Place) (old new : State) (c : ConstructorAtWork) → Step passes names env (GivesKey text at) old new → IsKept place old
      → IsSoFar env place new → IsLast old.constructors c → TakesKey passes names env place (Some text) c old new
  given place text at old new c s kept far last =
      let errors : ErrorsAreTyped passes names env place = all-errors names env place in
      let kept-new = calm-keeps place old new (calm-so passes names env calm (GivesKey text at) tt old new s) s.1 kept in
      let g = errors.keys text at old new c (before env place new kept-new far) s.0 last in
      record {
        part = g.part;
        found = g.found;
        typed = g.typed;
        units = none-made env place (g.part ∷ []) (no-units old new (g.part ∷ []) g.found (calm-so passes names env calm (GivesKey text at) tt old new s).units);
        kept = kept-new;
        constructors = g.constructors;
        fresh = g.fresh;
        is = g.single;
      }

  pub word : (w : Word) → KnowsKey passes names env (key_step (layer.Word w))
  word w =
      record {
        moves = λ old new unit run. step-path passes names env calm (GivesKey w.name w.at) tt old new run;
        takes = λ place old new c unit run kept far named last. given place w.name w.at old new c run kept far last;
      }

  pub text : (t : Text) (at : Place) → KnowsKey passes names env (key_step (layer.Str t at))
  text t at =
      record {
        moves = λ old new unit run. step-path passes names env calm (GivesKey t at) tt old new run;
        takes = λ place old new c unit run kept far named last. given place t at old new c run kept far last;
      }

  text-ready : (s : State) → 1 ≤ length s.units → IsReady (expectation kind.Text) s
  text-ready s unit = record { unit = unit; wants = tt }

  computed-path : (a : Reading) → Knows passes names env a → (old new : State) → 1 ≤ length old.units → Run passes names env (against kind.Text a & one ComputesKey) old new → Path old new
  computed-path a ka old new unit run =
      let (m, ra, s) = parted passes names env (against kind.Text a) (one ComputesKey) old new run in
      path-on old m new (against-left passes names env kind.Text a ka old m (text-ready old unit) ra).path (step-path passes names env calm ComputesKey tt m new s)

  computed-taken : (a : Reading) → Knows passes names env a → (place : Surroundings) (old new : State) (c : ConstructorAtWork) → 1 ≤ length old.units
      → Run passes names env (against kind.Text a & one ComputesKey) old new → IsKept place old → IsSoFar env place new → AreNamed env names place → IsLast old.constructors c
      → TakesKey passes names env place None c old new
  computed-taken a ka place old new c unit run kept far named last =
      let (m, ra, s) = parted passes names env (against kind.Text a) (one ComputesKey) old new run in
      let ready = text-ready old unit in
      let left = against-left passes names env kind.Text a ka old m ready ra in
      let far-m = so-far env place m new (step-path passes names env calm ComputesKey tt m new s) far in
      let x = against-typed passes names env kind.Text a ka place old m ready ra kept far-m named in
      let mappings : MappingsAreTyped passes names env place = all-mappings names env place in
      let is = mappings.computed m new c s.0 (subst (λ cs. IsLast cs c) (sym left.more.same.constructors) last) in
      record {
        part = x.part;
        found = ap (λ (t : State). t.found) is ∙ x.found;
        typed = x.typed;
        units = x.units;
        kept = calm-keeps place m new (calm-so passes names env calm ComputesKey tt m new s) s.1 x.kept;
        constructors = ap (λ (t : State). t.constructors) is ∙ ap (λ cs. replaced cs (with_key None c)) left.more.same.constructors;
        fresh = tt;
        is = x.holds;
      }

  pub computed : (a : Box Reading) (at : Place) → Knows passes names env a.value → KnowsKey passes names env (key_step (layer.Computed a at))
  computed a at ka =
      record {
        moves = λ old new unit run. computed-path a.value ka old new unit run;
        takes = λ place old new c unit run kept far named last. computed-taken a.value ka place old new c unit run kept far named last;
      }

  -- ---- members of mappings

  module _ (m : MemberOf Reading) (kk : KnowsKey passes names env m.key) (kv : Knows passes names env m.value.value) where
    abbrev v : Reading
    v = m.value.value

    record MemberRun (old new : State) : Type 0 where
      pub a : State
      pub b : State
      pub d : State
      pub key : Run passes names env (freely m.key) old a
      pub expects : Step passes names env ExpectsMember a b
      pub value : Run passes names env (v.needs expected.Wanted) b d
      pub is : Step passes names env (IsMember v.at) d new

    member-run : (old new : State) → Run passes names env (freely (member_step m)) old new → MemberRun old new
    member-run old new run =
        let (a, rk, rest) = parted passes names env (freely m.key) (one ExpectsMember & v.needs expected.Wanted & one (IsMember v.at)) old new run in
        let (b, se, more) = parted passes names env (one ExpectsMember) (v.needs expected.Wanted & one (IsMember v.at)) a new rest in
        let (d, rv, si) = parted passes names env (v.needs expected.Wanted) (one (IsMember v.at)) b new more in
        record { a = a; b = b; d = d; key = rk; expects = se; value = rv; is = si }

    wanted-ready : (old new : State) (r : MemberRun old new) → 1 ≤ length old.units → IsReady expected.Wanted r.b
    wanted-ready old new r unit =
        record {
          unit = more-units r.a r.b (step-path passes names env calm ExpectsMember tt r.a r.b r.expects) (more-units old r.a (kk.moves old r.a unit r.key) unit);
          wants = member-wanted r.a r.b r.expects.0;
        }

    member-path : (old new : State) → 1 ≤ length old.units → Run passes names env (freely (member_step m)) old new → Path old new
    member-path old new unit run =
        let r = member-run old new run in
        path-on old r.a new (kk.moves old r.a unit r.key) (path-on r.a r.b new (step-path passes names env calm ExpectsMember tt r.a r.b r.expects)
        (path-on r.b r.d new (kv.leaves expected.Wanted r.b r.d (wanted-ready old new r unit) r.value).path (step-path passes names env calm (IsMember v.at) tt r.d new r.is)))

    member-taken : (seen : List MemberSeen) (done : List Reading) (place : Surroundings) (old new : State) (c : ConstructorAtWork) (pairs : List Pair) → 1 ≤ length old.units
        → Run passes names env (freely (member_step m)) old new → IsKept place old → IsSoFar env place new → AreNamed env names place → IsLast old.constructors c
        → HoldsMembersOf passes names env seen done c pairs → TakesPair passes names env (HoldsMembersOf passes names env seen (done ++ member_step m ∷ [])) place pairs old new
    member-taken seen done place old new c pairs unit run kept far named last holds =
        let r = member-run old new run in
        let path-b = step-path passes names env calm ExpectsMember tt r.a r.b r.expects in
        let ready = wanted-ready old new r unit in
        let left = kv.leaves expected.Wanted r.b r.d ready r.value in
        let far-d = so-far env place r.d new (step-path passes names env calm (IsMember v.at) tt r.d new r.is) far in
        let far-b = so-far env place r.b r.d left.path far-d in
        let far-a = so-far env place r.a r.b path-b far-b in
        let x = kk.takes place old r.a c unit r.key kept far-a named last in
        let keyed : ConstructorAtWork = with_key m.key.key c in
        let mappings : MappingsAreTyped passes names env place = all-mappings names env place in
        let last-a : IsLast r.a.constructors keyed = record { kept = last.kept; is = x.constructors ∙ replaced-last old.constructors last.kept c keyed last.is } in
        let (w, is, awaits) = mappings.expected r.a r.b c m.key.key far-a.first r.expects.0 last-a in
        let y = kv.claim expected.Wanted place r.b r.d ready r.value (calm-keeps place r.a r.b (calm-so passes names env calm ExpectsMember tt r.a r.b r.expects) r.expects.1 x.kept) far-d named in
        let same : r.d.constructors ≡ r.a.constructors = left.more.same.constructors ∙ ap (λ (s : State). s.constructors) is in
        let found-d : r.d.found ≡ old.found ++ x.part ∷ y.part ∷ [] =
        two-found passes names env old r.a r.d x.part y.part x.found (y.found ∙ ap (λ (s : State). s.found ++ y.part ∷ []) is) in
        let kept-new = calm-keeps place r.d new (calm-so passes names env calm (IsMember v.at) tt r.d new r.is) r.is.1 y.kept in
        let taken = mappings.taken v.at r.d new c m.key.key x.part y.part w pairs y.kept.standing.env.closed far-d.first (before env place r.d y.kept far-d)
        (before env place new kept-new far) r.is.0 (subst (λ cs. IsLast cs keyed) (sym same) last-a) (record { kept = old.found; is = found-d; many = refl })
        (record { kept = r.a.wants; is = left.more.same.wants ∙ ap (λ (s : State). s.wants) is }) awaits x.fresh x.is holds.members in
        record {
          key = x.part;
          value = y.part;
          found = taken.found ∙ found-d;
          typed = (x.typed, (y.typed, tt));
          units = two-units passes names env place x.part y.part x.units y.units;
          kept = kept-new;
          now = with_member taken.type keyed;
          constructors = taken.constructors ∙ replaced-last r.d.constructors last.kept keyed (with_member taken.type keyed) (same ∙ last-a.is)
              ∙ sym (replaced-last old.constructors last.kept c (with_member taken.type keyed) last.is);
          holds = record {
            members = taken.holds;
            required = holds.required;
            keys = ap (λ ks. ks ++ m.key.key ∷ []) holds.keys ∙ sym (map-more (λ (d : Reading). d.key) done (member_step m));
          };
        }

  pub member : (m : MemberOf Reading) → KnowsKey passes names env m.key → Knows passes names env m.value.value → KnowsMember passes names env (member_step m)
  member m kk kv seen =
      record {
        moves = λ old new unit run. member-path m kk kv old new unit run;
        takes = λ done place old new c pairs unit run kept far named last holds. member-taken m kk kv seen done place old new c pairs unit run kept far named last holds;
      }

  -- ---- details of errors

  module _ (d : DetailOf Reading) (kv : Knows passes names env d.value.value) where
    abbrev w : Reading
    w = d.value.value

    record DetailRun (old new : State) : Type 0 where
      pub a : State
      pub b : State
      pub key : Step passes names env (GivesKey d.name.name d.name.at) old a
      pub value : Run passes names env (freely w) a b
      pub is : Step passes names env (IsDetail w.at) b new

    detail-run : (old new : State) → Run passes names env (freely (detail_step d)) old new → DetailRun old new
    detail-run old new run =
        let (a, sk, rest) = parted passes names env (one (GivesKey d.name.name d.name.at)) (freely w & one (IsDetail w.at)) old new run in
        let (b, rv, si) = parted passes names env (freely w) (one (IsDetail w.at)) a new rest in
        record { a = a; b = b; key = sk; value = rv; is = si }

    value-ready : (old new : State) (r : DetailRun old new) → 1 ≤ length old.units → IsReady expected.Nothing r.a
    value-ready old new r unit = record { unit = more-units old r.a (step-path passes names env calm (GivesKey d.name.name d.name.at) tt old r.a r.key) unit; wants = tt }

    detail-path : (old new : State) → 1 ≤ length old.units → Run passes names env (freely (detail_step d)) old new → Path old new
    detail-path old new unit run =
        let r = detail-run old new run in
        path-on old r.a new (step-path passes names env calm (GivesKey d.name.name d.name.at) tt old r.a r.key)
        (path-on r.a r.b new (kv.leaves expected.Nothing r.a r.b (value-ready old new r unit) r.value).path (step-path passes names env calm (IsDetail w.at) tt r.b new r.is))

    detail-taken : (done : List Reading) (place : Surroundings) (old new : State) (c : ConstructorAtWork) (pairs : List Pair) → 1 ≤ length old.units
        → Run passes names env (freely (detail_step d)) old new → IsKept place old → IsSoFar env place new → AreNamed env names place → IsLast old.constructors c
        → HoldsDetailsOf passes names env done c pairs → TakesPair passes names env (HoldsDetailsOf passes names env (done ++ detail_step d ∷ [])) place pairs old new
    detail-taken done place old new c pairs unit run kept far named last holds =
        let r = detail-run old new run in
        let ready = value-ready old new r unit in
        let left = kv.leaves expected.Nothing r.a r.b ready r.value in
        let far-b = so-far env place r.b new (step-path passes names env calm (IsDetail w.at) tt r.b new r.is) far in
        let far-a = so-far env place r.a r.b left.path far-b in
        let x = given place d.name.name d.name.at old r.a c r.key kept far-a last in
        let y = kv.claim expected.Nothing place r.a r.b ready r.value x.kept far-b named in
        let keyed : ConstructorAtWork = with_key (Some d.name.name) c in
        let last-a : IsLast r.a.constructors keyed = record { kept = last.kept; is = x.constructors ∙ replaced-last old.constructors last.kept c keyed last.is } in
        let last-b : IsLast r.b.constructors keyed = subst (λ cs. IsLast cs keyed) (sym left.more.same.constructors) last-a in
        let errors : ErrorsAreTyped passes names env place = all-errors names env place in
        let (t, is, under, frozen) = errors.details w.at r.b new keyed y.part (before env place r.b y.kept far-b) r.is.0 last-b (record { kept = r.a.found; is = y.found }) in
        let found-b : r.b.found ≡ old.found ++ x.part ∷ y.part ∷ [] = two-found passes names env old r.a r.b x.part y.part x.found y.found in
        record {
          key = x.part;
          value = y.part;
          found = ap (λ (s : State). s.found) is ∙ found-b;
          typed = (x.typed, (y.typed, tt));
          units = two-units passes names env place x.part y.part x.units y.units;
          kept = calm-keeps place r.b new (calm-so passes names env calm (IsDetail w.at) tt r.b new r.is) r.is.1 y.kept;
          now = with_member t keyed;
          constructors = ap (λ (s : State). s.constructors) is ∙ replaced-last r.b.constructors last.kept keyed (with_member t keyed) (left.more.same.constructors ∙ last-a.is)
              ∙ sym (replaced-last old.constructors last.kept c (with_member t keyed) last.is);
          holds = errors.grow c pairs d.name.name t (x.part, y.part) holds x.fresh (x.is, under, frozen);
        }

  pub detail : (d : DetailOf Reading) → Knows passes names env d.value.value → KnowsDetail passes names env (detail_step d)
  detail d kv =
      record {
        moves = λ old new unit run. detail-path d kv old new unit run;
        takes = λ done place old new c pairs unit run kept far named last holds. detail-taken d kv done place old new c pairs unit run kept far named last holds;
      }

  -- ---- pairs, one behind another

  pub parts-more : (ps : List Pair) (p : Pair) → parts_of (ps ++ p ∷ []) ≡ parts_of ps ++ p.0 ∷ p.1 ∷ []
  parts-more [] p = refl
  parts-more (q ∷ ps) p = ap (λ xs. q.0 ∷ q.1 ∷ xs) (parts-more ps p)

  -- what is open holds these pairs, which are the parts behind what there was
  pub record HoldsPairs (Holds : List Reading → ConstructorAtWork → List Pair → Type 0) (place : Surroundings) (base : State) (done : List Reading) (s : State) : Type 0 where
    pub c : ConstructorAtWork
    pub constructors : s.constructors ≡ base.constructors ++ c ∷ []
    pub pairs : List Pair
    pub found : s.found ≡ base.found ++ parts_of pairs
    pub many : length pairs ≡ length done
    pub typed : AreTypedExprs env place (parts_of pairs)
    pub units : All (IsTypedUnit env place) (units_in (parts_of pairs))
    pub kept : IsKept place s
    pub holds : Holds done c pairs

  pub pair-path : (Holds : List Reading → ConstructorAtWork → List Pair → Type 0) (x : Reading) → KnowsPair passes names env Holds x → (old new : State) → 1 ≤ length old.units
      → Run passes names env (freely x) old new → Path old new
  pair-path Holds x kx old new unit run = kx.moves old new unit run

  pub pair-taken : (Holds : List Reading → ConstructorAtWork → List Pair → Type 0) (place : Surroundings) → AreNamed env names place → (base : State) (done : List Reading) (x : Reading)
      → KnowsPair passes names env Holds x → (old new : State) → 1 ≤ length old.units → Run passes names env (freely x) old new → IsSoFar env place new
      → HoldsPairs Holds place base done old → HoldsPairs Holds place base (done ++ x ∷ []) new
  pair-taken Holds place named base done x kx old new unit run far h =
      let t = kx.takes done place old new h.c h.pairs unit run h.kept far named (record { kept = base.constructors; is = h.constructors }) h.holds in
      let parts : parts_of (h.pairs ++ (t.key, t.value) ∷ []) ≡ parts_of h.pairs ++ t.key ∷ t.value ∷ [] = parts-more h.pairs (t.key, t.value) in
      record {
        c = t.now;
        constructors = t.constructors ∙ replaced-last old.constructors base.constructors h.c t.now h.constructors;
        pairs = h.pairs ++ (t.key, t.value) ∷ [];
        found = t.found ∙ ap (λ xs. xs ++ t.key ∷ t.value ∷ []) h.found ∙ append_assoc base.found (parts_of h.pairs) (t.key ∷ t.value ∷ []) ∙ ap (λ xs. base.found ++ xs) (sym parts);
        many = (let l = length-append h.pairs ((t.key, t.value) ∷ []) in let d = length-append done (x ∷ []) in let m = h.many in omega (arith, l, d, m));
        typed = subst (AreTypedExprs env place) (sym parts) (typed-more env place (parts_of h.pairs) (t.key ∷ t.value ∷ []) h.typed t.typed);
        units = subst (λ xs. All (IsTypedUnit env place) (units_in xs)) (sym parts) (units-more env place (parts_of h.pairs) (t.key ∷ t.value ∷ []) h.units t.units);
        kept = t.kept;
        holds = t.holds;
      }
