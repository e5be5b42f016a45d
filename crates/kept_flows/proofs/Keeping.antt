-- Needs behind which the same is known of variables.
use Rattle.std.proofs.Common.{All, Bool, IfSome, List, [], ap, false, subst, sym, true, ◌++◌, ◌∙◌, ◌∷◌, ◌≡◌}
use Rattle.std.proofs.lemmas.List.Elements.{All-head, All-tail}
use Rattle.std.specs.List.{AllZip}
use Rattle.bal_base.specs.declared.place.Place.{Place}
use Rattle.bal_tree.specs.declared.params.Params.{Params}
use Rattle.bal_tree.specs.declared.types.TypeTree.{TypeTree}
use Rattle.calm_needs.proofs.Flows.{flows-then, hand-on, keeps-itself, keeps-on}
use Rattle.calm_needs.specs.Calm.{HandSees, IsCalm, IsCalmNeed, IsFlowOf, KeepsFlows, NeedsAreCalm, SameKnown, TellsOf}
use Rattle.check_words.proofs.Handles.{flow-through}
use Rattle.check_words.proofs.Same.{same-flow}
use Rattle.check_words.specs.Sharing.{SameFlow}
use Rattle.flow_narrowing.specs.declared.flow.Variable.{Variable}
use Rattle.check_words.specs.State.{ChoiceAtWork, IsLast, State, all_but}
use Rattle.checks.specs.Checks.{gives_some}
use Rattle.descriptors.specs.declared.names.Names.{Names}
use Rattle.expr_needs.specs.ExprTable.{Reading, against, anonymous_needs, as_wanted, conditional_needs, freely, signature_needs}
use Rattle.expr_needs.specs.Needs.{BeginsAnonymous, BeginsValue, Chooses, IsOf, IsWanted, MakesAnonymous, Need, Splits, Switches}
use Rattle.expr_needs.specs.Operators.{expectation, made_of}
use Rattle.expr_needs.specs.declared.operators.Family.TheVariants.{Condition}
use Rattle.expr_needs.specs.declared.expected.Expected.TheVariants.{Nothing, Wanted}
use Rattle.expr_needs.specs.declared.expected.Expected.{Expected}
use Rattle.expr_needs.specs.declared.kind.Kind.TheVariants as kind
use Rattle.expr_needs.specs.declared.kind.Kind.{Kind}
use Rattle.kept_flows.proofs.Clearing.{ClearsNeed}
use Rattle.kept_flows.proofs.Entering.{Leaves, Splits as WaySplits, choose, conjoin, disjoin, split, switch}
use Rattle.kept_flows.proofs.Hands.{Others, all-others, others-and-last, others-then}
use Rattle.needs.specs.Needs.{in_turn_from}
use Rattle.operations.specs.Rows.{Surroundings}
use Rattle.type_model.specs.Calls.{Asked}
use Rattle.type_model.specs.declared.answers.TypeLimit.{TypeLimit}
use Rattle.type_model.specs.declared.atoms.AtomDef.{AtomDef}
use Rattle.type_model.specs.declared.basic.BasicSet.TheVariants.{Never}
use Rattle.type_model.specs.declared.basic.SemType.{Basic}
use Rattle.typed_exprs.proofs.Steps.{parted}
use Rattle.typed_exprs.specs.Lines.{Run}
use Rattle.typed_functions.proofs.Begun.{HasBegun, IsOpen, begun, value-begun}
use Rattle.typed_functions.proofs.Ended.{ended}
use Rattle.typed_functions.proofs.Signatures.{signature-opens}
use Rattle.typed_needs.proofs.Placed.{all-but-last}
use Rattle.typed_tree.specs.Listed.{Listed, members, nothing, one, ◌&◌}

-- in each unit the same is known of variables, the same ways are open, and what the last part says is of the variables that are seen, whatever was said before
pub record KeepsFresh (old new : State) : Type 0 where
  pub flows : AllZip SameKnown old.units new.units
  pub choices : new.choices ≡ old.choices
  pub tells : (vs : List Variable) → HandSees vs old → TellsOf vs new

pub fresh-keeps : (s t : State) → KeepsFresh s t → KeepsFlows s t
fresh-keeps s t k = record { flows = k.flows; choices = k.choices; tells = λ vs hand h. k.tells vs hand }

pub fresh-on : (r s t : State) → KeepsFresh r s → KeepsFlows s t → KeepsFresh r t
fresh-on r s t f g =
    record {
      flows = flows-then r.units s.units t.units f.flows g.flows;
      choices = g.choices ∙ f.choices;
      tells = λ vs hand. g.tells vs (hand-on vs r s f.flows hand) (f.tells vs hand);
    }

pub on-fresh : (r s t : State) → KeepsFlows r s → KeepsFresh s t → KeepsFresh r t
on-fresh r s t f g =
    record {
      flows = flows-then r.units s.units t.units f.flows g.flows;
      choices = g.choices ∙ f.choices;
      tells = λ vs hand. g.tells vs (hand-on vs r s f.flows hand);
    }

-- ---- ways that meet the rest

-- between the beginning of a choice and its end the same is known of other units, and then of the one at hand too
pub round : (r s t u : State) (sp : WaySplits r s) (c : ChoiceAtWork) (before : SameFlow sp.choice.before c.before) → Others s.units t.units → t.choices ≡ r.choices ++ c ∷ [] → Leaves c t u
    → AllZip SameKnown r.units u.units × (u.choices ≡ r.choices)
round r s t u sp c before others unclosed leaves = (
  others-and-last r.units u.units sp.hand leaves.now sp.at_hand leaves.last
      (others-then r.units s.units u.units sp.others (others-then s.units t.units u.units others leaves.others))
      (flow-through sp.hand.flow sp.choice.before leaves.now.flow sp.before (flow-through sp.choice.before c.before leaves.now.flow before leaves.flow)),
  leaves.choices ∙ ap (λ cs. all_but 1 cs) unclosed ∙ all-but-last r.choices c,
)

-- a place for laws that speak of no place
nowhere : Surroundings
nowhere = record { units = []; variables = []; slots = []; result = Basic Never; workers = [] }

module _ (passes : List AtomDef → Asked → TypeLimit → Type 0) (names : Names) (env : List AtomDef) (calm : NeedsAreCalm passes names) where
  abbrev Runs : Listed Need → State → State → Type 0
  Runs = Run passes names env

  abbrev pub Quiet : Listed Need → Type 0
  Quiet needs = (old new : State) → Runs needs old new → KeepsFlows old new

  abbrev pub Fresh : Listed Need → Type 0
  Fresh needs = (old new : State) → Runs needs old new → KeepsFresh old new

  pub quiet-fresh : (needs : Listed Need) → Fresh needs → Quiet needs
  quiet-fresh needs f old new run = fresh-keeps old new (f old new run)

  pub quiet-nothing : Quiet nothing
  unfolding gives_some
  quiet-nothing old new (is, same) = subst (λ (s : State). KeepsFlows old s) (sym same) (keeps-itself old)

  pub quiet-both : (p q : Listed Need) → Quiet p → Quiet q → Quiet (p & q)
  quiet-both p q f g old new run = let (mid, a, b) = parted passes names env p q old new run in keeps-on old mid new (f old mid a) (g mid new b)

  pub fresh-then : (p q : Listed Need) → Fresh p → Quiet q → Fresh (p & q)
  fresh-then p q f g old new run = let (mid, a, b) = parted passes names env p q old new run in fresh-on old mid new (f old mid a) (g mid new b)

  pub then-fresh : (p q : Listed Need) → Quiet p → Fresh q → Fresh (p & q)
  then-fresh p q f g old new run = let (mid, a, b) = parted passes names env p q old new run in on-fresh old mid new (f old mid a) (g mid new b)

  pub by-calm : (need : Need) → IsCalmNeed need → Quiet (one need)
  by-calm need so old new run = let c : IsCalm old new = calm.calm need so old new run.0 in c.keeps

  pub clearing : (need : Need) → Quiet (one need) → ClearsNeed passes names need → Fresh (one need)
  clearing need f clears old new run =
      let k = f old new run in
      record {
        flows = k.flows;
        choices = k.choices;
        tells = λ vs hand. subst (λ y. IfSome y (λ z. IsFlowOf vs z.yes × IsFlowOf vs z.no)) (sym (clears old new tt run.0)) tt;
      }

  -- ---- lists

  pub quiet-turns : {A : Type 0} (f : A → Listed Need) → ((a : A) → Quiet (f a)) → (xs : List A) (before : Listed Need) → Quiet before → Quiet (in_turn_from before f xs)
  quiet-turns f each [] before h = h
  quiet-turns f each (x ∷ xs) before h = quiet-turns f each xs (before & f x) (quiet-both before (f x) h (each x))

  pub quiet-all : {A : Type 0} (P : A → Type 0) (f : A → Listed Need) → ((a : A) → P a → Quiet (f a)) → (xs : List A) → All P xs → (before : Listed Need) → Quiet before
      → Quiet (in_turn_from before f xs)
  quiet-all P f each [] all before h = h
  quiet-all P f each (x ∷ xs) all before h =
      quiet-all P f each xs (All-tail P x xs all) (before & f x) (quiet-both before (f x) h (each x (All-head P x xs all)))

  -- ---- readings

  abbrev pub FreshReading : Reading → Type 0
  FreshReading a = (e : Expected) → Fresh (a.needs e)

  pub against-fresh : (k : Kind) (a : Reading) → FreshReading a → Fresh (against k a)
  against-fresh k a f = fresh-then (a.needs (expectation k)) (one (IsOf k a.at)) (f (expectation k)) (by-calm (IsOf k a.at) tt)

  pub wanted-fresh : (a : Reading) → FreshReading a → Fresh (as_wanted a)
  wanted-fresh a f = fresh-then (a.needs Wanted) (one (IsWanted a.at)) (f Wanted) (by-calm (IsWanted a.at) tt)

  -- ---- conditions

  left-by : (holds : Bool) (at : Place) (c : ChoiceAtWork) (old new : State) → IsLast old.choices c → Runs (one (made_of (Condition holds) at)) old new → Leaves c old new
  left-by true at c old new last run = conjoin at c old new last run.0
  left-by false at c old new last run = disjoin at c old new last run.0

  -- `a && b`, and `a || b`
  pub both-ways : (holds : Bool) (at : Place) (old s2 s3 s4 new : State) → KeepsFresh old s2 → Runs (one (Splits holds)) s2 s3 → KeepsFresh s3 s4
      → Runs (one (made_of (Condition holds) at)) s4 new → KeepsFresh old new
  both-ways holds at old s2 s3 s4 new a rs b rm =
      let sp = split holds s2 s3 rs.0 in
      let unclosed : s4.choices ≡ s2.choices ++ sp.choice ∷ [] = b.choices ∙ sp.choices in
      let leaves = left-by holds at sp.choice s4 new (record { kept = s2.choices; is = unclosed }) rm in
      let same : SameFlow sp.choice.before sp.choice.before = same-flow sp.choice.before in
      let (flows, choices) = round s2 s3 s4 new sp sp.choice same (all-others s3.units s4.units b.flows) unclosed leaves in
      record {
        flows = flows-then old.units s2.units new.units a.flows flows;
        choices = choices ∙ a.choices;
        tells = λ vs hand.
            let (of, sees) = sp.of vs (hand-on vs old s2 a.flows hand) (a.tells vs hand) in
            leaves.tells vs (hand-on vs s3 s4 b.flows sees) (b.tells vs sees) of;
      }

  -- `c ? a : b`
  pub conditional : (c a b : Reading) (at : Place) → FreshReading c → FreshReading a → FreshReading b → Fresh (conditional_needs c a b at)
  conditional c a b at fc fa fb old new run =
      let (s1, r1, rest) = parted passes names env (against kind.Truth c & one (Splits true)) ((freely a & one Switches) & (freely b & one (Chooses at))) old new run in
      let (s0, rc, rsplit) = parted passes names env (against kind.Truth c) (one (Splits true)) old s1 r1 in
      let (s3, r2, r3) = parted passes names env (freely a & one Switches) (freely b & one (Chooses at)) s1 new rest in
      let (s2, ra, rswitch) = parted passes names env (freely a) (one Switches) s1 s3 r2 in
      let (s4, rb, rchoose) = parted passes names env (freely b) (one (Chooses at)) s3 new r3 in
      let k = against-fresh kind.Truth c fc old s0 rc in
      let sp = split true s0 s1 rsplit.0 in
      let ka = fa Nothing s1 s2 ra in
      let sw = switch sp.choice s2 s3 (record { kept = s0.choices; is = ka.choices ∙ sp.choices }) rswitch.0 in
      let kb = fb Nothing s3 s4 rb in
      let unclosed-3 : s3.choices ≡ s0.choices ++ sw.choice ∷ [] =
      sw.choices ∙ ap (λ cs. cs ++ sw.choice ∷ []) (ap (λ cs. all_but 1 cs) (ka.choices ∙ sp.choices) ∙ all-but-last s0.choices sp.choice) in
      let unclosed-4 : s4.choices ≡ s0.choices ++ sw.choice ∷ [] = kb.choices ∙ unclosed-3 in
      let leaves = choose at sw.choice s4 new (record { kept = s0.choices; is = unclosed-4 }) rchoose.0 in
      let others : Others s1.units s4.units =
      others-then s1.units s2.units s4.units (all-others s1.units s2.units ka.flows) (others-then s2.units s3.units s4.units sw.others (all-others s3.units s4.units kb.flows)) in
      let (flows, choices) = round s0 s1 s4 new sp sw.choice sw.before others unclosed-4 leaves in
      record {
        flows = flows-then old.units s0.units new.units k.flows flows;
        choices = choices ∙ k.choices;
        tells = λ vs hand.
            let (of, sees) = sp.of vs (hand-on vs old s0 k.flows hand) (k.tells vs hand) in
            let (of-3, sees-3) = sw.of vs (hand-on vs s1 s2 ka.flows sees) of in
            leaves.tells vs (hand-on vs s3 s4 kb.flows sees-3) (kb.tells vs sees-3) of-3;
      }

  -- ---- anonymous functions

  -- the unit of the function comes, and goes with it
  pub function : (isolated : Bool) (ps : Params) (result : TypeTree) (v : Reading) (at : Place) → FreshReading v → Fresh (anonymous_needs isolated ps result v at)
  function isolated ps result v at fv old new run =
      let value : Listed Need = one (BeginsValue (members v.used)) & as_wanted v in
      let (s2, front, rest) = parted passes names env (one BeginsAnonymous & signature_needs ps result) (value & one (MakesAnonymous isolated at)) old new run in
      let (s1, rb, rs) = parted passes names env (one BeginsAnonymous) (signature_needs ps result) old s2 front in
      let (s4, middle, rm) = parted passes names env value (one (MakesAnonymous isolated at)) s2 new rest in
      let (s3, rv, rw) = parted passes names env (one (BeginsValue (members v.used))) (as_wanted v) s2 s4 middle in
      let opened : IsOpen nowhere old s2 = signature-opens passes names env nowhere old ps result s1 s2 (begun nowhere old s1 rb.0) rs in
      let b : HasBegun nowhere old s3 = value-begun nowhere old s2 s3 (members v.used) opened rv.0 in
      let k = wanted-fresh v fv s3 s4 rw in
      let e = ended isolated at s4 new rm.0 in
      let others : Others s3.units s4.units = all-others s3.units s4.units k.flows in
      record {
        flows = subst (λ us. AllZip SameKnown old.units us) (sym e.units)
            (subst (λ us. AllZip SameKnown us (all_but 1 s4.units)) (ap (λ us. all_but 1 us) b.units ∙ all-but-last old.units b.unit) others);
        choices = e.choices ∙ k.choices ∙ b.choices;
        tells = λ vs hand. subst (λ y. IfSome y (λ z. IsFlowOf vs z.yes × IsFlowOf vs z.no)) (sym e.ways) tt;
      }
