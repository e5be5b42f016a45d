-- Names in waits.
use Rattle.std.proofs.Common.{◌≡◌, ◌∙◌, ◌++◌, inl, inr, ⊎_elim, ℕ, List, [], ◌∷◌, length, All, append-nil, Option, Some, None, refl, sym, subst, ap}
use Rattle.std.specs.Prelude.{IsSomeAnd, Ok, Err, Result, slice_get}
use Rattle.bal_base.specs.declared.fault.Fault.{Fault}
use Rattle.bal_base.specs.declared.shape.Shape.{Shape}
use Rattle.bal_base.specs.Valid.{IsValid}
use Rattle.bal_tree.specs.declared.name.QualifiedName.{QualifiedName}
use Rattle.checks.specs.Checks.{Gives, ◌▷◌, gives_some, refuses}
use Rattle.descriptors.specs.declared.names.Names.{Names}
use Rattle.operations.specs.Kinds.{IsError}
use Rattle.operations.specs.Rows.{Surroundings}
use Rattle.operations.specs.Structures.{GivenByFuture}
use Rattle.type_model.specs.declared.answers.Keys.TheVariants.{Results}
use Rattle.type_model.specs.declared.answers.TypeLimit.{TypeLimit}
use Rattle.type_model.specs.declared.atoms.AtomDef.{AtomDef}
use Rattle.type_model.specs.declared.basic.SemType.{SemType}
use Rattle.type_model.specs.declared.basic.Ty.{Ty}
use Rattle.type_model.specs.Calls.{Asked, KeepsTypes}
use Rattle.type_model.specs.Defined.{IsDefined, TyBelow}
use Rattle.type_model.specs.Inclusion.{HasExactly, Sub}
use Rattle.type_model.specs.Membership.{In}
use Rattle.type_model.specs.Parts.{StandsAt}
use Rattle.typed_tree.specs.declared.expr.TypedExpr.{TypedExpr}
use Rattle.typed_tree.specs.SharedTypes.{Shared, sem_of}
use Rattle.expr_needs.specs.declared.kind.Kind.TheVariants as kind
use Rattle.flow_narrowing.specs.Flows.{IfShared}
use Rattle.check_words.specs.Actions.{awaits, awaits_by, awaits_future, known_result, result_of}
use Rattle.check_words.specs.Seen.{worker_named}
use Rattle.check_words.specs.Stands.{Stands}
use Rattle.check_words.specs.State.{IsLast, State, all_but}
use Rattle.check_words.specs.Values.{gives_named}
use Rattle.check_words.specs.Words.{EitherOf, is_of}
use Rattle.check_words.proofs.LastOnes.{kept-is}
use Rattle.check_words.proofs.Standing.{front-have, last-has, stands-wants}
use Rattle.tree_promises.specs.Made.{sem}
use Rattle.typed_needs.specs.Pieces.{IsBefore, MakesTyped}
use Rattle.typed_needs.specs.Waits.{FutureIsAwaited, WaitsAreTyped, WorkerIsAwaited}
use Rattle.typed_needs.proofs.Asking.{is-of-leaves, is-of-so}
use Rattle.typed_needs.proofs.Items.{same-some, want-put}
use Rattle.typed_needs.proofs.MemberReads.{member-asked}
use Rattle.typed_needs.proofs.Naming.{name-is-typed}
use Rattle.typed_needs.proofs.Opened.{last-defined}
use Rattle.typed_needs.proofs.Placed.{last-same}

pub none-off : {A : Type 0} (xs : List A) → all_but 0 xs ≡ xs
none-off xs = kept-is 0 xs xs [] (sym (append-nil xs)) refl

-- ---- workers

known-so : (r : Option (Result Shared Fault)) (t : Shared) (old new : State) → known_result r old (Gives t) new → (r ≡ Some (Ok t)) × (new ≡ old)
unfolding gives_some refuses
known-so (Some (Ok u)) t old new (is, same) = (ap (λ x. Some (Ok x)) (sym is), same)
known-so (Some (Err fault)) t old new bad = absurd bad
known-so None t old new (bad, same) = absurd bad

result-so : (w : ℕ) (t : Shared) (old new : State) → result_of w old (Gives t) new → (slice_get old.site.results w ≡ Some (Ok t)) × (new ≡ old)
unfolding ◌▷◌ gives_some
result-so w t old new (site, mid, (is, first), met) =
    let (known, same) = known-so (slice_get site.results w) t mid new met in (ap (λ s. slice_get s.results w) (sym is) ∙ known, same ∙ first)

awaits-opened : (passes : List AtomDef → Asked → TypeLimit → Type 0) (names : Names) (q : QualifiedName) (old new : State) → awaits passes names q old (Gives tt) new
    → awaits_by passes names q (worker_named old.site.workers q) old (Gives tt) new
unfolding ◌▷◌ gives_some
awaits-opened passes names q old new (site, mid, (is, first), met) =
    subst (λ (o : Option ℕ). awaits_by passes names q o old (Gives tt) new) (ap (λ s. worker_named s.workers q) is)
    (subst (λ (s : State). awaits_by passes names q (worker_named site.workers q) s (Gives tt) new) first met)

worker-opened : (passes : List AtomDef → Asked → TypeLimit → Type 0) (names : Names) (q : QualifiedName) (w : ℕ) (old new : State) → awaits_by passes names q (Some w) old (Gives tt) new
    → (t u : Shared) × (slice_get old.site.results w ≡ Some (Ok t)) × (u.value ≡ t.value) × (new ≡ record old { wants = old.wants ++ Some u ∷ [] })
unfolding ◌▷◌
worker-opened passes names q w old new (t, mid, first, put) =
    let (known, same) = result-so w t old mid first in
    let (x, alike, is) = want-put (Some t) tt mid new put in
    let (u, has, value) = same-some (Some t) x t alike refl in (
      t,
      u,
      known,
      value,
      is ∙ ap (λ (s : State). record s { wants = s.wants ++ x ∷ [] }) same ∙ ap (λ (o : Option Shared). record old { wants = old.wants ++ o ∷ [] }) has,
    )

-- ---- futures

-- a future, step by step: the name as a part, and what is wanted then
record FutureOpened (passes : List AtomDef → Asked → TypeLimit → Type 0) (names : Names) (q : QualifiedName) (old new : State) : Type 0 where
  pub mid : State
  pub asked : State
  pub part : TypedExpr
  pub m : SemType
  pub want : Shared
  pub named : gives_named names q old (Gives tt) mid
  pub last : IsLast mid.found part
  pub of : is_of passes kind.AnyFuture q.at mid (Gives tt) asked
  pub defined : IsDefined mid.atoms m
  pub exactly : HasExactly mid.atoms m (StandsAt mid.atoms (sem part) Results)
  pub either : EitherOf m IsError mid.atoms want.value
  pub all : new ≡ record mid { wants = mid.wants ++ Some want ∷ [] }

future-opened : (passes : List AtomDef → Asked → TypeLimit → Type 0) (names : Names) (q : QualifiedName) (old new : State) → awaits_future passes names q old (Gives tt) new
    → FutureOpened passes names q old new
unfolding ◌▷◌ gives_some
future-opened passes names q old new (u, s1, named, (v, s2, of, (e, s3, (last, e3), (m, s4, asked, (t, s5, (either, e5), put))))) =
    let two : s2 ≡ s1 = is-of-leaves passes kind.AnyFuture q.at s1 s2 v of in
    let three : s3 ≡ s1 = e3 ∙ two in
    let (defined, exactly, four) = member-asked passes (sem e) Results q.at s3 s4 m asked in
    let to-4 : s4 ≡ s1 = four ∙ three in
    let (x, alike, is) = want-put (Some t) tt s5 new put in
    let (w, has, value) = same-some (Some t) x t alike refl in
    record {
      mid = s1;
      asked = s2;
      part = e;
      m = m;
      want = w;
      named = named;
      last = subst (λ (s : State). IsLast s.found e) two last;
      of = of;
      defined = subst (λ (s : State). IsDefined s.atoms m) three defined;
      exactly = subst (λ (s : State). HasExactly s.atoms m (StandsAt s.atoms (sem e) Results)) three exactly;
      either = subst (λ (y : Ty). EitherOf m IsError s1.atoms y) (sym value) (subst (λ (s : State). EitherOf m IsError s.atoms t.value) to-4 either);
      all = is ∙ ap (λ (s : State). record s { wants = s.wants ++ x ∷ [] }) (e5 ∙ to-4) ∙ ap (λ (o : Option Shared). record s1 { wants = s1.wants ++ o ∷ [] }) has;
    }

module _ (passes : List AtomDef → Asked → TypeLimit → Type 0) (names : Names) (env : List AtomDef) (place : Surroundings) where
  worker : WorkerIsAwaited passes names env place
  worker q w old new met is results =
      let met' : awaits_by passes names q (Some w) old (Gives tt) new =
      subst (λ (o : Option ℕ). awaits_by passes names q o old (Gives tt) new) is (awaits-opened passes names q old new met) in
      let (t, u, known, value, all) = worker-opened passes names q w old new met' in
      (u, all, gives-same t u value (slice_get place.workers w) (results w t known))
    where
      gives-same : (t u : Shared) → u.value ≡ t.value → (o : Option SemType) → IsSomeAnd o (λ s. Sub env s (sem_of t)) → IsSomeAnd o (λ s. Sub env s (sem_of u))
      gives-same t u value (Some s) under = λ x valid i. subst (λ (y : Ty). In env x y.sem) (sym value) (under x valid i)
      gives-same t u value None under = absurd under

  -- before something was wanted it stood as well
  before-want : (mid new : State) (w : Shared) → new ≡ record mid { wants = mid.wants ++ Some w ∷ [] } → IsBefore env new → IsBefore env mid × TyBelow (length mid.atoms) w.value
  before-want mid new w is after =
      let all : All (IfShared (TyBelow (length new.atoms))) new.wants = after.stands.wants in
      let wants : new.wants ≡ mid.wants ++ Some w ∷ [] = ap (λ (s : State). s.wants) is in
      let atoms : new.atoms ≡ mid.atoms = ap (λ (s : State). s.atoms) is in
      let first : All (IfShared (TyBelow (length new.atoms))) mid.wants =
      front-have (IfShared (TyBelow (length new.atoms))) mid.wants (Some w ∷ []) (subst (All (IfShared (TyBelow (length new.atoms)))) wants all) in
      let back : record new { wants = mid.wants } ≡ mid = ap (λ (s : State). record s { wants = mid.wants }) is in
      let last : TyBelow (length new.atoms) w.value = last-has (IfShared (TyBelow (length new.atoms))) new.wants (Some w) (record { kept = mid.wants; is = wants }) all in (
        record { stands = subst Stands back (stands-wants new after.stands mid.wants first); keeps = subst (λ xs. KeepsTypes xs env) atoms after.keeps },
        subst (λ xs. TyBelow (length xs) w.value) atoms last,
      )

  given-so : (mid : State) (part : TypedExpr) (m : SemType) (want : Shared) → IsBefore env mid → HasExactly mid.atoms m (StandsAt mid.atoms (sem part) Results)
      → EitherOf m IsError mid.atoms want.value → IsDefined mid.atoms (sem part) → TyBelow (length mid.atoms) want.value
      → (x : Shape) → IsValid x → GivenByFuture env (sem part) x → In env x (sem_of want)
  given-so mid part m want before exactly either defined there x valid given =
      (before.keeps.shapes (sem_of want) there.0 x).0 ((either.shapes x valid).1 (⊎_elim
      (λ (whole, shape, stands). inl ((exactly x valid).1 (whole, (shape.0, (before.keeps.shapes (sem part) defined whole).1 shape.1), stands))) (λ error. inr error) given))

  future : FutureIsAwaited passes names env place
  future q old new after met is stored named =
      let met' : awaits_by passes names q None old (Gives tt) new =
      subst (λ (o : Option ℕ). awaits_by passes names q o old (Gives tt) new) is (awaits-opened passes names q old new met) in
      let o = future-opened passes names q old new met' in
      let (before, there) = before-want o.mid new o.want o.all after in
      let made : MakesTyped passes names env place 0 old o.mid = name-is-typed env passes names place q old o.mid before o.named stored named in
      let found : o.mid.found ≡ old.found ++ made.part ∷ [] = made.found ∙ ap (λ xs. xs ++ made.part ∷ []) (none-off old.found) in
      let one : o.part ≡ made.part = last-same o.mid.found o.part made.part o.last (record { kept = old.found; is = found }) in
      let last : IsLast o.mid.found made.part = subst (λ p. IsLast o.mid.found p) one o.last in
      let exactly : HasExactly o.mid.atoms o.m (StandsAt o.mid.atoms (sem made.part) Results) =
      subst (λ (p : TypedExpr). HasExactly o.mid.atoms o.m (StandsAt o.mid.atoms (sem p) Results)) one o.exactly in
      let defined = last-defined env o.mid made.part before last in
      record {
        part = made.part;
        want = o.want;
        found = ap (λ (s : State). s.found) o.all ∙ found;
        wants = record { kept = o.mid.wants; is = ap (λ (s : State). s.wants) o.all };
        typed = made.typed;
        gives = (is-of-so passes names env kind.AnyFuture q.at tt o.mid o.asked made.part before o.of last, (λ x valid given. given-so o.mid made.part o.m o.want before exactly o.either defined there x valid given));
      }

  pub waits-are-typed : WaitsAreTyped passes names env place
  waits-are-typed = record { workers = worker; futures = future }
