-- What is wanted of arguments of the library, and what is below it.
use Rattle.std.proofs.Common.{◌≡◌, ◌∙◌, ◌++◌, ◌+◌, ℕ, List, [], ◌∷◌, length, Option, Some, None, refl, sym, subst, ap}
use Rattle.bal_base.specs.declared.place.Place.{Place}
use Rattle.checks.specs.Checks.{Gives, ◌▷◌, gives_some}
use Rattle.descriptors.specs.declared.names.Names.{Names}
use Rattle.operations.specs.declared.library.LibraryCall.{LibraryCall}
use Rattle.operations.specs.declared.library.LibraryCall.TheVariants.{Println, Print, Readln, FromString, Abs, ToString, Clone, CloneReadOnly, StringLength, StartsWith, Trim, Substring, ToUpperAscii, ToLowerAscii, ToCodePointInts, ListLength, Push, Pop, RemoveItem, Slice, Reverse, MappingLength, Keys, HasKey, Get, RemoveKey, Message, Cause, Detail}
use Rattle.operations.specs.Rows.{Surroundings}
use Rattle.type_model.specs.declared.answers.Keys.TheVariants.{AnyIndex}
use Rattle.type_model.specs.declared.answers.TypeLimit.{TypeLimit}
use Rattle.type_model.specs.declared.atoms.AtomDef.{AtomDef}
use Rattle.type_model.specs.declared.basic.SemType.{SemType}
use Rattle.type_model.specs.declared.basic.Ty.{Ty}
use Rattle.type_model.specs.Calls.{Asked, KeepsTypes}
use Rattle.type_model.specs.Defined.{TyBelow}
use Rattle.type_model.specs.Inclusion.{HasExactly, Sub}
use Rattle.type_model.specs.Membership.{In}
use Rattle.type_model.specs.Parts.{StandsAt}
use Rattle.typed_tree.specs.declared.expr.TypedExpr.{TypedExpr}
use Rattle.typed_tree.specs.SharedTypes.{Shared, sem_of}
use Rattle.flow_narrowing.specs.Flows.{IfShared}
use Rattle.check_words.specs.Calls.{expects_by, expects_of_library, expects_pushed, one_more, wants_kind}
use Rattle.check_words.specs.Library.{Takes, argument_of}
use Rattle.check_words.specs.Members.{IsStored}
use Rattle.check_words.specs.Stands.{CallBelow}
use Rattle.check_words.specs.State.{CallAtWork, Called, IsLast, OfLibrary, OfValue, State, all_but, replaced}
use Rattle.check_words.specs.Words.{Atoms, OfKind, below_if, wants_some}
use Rattle.check_words.proofs.Standing.{last-has}
use Rattle.tree_promises.specs.Made.{sem}
use Rattle.typed_needs.specs.Pieces.{IsBefore}
use Rattle.typed_needs.proofs.Asking.{below-if-so}
use Rattle.typed_needs.proofs.FunctionCalls.{argument-opened, expected-opened}
use Rattle.typed_needs.proofs.Items.{same-none, same-some, want-put}
use Rattle.typed_needs.proofs.MemberReads.{member-asked}
use Rattle.typed_needs.proofs.Opened.{last-defined, sub-later}
use Rattle.typed_needs.proofs.Placed.{last-same}
use Rattle.typed_calls.specs.Callees.{KindFits}
use Rattle.typed_calls.specs.LibraryCalls.{ArgumentIsBelow, BelowIf, FitsBy, LibraryArgumentIsExpected, PushedFits, ValueArgumentIsExpected}

-- ---- what is wanted of arguments

module _ (passes : List AtomDef → Asked → TypeLimit → Type 0) where
  -- a type of which this holds is wanted
  pub some-wanted : (P : Atoms → Ty → Type 0) (old new : State) → wants_some P old (Gives tt) new
      → (t : Shared) × P old.atoms t.value × (new ≡ record old { wants = old.wants ++ Some t ∷ [] })
  unfolding ◌▷◌ gives_some
  some-wanted P old new (u, mid, (holds, same), put) =
      let (x, alike, is) = want-put (Some u) tt mid new put in
      let (v, has, value) = same-some (Some u) x u alike refl in (
        v,
        subst (λ (y : Ty). P old.atoms y) (sym value) holds,
        is ∙ ap (λ (s : State). record s { wants = s.wants ++ x ∷ [] }) same ∙ ap (λ (o : Option Shared). record old { wants = old.wants ++ o ∷ [] }) has,
      )

  none-wanted : (old new : State) (u : Unit {0}) → wants_kind None old (Gives u) new → new ≡ record old { wants = old.wants ++ None ∷ [] }
  none-wanted old new u put =
      let (x, alike, is) = want-put None u old new put in is ∙ ap (λ (o : Option Shared). record old { wants = old.wants ++ o ∷ [] }) (same-none None x alike refl)

  -- what is wanted where it is put
  abbrev Wants : (Option Shared → Type 0) → State → State → Type 0
  Wants P old new = (w : Option Shared) × (new ≡ record old { wants = old.wants ++ w ∷ [] }) × P w

  abbrev KindWanted : Takes → Atoms → Option Shared → Type 0
  KindWanted None atoms w = w ≡ None
  KindWanted (Some k) atoms w = (t : Shared) × (w ≡ Some t) × OfKind k atoms t.value

  kind-wanted : (k : Takes) (old new : State) → wants_kind k old (Gives tt) new → Wants (KindWanted k old.atoms) old new
  kind-wanted None old new met = (None, none-wanted old new tt met, refl)
  kind-wanted (Some k) old new met = let (t, of, is) = some-wanted (OfKind k) old new met in (Some t, is, (t, refl, of))

  abbrev PushWanted : Option Shared → Atoms → Option Shared → Type 0
  PushWanted None atoms w = ⊥
  PushWanted (Some r) atoms w = (t : Shared) × (w ≡ Some t) × (m : SemType) × HasExactly atoms m (StandsAt atoms (sem_of r) AnyIndex) × HasExactly atoms (sem_of t) (λ x. In atoms x m)

  push-wanted : (receiver : Option Shared) (at : Place) (old new : State) → expects_pushed passes receiver at old (Gives tt) new → Wants (PushWanted receiver old.atoms) old new
  unfolding ◌▷◌ gives_some
  push-wanted None at old new (bad, same) = absurd bad
  push-wanted (Some r) at old new (m, mid, asked, put) =
      let (defined, exactly, still) = member-asked passes (sem_of r) AnyIndex at old mid m asked in
      let (t, (lists, maps, choices, meaning), is) = some-wanted (IsStored r.value AnyIndex m) mid new put in (
        Some t,
        is ∙ ap (λ (s : State). record s { wants = s.wants ++ Some t ∷ [] }) still,
        (t, refl, m, exactly, subst (λ (s : State). HasExactly s.atoms (sem_of t) (λ x. In s.atoms x m)) still meaning.shapes),
      )

  abbrev CallWanted : LibraryCall → Option Shared → Takes → Atoms → Option Shared → Type 0
  CallWanted Push receiver k atoms w = PushWanted receiver atoms w
  CallWanted call receiver k atoms w = KindWanted k atoms w

  call-wanted : (call : LibraryCall) (receiver : Option Shared) (k : Takes) (at : Place) (old new : State) → expects_of_library passes call receiver k at old (Gives tt) new
      → Wants (CallWanted call receiver k old.atoms) old new
  call-wanted Push receiver k at old new met = push-wanted receiver at old new met
  call-wanted Println receiver k at old new met = kind-wanted k old new met
  call-wanted Print receiver k at old new met = kind-wanted k old new met
  call-wanted Readln receiver k at old new met = kind-wanted k old new met
  call-wanted FromString receiver k at old new met = kind-wanted k old new met
  call-wanted Abs receiver k at old new met = kind-wanted k old new met
  call-wanted ToString receiver k at old new met = kind-wanted k old new met
  call-wanted Clone receiver k at old new met = kind-wanted k old new met
  call-wanted CloneReadOnly receiver k at old new met = kind-wanted k old new met
  call-wanted StringLength receiver k at old new met = kind-wanted k old new met
  call-wanted StartsWith receiver k at old new met = kind-wanted k old new met
  call-wanted Trim receiver k at old new met = kind-wanted k old new met
  call-wanted Substring receiver k at old new met = kind-wanted k old new met
  call-wanted ToUpperAscii receiver k at old new met = kind-wanted k old new met
  call-wanted ToLowerAscii receiver k at old new met = kind-wanted k old new met
  call-wanted ToCodePointInts receiver k at old new met = kind-wanted k old new met
  call-wanted ListLength receiver k at old new met = kind-wanted k old new met
  call-wanted Pop receiver k at old new met = kind-wanted k old new met
  call-wanted RemoveItem receiver k at old new met = kind-wanted k old new met
  call-wanted Slice receiver k at old new met = kind-wanted k old new met
  call-wanted Reverse receiver k at old new met = kind-wanted k old new met
  call-wanted MappingLength receiver k at old new met = kind-wanted k old new met
  call-wanted Keys receiver k at old new met = kind-wanted k old new met
  call-wanted HasKey receiver k at old new met = kind-wanted k old new met
  call-wanted Get receiver k at old new met = kind-wanted k old new met
  call-wanted RemoveKey receiver k at old new met = kind-wanted k old new met
  call-wanted Message receiver k at old new met = kind-wanted k old new met
  call-wanted Cause receiver k at old new met = kind-wanted k old new met
  call-wanted Detail receiver k at old new met = kind-wanted k old new met

  module _ (names : Names) (env : List AtomDef) where
    -- over the atoms at the end
    kind-fits : (k : Takes) (atoms : Atoms) (w : Option Shared) (e : TypedExpr) → KeepsTypes atoms env → IfShared (TyBelow (length atoms)) w → KindWanted k atoms w
        → BelowIf env w e → KindFits env k e
    kind-fits None atoms w e keeps there wanted below = tt
    kind-fits (Some k) atoms w e keeps there (t, is, of) below = λ x i.
        let t-there : TyBelow (length atoms) t.value = subst (IfShared (TyBelow (length atoms))) is there in
        let under : Sub env (sem e) (sem_of t) = subst (λ o. BelowIf env o e) is below in
        (of.0.shapes x i.0).0 ((keeps.shapes (sem_of t) t-there.0 x).1 (under x i.0 i.1))

    push-fits : (receiver : Option Shared) (atoms : Atoms) (w : Option Shared) (e : TypedExpr) → KeepsTypes atoms env → IfShared (TyBelow (length atoms)) w
        → IfShared (TyBelow (length atoms)) receiver → PushWanted receiver atoms w → BelowIf env w e → PushedFits env receiver e
    push-fits None atoms w e keeps there here wanted below = absurd wanted
    push-fits (Some r) atoms w e keeps there here (t, is, m, exactly, has) below = λ x i.
        let t-there : TyBelow (length atoms) t.value = subst (IfShared (TyBelow (length atoms))) is there in
        let under : Sub env (sem e) (sem_of t) = subst (λ o. BelowIf env o e) is below in
        let (whole, shape, stands) = (exactly x i.0).0 ((has x i.0).0 ((keeps.shapes (sem_of t) t-there.0 x).1 (under x i.0 i.1))) in
        (whole, (shape.0, (keeps.shapes (sem_of r) here.0 whole).0 shape.1), stands)

    call-fits : (call : LibraryCall) (receiver : Option Shared) (k : Takes) (atoms : Atoms) (w : Option Shared) (e : TypedExpr) → KeepsTypes atoms env
        → IfShared (TyBelow (length atoms)) w → IfShared (TyBelow (length atoms)) receiver → CallWanted call receiver k atoms w → BelowIf env w e → FitsBy env call receiver k e
    call-fits Push receiver k atoms w e keeps there here wanted below = push-fits receiver atoms w e keeps there here wanted below
    call-fits Println receiver k atoms w e keeps there here wanted below = kind-fits k atoms w e keeps there wanted below
    call-fits Print receiver k atoms w e keeps there here wanted below = kind-fits k atoms w e keeps there wanted below
    call-fits Readln receiver k atoms w e keeps there here wanted below = kind-fits k atoms w e keeps there wanted below
    call-fits FromString receiver k atoms w e keeps there here wanted below = kind-fits k atoms w e keeps there wanted below
    call-fits Abs receiver k atoms w e keeps there here wanted below = kind-fits k atoms w e keeps there wanted below
    call-fits ToString receiver k atoms w e keeps there here wanted below = kind-fits k atoms w e keeps there wanted below
    call-fits Clone receiver k atoms w e keeps there here wanted below = kind-fits k atoms w e keeps there wanted below
    call-fits CloneReadOnly receiver k atoms w e keeps there here wanted below = kind-fits k atoms w e keeps there wanted below
    call-fits StringLength receiver k atoms w e keeps there here wanted below = kind-fits k atoms w e keeps there wanted below
    call-fits StartsWith receiver k atoms w e keeps there here wanted below = kind-fits k atoms w e keeps there wanted below
    call-fits Trim receiver k atoms w e keeps there here wanted below = kind-fits k atoms w e keeps there wanted below
    call-fits Substring receiver k atoms w e keeps there here wanted below = kind-fits k atoms w e keeps there wanted below
    call-fits ToUpperAscii receiver k atoms w e keeps there here wanted below = kind-fits k atoms w e keeps there wanted below
    call-fits ToLowerAscii receiver k atoms w e keeps there here wanted below = kind-fits k atoms w e keeps there wanted below
    call-fits ToCodePointInts receiver k atoms w e keeps there here wanted below = kind-fits k atoms w e keeps there wanted below
    call-fits ListLength receiver k atoms w e keeps there here wanted below = kind-fits k atoms w e keeps there wanted below
    call-fits Pop receiver k atoms w e keeps there here wanted below = kind-fits k atoms w e keeps there wanted below
    call-fits RemoveItem receiver k atoms w e keeps there here wanted below = kind-fits k atoms w e keeps there wanted below
    call-fits Slice receiver k atoms w e keeps there here wanted below = kind-fits k atoms w e keeps there wanted below
    call-fits Reverse receiver k atoms w e keeps there here wanted below = kind-fits k atoms w e keeps there wanted below
    call-fits MappingLength receiver k atoms w e keeps there here wanted below = kind-fits k atoms w e keeps there wanted below
    call-fits Keys receiver k atoms w e keeps there here wanted below = kind-fits k atoms w e keeps there wanted below
    call-fits HasKey receiver k atoms w e keeps there here wanted below = kind-fits k atoms w e keeps there wanted below
    call-fits Get receiver k atoms w e keeps there here wanted below = kind-fits k atoms w e keeps there wanted below
    call-fits RemoveKey receiver k atoms w e keeps there here wanted below = kind-fits k atoms w e keeps there wanted below
    call-fits Message receiver k atoms w e keeps there here wanted below = kind-fits k atoms w e keeps there wanted below
    call-fits Cause receiver k atoms w e keeps there here wanted below = kind-fits k atoms w e keeps there wanted below
    call-fits Detail receiver k atoms w e keeps there here wanted below = kind-fits k atoms w e keeps there wanted below

    module _ (place : Surroundings) where
      pub expected : LibraryArgumentIsExpected passes names env place
      expected r receiver at old new c before after met last is =
          let (d, l, asked) = expected-opened passes at old new met in
          let one : d ≡ c = last-same old.calls d c l last in
          let asked' : expects_by passes (OfLibrary r receiver) c.args at old (Gives tt) new =
          subst (λ (k : Called). expects_by passes k c.args at old (Gives tt) new) is (subst (λ (x : CallAtWork). expects_by passes x.callee x.args at old (Gives tt) new) one asked) in
          let (w, all, wanted) = call-wanted r.call receiver (argument_of r c.args) at old new asked' in
          let atoms : new.atoms ≡ old.atoms = ap (λ (s : State). s.atoms) all in
          let there : IfShared (TyBelow (length old.atoms)) w =
          subst (λ (xs : Atoms). IfShared (TyBelow (length xs)) w) atoms
          (last-has (IfShared (TyBelow (length new.atoms))) new.wants w (record { kept = old.wants; is = ap (λ (s : State). s.wants) all }) after.stands.wants) in
          let called : CallBelow (length old.atoms) c = last-has (CallBelow (length old.atoms)) old.calls c last before.stands.calls in
          (w, all, (λ e below. call-fits r.call receiver (argument_of r c.args) old.atoms w e before.keeps there (received (length old.atoms) is called) wanted below))
        where
          received : (n : ℕ) → c.callee ≡ OfLibrary r receiver → CallBelow n c → IfShared (TyBelow n) receiver
          received n is below = subst (λ (k : Called). CallBelow n (record { callee = k; args = c.args })) is below

      pub unwanted : ValueArgumentIsExpected passes names env place
      unwanted at old new c met last is =
          let (d, l, asked) = expected-opened passes at old new met in
          let one : d ≡ c = last-same old.calls d c l last in
          let asked' : expects_by passes OfValue c.args at old (Gives tt) new =
          subst (λ (k : Called). expects_by passes k c.args at old (Gives tt) new) is (subst (λ (x : CallAtWork). expects_by passes x.callee x.args at old (Gives tt) new) one asked) in
          none-wanted old new tt asked'

      below-so : (w : Option Shared) (e : TypedExpr) (at : Place) (old below : State) → IsBefore env old → IsLast old.found e → IsLast old.wants w
          → below_if passes w e at old (Gives tt) below → BelowIf env w e
      below-so None e at old below before last want met = tt
      below-so (Some w) e at old below before last want met =
          let there : IfShared (TyBelow (length old.atoms)) (Some w) = last-has (IfShared (TyBelow (length old.atoms))) old.wants (Some w) want before.stands.wants in
          sub-later env old.atoms (sem e) (sem_of w) before.keeps (last-defined env old e before last) there.0 (below-if-so passes w e at tt old below met)

      pub below : ArgumentIsBelow passes names env place
      below at old new c e w before met lc le lw =
          let o = argument-opened passes at old new met in
          let ec : o.c ≡ c = last-same old.calls o.c c o.last_call lc in
          let ee : o.e ≡ e = last-same old.found o.e e o.last_part le in
          let ew : o.w ≡ w = last-same old.wants o.w w o.last_want lw in
          let met' : below_if passes w e at old (Gives tt) o.below =
          subst (λ (p : TypedExpr). below_if passes w p at old (Gives tt) o.below) ee (subst (λ (v : Option Shared). below_if passes v o.e at old (Gives tt) o.below) ew o.is_below) in (
            subst (λ (x : CallAtWork). new ≡ record old { calls = replaced old.calls (one_more x); wants = all_but 1 old.wants }) ec o.all,
            below-so w e at old o.below before le lw met',
          )
