-- Stores to members.
use Rattle.std.proofs.Common.{inl, inr, Bool, List, None, Some, [], ap, append-nil, arith, length, refl, rules, subst, sym, ◌++◌, ◌↔◌, ◌∙◌, ◌∷◌, ◌≡◌}
use Rattle.std.specs.Prelude.{pos}
use Rattle.bal_base.specs.declared.fault.FaultCode.TheVariants.{NoField}
use Rattle.bal_base.specs.declared.place.Place.{Place}
use Rattle.bal_base.specs.declared.shape.Shape.{Shape, Str, Int}
use Rattle.bal_base.specs.declared.text.Text.{Text}
use Rattle.bal_tree.specs.declared.name.Word.{Word}
use Rattle.check_words.proofs.LastOnes.{kept-is}
use Rattle.check_words.proofs.Standing.{last-has, last-have}
use Rattle.check_words.specs.Members.{IsStored as IsStoredAt, NamesFields, NamesItems, NamesMembers, accesses, container_kind, expects_stored, gives_key, has_field, index_kind, names_members, some_member_at}
use Rattle.check_words.specs.Stands.{PartBelow}
use Rattle.check_words.specs.State.{AreLast, IsLast, State, all_but}
use Rattle.check_words.specs.Statements.{store_form, stores}
use Rattle.check_words.specs.StmtViews.{IsPerform}
use Rattle.check_words.specs.Values.{SingleOf}
use Rattle.check_words.specs.Words.{Atoms, asking}
use Rattle.check_words.specs.declared.access.Access.TheVariants.{Char, Item, Key}
use Rattle.check_words.specs.declared.access.Access.{Access}
use Rattle.checks.specs.Checks.{Gives, gives_some, ◌▷◌}
use Rattle.descriptors.specs.declared.names.Names.{Names}
use Rattle.flow_narrowing.specs.Flows.{IfShared}
use Rattle.needs.specs.Needs.{asks, does}
use Rattle.operations.specs.Kinds.{IsString}
use Rattle.operations.specs.Rows.{NamesIndex, NamesKey, Surroundings}
use Rattle.operations.specs.declared.operation.Constant.TheVariants as constant
use Rattle.operations.specs.declared.operation.Constant.{Constant}
use Rattle.operations.specs.declared.operation.Operation.TheVariants.{SetItem, SetKey}
use Rattle.tree_promises.proofs.Pieces.{made-is-typed}
use Rattle.tree_promises.specs.Laws.{MadeStatementsAreTyped}
use Rattle.tree_promises.specs.Made.{AreTypedExprs, MadeIsTyped, sem}
use Rattle.type_model.specs.Calls.{Asked, KeepsTypes}
use Rattle.type_model.specs.Defined.{IsDefined, TyBelow}
use Rattle.type_model.specs.Inclusion.{HasExactly}
use Rattle.type_model.specs.Membership.{In}
use Rattle.type_model.specs.Parts.{StandsAt}
use Rattle.type_model.specs.declared.answers.Keys.{Keys}
use Rattle.type_model.specs.declared.answers.TypeLimit.{TypeLimit}
use Rattle.type_model.specs.declared.atoms.AtomDef.{AtomDef}
use Rattle.type_model.specs.declared.basic.SemType.{SemType}
use Rattle.typed_needs.proofs.Leaving.{all-asking}
use Rattle.typed_needs.proofs.MemberReads.{member-asked}
use Rattle.typed_needs.proofs.Opened.{exactly-later, last-defined, same-lasts}
use Rattle.typed_needs.proofs.Placed.{last-same}
use Rattle.typed_needs.proofs.Questions.{has-some-adds-none}
use Rattle.typed_needs.proofs.Strict.{unless-leaves}
use Rattle.typed_needs.specs.Asked.{IsOfIt}
use Rattle.typed_needs.specs.Pieces.{IsBefore}
use Rattle.typed_stmts.proofs.Branching.{two-same}
use Rattle.typed_stmts.proofs.Ends.{performed-typed}
use Rattle.typed_stmts.proofs.Words.{access-taken, parts-taken, put-from, stmt-put, want-some-put, wants-dropped}
use Rattle.typed_stmts.specs.Adding.{AddsStmt, AddsTyped}
use Rattle.typed_stmts.specs.Stored.{AllMayStand, FieldIsNamed, MayStandThere, StoreIsTyped, StoredIsExpected, StoresAreTyped}
use Rattle.typed_tree.proofs.ExprLayers.{expr_layers}
use Rattle.typed_tree.specs.Exprs.{type_of}
use Rattle.typed_tree.specs.SharedTypes.{Shared, sem_of}
use Rattle.typed_tree.specs.Views.{IsImplied}
use Rattle.typed_tree.specs.declared.expr.TypedExpr.{TypedExpr}
use Rattle.typed_tree.specs.declared.stmt.PerformForm.TheVariants as perform
use Rattle.typed_tree.specs.declared.stmt.PerformForm.{PerformForm}

implied-type : (c : Constant) (t : Shared) (at : Place) (e : TypedExpr) → IsImplied c t at e → type_of e ≡ t
implied-type c t at e view = search (rules, expr_layers)

pub key-given : (text : Text) (at : Place) (u : Unit {0}) (old new : State) → gives_key text at old (Gives u) new
    → (e : TypedExpr) × (t : Shared) × SingleOf (constant.Str text) old.atoms t.value × IsImplied (constant.Str text) t at e
    × (new ≡ record old { found = all_but 0 old.found ++ e ∷ []; ways = None })
unfolding does
key-given text at u old new (parts, last, e, (t, single, view), is) = (e, t, single, view, is)

pub all-stay : {A : Type 0} (xs : List A) → all_but 0 xs ≡ xs
all-stay xs = kept-is 0 xs xs [] (sym (append-nil xs)) refl

pub field-opened : (w : Word) (old new : State) → has_field w old (Gives tt) new
    → (e : TypedExpr) × (t : Shared) × SingleOf (constant.Str w.name) old.atoms t.value × IsImplied (constant.Str w.name) t w.at e
    × (new.found ≡ old.found ++ e ∷ []) × (new.accesses ≡ old.accesses ++ Key ∷ []) × (new.atoms ≡ old.atoms)
unfolding ◌▷◌ does
field-opened w old new (u, a, given, e2) =
    let (e, t, single, view, e1) = key-given w.name w.at u old a given in (
      e,
      t,
      single,
      view,
      ap (λ (s : State). s.found) e2 ∙ ap (λ (s : State). s.found) e1 ∙ ap (λ xs. xs ++ e ∷ []) (all-stay old.found),
      ap (λ (s : State). s.accesses) e2 ∙ ap (λ (s : State). s.accesses ++ Key ∷ []) e1,
      ap (λ (s : State). s.atoms) e2 ∙ ap (λ (s : State). s.atoms) e1,
    )

-- ---- what keys name, over the atoms at the end

module _ (old env : List AtomDef) (t : SemType) (same : (x : Shape) → In old x t ↔ In env x t) where
  single-later : (x : Shape) → HasExactly old t (λ y. y ≡ x) → HasExactly env t (λ y. y ≡ x)
  single-later x h y valid = ((λ i. (h y valid).0 ((same y).1 i)), (λ e. (same y).0 ((h y valid).1 e)))

  single-before : (x : Shape) → HasExactly env t (λ y. y ≡ x) → HasExactly old t (λ y. y ≡ x)
  single-before x h y valid = ((λ i. (h y valid).0 ((same y).0 i)), (λ e. (same y).1 ((h y valid).1 e)))

  pub items-named : (keys : Keys) → NamesItems old t keys → NamesIndex env t keys
  items-named keys (inl (n, (valid, only), is)) = inl (n, (valid, single-later (Int (pos n)) only), is)
  items-named keys (inr (none, is)) = inr ((λ n (int, single). none n (int, single-before (Int (pos n)) single)), is)

  pub fields-named : (keys : Keys) → NamesFields old t keys → NamesKey env t keys
  fields-named keys (inl (k, (text, only), is)) = inl (k, (text, single-later (Str k) only), is)
  fields-named keys (inr (none, is)) = inr ((λ k (text, single). none k (text, single-before (Str k) single)), is)

module _ (passes : List AtomDef → Asked → TypeLimit → Type 0) where
  pub names-asked : (a : Access) (t : SemType) (at : Place) (old new : State) (keys : Keys) → asking (names_members passes a t at) old (Gives keys) new
      → NamesMembers a old.atoms t keys × (new ≡ old)
  unfolding asks names_members
  names-asked a t at old new keys ((named, atoms), over) = (named, over ∙ ap (λ (xs : Atoms). record old { atoms = xs }) atoms)

  some-member-asked : (t : SemType) (keys : Keys) (at : Place) (old new : State) (m : SemType) → some_member_at passes t keys at old (Gives m) new
      → HasExactly old.atoms m (StandsAt old.atoms t keys) × (new ≡ old)
  unfolding ◌▷◌ gives_some
  some-member-asked t keys at old new m (n, a, first, (b, c, second, (u, d, third, (is, fourth)))) =
      let (defined, exactly, same) = member-asked passes t keys at old a n first in
      let all : new ≡ old = fourth ∙ unless-leaves b NoField at c d u third ∙ all-asking _ (has-some-adds-none passes n (Some at)) a c b second ∙ same in
      (subst (λ (k : SemType). HasExactly old.atoms k (StandsAt old.atoms t keys)) (sym is) exactly, all)

  pub record Expected (at : Place) (old new : State) : Type 0 where
    pub container : TypedExpr
    pub key : TypedExpr
    pub access : Access
    pub keys : Keys
    pub member : SemType
    pub want : Shared
    pub last_parts : AreLast old.found 2 (container ∷ key ∷ [])
    pub last_access : IsLast old.accesses access
    pub named : NamesMembers access old.atoms (sem key) keys
    pub exactly : HasExactly old.atoms member (StandsAt old.atoms (sem container) keys)
    pub meaning : HasExactly old.atoms (sem_of want) (λ x. In old.atoms x member)
    pub all : new ≡ record old { wants = old.wants ++ Some want ∷ [] }

  pub expected-opened : (at : Place) (old new : State) → expects_stored passes at old (Gives tt) new → Expected at old new
  unfolding ◌▷◌ gives_some
  expected-opened at old new (p, a, (pair, e1), (access, b, (la, e2), (keys, c, asked, (m, d, member, put)))) =
      let two : b ≡ old = e2 ∙ e1 in
      let (named, e3) = names-asked access (sem p.1) at b c keys asked in
      let three : c ≡ old = e3 ∙ two in
      let (exactly, e4) = some-member-asked (sem p.0) keys at c d m member in
      let four : d ≡ old = e4 ∙ three in
      let (w, e5, (lists, maps, chosen, meaning)) = want-some-put (IsStoredAt (type_of p.0).value keys m) tt d new put in
      record {
        container = p.0;
        key = p.1;
        access = access;
        keys = keys;
        member = m;
        want = w;
        last_parts = pair;
        last_access = subst (λ (s : State). IsLast s.accesses access) e1 la;
        named = subst (λ (s : State). NamesMembers access s.atoms (sem p.1) keys) two named;
        exactly = subst (λ (s : State). HasExactly s.atoms m (StandsAt s.atoms (sem p.0) keys)) three exactly;
        meaning = subst (λ (s : State). HasExactly s.atoms (sem_of w) (λ x. In s.atoms x m)) four meaning.shapes;
        all = e5 ∙ ap (λ (s : State). record s { wants = s.wants ++ Some w ∷ [] }) four;
      }

  module _ (names : Names) (env : List AtomDef) where
    -- the two last parts, and a type that is wanted
    pub two-defined : (s : State) (a i : TypedExpr) → IsBefore env s → AreLast s.found 2 (a ∷ i ∷ []) → IsDefined s.atoms (sem a) × IsDefined s.atoms (sem i)
    two-defined s a i before last =
        let all = last-have (PartBelow (length s.atoms)) 2 s.found (a ∷ i ∷ []) last before.stands.found in ((all 0 a (omega arith)).0, (all 1 i (omega arith)).0)

    pub last-want-defined : (old new : State) (w : Shared) → IsBefore env new → new ≡ record old { wants = old.wants ++ Some w ∷ [] } → IsDefined old.atoms (sem_of w)
    last-want-defined old new w after same =
        let last : IsLast new.wants (Some w) = record { kept = old.wants; is = ap (λ (s : State). s.wants) same } in
        let h : IfShared (TyBelow (length new.atoms)) (Some w) = last-has (IfShared (TyBelow (length new.atoms))) new.wants (Some w) last after.stands.wants in
        subst (λ (xs : Atoms). IsDefined xs (sem_of w)) (ap (λ (s : State). s.atoms) same) h.0

    stands-later : (old : List AtomDef) (a : SemType) (keys : Keys) (x : Shape) → KeepsTypes old env → IsDefined old a → StandsAt old a keys x → StandsAt env a keys x
    stands-later old a keys x keeps defined (whole, shape, stands) = (whole, (shape.0, (keeps.shapes a defined whole).0 shape.1), stands)

    may-stand : (access : Access) (old : List AtomDef) (a i : TypedExpr) (keys : Keys) (x : Shape) → KeepsTypes old env → IsDefined old (sem a) → IsDefined old (sem i)
        → NamesMembers access old (sem i) keys → StandsAt old (sem a) keys x → MayStandThere passes names env access a i x
    may-stand Char old a i keys x keeps da di named stands = tt
    may-stand Item old a i keys x keeps da di named stands =
        (keys, items-named old env (sem i) (keeps.shapes (sem i) di) keys named, stands-later old (sem a) keys x keeps da stands)
    may-stand Key old a i keys x keeps da di named stands =
        (keys, fields-named old env (sem i) (keeps.shapes (sem i) di) keys named, stands-later old (sem a) keys x keeps da stands)

    pub stored-expected : StoredIsExpected passes names env
    stored-expected at old new a i access before after met lasts la =
        let o = expected-opened at old new met in
        let (ea, ei) = two-same o.container o.key a i (same-lasts old.found 2 (o.container ∷ o.key ∷ []) (a ∷ i ∷ []) o.last_parts lasts) in
        let es : o.access ≡ access = last-same old.accesses o.access access o.last_access la in
        let (da, di) = two-defined old a i before lasts in
        let named : NamesMembers access old.atoms (sem i) o.keys =
        subst (λ (e : TypedExpr). NamesMembers access old.atoms (sem e) o.keys) ei (subst (λ (x : Access). NamesMembers x old.atoms (sem o.key) o.keys) es o.named) in
        let exactly : HasExactly old.atoms o.member (StandsAt old.atoms (sem a) o.keys) =
        subst (λ (e : TypedExpr). HasExactly old.atoms o.member (StandsAt old.atoms (sem e) o.keys)) ea o.exactly in
        let defined = last-want-defined old new o.want after o.all in (
          o.want,
          o.all,
          (λ x here is. may-stand access old.atoms a i o.keys x before.keeps da di named
              ((exactly x here).0 ((o.meaning x here).0 ((before.keeps.shapes (sem_of o.want) defined x).1 is)))),
        )

    module _ (place : Surroundings) where
      pub field-named : FieldIsNamed passes names env place
      field-named w old new after met =
          let (e, t, single, view, found, accessed, atoms) = field-opened w old new met in
          let type : type_of e ≡ t = implied-type (constant.Str w.name) t w.at e view in
          let last : IsLast new.found e = record { kept = old.found; is = found } in
          let defined : IsDefined old.atoms (sem_of t) =
          subst (λ (u : Shared). IsDefined old.atoms (sem_of u)) type (subst (λ (xs : Atoms). IsDefined xs (sem e)) atoms (last-defined env new e after last)) in
          let exactly : HasExactly env (sem_of t) (λ x. x ≡ Str w.name) =
          exactly-later env old.atoms (λ x. x ≡ Str w.name) (sem_of t) (subst (λ (xs : Atoms). KeepsTypes xs env) atoms after.keeps) defined single.shapes in
          let pieces : MadeIsTyped env place (sem_of t) = made-is-typed env place (sem_of t) in
          record {
            part = e;
            found = found;
            accesses = accessed;
            typed = pieces.implied (constant.Str w.name) t w.at e view (λ x valid is. (exactly x valid).1 is);
            text = λ x i. a-text x ((exactly x i.0).0 (subst (λ (u : Shared). In env x (sem_of u)) type i.1));
          }
        where
          a-text : (x : Shape) → x ≡ Str w.name → IsString x
          a-text x is = subst (λ (y : Shape). IsString y) (sym is) tt

      module _ (made : MadeStatementsAreTyped) (inside : Bool) where
        pub record StoreOpened (at : Place) (old new : State) : Type 0 where
          pub access : Access
          pub parts : List TypedExpr
          pub form : PerformForm
          pub last_access : IsLast old.accesses access
          pub last_parts : AreLast old.found 3 parts
          pub is : store_form access form
          pub put : AddsStmt (IsPerform form parts at) [] old new

        pub store-opened : (at : Place) (old new : State) → stores at old (Gives tt) new → StoreOpened at old new
        unfolding ◌▷◌ gives_some
        store-opened at old new (u, a, dropped, (access, b, taken, (parts, c, parted, (form, d, (is, e4), added)))) =
            let e1 = wants-dropped 1 u old a dropped in
            let (la, e2) = access-taken access a b taken in
            let (lp, e3) = parts-taken 3 parts b c parted in
            record {
              access = access;
              parts = parts;
              form = form;
              last_access = subst (λ xs. IsLast xs access) (ap (λ (x : State). x.accesses) e1) la;
              last_parts = subst (λ xs. AreLast xs 3 parts) (ap (λ (x : State). x.found) e2 ∙ ap (λ (x : State). x.found) e1) lp;
              is = is;
              put = put-from (IsPerform form parts at) old d new
                  (ap (λ (x : State). x.blocks) e4 ∙ ap (λ (x : State). x.blocks) e3 ∙ ap (λ (x : State). x.blocks) e2 ∙ ap (λ (x : State). x.blocks) e1)
                  (stmt-put (IsPerform form parts at) tt d new added);
            }

        by-access : (access : Access) (form : PerformForm) (at : Place) (old new : State) (a i e : TypedExpr) → store_form access form
            → AddsStmt (IsPerform form (a ∷ i ∷ e ∷ []) at) [] old new → AreTypedExprs env place (a ∷ i ∷ e ∷ [])
            → IsOfIt passes names env (container_kind access) a → IsOfIt passes names env (index_kind access) i → AllMayStand passes names env access a i (sem e)
            → AddsTyped env place inside [] old new
        by-access Char form at old new a i e is put typed container key fits = absurd is
        by-access Item form at old new a i e is put typed container key fits =
            performed-typed made passes names env place inside perform.SetItem SetItem (a ∷ i ∷ e ∷ []) at old new
            (subst (λ f. AddsStmt (IsPerform f (a ∷ i ∷ e ∷ []) at) [] old new) is put) refl typed (((container, key, λ x h. fits x h.0 h.1), refl))
        by-access Key form at old new a i e is put typed container key fits =
            performed-typed made passes names env place inside perform.SetKey SetKey (a ∷ i ∷ e ∷ []) at old new
            (subst (λ f. AddsStmt (IsPerform f (a ∷ i ∷ e ∷ []) at) [] old new) is put) refl typed (((container, key, λ x h. fits x h.0 h.1), refl))

        store-typed : StoreIsTyped passes names env place inside
        store-typed at old new a i e access met la lasts typed container key fits =
            let o = store-opened at old new met in
            let ep : o.parts ≡ a ∷ i ∷ e ∷ [] = same-lasts old.found 3 o.parts (a ∷ i ∷ e ∷ []) o.last_parts lasts in
            let es : o.access ≡ access = last-same old.accesses o.access access o.last_access la in
            by-access access o.form at old new a i e (subst (λ (x : Access). store_form x o.form) es o.is)
            (subst (λ xs. AddsStmt (IsPerform o.form xs at) [] old new) ep o.put) typed container key fits

      pub stores-are-typed : MadeStatementsAreTyped → StoresAreTyped passes names env place
      stores-are-typed made = record { fields = field-named; expected = stored-expected; stores = λ inside. store-typed made inside }
