-- Which choice of a constructor fits, in two runs.
use Rattle.std.proofs.Common.{◌≡◌, ◌⊎◌, ◌≤◌, ◌++◌, ◌+◌, ℕ, List, [], ◌∷◌, length, All, Any, IsTrue, IsSome, IsSomeAnd, Option, None, Some, inl, inr, refl, sym, subst, ◌∙◌}
use Rattle.std.specs.List.{AllZip}
use Rattle.std.proofs.lemmas.List.Elements.{All-cons, All-head, All-nil, All-tail}
use Rattle.bal_base.specs.declared.place.Place.{Place}
use Rattle.bal_base.specs.declared.text.Text.{Text}
use Rattle.bal_tree.specs.declared.name.Literal.{Literal}
use Rattle.checks.specs.Checks.{Gives, Refuses}
use Rattle.operations.specs.Rows.{shape_of}
use Rattle.type_model.specs.declared.atoms.FieldDef.{FieldDef}
use Rattle.type_model.specs.declared.basic.Choice.{Choice}
use Rattle.type_model.specs.declared.basic.Ty.{Ty}
use Rattle.type_model.specs.Places.{item_type}
use Rattle.expr_needs.specs.Needs.{MemberSeen}
use Rattle.check_words.specs.Constructors.{IsFirst, IsLiteralIn, KeyFits, LengthFits, ListFits, LiteralsFit, MappingFits, MemberFits, RequiredAreThere, first_fit, literal_fits, member_type}
use Rattle.check_words.specs.Sharing.{SameOption}
use Rattle.check_words.specs.State.{State}
use Rattle.check_words.specs.Values.{constant_of}
use Rattle.check_words.specs.Words.{Atoms}
use Rattle.check_answers.specs.TwinTypes.{TwinAtoms, TwinFields, TwinTypes}
use Rattle.check_answers.proofs.Atoms.{lists-twin, mappings-twin}
use Rattle.check_answers.proofs.Leading.{Leads, Pairs}
use Rattle.check_answers.proofs.Members.{item-twins, key-twins}
use Rattle.check_answers.proofs.Zips.{zip-long}

module _ (m n : Atoms) where
  abbrev W : Ty → Ty → Type 0
  W = TwinTypes m n

  there : (o p : Option Ty) → SameOption W o p → IsSome o → IsSome p
  there (Some t) (Some u) h k = k
  there None None h k = k
  there None (Some u) h k = absurd h
  there (Some t) None h k = absurd h

  literal-in : (l : Literal) (o p : Option Ty) → SameOption W o p → IsSomeAnd o (IsLiteralIn m l) → IsSomeAnd p (IsLiteralIn n l)
  literal-in l (Some t) (Some u) h k = (k.0, (h.shapes (shape_of (constant_of l)) k.0).0 k.1)
  literal-in l None p h k = absurd k
  literal-in l (Some t) None h k = absurd h

  -- ---- lists

  literals-fit : (k : ℕ) (fixed gs : List Ty) (rest s : Option Ty) (items : List (Option Literal)) → AllZip W fixed gs → SameOption W rest s → LiteralsFit m k fixed rest items → LiteralsFit n k gs s items
  literals-fit k fixed gs rest s [] h r x = tt
  literals-fit k fixed gs rest s (None ∷ items) h r x = literals-fit (k + 1) fixed gs rest s items h r x
  literals-fit k fixed gs rest s (Some l ∷ items) h r x =
      (literal-in l (item_type fixed rest k) (item_type gs s k) (item-twins m n fixed gs rest s k h r) x.0, literals-fit (k + 1) fixed gs rest s items h r x.1)

  length-fits : (fixed gs : List Ty) (rest s : Option Ty) (count : ℕ) → AllZip W fixed gs → SameOption W rest s → LengthFits fixed rest count → LengthFits gs s count
  length-fits fixed gs rest s count h r (x, inl y) = (subst (λ k. k ≤ count) (zip-long W fixed gs h) x, inl (there rest s r y))
  length-fits fixed gs rest s count h r (x, inr y) = (subst (λ k. k ≤ count) (zip-long W fixed gs h) x, inr (subst (λ k. count ≤ k) (zip-long W fixed gs h) y))

  pub list-fits : TwinAtoms m n → (items : List (Option Literal)) (c : Choice) → ListFits items m c → ListFits items n c
  list-fits twins items c h =
      lists-twin m n twins c.atom _ _
      (λ fixed gs rest s z r x. (length-fits fixed gs rest s (length items) z r x.0, literals-fit 0 fixed gs rest s items z r x.1)) h

  -- ---- mappings

  member-twins : (fields gs : List FieldDef) (rest s : Option Ty) (key : Option Text) → AllZip (TwinFields m n) fields gs → SameOption W rest s
      → SameOption W (member_type fields rest key) (member_type gs s key)
  member-twins fields gs rest s (Some key) h r = key-twins m n fields gs rest s key h r
  member-twins fields gs rest s None h r = r

  key-fits : (key : Option Text) (o p : Option Ty) → SameOption W o p → KeyFits key o → KeyFits key p
  key-fits (Some key) o p h x = there o p h x
  key-fits None o p h x = tt

  literal-fits : (l : Option Literal) (o p : Option Ty) → SameOption W o p → literal_fits m l o → literal_fits n l p
  literal-fits None o p h x = tt
  literal-fits (Some l) o p h x = literal-in l o p h x

  members-fit : (fields gs : List FieldDef) (rest s : Option Ty) (ms : List MemberSeen) → AllZip (TwinFields m n) fields gs → SameOption W rest s
      → All (MemberFits m fields rest) ms → All (MemberFits n gs s) ms
  members-fit fields gs rest s [] h r x = All-nil (MemberFits n gs s)
  members-fit fields gs rest s (k ∷ ms) h r x =
      let one = member-twins fields gs rest s k.key h r in
      let fits = All-head (MemberFits m fields rest) k ms x in
      All-cons (MemberFits n gs s) k ms
      (key-fits k.key _ _ one fits.0, literal-fits k.literal _ _ one fits.1)
      (members-fit fields gs rest s ms h r (All-tail (MemberFits m fields rest) k ms x))

  abbrev IsThere : List MemberSeen → FieldDef → Type 0
  IsThere ms f = IsTrue f.optional ⊎ Any (λ k. k.key ≡ Some f.name) ms

  one-there : (f g : FieldDef) (ms : List MemberSeen) → TwinFields m n f g → IsThere ms f → IsThere ms g
  one-there f g ms h (inl x) = inl (subst IsTrue (sym h.optional) x)
  one-there f g ms h (inr x) = inr (subst (λ i. Any (λ k. k.key ≡ Some i) ms) (sym h.name) x)

  required-there : (fields gs : List FieldDef) (ms : List MemberSeen) → AllZip (TwinFields m n) fields gs → RequiredAreThere fields ms → RequiredAreThere gs ms
  required-there [] [] ms h x = All-nil (IsThere ms)
  required-there (f ∷ fields) (g ∷ gs) ms h x =
      All-cons (IsThere ms) g gs (one-there f g ms h.0 (All-head (IsThere ms) f fields x)) (required-there fields gs ms h.1 (All-tail (IsThere ms) f fields x))
  required-there [] (g ∷ gs) ms h x = absurd h
  required-there (f ∷ fields) [] ms h x = absurd h

  pub mapping-fits : TwinAtoms m n → (ms : List MemberSeen) (c : Choice) → MappingFits ms m c → MappingFits ms n c
  mapping-fits twins ms c h =
      mappings-twin m n twins c.atom _ _
      (λ fields gs rest s z r x. (members-fit fields gs rest s ms z r x.0, required-there fields gs ms z x.1)) h

-- ---- the first choice that fits

same-head : (x y : Choice) (xs ys : List Choice) → x ∷ xs ≡ y ∷ ys → x ≡ y
same-head x y xs ys e = cc

same-tail : (x y : Choice) (xs ys : List Choice) → x ∷ xs ≡ y ∷ ys → xs ≡ ys
same-tail x y xs ys e = cc

module _ (P Q : Choice → Type 0) (forth : (c : Choice) → P c → Q c) (back : (c : Choice) → Q c → P c) where
  first-same : (before behind others more : List Choice) (c d : Choice) → before ++ c ∷ behind ≡ others ++ d ∷ more → All (λ x. ¬ P x) before
      → All (λ x. ¬ Q x) others → P c → Q d → d ≡ c
  first-same [] behind [] more c d e h k p q = sym (same-head c d behind more e)
  first-same (x ∷ before) behind (y ∷ others) more c d e h k p q =
      first-same before behind others more c d (same-tail x y _ _ e) (All-tail (λ x. ¬ P x) x before h) (All-tail (λ x. ¬ Q x) y others k) p q
  first-same [] behind (y ∷ others) more c d e h k p q =
      absurd (All-head (λ x. ¬ Q x) y others k (subst Q (same-head c y _ _ e) (forth c p)))
  first-same (x ∷ before) behind [] more c d e h k p q =
      absurd (All-head (λ x. ¬ P x) x before h (subst P (sym (same-head x d _ _ e)) (back d q)))

  none-there : (before behind : List Choice) (c : Choice) (all : List Choice) → all ≡ before ++ c ∷ behind → All (λ x. ¬ Q x) all → P c → ⊥
  none-there [] behind c all e h p = All-head (λ x. ¬ Q x) c behind (subst (All (λ x. ¬ Q x)) e h) (forth c p)
  none-there (x ∷ before) behind c all e h p =
      none-there before behind c (before ++ c ∷ behind) refl (All-tail (λ x. ¬ Q x) x (before ++ c ∷ behind) (subst (All (λ x. ¬ Q x)) e h)) p

module _ (m n : Atoms) (F : Pairs) (at : (s t : State) → F s t → (s.atoms ≡ m) × (t.atoms ≡ n)) (Fits : Atoms → Choice → Type 0)
    (forth : (c : Choice) → Fits m c → Fits n c) (back : (c : Choice) → Fits n c → Fits m c) where
  module _ (cs ds : List Choice) (same : ds ≡ cs) (here : Place) where
    chosen-same : (c d : Choice) → IsFirst (Fits m) cs c → IsFirst (Fits n) ds d → d ≡ c
    chosen-same c d x y =
        first-same (Fits m) (Fits n) forth back x.before x.behind y.before y.behind c d (sym x.is ∙ sym same ∙ y.is) x.none_before y.none_before x.fits y.fits

    pub fit-leads : Leads F F (λ c d. d ≡ c) (first_fit Fits cs here) (first_fit Fits ds here)
    unfolding first_fit
    fit-leads s t p (Gives c) (Gives d) m2 n2 x y = (
      subst (λ k. F k n2) (sym x.1) (subst (F s) (sym y.1) p),
      chosen-same c d (subst (λ k. IsFirst (Fits k) cs c) (at s t p).0 x.0) (subst (λ k. IsFirst (Fits k) ds d) (at s t p).1 y.0),
    )
    fit-leads s t p (Gives c) (Refuses g) m2 n2 x y =
        let one : IsFirst (Fits m) cs c = subst (λ k. IsFirst (Fits k) cs c) (at s t p).0 x.0 in
        absurd (none-there (Fits m) (Fits n) forth back one.before one.behind c ds (same ∙ one.is) (subst (λ k. All (λ d. ¬ Fits k d) ds) (at s t p).1 y.0) one.fits)
    fit-leads s t p (Refuses f) (Gives d) m2 n2 x y =
        let one : IsFirst (Fits n) ds d = subst (λ k. IsFirst (Fits k) ds d) (at s t p).1 y.0 in
        absurd (none-there (Fits n) (Fits m) back forth one.before one.behind d cs (sym same ∙ one.is) (subst (λ k. All (λ d. ¬ Fits k d) cs) (at s t p).0 x.0) one.fits)
    fit-leads s t p (Refuses f) (Refuses g) m2 n2 x y = inr (inr (record { code = x.1.has_code ∙ sym y.1.has_code; at = x.1.stands ∙ sym y.1.stands }))
