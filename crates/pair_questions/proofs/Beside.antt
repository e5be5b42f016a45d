-- Whether a type has a string beside the names of fields.
use Rattle.std.proofs.Common.{◌≡◌, ◌≢◌, ◌⊎◌, ◌∙◌, ◌++◌, ◌&&◌, Bool, true, false, not, List, [], ◌∷◌, Some, None, All, Any, IsTrue, inl, inr, arith, map, refl, subst, sym, zero, suc}
use Rattle.std.proofs.lemmas.Bool.{false≢true, or_parts, or_from}
use Rattle.std.proofs.lemmas.List.Elements.{All-cons, All-head, All-nil, All-tail}
use Rattle.std.specs.Cmp.Lexicographic.{bytes_decides}
use Rattle.bal_base.specs.declared.text.Text.{Text}
use Rattle.type_model.specs.declared.atoms.AtomDef.{AtomDef}
use Rattle.type_model.specs.declared.atoms.FieldDef.{FieldDef}
use Rattle.type_model.specs.declared.basic.SemType.{SemType}
use Rattle.type_model.specs.Places.{is_same_text}
use Rattle.pair_questions.specs.Fitting.{HasBeside}
use Rattle.pair_questions.specs.inner.Strings.{IsTextBeside, is_named, texts_of, type_has}
use Rattle.pair_questions.proofs.KeyTexts.{IsApart, Says, among-or-apart, back-apart, front-apart, other-text, some-apart, type-other, type-so}

-- ---- some member of a list

module _ (P : Text → Type 0) where
  none-there : ¬ (Any P [])
  none-there (i, x, lt, is, p) = absurd (omega (arith, lt))

  in-front : (xs ys : List Text) → Any P xs → Any P (xs ++ ys)
  in-front [] ys h = absurd (none-there h)
  in-front (x ∷ xs) ys (zero, y, lt, is, p) = (zero, y, omega arith, is, p)
  in-front (x ∷ xs) ys (suc i, y, lt, is, p) = let (j, z, l, s, q) = in-front xs ys (i, y, omega (arith, lt), is, p) in (suc j, z, omega (arith, l), s, q)

  in-back : (xs ys : List Text) → Any P ys → Any P (xs ++ ys)
  in-back [] ys h = h
  in-back (x ∷ xs) ys h = let (j, z, l, s, q) = in-back xs ys h in (suc j, z, omega (arith, l), s, q)

  in-either : (xs ys : List Text) → Any P (xs ++ ys) → Any P xs ⊎ Any P ys
  in-either [] ys h = inr h
  in-either (x ∷ xs) ys (zero, y, lt, is, p) = inl (zero, y, omega arith, is, p)
  in-either (x ∷ xs) ys (suc i, y, lt, is, p) = by (in-either xs ys (i, y, omega (arith, lt), is, p))
    where
      by : Any P xs ⊎ Any P ys → Any P (x ∷ xs) ⊎ Any P ys
      by (inl (j, z, l, s, q)) = inl (suc j, z, omega (arith, l), s, q)
      by (inr h) = inr h

  -- where the first ones don't have it the others are to
  at-second : (xs ys : List Text) (a b : Bool) → a ≡ false → Says a (Any P xs) → Says b (Any P ys) → Says b (Any P (xs ++ ys))
  at-second xs ys a b e s t = ((λ y. in-back xs ys (t.0 y)), (λ h. by (in-either xs ys h)))
    where
      by : Any P xs ⊎ Any P ys → IsTrue b
      by (inl h) = absurd (false≢true (sym e ∙ s.1 h))
      by (inr h) = t.1 h

-- of a type of two parts, where the first one has none
pub where-second : (P : Text → Type 0) (part s t one two : SemType) → texts_of part ≡ texts_of s ++ texts_of t → one ≡ s → two ≡ t → (a b : Bool) → a ≡ false
    → Says a (Any P (texts_of one)) → Says b (Any P (texts_of two)) → Says b (Any P (texts_of part))
where-second P part s t one two is first second a b e n m =
    subst (λ (ts : List Text). Says b (Any P ts)) (sym is)
    (at-second P (texts_of s) (texts_of t) a b e (subst (λ (u : SemType). Says a (Any P (texts_of u))) first n) (subst (λ (u : SemType). Says b (Any P (texts_of u))) second m))

-- ---- names of fields

abbrev NoName : Text → List FieldDef → Type 0
NoName x fields = All (λ f. f.name ≢ x) fields

unnamed : (fields : List FieldDef) (x : Text) → is_named fields x ≡ false → NoName x fields
unnamed [] x e = All-nil (λ f. f.name ≢ x)
unnamed (f ∷ fields) x e =
    let parts = or_parts (is_same_text f.name x) (is_named fields x) e in
    All-cons (λ g. g.name ≢ x) f fields (λ same. false≢true (sym parts.0 ∙ (bytes_decides f.name x).1 same)) (unnamed fields x parts.1)

not-named : (fields : List FieldDef) (x : Text) → NoName x fields → is_named fields x ≡ false
not-named [] x h = refl
not-named (f ∷ fields) x h =
    or_from (is_same_text f.name x) (is_named fields x) (other-text f.name x (All-head (λ g. g.name ≢ x) f fields h)) (not-named fields x (All-tail (λ g. g.name ≢ x) f fields h))

abbrev names : List FieldDef → List Text
names fields = map (λ f. f.name) fields

apart-names : (fields : List FieldDef) (x : Text) → IsApart x (names fields) → NoName x fields
apart-names [] x h = All-nil (λ f. f.name ≢ x)
apart-names (f ∷ fields) x h = All-cons (λ g. g.name ≢ x) f fields (All-head (λ s. s ≢ x) f.name (names fields) h) (apart-names fields x (All-tail (λ s. s ≢ x) f.name (names fields) h))

-- ---- a string beside the names

and-parts : (a b : Bool) → (a && not b) ≡ true → (a ≡ true) × (b ≡ false)
and-parts true true e = absurd (false≢true e)
and-parts true false e = (refl, refl)
and-parts false b e = absurd (false≢true e)

and-not : (a b : Bool) → a ≡ true → b ≡ false → (a && not b) ≡ true
and-not true false e n = refl
and-not true true e n = absurd (false≢true (sym n))
and-not false b e n = absurd (false≢true e)

module _ (env : List AtomDef) (k : SemType) (fields : List FieldDef) where
  -- any that the type doesn't name
  other-beside : type_has k None ≡ true → HasBeside env k fields
  other-beside e =
      let (x, text, apart) = some-apart (texts_of k ++ names fields) in
      let i = (type-so env x k).0 (type-other x k (front-apart x (texts_of k) (names fields) apart) ∙ e) in
      (x, (text, i), apart-names fields x (back-apart x (texts_of k) (names fields) apart))

  named-beside : Any (IsTextBeside k fields) (texts_of k) → HasBeside env k fields
  named-beside (i, x, lt, is, (text, beside)) =
      let parts = and-parts (type_has k (Some x)) (is_named fields x) beside in (x, (text, (type-so env x k).0 parts.0), unnamed fields x parts.1)

  found : HasBeside env k fields → (type_has k None ≡ true) ⊎ Any (IsTextBeside k fields) (texts_of k)
  found (x, (text, i), apart) = by (among-or-apart (texts_of k) x)
    where
      has : type_has k (Some x) ≡ true
      has = (type-so env x k).1 i

      by : Any (λ s. s ≡ x) (texts_of k) ⊎ IsApart x (texts_of k) → (type_has k None ≡ true) ⊎ Any (IsTextBeside k fields) (texts_of k)
      by (inl (j, s, lt, is, e)) =
          let own : IsTextBeside k fields x = (text, and-not (type_has k (Some x)) (is_named fields x) has (not-named fields x apart)) in inr (j, s, lt, is, subst (IsTextBeside k fields) (sym e) own)
      by (inr h) = inl (sym (type-other x k h) ∙ has)

  -- by the two answers
  pub where-others : (a : Bool) → a ≡ true → a ≡ type_has k None → Says a (HasBeside env k fields)
  where-others a e is = ((λ y. other-beside (sym is ∙ e)), (λ h. e))

  pub where-named : (a b : Bool) → a ≡ false → a ≡ type_has k None → Says b (Any (IsTextBeside k fields) (texts_of k)) → Says b (HasBeside env k fields)
  where-named a b e is s = ((λ y. named-beside (s.0 y)), (λ h. by (found h)))
    where
      by : (type_has k None ≡ true) ⊎ Any (IsTextBeside k fields) (texts_of k) → IsTrue b
      by (inl h) = absurd (false≢true (sym e ∙ is ∙ h))
      by (inr h) = s.1 h
