-- Constructs that make atoms: two runs of each need agree.
use Rattle.std.proofs.Common.{◌≡◌, ◌↔◌, ◌++◌, ◌+◌, ◌*◌, ℕ, Bool, List, [], ◌∷◌, IsSomeAnd, IsTrue, length, slice_get, Option, Some, None, refl, sym, subst, ap, ◌∙◌}
use Rattle.std.specs.List.{AllZip}
use Rattle.bal_base.specs.declared.place.Place.{Place}
use Rattle.bal_base.specs.declared.shape.Shape.{Shape}
use Rattle.bal_base.specs.declared.text.Text.{Text}
use Rattle.bal_base.specs.Valid.{IsValid}
use Rattle.checks.specs.Checks.{◌▷◌}
use Rattle.checks.specs.Agreement.{AreTwins}
use Rattle.descriptors.specs.Described.{IsPlain}
use Rattle.operations.specs.Kinds.{IsReadonly}
use Rattle.operations.specs.Structures.{IsMade}
use Rattle.type_model.specs.declared.atoms.AtomDef.{AtomDef}
use Rattle.type_model.specs.declared.atoms.AtomDef.TheVariants.{List as ListAtom, Mapping as MappingAtom}
use Rattle.type_model.specs.declared.basic.SemType.{Atom}
use Rattle.type_model.specs.declared.basic.Ty.{Ty}
use Rattle.type_model.specs.Defined.{IsClosed}
use Rattle.type_model.specs.Membership.{Fits}
use Rattle.type_model.proofs.Same.{both, itself}
use Rattle.typed_tree.specs.declared.form.StrictForm.{StrictForm}
use Rattle.typed_tree.specs.declared.form.StrictForm.TheVariants as form
use Rattle.check_words.specs.Constructors.{IsErrorOver, atom_of, fields_with, makes_error, makes_list}
use Rattle.check_words.specs.State.{ConstructorAtWork}
use Rattle.check_words.specs.Words.{Atoms, Step, makes_strict}
use Rattle.check_answers.specs.Answers.{TwinsOver}
use Rattle.check_answers.specs.Pieces.{DoesForm, SamePieces, form_pieces}
use Rattle.check_answers.specs.TwinStates.{ConstructorTwins}
use Rattle.check_answers.specs.TwinTypes.{TwinAtoms, TwinDefs, TwinFields, TwinTypes}
use Rattle.check_answers.proofs.Adding.{Grown, adds-leads, grown-ends}
use Rattle.check_answers.proofs.Agreeing.{behind-over}
use Rattle.check_answers.proofs.Growing.{settled-later}
use Rattle.check_answers.proofs.Leading.{Any2, Leads, Pairs, leads-gives, leads-then, leads-to}
use Rattle.check_answers.proofs.MemberReads.{plain-twins}
use Rattle.check_answers.proofs.Meanings.{plain-twin}
use Rattle.check_answers.proofs.Members.{fits-twins, self-twins}
use Rattle.check_answers.proofs.Questions.{Before, Behind, D, Equal, strict-leads}
use Rattle.check_answers.proofs.Words.{closes-constructor-leads}
use Rattle.check_answers.proofs.Zips.{zip-map}

-- an atom that has one number in both
pub same-atom : (m n : Atoms) → TwinAtoms m n → (a b : ℕ) → b ≡ a → AreTwins m (Atom a) n (Atom b)
same-atom m n twins a b e = subst (λ k. AreTwins m (Atom a) n (Atom k)) (sym e) (self-twins m n twins (Atom a))

-- an atom that stands behind others
pub get-behind : (xs ys : List AtomDef) (d : AtomDef) → slice_get (xs ++ d ∷ ys) (length xs) ≡ Some d
get-behind [] ys d = refl
get-behind (x ∷ xs) ys d = get-behind xs ys d

pub some-fits : (M N : Atoms) (o p : Option AtomDef) (d e : AtomDef) (x : Shape) → IsValid x → o ≡ Some d → p ≡ Some e → TwinDefs M N d e
    → IsSomeAnd o (Fits M x) ↔ IsSomeAnd p (Fits N x)
some-fits M N o p d e x valid a b h =
    subst (λ k. IsSomeAnd k (Fits M x) ↔ IsSomeAnd p (Fits N x)) (sym a)
    (subst (λ k. Fits M x d ↔ IsSomeAnd k (Fits N x)) (sym b) (fits-twins M N x valid d e h))

-- what is made of an atom
module _ (m n : Atoms) (twins : TwinAtoms m n) (a b : ℕ) (i j : Bool) (same : b ≡ a) (marked : j ≡ i) where
  made-alike : (x : Shape) → IsValid x → IsMade m a i x ↔ IsMade n b j x
  made-alike x valid =
      both (same-atom m n twins a b same x valid) (subst (λ k. (IsTrue i → IsReadonly x) ↔ (IsTrue k → IsReadonly x)) (sym marked) itself)

  pub made-leads : (count : ℕ) (f g : StrictForm) (at : Place) → SamePieces (D m n) (form_pieces f) (form_pieces g)
      → Leads (Before m n) (Behind m n) Any2 (makes_strict count f (λ env. IsPlain (IsMade env a i) env) at) (makes_strict count g (λ env. IsPlain (IsMade env b j) env) at)
  made-leads count f g at h = strict-leads m n count f g _ _ at h (λ t u x y. plain-twin m n _ _ t u made-alike x y)

module _ (m n : Atoms) (first : IsClosed m) (second : IsClosed n) (twins : TwinAtoms m n) where
  abbrev B : Pairs
  B = Before m n

  abbrev ConsD : ConstructorAtWork → ConstructorAtWork → Type 0
  ConsD = ConstructorTwins (D m n) (D m n)

  -- a need that adds no atoms goes to its end
  to-end : (c d : Step) → Leads B (Behind m n) Any2 c d → Leads B TwinsOver Any2 c d
  to-end c d h = leads-to B (Behind m n) TwinsOver Any2 Any2 c d (λ s t a b k q. (behind-over m n s t twins k, q)) h

  -- types that stay twins where these are added
  pub types-later : (d e : Atoms) (ts us : List Ty) → AllZip (D m n) ts us → AllZip (TwinTypes (m ++ d) (n ++ e)) ts us
  types-later d e ts us h = zip-map (D m n) (TwinTypes (m ++ d) (n ++ e)) (λ s t k. let r = settled-later m n d e first second s t k in r.twins) ts us h

  pub group : (d e gs hs : List AtomDef) → d ≡ gs → e ≡ hs → AllZip (TwinDefs (m ++ d) (n ++ e)) gs hs → AllZip (TwinDefs (m ++ d) (n ++ e)) d e
  group d e gs hs x y h = subst (λ k. AllZip (TwinDefs (m ++ d) (n ++ e)) k e) (sym x) (subst (AllZip (TwinDefs (m ++ d) (n ++ e)) gs) (sym y) h)

  -- ---- the atom that was chosen, or one that is added

  -- `next`: what follows, by the atom
  pub chosen-or-added : (c d : Option ℕ) (P Q : Atoms → List AtomDef → Type 0) (at : Place) (next other : ℕ → Step) → d ≡ c
      → (c ≡ None → (d e : List AtomDef) → P m d → Q n e → AllZip (TwinDefs (m ++ d) (n ++ e)) d e)
      → ((k l : Atoms) → TwinAtoms k l → (a b : ℕ) → b ≡ a → Leads (Before k l) (Behind k l) Any2 (next a) (other b))
      → Leads B TwinsOver Any2 (atom_of c P at ▷ next) (atom_of d Q at ▷ other)
  chosen-or-added (Some a) (Some b) P Q at next other e same f =
      leads-then B B TwinsOver Equal Any2 _ _ _ _ (leads-gives B Equal a b (let i : b ≡ a = cc in i)) (λ x y k. to-end (next x) (other y) (f m n twins x y k))
  chosen-or-added None None P Q at next other e same f =
      leads-then B (Grown m n) TwinsOver Equal Any2 _ _ _ _ (adds-leads m n first second twins P Q (Some at) (same refl))
      (λ x y k. grown-ends m n Any2 (next x) (other y) (λ more others t. f (m ++ more) (n ++ others) t x y k))
  chosen-or-added (Some a) None P Q at next other e same f = absurd (cc)
  chosen-or-added None (Some b) P Q at next other e same f = absurd (cc)

  list-form : (a b : ℕ) (i j : Bool) → b ≡ a → j ≡ i → DoesForm (form.List b j) ≡ DoesForm (form.List a i)
  list-form a b i j e f = ap (λ k. DoesForm (form.List k j)) e ∙ ap (λ k. DoesForm (form.List a k)) f

  pub list-leads : (count : ℕ) (at : Place) → Leads B TwinsOver Any2 (makes_list count at) (makes_list count at)
  list-leads count at =
      leads-then B B TwinsOver _ Any2 _ _ _ _ (closes-constructor-leads m n (D m n) (D m n))
      (λ c d h. chosen-or-added c.choice d.choice _ _ at _ _ h.choice
      (λ none ds es x y. group ds es (ListAtom c.types None ∷ []) (ListAtom d.types None ∷ []) x y ((types-later ds es c.types d.types h.types, tt), tt))
      (λ k l t a b e. made-leads k l t a b c.immutable d.immutable e h.immutable count (form.List a c.immutable) (form.List b d.immutable) at
      (list-form a b c.immutable d.immutable e h.immutable)))

  -- ---- fields

  fields-same : (d e : Atoms) (ks : List (Option Text)) (ts us : List Ty) → AllZip (TwinTypes (m ++ d) (n ++ e)) ts us
      → AllZip (TwinFields (m ++ d) (n ++ e)) (fields_with ks ts) (fields_with ks us)
  fields-same d e [] ts us h = tt
  fields-same d e (k ∷ ks) [] [] h = tt
  fields-same d e (Some k ∷ ks) (t ∷ ts) (u ∷ us) h = (record { name = refl; ty = h.0; optional = refl }, fields-same d e ks ts us h.1)
  fields-same d e (None ∷ ks) (t ∷ ts) (u ∷ us) h = fields-same d e ks ts us h.1
  fields-same d e (k ∷ ks) [] (u ∷ us) h = absurd h
  fields-same d e (k ∷ ks) (t ∷ ts) [] h = absurd h

  pub fields-equal : (d e : Atoms) (ks ls : List (Option Text)) (ts us : List Ty) → ls ≡ ks → AllZip (TwinTypes (m ++ d) (n ++ e)) ts us
      → AllZip (TwinFields (m ++ d) (n ++ e)) (fields_with ks ts) (fields_with ls us)
  fields-equal d e ks ls ts us i h = subst (λ k. AllZip (TwinFields (m ++ d) (n ++ e)) (fields_with ks ts) (fields_with k us)) (sym i) (fields-same d e ks ts us h)

  -- ---- errors

  -- the first atom that is added
  pub first-twins : (gs hs : List AtomDef) (d e : AtomDef) (more others : List AtomDef) → gs ≡ d ∷ more → hs ≡ e ∷ others → TwinDefs (m ++ gs) (n ++ hs) d e
      → AreTwins (m ++ gs) (Atom (length m)) (n ++ hs) (Atom (length n))
  first-twins gs hs d e more others x y h z valid =
      some-fits (m ++ gs) (n ++ hs) _ _ d e z valid (subst (λ k. slice_get (m ++ k) (length m) ≡ Some d) (sym x) (get-behind m more d))
      (subst (λ k. slice_get (n ++ k) (length n) ≡ Some e) (sym y) (get-behind n others e)) h

  errors-same : (c d : ConstructorAtWork) (ds es : List AtomDef) → ConsD c d → IsErrorOver c m ds → IsErrorOver d n es → AllZip (TwinDefs (m ++ ds) (n ++ es)) ds es
  errors-same c d ds es h x y =
      let detail : TwinDefs (m ++ ds) (n ++ es) (MappingAtom (fields_with c.keys c.types) None) (MappingAtom (fields_with d.keys d.types) None) =
      (fields-equal ds es c.keys d.keys c.types d.types h.keys (types-later ds es c.types d.types h.types), tt) in
      group ds es _ _ x y (detail, (first-twins ds es _ _ _ _ x y detail, tt))

  pub error-leads : (count : ℕ) (at : Place) → Leads B TwinsOver Any2 (makes_error count at) (makes_error count at)
  error-leads count at =
      leads-then B B TwinsOver _ Any2 _ _ _ _ (closes-constructor-leads m n (D m n) (D m n))
      (λ c d h. leads-then B (Grown m n) TwinsOver Equal Any2 _ _ _ _
      (adds-leads m n first second twins (IsErrorOver c) (IsErrorOver d) (Some at) (λ ds es x y. errors-same c d ds es h x y))
      (λ a b e. grown-ends m n Any2 _ _ (λ more others t.
      strict-leads (m ++ more) (n ++ others) (2 + 2 * count) form.Error form.Error _ _ at refl
      (λ t1 t2 x y. plain-twins (m ++ more) (n ++ others) (Atom (a + 1)) (Atom (b + 1)) t1 t2
      (same-atom (m ++ more) (n ++ others) t (a + 1) (b + 1) (ap (λ k. k + 1) e)) x y))))
