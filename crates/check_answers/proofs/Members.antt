-- A type has the same shapes over atoms that are twins.
use Rattle.std.proofs.Common.{◌≡◌, ◌≤◌, ◌+◌, ◌↔◌, ◌⊎◌, ℕ, List, [], ◌∷◌, length, All, IsTrue, Option, Some, None, IsSomeAnd, true, false, Bool, slice_get, sym, subst, ap, if◌then◌else◌}
use Rattle.std.specs.List.{AllZip}
use Rattle.std.proofs.lemmas.List.Elements.{All-cons, All-head, All-tail}
use Rattle.bal_base.specs.declared.text.Text.{Text}
use Rattle.bal_base.specs.declared.shape.Shape.{Shape, Nil, Bool as BoolShape, Int, Str, List', Mapping', Error', Function, Future', Row_of-Shape, end_of-Shape, more_of-Shape, items-the_row-Shape as shapes_in, Row_of-Fields-items-2 as Row_of-Field, end_of-Fields-items-2 as end_of-Field, more_of-Fields-items-2 as more_of-Field, items-the_row-Fields-items-2 as fields_in}
use Rattle.bal_base.specs.declared.shape.Case.{Held-Case-result, None', Some'}
use Rattle.bal_base.specs.declared.shape.Graph.{Graph, Graph', Row_of-Case, end_of-Case, more_of-Case}
use Rattle.bal_base.specs.Valid.{AreValid, CasesValid, FieldsValid, IsValid, ResultValid}
use Rattle.checks.specs.Agreement.{AreTwins}
use Rattle.type_model.specs.declared.basic.SemType.{SemType, Basic, Atom, Or', And', Not'}
use Rattle.type_model.specs.declared.basic.Ty.{Ty}
use Rattle.type_model.specs.declared.atoms.FieldDef.{FieldDef}
use Rattle.type_model.specs.declared.atoms.AtomDef.{AtomDef}
use Rattle.type_model.specs.declared.atoms.AtomDef.TheVariants.{List as ListAtom, Mapping as MappingAtom, Arrow, Error as ErrorAtom, Future as FutureAtom}
use Rattle.type_model.specs.Membership.{AllIn, CasesMap, EachIn, ErrorFits, Fits, FunctionFits, FutureFits, In, ListFits, Maps, MappingFits, MembersIn, ResultIn}
use Rattle.type_model.specs.Places.{HasKey, HasRequired, is_same_text, item_type, key_type, or_rest}
use Rattle.type_model.proofs.Same.{both, either, itself, neither, where_so}
use Rattle.check_words.specs.Sharing.{SameOption}
use Rattle.check_answers.specs.TwinTypes.{TwinAtoms, TwinDefs, TwinFields, TwinTypes}
use Rattle.check_answers.proofs.Zips.{zip-get, zip-long}

module _ (m n : List AtomDef) where
  abbrev OptionTwins : Option Ty → Option Ty → Type 0
  OptionTwins = SameOption (TwinTypes m n)

  -- ---- types at places

  pub or-twins : (o p rest more : Option Ty) → OptionTwins o p → OptionTwins rest more → OptionTwins (or_rest o rest) (or_rest p more)
  or-twins None None rest more h r = r
  or-twins (Some t) (Some u) rest more h r = h
  or-twins None (Some u) rest more h r = absurd h
  or-twins (Some t) None rest more h r = absurd h

  pub item-twins : (fixed others : List Ty) (rest more : Option Ty) (k : ℕ) → AllZip (TwinTypes m n) fixed others → OptionTwins rest more
      → OptionTwins (item_type fixed rest k) (item_type others more k)
  item-twins fixed others rest more k h r = or-twins (slice_get fixed k) (slice_get others k) rest more (zip-get (TwinTypes m n) fixed others k h) r

  choose-twins : (b c : Bool) (t u : Ty) (o p : Option Ty) → c ≡ b → TwinTypes m n t u → OptionTwins o p → OptionTwins (if b then Some t else o) (if c then Some u else p)
  choose-twins true true t u o p e h r = h
  choose-twins false false t u o p e h r = r
  choose-twins true false t u o p e h r = absurd (cc)
  choose-twins false true t u o p e h r = absurd (cc)

  pub key-twins : (fields others : List FieldDef) (rest more : Option Ty) (key : Text) → AllZip (TwinFields m n) fields others → OptionTwins rest more
      → OptionTwins (key_type fields rest key) (key_type others more key)
  key-twins [] [] rest more key h r = r
  key-twins (f ∷ fields) (g ∷ others) rest more key h r =
      choose-twins (is_same_text f.name key) (is_same_text g.name key) f.ty g.ty (key_type fields rest key) (key_type others more key)
      (ap (λ s. is_same_text s key) h.0.name) h.0.ty (key-twins fields others rest more key h.1 r)
  key-twins [] (g ∷ others) rest more key h r = absurd h
  key-twins (f ∷ fields) [] rest more key h r = absurd h

  required-one : (f g : FieldDef) (members : List (Text × Shape)) → TwinFields m n f g
      → (IsTrue f.optional ⊎ HasKey members f.name) ↔ (IsTrue g.optional ⊎ HasKey members g.name)
  required-one f g members h =
      either (subst (λ b. IsTrue f.optional ↔ IsTrue b) (sym h.optional) itself) (subst (λ s. HasKey members f.name ↔ HasKey members s) (sym h.name) itself)

  all-both : {A B : Type 0} (P : A → Type 0) (Q : B → Type 0) (x : A) (y : B) (xs : List A) (ys : List B) → P x ↔ Q y → All P xs ↔ All Q ys → All P (x ∷ xs) ↔ All Q (y ∷ ys)
  all-both P Q x y xs ys e f = (
    λ h. All-cons Q y ys (e.0 (All-head P x xs h)) (f.0 (All-tail P x xs h)),
    λ h. All-cons P x xs (e.1 (All-head Q y ys h)) (f.1 (All-tail Q y ys h)),
  )

  pub required-twins : (fields others : List FieldDef) (members : List (Text × Shape)) → AllZip (TwinFields m n) fields others
      → HasRequired fields members ↔ HasRequired others members
  required-twins [] [] members h = itself
  required-twins (f ∷ fields) (g ∷ others) members h =
      all-both (λ k. IsTrue k.optional ⊎ HasKey members k.name) (λ k. IsTrue k.optional ⊎ HasKey members k.name) f g fields others
      (required-one f g members h.0) (required-twins fields others members h.1)
  required-twins [] (g ∷ others) members h = absurd h
  required-twins (f ∷ fields) [] members h = absurd h

  -- ---- parts of shapes

  at-twins : (x : Shape) → IsValid x → (o p : Option Ty) → OptionTwins o p → IsSomeAnd o (λ t. In m x t.sem) ↔ IsSomeAnd p (λ t. In n x t.sem)
  at-twins x valid None None h = itself
  at-twins x valid (Some t) (Some u) h = h.shapes x valid
  at-twins x valid None (Some u) h = absurd h
  at-twins x valid (Some t) None h = absurd h

  each-twins : (c : _) (row : Row_of-Shape c) (k : ℕ) (fixed others : List Ty) (rest more : Option Ty) → AreValid row → AllZip (TwinTypes m n) fixed others
      → OptionTwins rest more → EachIn m row k fixed rest ↔ EachIn n row k others more
  each-twins c end_of-Shape k fixed others rest more valid h r = itself
  each-twins c (more_of-Shape x xs) k fixed others rest more valid h r =
      both (at-twins x valid.0 (item_type fixed rest k) (item_type others more k) (item-twins fixed others rest more k h r))
      (each-twins _ xs (k + 1) fixed others rest more valid.1 h r)

  members-twins : (c : _) (row : Row_of-Field c) (fields others : List FieldDef) (rest more : Option Ty) → FieldsValid row
      → AllZip (TwinFields m n) fields others → OptionTwins rest more → MembersIn m row fields rest ↔ MembersIn n row others more
  members-twins c end_of-Field fields others rest more valid h r = itself
  members-twins c (more_of-Field key x xs) fields others rest more valid h r =
      both (at-twins x valid.0 (key_type fields rest key) (key_type others more key) (key-twins fields others rest more key h r))
      (members-twins _ xs fields others rest more valid.1 h r)

  all-twins : (c : _) (row : Row_of-Shape c) (t u : SemType) → AreValid row → AreTwins m t n u → AllIn m row t ↔ AllIn n row u
  all-twins c end_of-Shape t u valid h = itself
  all-twins c (more_of-Shape x xs) t u valid h = both (h x valid.0) (all-twins _ xs t u valid.1 h)

  result-twins : (result : Held-Case-result) (t u : SemType) → ResultValid result → AreTwins m t n u → ResultIn m result t ↔ ResultIn n result u
  result-twins None' t u valid h = itself
  result-twins (Some' x) t u valid h = h x valid

  unmarked : {A : Type 0} → IsTrue false → A
  unmarked h = absurd (cc)

  cases-twins : (c : _) (row : Row_of-Case c) (args others result outcome : SemType) → CasesValid row → AreTwins m args n others → AreTwins m result n outcome
      → CasesMap m row args result ↔ CasesMap n row others outcome
  cases-twins c end_of-Case args others result outcome valid a r = itself
  cases-twins c (more_of-Case s xs given rest) args others result outcome valid a r =
      both (where_so (a (List' false s xs) (λ h. unmarked h, valid.0)) (result-twins given result outcome valid.1 r))
      (cases-twins _ rest args others result outcome valid.2 a r)

  maps-twins : (graph : Graph) (args others result outcome : SemType) → IsValid (Function true graph) → AreTwins m args n others → AreTwins m result n outcome
      → Maps m graph args result ↔ Maps n graph others outcome
  maps-twins (Graph' _ cases) args others result outcome valid a r = cases-twins _ cases args others result outcome valid a r

  -- ---- atoms of one kind

  list-twins : (c : _) (row : Row_of-Shape c) → AreValid row → (d e : AtomDef) → TwinDefs m n d e
      → ListFits (shapes_in _ row) (EachIn m row 0) d ↔ ListFits (shapes_in _ row) (EachIn n row 0) e
  list-twins c row valid (ListAtom fixed rest) (ListAtom others more) h =
      both (subst (λ k. (length fixed ≤ length (shapes_in _ row)) ↔ (k ≤ length (shapes_in _ row))) (zip-long (TwinTypes m n) fixed others h.0) itself)
      (each-twins c row 0 fixed others rest more valid h.0 h.1)
  list-twins c row valid (MappingAtom fields rest) (MappingAtom others more) h = itself
  list-twins c row valid (Arrow args result isolated) (Arrow others outcome alone) h = itself
  list-twins c row valid (ErrorAtom detail) (ErrorAtom other) h = itself
  list-twins c row valid (FutureAtom result) (FutureAtom other) h = itself
  list-twins c row valid _ _ h = absurd h

  mapping-twins : (c : _) (row : Row_of-Field c) → FieldsValid row → (d e : AtomDef) → TwinDefs m n d e
      → MappingFits (fields_in _ row) (MembersIn m row) d ↔ MappingFits (fields_in _ row) (MembersIn n row) e
  mapping-twins c row valid (MappingAtom fields rest) (MappingAtom others more) h =
      both (required-twins fields others (fields_in _ row) h.0) (members-twins c row fields others rest more valid h.0 h.1)
  mapping-twins c row valid (ListAtom fixed rest) (ListAtom others more) h = itself
  mapping-twins c row valid (Arrow args result isolated) (Arrow others outcome alone) h = itself
  mapping-twins c row valid (ErrorAtom detail) (ErrorAtom other) h = itself
  mapping-twins c row valid (FutureAtom result) (FutureAtom other) h = itself
  mapping-twins c row valid _ _ h = absurd h

  error-twins : (x : Shape) → IsValid x → (d e : AtomDef) → TwinDefs m n d e → ErrorFits (In m x) d ↔ ErrorFits (In n x) e
  error-twins x valid (ErrorAtom detail) (ErrorAtom other) h = h x valid
  error-twins x valid (ListAtom fixed rest) (ListAtom others more) h = itself
  error-twins x valid (MappingAtom fields rest) (MappingAtom others more) h = itself
  error-twins x valid (Arrow args result isolated) (Arrow others outcome alone) h = itself
  error-twins x valid (FutureAtom result) (FutureAtom other) h = itself
  error-twins x valid _ _ h = absurd h

  function-twins : (isolated : Bool) (graph : Graph) → IsValid (Function true graph) → (d e : AtomDef) → TwinDefs m n d e
      → FunctionFits isolated (Maps m graph) d ↔ FunctionFits isolated (Maps n graph) e
  function-twins isolated graph valid (Arrow args result own) (Arrow others outcome alone) h =
      both (subst (λ b. (IsTrue own → IsTrue isolated) ↔ (IsTrue b → IsTrue isolated)) (sym h.2) itself)
      (maps-twins graph args others result outcome valid h.0 h.1)
  function-twins isolated graph valid (ListAtom fixed rest) (ListAtom others more) h = itself
  function-twins isolated graph valid (MappingAtom fields rest) (MappingAtom others more) h = itself
  function-twins isolated graph valid (ErrorAtom detail) (ErrorAtom other) h = itself
  function-twins isolated graph valid (FutureAtom result) (FutureAtom other) h = itself
  function-twins isolated graph valid _ _ h = absurd h

  future-twins : (c : _) (row : Row_of-Shape c) → AreValid row → (d e : AtomDef) → TwinDefs m n d e → FutureFits (AllIn m row) d ↔ FutureFits (AllIn n row) e
  future-twins c row valid (FutureAtom result) (FutureAtom other) h = all-twins c row result other valid h
  future-twins c row valid (ListAtom fixed rest) (ListAtom others more) h = itself
  future-twins c row valid (MappingAtom fields rest) (MappingAtom others more) h = itself
  future-twins c row valid (Arrow args result isolated) (Arrow others outcome alone) h = itself
  future-twins c row valid (ErrorAtom detail) (ErrorAtom other) h = itself
  future-twins c row valid _ _ h = absurd h

  -- a shape fits both of two atoms that are twins
  pub fits-twins : (x : Shape) → IsValid x → (d e : AtomDef) → TwinDefs m n d e → Fits m x d ↔ Fits n x e
  fits-twins Nil valid d e h = itself
  fits-twins (BoolShape b) valid d e h = itself
  fits-twins (Int i) valid d e h = itself
  fits-twins (Str t) valid d e h = itself
  fits-twins (List' mark _ items) valid d e h = list-twins _ items valid.1 d e h
  fits-twins (Mapping' mark _ fields) valid d e h = mapping-twins _ fields valid.3 d e h
  fits-twins (Error' _ detail) valid d e h = error-twins detail valid.1 d e h
  fits-twins (Function isolated graph) valid d e h = function-twins isolated graph valid d e h
  fits-twins (Future' _ results) valid d e h = future-twins _ results valid d e h

  -- ---- types

  def-twins : (x : Shape) → IsValid x → (o p : Option AtomDef) → SameOption (TwinDefs m n) o p → IsSomeAnd o (Fits m x) ↔ IsSomeAnd p (Fits n x)
  def-twins x valid None None h = itself
  def-twins x valid (Some d) (Some e) h = fits-twins x valid d e h
  def-twins x valid None (Some e) h = absurd h
  def-twins x valid (Some d) None h = absurd h

  pub self-twins : TwinAtoms m n → (t : SemType) → AreTwins m t n t
  self-twins twins (Basic b) x valid = itself
  self-twins twins (Atom a) x valid = def-twins x valid (slice_get m a) (slice_get n a) (zip-get (TwinDefs m n) m n a twins)
  self-twins twins (Or' _ s _ t) x valid = either (self-twins twins s x valid) (self-twins twins t x valid)
  self-twins twins (And' _ s _ t) x valid = both (self-twins twins s x valid) (self-twins twins t x valid)
  self-twins twins (Not' _ t) x valid = neither (self-twins twins t x valid)
