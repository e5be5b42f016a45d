-- Operations on ints, strings and booleans, comparisons, tests and casts: what comes of them is typed, and something comes.
use lib.Signed.{mag, mag_rem}
use lib.Utf8.{scalar}
use Rattle.std.proofs.Common.{◌≡◌, ◌≤◌, ◌<◌, ◌∙◌, ℤ, ℕ, zero, suc, Bool, true, false, List, [], ◌∷◌, ◌++◌, Option, Some, None, inl, inr, length, map, refl, sym, subst, ap, arith}
use Rattle.std.proofs.lemmas.Bool.{and_parts}
use Rattle.std.proofs.lemmas.Int.{ints}
use Rattle.std.specs.Str.{all_scalars}
use Rattle.std.specs.Prelude.{◌&&◌, ◌⊎◌, IsSomeAnd, ◌+ℤ◌, ◌-ℤ◌, ◌*ℤ◌, ◌≤ℤ◌, ◌<ℤ◌, int_rem, neg_ℤ, not, option_map, pos, negsuc, slice_get}
use Rattle.bal_base.specs.declared.shape.Shape.{Shape, Int as IntShape, Str as StrShape}
use Rattle.bal_base.specs.declared.text.Text.{Text}
use Rattle.bal_base.specs.Valid.{IsInt, IsText, IsValid}
use Rattle.type_model.specs.declared.basic.SemType.{SemType}
use Rattle.type_model.specs.Membership.{In}
use Rattle.operations.specs.declared.operation.Constant.TheVariants.{Int as IntConstant, Str as StrConstant}
use Rattle.operations.specs.declared.operation.Operation.{Operation}
use Rattle.operations.specs.declared.operation.Operation.TheVariants as op
use Rattle.operations.specs.Kinds.{IsBoolean, IsInteger, IsString}
use Rattle.operations.specs.Rows.{IsWithin, ResultHas, Surroundings, Two}
use Rattle.operations.specs.Typing.{OnInts as IntsTyped, OnStrings as StringsTyped, OpTyped}
use Rattle.value_model.specs.declared.filler.Filler.{Filler}
use Rattle.value_model.specs.declared.panics.PanicName.TheVariants.{DivisionByZero, IndexOutOfRange, NumberOverflow, TooLong, TypeCastError}
use Rattle.value_model.specs.declared.value.Value.{Value}
use Rattle.value_model.specs.declared.value.Value.TheVariants.{Nil, Bool as Truth, Int, Str, Struct, Error, Function, Future}
use Rattle.value_model.specs.Meaning.{Answers}
use Rattle.value_model.specs.Stands.{Belongs, OwnTypes, Stands}
use Rattle.value_model.specs.World.{Came, World}
use Rattle.op_model.specs.Common.{Caller, Common}
use Rattle.op_model.specs.Effects.{Effect}
use Rattle.op_model.specs.Equality.{AreEqual}
use Rattle.op_model.specs.ProgramFacts.{UnitFacts, own_types}
use Rattle.op_model.specs.Performs.{OnWorld, Performs}
use Rattle.op_model.specs.Rows.{Else, GivesInt, GivesText, Tells, found, gives, panics}
use Rattle.op_model.specs.StructureRows.{at_place, reads_char}
use Rattle.op_model.specs.ValueRows.{Casts, Divides, IsBefore, IsNotBehind, Remains}
use Rattle.machine_model.specs.Runs.{Running}
use Rattle.machine_model.proofs.Once.{some-same}
use Rattle.stack_code.specs.declared.code.Code.{Code}
use Rattle.stack_code.specs.declared.code.Unit.{Unit as CodeUnit}
use Rattle.stack_code.specs.CodeMachine.{code_facts, unit_facts}
use Rattle.stack_code.specs.Good.{GoodCommon}
use Rattle.stack_code.specs.Values.{AllFit, Fits, code_types}
use Rattle.stack_code.specs.WellTyped.{WellTyped}
use Rattle.code_keeping.specs.Kinds.{Booleans, Ints, Kind, Strings, kind_of, value_kind}
use Rattle.code_keeping.proofs.Coming.{AllCome, Does, IsTyped, RowHolds, at-once, boolean-typed, does-else, does-tell, does-unless, does-where, gives-typed, on-world, panics-typed}
use Rattle.code_keeping.proofs.Itself.{its-shape}
use Rattle.code_keeping.proofs.OfKind.{of-kind}
use Rattle.code_keeping.proofs.Operands.{a-boolean, a-string, an-int, booleans, integers, one-fit, strings, two-fit}

-- ---- texts and ints

both-true : (a b : Bool) → a ≡ true → b ≡ true → (a && b) ≡ true
both-true true b e k = k
both-true false b e k = e

pub text-both : (x : ℕ) (s : Text) → scalar x ≡ true → IsText s → IsText (x ∷ s)
text-both x s h k = both-true (scalar x) (all_scalars s) h k

pub text-parts : (x : ℕ) (s : Text) → IsText (x ∷ s) → (scalar x ≡ true) × IsText s
text-parts x s h = and_parts (scalar x) (all_scalars s) h

pub text-append : (s t : Text) → IsText s → IsText t → IsText (s ++ t)
text-append [] t h k = k
text-append (x ∷ s) t h k = let (one, more) = text-parts x s h in text-both x (s ++ t) one (text-append s t more k)

pub text-at : (s : Text) (n x : ℕ) → slice_get s n ≡ Some x → IsText s → IsText (x ∷ [])
text-at [] n x e h = absurd (let q : ⊥ = cc in q)
text-at (y ∷ s) zero x e h = text-both x [] (subst (λ z. scalar z ≡ true) (some-same y x e) (text-parts y s h).0) refl
text-at (y ∷ s) (suc n) x e h = text-at s n x e (text-parts y s h).1

-- an int that is no farther from 0 than another one
no-farther : (z a : ℤ) → mag z ≤ mag a → IsInt a → IsInt z
no-farther (pos z) (pos a) le h = omega (arith, ints, le, h.0, h.1)
no-farther (pos z) (negsuc a) le h = omega (arith, ints, le, h.0, h.1)
no-farther (negsuc z) (pos a) le h = omega (arith, ints, le, h.0, h.1)
no-farther (negsuc z) (negsuc a) le h = omega (arith, ints, le, h.0, h.1)

rem-int : (a d : ℤ) → IsInt a → IsInt (int_rem a d)
rem-int a d h = no-farther (int_rem a d) a (mag_rem a d) h

-- ---- the types that values have of their own

abbrev of-facts : UnitFacts → ℕ × ℕ
of-facts u = (u.arrow, u.future)

abbrev of-unit : CodeUnit → ℕ × ℕ
of-unit u = (u.arrow, u.future)

pub own-same : (fillers : ℕ → List Filler) (code : Code) → own_types (code_facts fillers code) ≡ code_types code
own-same fillers code = λ i. record { atoms = code.atoms; units = maps code.units i }
  where
    maps : (us : List CodeUnit) → map of-facts (map unit_facts us) ≡ map of-unit us
    maps [] = refl
    maps (u ∷ us) = ap (λ rest. (u.arrow, u.future) ∷ rest) (maps us)

-- ---- what is given

module _ (code : Code) (c : Common) (good : GoodCommon code c Running) (result : Option SemType) where
  pub int-typed : (n : ℤ) → IsInt n → ResultHas code.atoms result IsInteger → IsTyped code c good result (gives c.world (Int n))
  int-typed n int has = gives-typed code c good result (Int n) IsInteger has (tt, int, tt) (λ x valid s. (n, its-shape code c (IntConstant n) x s))

  pub text-typed : (s : Text) → IsText s → ResultHas code.atoms result IsString → IsTyped code c good result (gives c.world (Str s))
  text-typed s text has = gives-typed code c good result (Str s) IsString has (tt, text, tt) (λ x valid st. subst IsString (sym (its-shape code c (StrConstant s) x st)) tt)

  pub does-int : (n : ℤ) → ResultHas code.atoms result IsInteger → Does code c good result (GivesInt c.world n)
  does-int n has = does-unless code c good result (IsInt n) (panics c.world NumberOverflow) (Else (gives c.world (Int n))) (panics-typed code c good result NumberOverflow refl) (λ int. does-else code c good result (gives c.world (Int n)) (int-typed n int has))

  pub does-text : (s : Text) → IsText s → ResultHas code.atoms result IsString → Does code c good result (GivesText c.world s)
  does-text s text has =
      does-unless code c good result _ (panics c.world TooLong) (Else (gives c.world (Str s))) (panics-typed code c good result TooLong refl) (λ short. does-else code c good result (gives c.world (Str s)) (text-typed s text has))

  does-divide : (x y : ℤ) → ResultHas code.atoms result IsInteger → Does code c good result (Divides c.world x y)
  does-divide x y has = does-where code c good result _ (panics c.world DivisionByZero) (GivesInt c.world _) (panics-typed code c good result DivisionByZero refl) (λ some. does-int _ has)

  does-remain : (x y : ℤ) → IsInt x → ResultHas code.atoms result IsInteger → Does code c good result (Remains c.world x y)
  does-remain x y int has =
      does-where code c good result _ (panics c.world DivisionByZero) (Else (gives c.world (Int (int_rem x y)))) (panics-typed code c good result DivisionByZero refl)
      (λ some. does-else code c good result (gives c.world (Int (int_rem x y))) (int-typed (int_rem x y) (rem-int x y int) has))

  char-typed : (t : Text) (i : ℤ) → IsText t → ResultHas code.atoms result IsString → IsTyped code c good result (reads_char c.world t i)
  char-typed t i text has = by (at_place t i) (in-text i)
    where
      in-text : (i : ℤ) → (x : ℕ) → at_place t i ≡ Some x → IsText (x ∷ [])
      in-text (pos k) x e = text-at t k x e text
      in-text (negsuc k) x e = absurd (let q : ⊥ = cc in q)

      by : (o : Option ℕ) → ((x : ℕ) → o ≡ Some x → IsText (x ∷ [])) → IsTyped code c good result (found c.world IndexOutOfRange (option_map (λ z. Str (z ∷ [])) o))
      by (Some x) h = text-typed (x ∷ []) (h x refl) has
      by None h = panics-typed code c good result IndexOutOfRange refl

-- ---- operands of a kind

module _ (fillers : ℕ → List Filler) (natives : Answers) (code : Code) (t : WellTyped code) (place : Surroundings) where
  abbrev Holds : Operation → Type 0
  Holds o = (c : Common) → RowHolds code fillers natives c place o

  module _ (c : Common) (good : GoodCommon code c Running) where
    abbrev kind : Value → Kind
    kind v = value_kind c.world.heap v

    its-int : (v : Value) (s : SemType) → Fits code c v s → IsWithin code.atoms IsInteger s → kind v ≡ Ints
    its-int v s fits within = of-kind code t c good.nearly.heap (λ k. k ≡ Ints) v s fits (λ x h. integers x (within x h))

    its-text : (v : Value) (s : SemType) → Fits code c v s → IsWithin code.atoms IsString s → kind v ≡ Strings
    its-text v s fits within = of-kind code t c good.nearly.heap (λ k. k ≡ Strings) v s fits (λ x h. strings x (within x h))

    its-truth : (v : Value) (s : SemType) → Fits code c v s → IsWithin code.atoms IsBoolean s → kind v ≡ Booleans
    its-truth v s fits within = of-kind code t c good.nearly.heap (λ k. k ≡ Booleans) v s fits (λ x h. booleans x (within x h))

    -- two ints, or two strings; each is valid
    two-ints : (R : List Value → Type 0) (P : Shape → Type 0) (result : Option SemType) (operands : List SemType) (vs : List Value) → IntsTyped code.atoms place operands P result → AllFit code c vs operands →
        ((x y : ℤ) → IsInt x → IsInt y → ResultHas code.atoms result P → R (Int x ∷ Int y ∷ [])) → R vs
    two-ints R P result operands vs typed fit k =
        two-fit code c R operands vs _ typed fit
        (λ a b v w (first, second, has) f g. an-int c.world.heap (λ z. Fits code c z a → R (z ∷ w ∷ [])) v (its-int v a f first)
        (λ x fx. an-int c.world.heap (λ z. Fits code c z b → R (Int x ∷ z ∷ [])) w (its-int w b g second) (λ y fy. k x y fx.1.1 fy.1.1 has) g) f)

    two-texts : (R : List Value → Type 0) (P : Shape → Type 0) (result : Option SemType) (operands : List SemType) (vs : List Value) → StringsTyped code.atoms place operands P result → AllFit code c vs operands →
        ((s u : Text) → IsText s → IsText u → ResultHas code.atoms result P → R (Str s ∷ Str u ∷ [])) → R vs
    two-texts R P result operands vs typed fit k =
        two-fit code c R operands vs _ typed fit
        (λ a b v w (first, second, has) f g. a-string c.world.heap (λ z. Fits code c z a → R (z ∷ w ∷ [])) v (its-text v a f first)
        (λ x fx. a-string c.world.heap (λ z. Fits code c z b → R (Str x ∷ z ∷ [])) w (its-text w b g second) (λ y fy. k x y fx.1.1 fy.1.1 has) g) f)

  -- ---- rows

  -- on two ints
  ints-row : (P : World → ℤ → ℤ → Came → Type 0) (o : Operation) → ((operands : List SemType) (result : Option SemType) → OpTyped code.atoms place o operands result → IntsTyped code.atoms place operands IsInteger result) →
      ((x y : ℤ) (caller : Caller) (c : Common) (effect : Effect) → Performs (code_facts fillers code) natives o (Int x ∷ Int y ∷ []) caller c effect ≡ OnWorld (λ w. P w x y) c effect) →
      ((c : Common) (good : GoodCommon code c Running) (result : Option SemType) (x y : ℤ) → IsInt x → ResultHas code.atoms result IsInteger → Does code c good result (P c.world x y)) → Holds o
  ints-row P o typed is does c operands result vs caller good t fit =
      two-ints c good (λ us. AllCome code c result (Performs (code_facts fillers code) natives o us caller c)) IsInteger result operands vs (typed operands result t) fit
      (λ x y ix iy has. subst (λ Q. AllCome code c result Q) (λ i effect. sym (is x y caller c effect) i) (on-world code c good result (λ w. P w x y) (does c good result x y ix has)))

  pub add : Holds op.Add
  add = ints-row (λ w x y. GivesInt w (x +ℤ y)) op.Add (λ os r t. t) (λ x y caller c e. refl) (λ c good r x y ix has. does-int code c good r (x +ℤ y) has)

  pub subtract : Holds op.Subtract
  subtract = ints-row (λ w x y. GivesInt w (x -ℤ y)) op.Subtract (λ os r t. t) (λ x y caller c e. refl) (λ c good r x y ix has. does-int code c good r (x -ℤ y) has)

  pub multiply : Holds op.Multiply
  multiply = ints-row (λ w x y. GivesInt w (x *ℤ y)) op.Multiply (λ os r t. t) (λ x y caller c e. refl) (λ c good r x y ix has. does-int code c good r (x *ℤ y) has)

  pub divide : Holds op.Divide
  divide = ints-row Divides op.Divide (λ os r t. t) (λ x y caller c e. refl) (λ c good r x y ix has. does-divide code c good r x y has)

  pub remainder : Holds op.Remainder
  remainder = ints-row Remains op.Remainder (λ os r t. t) (λ x y caller c e. refl) (λ c good r x y ix has. does-remain code c good r x y ix has)

  pub negate : Holds op.Negate
  negate c operands result vs caller good typed fit =
      one-fit code c (λ us. AllCome code c result (Performs (code_facts fillers code) natives op.Negate us caller c)) operands vs _ typed fit
      (λ a v (within, has) f. an-int c.world.heap (λ z. AllCome code c result (Performs (code_facts fillers code) natives op.Negate (z ∷ []) caller c)) v (its-int c good v a f within)
      (λ x. on-world code c good result (λ w. GivesInt w (neg_ℤ x)) (does-int code c good result (neg_ℤ x) has)))

  pub concat : Holds op.Concat
  concat c operands result vs caller good typed fit =
      two-texts c good (λ us. AllCome code c result (Performs (code_facts fillers code) natives op.Concat us caller c)) IsString result operands vs typed fit
      (λ s u ts tu has. on-world code c good result (λ w. GivesText w (s ++ u)) (does-text code c good result (s ++ u) (text-append s u ts tu) has))

  -- on two ints or two strings
  compared : (P : ℤ → ℤ → Type 0) (Q : Text → Text → Type 0) (R : List Value → Effect → Type 0) (c : Common) (operands : List SemType) (result : Option SemType) (vs : List Value) → (good : GoodCommon code c Running) →
      IntsTyped code.atoms place operands IsBoolean result ⊎ StringsTyped code.atoms place operands IsBoolean result → AllFit code c vs operands →
      ((x y : ℤ) → R (Int x ∷ Int y ∷ []) ≡ OnWorld (λ w. Tells w (P x y)) c) → ((s u : Text) → R (Str s ∷ Str u ∷ []) ≡ OnWorld (λ w. Tells w (Q s u)) c) → AllCome code c result (R vs)
  compared P Q R c operands result vs good (inl typed) fit int-is text-is =
      two-ints c good (λ us. AllCome code c result (R us)) IsBoolean result operands vs typed fit
      (λ x y ix iy has. subst (λ S. AllCome code c result S) (sym (int-is x y)) (on-world code c good result (λ w. Tells w (P x y)) (does-tell code c good result (P x y) has)))
  compared P Q R c operands result vs good (inr typed) fit int-is text-is =
      two-texts c good (λ us. AllCome code c result (R us)) IsBoolean result operands vs typed fit
      (λ s u ts tu has. subst (λ S. AllCome code c result S) (sym (text-is s u)) (on-world code c good result (λ w. Tells w (Q s u)) (does-tell code c good result (Q s u) has)))

  pub less : Holds op.Less
  less c operands result vs caller good typed fit =
      compared (λ x y. x <ℤ y) IsBefore (λ us. Performs (code_facts fillers code) natives op.Less us caller c) c operands result vs good typed fit (λ x y. refl) (λ s u. refl)

  pub less-equal : Holds op.LessEqual
  less-equal c operands result vs caller good typed fit =
      compared (λ x y. x ≤ℤ y) IsNotBehind (λ us. Performs (code_facts fillers code) natives op.LessEqual us caller c) c operands result vs good typed fit (λ x y. refl) (λ s u. refl)

  pub negation : Holds op.Not
  negation c operands result vs caller good typed fit =
      one-fit code c (λ us. AllCome code c result (Performs (code_facts fillers code) natives op.Not us caller c)) operands vs _ typed fit
      (λ a v (within, has) f. a-boolean c.world.heap (λ z. AllCome code c result (Performs (code_facts fillers code) natives op.Not (z ∷ []) caller c)) v (its-truth c good v a f within)
      (λ b. at-once code c good result (gives c.world (Truth (not b))) (boolean-typed code c good result (not b) has)))

  pub equal : Holds op.Equal
  equal c operands result vs caller good typed fit =
      two-fit code c (λ us. AllCome code c result (Performs (code_facts fillers code) natives op.Equal us caller c)) operands vs _ typed fit
      (λ a b v w (first, second, has) f g. on-world code c good result (λ x. Tells x (AreEqual x.heap v w)) (does-tell code c good result (AreEqual c.world.heap v w) has))

  pub identical : Holds op.Same
  identical c operands result vs caller good typed fit =
      two-fit code c (λ us. AllCome code c result (Performs (code_facts fillers code) natives op.Same us caller c)) operands vs _ typed fit
      (λ a b v w has f g. on-world code c good result (λ x. Tells x (v ≡ w)) (does-tell code c good result (v ≡ w) has))

  pub test : (s : SemType) → Holds (op.Test s)
  test s c operands result vs caller good typed fit =
      one-fit code c (λ us. AllCome code c result (Performs (code_facts fillers code) natives (op.Test s) us caller c)) operands vs _ typed fit
      (λ a v has f. on-world code c good result (λ x. Tells x (Belongs (own_types (code_facts fillers code)) x.heap v s)) (does-tell code c good result (Belongs (own_types (code_facts fillers code)) c.world.heap v s) has))

  pub cast : (s : SemType) → Holds (op.Cast s)
  cast s c operands result vs caller good typed fit =
      one-fit code c (λ us. AllCome code c result (Performs (code_facts fillers code) natives (op.Cast s) us caller c)) operands vs _ typed fit
      (λ a v has f. on-world code c good result (Casts (own_types (code_facts fillers code)) s v)
      (does-unless code c good result (Belongs (own_types (code_facts fillers code)) c.world.heap v s) (panics c.world TypeCastError) (Else (gives c.world v)) (panics-typed code c good result TypeCastError refl)
      (λ belongs. does-else code c good result (gives c.world v)
      (gives-typed code c good result v (λ x. In code.atoms x a × In code.atoms x s) has f.1 (λ x valid stands. (f.2 x valid stands, subst (λ own. Belongs own c.world.heap v s) (own-same fillers code) belongs x valid stands))))))

  pub get-char : Holds op.GetChar
  get-char c operands result vs caller good typed fit =
      two-fit code c (λ us. AllCome code c result (Performs (code_facts fillers code) natives op.GetChar us caller c)) operands vs _ typed fit
      (λ a b v w (first, second, has) f g. a-string c.world.heap (λ z. Fits code c z a → AllCome code c result (Performs (code_facts fillers code) natives op.GetChar (z ∷ w ∷ []) caller c)) v (its-text c good v a f first)
      (λ s fs. an-int c.world.heap (λ z. AllCome code c result (Performs (code_facts fillers code) natives op.GetChar (Str s ∷ z ∷ []) caller c)) w (its-int c good w b g second)
      (λ i. at-once code c good result (reads_char c.world s i) (char-typed code c good result s i fs.1.1 has))) f)
