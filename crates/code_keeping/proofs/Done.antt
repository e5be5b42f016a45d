-- Operations by families: what a frame asks for with each fits, and something comes.
use Rattle.std.proofs.Common.{◌≡◌, ◌∙◌, ℕ, List, [], ◌∷◌, Option, inl, inr, length, refl, sym, ap}
use Rattle.std.specs.Prelude.{◌⊎◌}
use Rattle.type_model.specs.declared.basic.SemType.{SemType}
use Rattle.operations.specs.declared.operation.Operation.{Operation}
use Rattle.operations.specs.declared.operation.Operation.TheVariants as op
use Rattle.operations.specs.Rows.{Surroundings, Two}
use Rattle.operations.specs.Talk.{NoTalk, talk_of}
use Rattle.operations.specs.Typing.{OpTyped}
use Rattle.value_model.specs.declared.filler.Filler.{Filler}
use Rattle.value_model.specs.Meaning.{Answers}
use Rattle.op_model.specs.Common.{Common}
use Rattle.op_model.specs.Local.{Local, acts, takes}
use Rattle.machine_model.specs.Following.{EndsFrame}
use Rattle.stack_code.specs.declared.code.Code.{Code}
use Rattle.stack_code.specs.declared.code.Unit.{Unit as CodeUnit}
use Rattle.stack_code.specs.Places.{Station, surroundings}
use Rattle.stack_code.specs.WellTyped.{WellTyped}
use Rattle.code_keeping.specs.Laws.{EachRow, IsDone, IsDoneAt, NumbersAndTextsAreDone, TakesAll, TestsAreDone, VariablesAreDone}
use Rattle.code_keeping.proofs.Asks.{strict-operations-come, strict-operations-keep}
use Rattle.code_keeping.proofs.Coming.{RowHolds, row-comes, row-keeps}
use Rattle.code_keeping.proofs.Operands.{none-long, one-long, two-long}
use Rattle.code_keeping.proofs.Panicking.{loads-are-done}
use Rattle.code_keeping.proofs.Valuing as valuing
use Rattle.code_keeping.proofs.Varying.{load-module, store-module, tick}

-- ---- how many operands it takes

-- so many in each of its rows
abbrev pub HasOperands : ℕ → Operation → Type 0
HasOperands n o = (code : Code) (place : Surroundings) (operands : List SemType) (result : Option SemType) → OpTyped code.atoms place o operands result → length operands ≡ n

pub takes-all : (n : ℕ) (o : Operation) → ((captured : List ℕ) (l : Local) → acts captured o l ≡ takes o l n) → HasOperands n o → TakesAll o
takes-all n o is has code place operands result typed captured l =
    is captured l ∙ ap (λ k. takes o l k) (sym (has code place operands result typed))

-- ---- an operation with a row

module _ (natives : Answers) (fillers : ℕ → List Filler) where
  -- that has operands as its rows say, where all is as its row needs it
  pub row-done-at : (code : Code) (c : Common) → WellTyped code → (o : Operation) → talk_of o ≡ NoTalk → (¬ (EndsFrame o)) → TakesAll o → EachRow code o (λ place. RowHolds code fillers natives c place o) → IsDoneAt fillers natives code c o
  row-done-at code c t o quiet goes strict row = (
    strict-operations-keep natives fillers code c o t quiet goes strict (λ u station names. row-keeps code fillers natives c (surroundings code u station) o (row u station names)),
    strict-operations-come natives fillers code c o t strict (λ u station names. row-comes code fillers natives c (surroundings code u station) o (row u station names)),
  )

  row-done : (o : Operation) → talk_of o ≡ NoTalk → (¬ (EndsFrame o)) → TakesAll o → ((code : Code) (u : CodeUnit) (station : Station) → WellTyped code → (c : Common) → RowHolds code fillers natives c (surroundings code u station) o) → IsDone fillers natives o
  row-done o quiet goes strict row code c t = row-done-at code c t o quiet goes strict (λ u station names. row code u station t c)

pub numbers-and-texts-are-done : (natives : Answers) → NumbersAndTextsAreDone natives
numbers-and-texts-are-done natives fillers = (
  row-done natives fillers op.Add refl (λ e. e) (takes-all 2 op.Add (λ captured l. refl) (λ code place os r t. two-long os _ t)) (λ code u station t. valuing.add fillers natives code t (surroundings code u station)),
  row-done natives fillers op.Subtract refl (λ e. e) (takes-all 2 op.Subtract (λ captured l. refl) (λ code place os r t. two-long os _ t)) (λ code u station t. valuing.subtract fillers natives code t (surroundings code u station)),
  row-done natives fillers op.Multiply refl (λ e. e) (takes-all 2 op.Multiply (λ captured l. refl) (λ code place os r t. two-long os _ t)) (λ code u station t. valuing.multiply fillers natives code t (surroundings code u station)),
  row-done natives fillers op.Divide refl (λ e. e) (takes-all 2 op.Divide (λ captured l. refl) (λ code place os r t. two-long os _ t)) (λ code u station t. valuing.divide fillers natives code t (surroundings code u station)),
  row-done natives fillers op.Remainder refl (λ e. e) (takes-all 2 op.Remainder (λ captured l. refl) (λ code place os r t. two-long os _ t)) (λ code u station t. valuing.remainder fillers natives code t (surroundings code u station)),
  row-done natives fillers op.Negate refl (λ e. e) (takes-all 1 op.Negate (λ captured l. refl) (λ code place os r t. one-long os _ t)) (λ code u station t. valuing.negate fillers natives code t (surroundings code u station)),
  row-done natives fillers op.Concat refl (λ e. e) (takes-all 2 op.Concat (λ captured l. refl) (λ code place os r t. two-long os _ t)) (λ code u station t. valuing.concat fillers natives code t (surroundings code u station)),
  row-done natives fillers op.GetChar refl (λ e. e) (takes-all 2 op.GetChar (λ captured l. refl) (λ code place os r t. two-long os _ t)) (λ code u station t. valuing.get-char fillers natives code t (surroundings code u station)),
)

-- two ints or two strings are two
either-long : (P Q : SemType → SemType → Type 0) (operands : List SemType) → Two operands P ⊎ Two operands Q → length operands ≡ 2
either-long P Q operands (inl h) = two-long operands _ h
either-long P Q operands (inr h) = two-long operands _ h

pub tests-are-done : (natives : Answers) → TestsAreDone natives
tests-are-done natives fillers = (
  row-done natives fillers op.Less refl (λ e. e) (takes-all 2 op.Less (λ captured l. refl) (λ code place os r t. either-long _ _ os t)) (λ code u station t. valuing.less fillers natives code t (surroundings code u station)),
  row-done natives fillers op.LessEqual refl (λ e. e) (takes-all 2 op.LessEqual (λ captured l. refl) (λ code place os r t. either-long _ _ os t)) (λ code u station t. valuing.less-equal fillers natives code t (surroundings code u station)),
  row-done natives fillers op.Not refl (λ e. e) (takes-all 1 op.Not (λ captured l. refl) (λ code place os r t. one-long os _ t)) (λ code u station t. valuing.negation fillers natives code t (surroundings code u station)),
  row-done natives fillers op.Equal refl (λ e. e) (takes-all 2 op.Equal (λ captured l. refl) (λ code place os r t. two-long os _ t)) (λ code u station t. valuing.equal fillers natives code t (surroundings code u station)),
  row-done natives fillers op.Same refl (λ e. e) (takes-all 2 op.Same (λ captured l. refl) (λ code place os r t. two-long os _ t)) (λ code u station t. valuing.identical fillers natives code t (surroundings code u station)),
  λ s. (
    row-done natives fillers (op.Test s) refl (λ e. e) (takes-all 1 (op.Test s) (λ captured l. refl) (λ code place os r t. one-long os _ t)) (λ code u station t. valuing.test fillers natives code t (surroundings code u station) s),
    row-done natives fillers (op.Cast s) refl (λ e. e) (takes-all 1 (op.Cast s) (λ captured l. refl) (λ code place os r t. one-long os _ t)) (λ code u station t. valuing.cast fillers natives code t (surroundings code u station) s),
  ),
)

pub variables-are-done : (natives : Answers) → VariablesAreDone natives
variables-are-done natives fillers = (
  row-done natives fillers op.Tick refl (λ e. e) (takes-all 0 op.Tick (λ captured l. refl) (λ code place os r t. none-long os t.0)) (λ code u station t. tick fillers natives code t u station),
  (λ m. (
    row-done natives fillers (op.LoadModule m) refl (λ e. e) (takes-all 0 (op.LoadModule m) (λ captured l. refl) (λ code place os r t. none-long os t.0)) (λ code u station t. load-module fillers natives code t u station m),
    row-done natives fillers (op.StoreModule m) refl (λ e. e) (takes-all 1 (op.StoreModule m) (λ captured l. refl) (λ code place os r t. one-long os _ t.0)) (λ code u station t. store-module fillers natives code t u station m),
  )),
  loads-are-done natives fillers,
)
