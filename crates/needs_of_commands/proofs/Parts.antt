-- What stands at places, taken apart.
use Rattle.std.proofs.Common.{◌≡◌, ◌∙◌, ◌≤◌, ◌<◌, ◌-◌, ◌+◌, ◌⊎◌, ℕ, zero, suc, Bool, true, false, List, [], ◌∷◌, Option, Some, None, Result, Ok, Err, IfSome, arith, ap, drop, get_or, if◌then◌else◌, inl, inr, length, option_copied, option_map, refl, slice_get, subst, sym, take}
use Rattle.std.specs.Prelude.{IfOk, not}
use Rattle.std.proofs.lemmas.List.{take_all}
use Rattle.type_model.specs.declared.basic.SemType.{SemType}
use Rattle.operations.specs.declared.operation.Operation.{Operation}
use Rattle.operations.specs.declared.operation.Operation.TheVariants as op
use Rattle.stack_code.specs.declared.code.Code.{Code}
use Rattle.stack_code.specs.declared.code.StackMap.{StackMap}
use Rattle.stack_code.specs.declared.instr.Instr.{Instr}
use Rattle.stack_code.specs.declared.instr.Instr.TheVariants as instr
use Rattle.stack_code.specs.Commands.{Command, CloseTrap, Do, GoTo, GoToIfNot, OpenTrap, command_of}
use Rattle.stack_code.specs.Places.{no_map, stack_at}
use Rattle.code_needs.specs.Combining.{Needs, ◌&◌, only_if}
use Rattle.code_needs.specs.RowNeeds.{below_each, row_needs}
use Rattle.code_needs.specs.Stacks.{ends, front_of, gives, last_of, operand_count, operands_of}
use Rattle.pair_questions.specs.declared.pair.Pair.{Pair}
use Rattle.needs_of_rows.specs.declared.found.Found.{Found}
use Rattle.needs_of_rows.specs.Finding.{Finds}
use Rattle.needs_of_rows.specs.PairsTaken.{TakesPairs}
use Rattle.needs_of_rows.proofs.Finding.{found-as, found-nothing, found-then}
use Rattle.needs_of_places.specs.declared.site.Lent.{Lent}
use Rattle.needs_of_places.specs.declared.site.Site.{Site}
use Rattle.needs_of_places.specs.Lending.{AreLent, AreLentFor, ArePairsOf}
use Rattle.needs_of_places.specs.Sites.{known_at, row_at}
use Rattle.needs_of_commands.specs.inner.Doing.{AreBefore, AreBehind, doing, stack_of}
use Rattle.needs_of_commands.specs.declared.loans.Loan.{Loan}
use Rattle.needs_of_commands.specs.Loans.{AreLentAt, AreOf, IsLoanAt}

-- ---- lists

pub front-is : (ts : List SemType) → take (length ts - 1) ts ≡ front_of ts
front-is [] = refl
front-is (t ∷ []) = refl
front-is (t ∷ s ∷ more) =
    let long : length (t ∷ s ∷ more) - 1 ≡ suc (length more) = omega arith in
    let less : length (s ∷ more) - 1 ≡ length more = omega arith in
    ap (λ n. take n (t ∷ s ∷ more)) long ∙ ap (λ n. t ∷ take n (s ∷ more)) (sym less) ∙ ap (λ ts. t ∷ ts) (front-is (s ∷ more))

pub last-is : (ts : List SemType) → slice_get ts (length ts - 1) ≡ last_of ts
last-is [] = refl
last-is (t ∷ []) = refl
last-is (t ∷ s ∷ more) =
    let long : length (t ∷ s ∷ more) - 1 ≡ suc (length (s ∷ more) - 1) = omega arith in
    ap (slice_get (t ∷ s ∷ more)) long ∙ last-is (s ∷ more)

pub first-as : (ts : List SemType) (n b : ℕ) → b ≡ length ts - n → take (length ts - b) ts ≡ take n ts
first-as ts n b e = by (short-or (length ts) n)
  where
    short-or : (l m : ℕ) → (l ≤ m) ⊎ (m < l)
    short-or l m = grind arith

    by : (length ts ≤ n) ⊎ (n < length ts) → take (length ts - b) ts ≡ take n ts
    by (inl le) =
        let all : length ts ≤ length ts - b = omega (arith, e, le) in
        take_all (length ts - b) ts all ∙ sym (take_all n ts le)
    by (inr lt) =
        let same : length ts - b ≡ n = omega (arith, e, lt) in
        ap (λ k. take k ts) same

pub stack-is : (maps : List StackMap) (p : ℕ) → stack_of (slice_get maps p) ≡ (get_or maps p no_map).stack
stack-is [] p = refl
stack-is (m ∷ maps) zero = refl
stack-is (m ∷ maps) (suc p) = stack-is maps p

-- ---- operands and results

pub parts-before : (o : Operation) (stack ts rest operands : List SemType) (count : ℕ) → ts ≡ stack → count ≡ operand_count o → rest ≡ take (length ts - count) ts → operands ≡ drop (length ts - count) ts → AreBefore o stack rest operands
parts-before o stack ts rest operands count s n r a = (r ∙ (λ i. take (length (s i) - n i) (s i)), a ∙ (λ i. drop (length (s i) - n i) (s i)))

pub given-behind : (o : Operation) (stack ts stay : List SemType) (given : Option SemType) → ts ≡ stack → true ≡ gives o → stay ≡ front_of ts → given ≡ last_of ts → AreBehind o stack stay given
given-behind o stack ts stay given s g r e = (r ∙ (λ i. if g i then front_of (s i) else s i), e ∙ (λ i. if g i then last_of (s i) else None))

pub none-behind : (o : Operation) (stack ts : List SemType) → ts ≡ stack → false ≡ gives o → AreBehind o stack ts None
none-behind o stack ts s g = ((λ i. if g i then front_of (s i) else s i), (λ i. if g i then last_of (s i) else None))

pub stays-ended : (b : Bool) (n : Needs) (f : Found) → b ≡ true → Finds (only_if (not b) n) f f
stays-ended b n f e = subst (λ (c : Bool). Finds (only_if (not c) n) f f) (sym e) (found-nothing f)

pub stays-on : (b : Bool) (n : Needs) (old new : Found) → b ≡ false → Finds n old new → Finds (only_if (not b) n) old new
stays-on b n old new e p = subst (λ (c : Bool). Finds (only_if (not c) n) old new) (sym e) p

-- ---- operations

module _ (site : Site) (p : ℕ) where
  pub does-so : (c : Option Command) (rest operands stay : List SemType) (given : Option SemType) (ended : Bool) (old mid new : Found)
      → ((o : Operation) → c ≡ Some (Do o) → AreBefore o (stack_at site.code.now p) rest operands)
      → ((o : Operation) → c ≡ Some (Do o) → AreBehind o (stack_at site.code.now (p + 1)) stay given)
      → ((o : Operation) → c ≡ Some (Do o) → ended ≡ ends o)
      → Finds (row_at site operands given c) old mid → Finds (only_if (not ended) (below_each rest stay)) mid new → Finds (doing site p c) old new
  does-so (Some (Do o)) rest operands stay given ended old mid new before behind over finds more =
      let (r, a) = before o refl in
      let (s, g) = behind o refl in
      let e = over o refl in
      found-as (row_at site operands given (Some (Do o)) & only_if (not ended) (below_each rest stay)) (doing site p (Some (Do o))) old new
      (λ i. row_needs site.code.now.atoms (known_at site) o (a i) (g i) & only_if (not (e i)) (below_each (r i) (s i)))
      (found-then (row_at site operands given (Some (Do o))) (only_if (not ended) (below_each rest stay)) old mid new finds more)
  does-so (Some (GoTo to)) rest operands stay given ended old mid new before behind over finds more = found-then None (only_if (not ended) (below_each rest stay)) old mid new finds more
  does-so (Some (GoToIfNot to)) rest operands stay given ended old mid new before behind over finds more = found-then None (only_if (not ended) (below_each rest stay)) old mid new finds more
  does-so (Some (OpenTrap to)) rest operands stay given ended old mid new before behind over finds more = found-then None (only_if (not ended) (below_each rest stay)) old mid new finds more
  does-so (Some CloseTrap) rest operands stay given ended old mid new before behind over finds more = found-then None (only_if (not ended) (below_each rest stay)) old mid new finds more
  does-so None rest operands stay given ended old mid new before behind over finds more = found-then None (only_if (not ended) (below_each rest stay)) old mid new finds more

-- ---- what is lent

pub pairs-so : (code : Code) (i : Instr) (stack rest operands : List SemType) (pairs : Option (List Pair)) → ((o : Operation) → command_of code i ≡ Some (Do o) → AreBefore o stack rest operands)
    → ((o : Operation) → command_of code i ≡ Some (Do o) → ArePairsOf i (operands_of o stack) pairs) → ArePairsOf i operands pairs
pairs-so code (instr.MakeMap atom count immutable) stack rest operands pairs before are =
    let o = op.MakeMapping atom immutable count in
    subst (λ (ts : List SemType). TakesPairs count ts pairs) (sym (before o refl).1) (are o refl)
pairs-so code (instr.MakeError count) stack rest operands pairs before are =
    let o = op.MakeError count in
    subst (λ (ts : List SemType). TakesPairs count (drop 2 ts) pairs) (sym (before o refl).1) (are o refl)
pairs-so code i stack rest operands pairs before are = tt

pub lent-for : (code : Code) (i : Instr) (stack rest operands : List SemType) (lent : Lent) → AreLent lent → AreOf code stack lent.own.now lent.field.now (option_copied lent.pairs) i
    → ((o : Operation) → command_of code i ≡ Some (Do o) → AreBefore o stack rest operands) → AreLentFor code i operands lent
lent-for code i stack rest operands lent all here before = record {
  all = all;
  own = here.own;
  field = here.field;
  pairs = pairs-so code i stack rest operands (option_copied lent.pairs) before here.pairs;
}

pub lent-pairs : (i : Instr) (o : Operation) (stack ts operands : List SemType) (count : ℕ) (pairs : Option (List Pair)) → ts ≡ stack → count ≡ operand_count o → operands ≡ drop (length ts - count) ts → ArePairsOf i operands pairs
    → ArePairsOf i (operands_of o stack) pairs
lent-pairs i o stack ts operands count pairs s n a are = subst (λ (xs : List SemType). ArePairsOf i xs pairs) (a ∙ (λ j. drop (length (s j) - n j) (s j))) are

module _ (code : Code) (p : ℕ) where
  pub loaned : {E : Type 0} (i : Instr) (r : Result Loan E) → slice_get code.instrs p ≡ Some i → IfOk r (λ loan. AreOf code (stack_at code p) loan.own loan.field (option_map (λ v. v.items) loan.pairs) i) → IfOk r (IsLoanAt code p)
  loaned i (Ok loan) e h = subst (λ (q : Option Instr). IfSome q (AreOf code (stack_at code p) loan.own loan.field (option_map (λ v. v.items) loan.pairs))) (sym e) h
  loaned i (Err x) e h = tt

  pub unloaned : (loan : Loan) → slice_get code.instrs p ≡ None → IsLoanAt code p loan
  unloaned loan e = subst (λ (q : Option Instr). IfSome q (AreOf code (stack_at code p) loan.own loan.field (option_map (λ v. v.items) loan.pairs))) (sym e) tt

  pub lent-here : (lent : Lent) (i : Instr) → AreLentAt code p lent → slice_get code.instrs p ≡ Some i → AreOf code (stack_at code p) lent.own.now lent.field.now (option_copied lent.pairs) i
  lent-here lent i h e = subst (λ (q : Option Instr). IfSome q (AreOf code (stack_at code p) lent.own.now lent.field.now (option_copied lent.pairs))) e h.here
