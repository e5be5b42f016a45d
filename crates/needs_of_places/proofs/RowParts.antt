-- Parts of rows, in the words of the instructions that name them.
use Rattle.std.proofs.Common.{◌≡◌, ◌∙◌, ℕ, List, [], ◌∷◌, Option, Some, None, length, slice_get, option_map, refl, sym, ap}
use Rattle.std.proofs.lemmas.Option.{slice_get-map}
use Rattle.type_model.specs.declared.basic.SemType.{SemType, Atom}
use Rattle.operations.specs.declared.operation.Constant.{Constant}
use Rattle.operations.specs.declared.operation.Operation.TheVariants as op
use Rattle.operations.specs.Rows.{Signature}
use Rattle.stack_code.specs.declared.code.Unit.{Unit as CodeUnit}
use Rattle.stack_code.specs.Commands.{Do}
use Rattle.stack_code.specs.Places.{signature_of}
use Rattle.code_needs.specs.Combining.{Needs, ◌&◌, as_many, need, none, of_some, one}
use Rattle.code_needs.specs.declared.kind.Kind.TheVariants.{Booleans}
use Rattle.code_needs.specs.Needs.{HasBoth, HasConstant}
use Rattle.code_needs.specs.RowNeeds.{below_each, has, has_all}
use Rattle.needs_of_places.specs.declared.site.Site.{Site}
use Rattle.needs_of_places.specs.Lending.{own_of}
use Rattle.needs_of_places.specs.Sites.{row_at}

pub one-and : (ts : List SemType) (F : SemType → Needs) (n : Needs) → one ts F & n ≡ one ts (λ a. F a & n)
one-and [] F n = refl
one-and (a ∷ []) F n = refl
one-and (a ∷ b ∷ ts) F n = refl

module _ (site : Site) (ts : List SemType) (r : Option SemType) where
  constant-is : (o : Option Constant) → of_some o (λ k. none ts & of_some r (λ t. need (HasConstant t k))) ≡ row_at site ts r (option_map (λ k. Do (op.Const k)) o)
  constant-is (Some k) = refl
  constant-is None = refl

  pub constant-so : (o p : Option Constant) → p ≡ o → of_some p (λ k. none ts & of_some r (λ t. need (HasConstant t k))) ≡ row_at site ts r (option_map (λ k. Do (op.Const k)) o)
  constant-so o p e = ap (λ (q : Option Constant). of_some q (λ k. none ts & of_some r (λ t. need (HasConstant t k)))) e ∙ constant-is o

  test-is : (o : Option SemType) → of_some o (λ u. one ts (λ v. has r Booleans)) ≡ row_at site ts r (option_map (λ t. Do (op.Test t)) o)
  test-is (Some t) = refl
  test-is None = refl

  pub test-so : (o p : Option SemType) → p ≡ o → of_some p (λ u. one ts (λ v. has r Booleans)) ≡ row_at site ts r (option_map (λ t. Do (op.Test t)) o)
  test-so o p e = ap (λ (q : Option SemType). of_some q (λ u. one ts (λ v. has r Booleans))) e ∙ test-is o

  cast-is : (o : Option SemType) → of_some o (λ u. one ts (λ v. of_some r (λ t. need (HasBoth t v u)))) ≡ row_at site ts r (option_map (λ t. Do (op.Cast t)) o)
  cast-is (Some t) = refl
  cast-is None = refl

  pub cast-so : (o p : Option SemType) → p ≡ o → of_some p (λ u. one ts (λ v. of_some r (λ t. need (HasBoth t v u)))) ≡ row_at site ts r (option_map (λ t. Do (op.Cast t)) o)
  cast-so o p e = ap (λ (q : Option SemType). of_some q (λ u. one ts (λ v. of_some r (λ t. need (HasBoth t v u))))) e ∙ cast-is o

  -- the signature of the unit is there where the unit is
  call-is : (n : ℕ) (o : Option CodeUnit) → slice_get site.code.now.units n ≡ o
      → of_some o (λ u. as_many ts (length u.params) & below_each ts u.params & has_all r u.result) ≡ row_at site ts r (option_map (λ u. Do (op.Call n (length u.params))) o)
  call-is n None e = refl
  call-is n (Some u) e =
      ap (λ (q : Option Signature). as_many ts (length u.params) & of_some q (λ s. below_each ts s.params & has_all r s.result))
      (sym (slice_get-map signature_of site.code.now.units n ∙ ap (option_map signature_of) e))

  pub call-so : (n : ℕ) (p : Option CodeUnit) → p ≡ slice_get site.code.now.units n
      → of_some p (λ u. as_many ts (length u.params) & below_each ts u.params & has_all r u.result)
      ≡ row_at site ts r (option_map (λ u. Do (op.Call n (length u.params))) (slice_get site.code.now.units n))
  call-so n p e =
      ap (λ (q : Option CodeUnit). of_some q (λ u. as_many ts (length u.params) & below_each ts u.params & has_all r u.result)) e
      ∙ call-is n (slice_get site.code.now.units n) refl

  start-is : (n : ℕ) (future : SemType) (o : Option CodeUnit) → slice_get site.code.now.units n ≡ o → future ≡ Atom (own_of (λ u. u.future) o)
      → of_some o (λ u. as_many ts (length u.params) & below_each ts u.params & has_all r future) ≡ row_at site ts r (option_map (λ u. Do (op.Start n (length u.params))) o)
  start-is n future None e d = refl
  start-is n future (Some u) e d =
      ap (λ (t : SemType). as_many ts (length u.params) & below_each ts u.params & has_all r t) d
      ∙ ap (λ (q : Option Signature). as_many ts (length u.params) & of_some q (λ s. below_each ts s.params & has_all r (Atom s.future)))
      (sym (slice_get-map signature_of site.code.now.units n ∙ ap (option_map signature_of) e))

  pub start-so : (n : ℕ) (future : SemType) (p : Option CodeUnit) → p ≡ slice_get site.code.now.units n → future ≡ Atom (own_of (λ u. u.future) (slice_get site.code.now.units n))
      → of_some p (λ u. as_many ts (length u.params) & below_each ts u.params & has_all r future)
      ≡ row_at site ts r (option_map (λ u. Do (op.Start n (length u.params))) (slice_get site.code.now.units n))
  start-so n future p e d =
      ap (λ (q : Option CodeUnit). of_some q (λ u. as_many ts (length u.params) & below_each ts u.params & has_all r future)) e
      ∙ start-is n future (slice_get site.code.now.units n) refl d

  made-is : (n count : ℕ) (function : SemType) (o : Option CodeUnit) → slice_get site.code.now.units n ≡ o → function ≡ Atom (own_of (λ u. u.arrow) o)
      → as_many ts count & of_some o (λ u. below_each ts u.captured & has_all r function) ≡ row_at site ts r (Some (Do (op.MakeFunction n count)))
  made-is n count function None e d =
      ap (λ (q : Option Signature). as_many ts count & of_some q (λ s. below_each ts s.captured & has_all r (Atom s.arrow)))
      (sym (slice_get-map signature_of site.code.now.units n ∙ ap (option_map signature_of) e))
  made-is n count function (Some u) e d =
      ap (λ (t : SemType). as_many ts count & below_each ts u.captured & has_all r t) d
      ∙ ap (λ (q : Option Signature). as_many ts count & of_some q (λ s. below_each ts s.captured & has_all r (Atom s.arrow)))
      (sym (slice_get-map signature_of site.code.now.units n ∙ ap (option_map signature_of) e))

  pub made-so : (n count : ℕ) (function : SemType) (p : Option CodeUnit) → p ≡ slice_get site.code.now.units n → function ≡ Atom (own_of (λ u. u.arrow) (slice_get site.code.now.units n))
      → as_many ts count & of_some p (λ u. below_each ts u.captured & has_all r function) ≡ row_at site ts r (Some (Do (op.MakeFunction n count)))
  made-so n count function p e d =
      ap (λ (q : Option CodeUnit). as_many ts count & of_some q (λ u. below_each ts u.captured & has_all r function)) e
      ∙ made-is n count function (slice_get site.code.now.units n) refl d
