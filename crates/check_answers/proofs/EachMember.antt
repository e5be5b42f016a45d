-- Reads and stores of members: two runs of each need come to the same.
use Rattle.std.proofs.Common.{List}
use Rattle.descriptors.specs.declared.names.Names.{Names}
use Rattle.type_model.specs.declared.answers.TypeLimit.{TypeLimit}
use Rattle.type_model.specs.declared.atoms.AtomDef.{AtomDef}
use Rattle.type_model.specs.Calls.{Asked}
use Rattle.expr_needs.specs.Needs.{IsAccessed, IsIndex, ReadsElement, ReadsField, ReadsOptional, HasField, ExpectsStored, ReadsStored, ReadsStoredField}
use Rattle.check_answers.specs.Laws.{MembersAgree}
use Rattle.check_answers.proofs.Agreeing.{agrees-before, agrees-behind, agrees-grown}
use Rattle.check_answers.proofs.Fields.{reads-field-leads, reads-stored-field-leads}
use Rattle.check_answers.proofs.MemberReads.{accessed-leads, expects-stored-leads, has-field-leads, index-leads, optional-leads, reads-leads, reads-stored-leads}

module _ (passes : List AtomDef → Asked → TypeLimit → Type 0) (names : Names) where
  pub members-agree : MembersAgree passes names
  members-agree =
      record {
        is_accessed = λ texts at. agrees-before passes names (IsAccessed texts at) (λ m n twins. accessed-leads m n passes texts at);
        is_index = λ at. agrees-before passes names (IsIndex at) (λ m n twins. index-leads m n passes at);
        reads_element = λ at. agrees-behind passes names (ReadsElement at) (λ m n twins. reads-leads m n passes at);
        reads_field = λ w at. agrees-grown passes names (ReadsField w at) (λ m n first second twins. reads-field-leads passes m n first second twins w at);
        reads_optional = λ w at. agrees-behind passes names (ReadsOptional w at) (λ m n twins. optional-leads m n passes w at);
        has_field = λ w. agrees-behind passes names (HasField w) (λ m n twins. has-field-leads m n w);
        expects_stored = λ at. agrees-behind passes names (ExpectsStored at) (λ m n twins. expects-stored-leads m n passes at twins);
        reads_stored = λ at. agrees-behind passes names (ReadsStored at) (λ m n twins. reads-stored-leads m n passes at);
        reads_stored_field = λ w at. agrees-grown passes names (ReadsStoredField w at) (λ m n first second twins. reads-stored-field-leads passes m n first second twins w at);
      }
