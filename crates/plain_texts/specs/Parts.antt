-- The text of an error by its parts.
use Rattle.std.specs.Prelude.{◌++◌, ℕ, List, codes}
use Rattle.value_model.specs.declared.value.Value.{Value}
use Rattle.value_model.specs.Heap.{ErrorObject, Heap}
use Rattle.op_model.specs.Texts.{cause_text, details_text, quoted}

abbrev pub parts_text : Heap → (Value → List ℕ) → ErrorObject → List ℕ
parts_text h text e = codes "error(" ++ quoted e.message ++ cause_text h text e.cause ++ details_text h text e.detail ++ codes ")"
