use Rattle.std.proofs.Common.{◌∙◌, ap, sym}
use Rattle.held_operations.specs.Operation.{type_of}
use Rattle.tested_types.proofs.Retold.{noted-as}
use Rattle.tested_types.proofs.places.note_tested.Goals as goal

pub returns-in-Tree : goal.returns-in-Tree
returns-in-Tree c = noted-as _ _ _ _ _ (ap (λ v. v.sem) c.deref.ensures ∙ sym (ap type_of c.in-Tree.is)) c.note.ensures

pub returns-in-Nil : goal.returns-in-Nil
returns-in-Nil c = noted-as _ _ _ _ _ (sym (ap type_of c.in-Nil.is)) c.note-in-Nil.ensures

pub returns-in-Error : goal.returns-in-Error
returns-in-Error c = noted-as _ _ _ _ _ (sym (ap type_of c.in-Error.is)) c.note-in-Error.ensures

pub returns-in-Single : goal.returns-in-Single
returns-in-Single c = noted-as _ _ _ _ _ (c.single.ensures ∙ sym (ap type_of c.in-Single.is)) c.note-in-Single.ensures
