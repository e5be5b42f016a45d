use Rattle.std.proofs.Common.{subst}
use Rattle.std.proofs.lemmas.Option.{slice_get_within}
use Rattle.std.proofs.lemmas.Result.{IfOk-weaker}
use Rattle.module_loader.specs.inner.Linked.{IsInFile}
use Rattle.module_loader.proofs.Placing.{file-there, told-as}
use Rattle.module_loader.proofs.faults.at_import.Goals as goal

pub bounds-read-number : goal.bounds-read-number
bounds-read-number c = slice_get_within c.args.read.now c.args.at.file c.requires.0 c.requires.1

pub in_file-requires : goal.in_file-requires
in_file-requires c =
    let read = c.args.read.now in
    let h = c.requires in
    subst (IsInFile c.args.at) (file-there read c.args.at c.index-read-number.result h c.index-read-number.is) h.2

pub returns : goal.returns
returns c =
    let read = c.args.read.now in
    let h = c.requires in
    let same = file-there read c.args.at c.index-read-number.result h c.index-read-number.is in
    IfOk-weaker c.in_file.result _ _ (λ r is. λ taken are. told-as read c.index-read-number.result c.args.code c.args.at r h same is taken are) c.in_file.ensures
