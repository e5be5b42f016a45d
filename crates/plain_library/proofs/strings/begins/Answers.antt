use Rattle.std.proofs.Common.{◌∙◌, length, take}
use Rattle.std.proofs.lemmas.Cmp.{nat_list_eq_equiv}
use Rattle.plain_library.proofs.strings.begins.Goals as goal

pub returns : goal.returns
returns c =
    c.starts_with.ensures.value ∙ nat_list_eq_equiv.symm c.args.front.now (take (length c.args.front.now) c.args.characters.now)
