use Rattle.std.proofs.Common.{◌∙◌, ap, length, nat_eq}
use Rattle.module_loader.proofs.Lists.{empty-is}
use Rattle.module_loader.proofs.naming.is_default.Goals as goal

pub returns : goal.returns
returns c = ap (λ n. nat_eq n 0) (c.length.ensures ∙ ap length c.as_text.ensures) ∙ empty-is c.args.folder.now
