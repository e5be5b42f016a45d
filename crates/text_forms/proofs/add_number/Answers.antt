use Rattle.std.proofs.Common.{decimal}
use Rattle.text_forms.proofs.Adding.{adds-ascii}
use Rattle.text_forms.proofs.add_number.Goals as goal

pub returns : goal.returns
returns c = adds-ascii _ _ c.format.result.now (decimal c.args.n) c.in_ok-add_text.ensures c.format.ensures.text c.format.ensures.ascii
