use Rattle.std.proofs.Common.{◌≡◌, rules}
use Rattle.std.specs.Fmt.{signed_decimal}
use Rattle.text_forms.proofs.Adding.{adds-ascii}
use Rattle.text_forms.proofs.add_int.Goals as goal

pub returns : goal.returns
returns c =
    let is : c.format.result.now ≡ signed_decimal c.args.n = search rules in
    adds-ascii _ _ c.format.result.now (signed_decimal c.args.n) c.in_ok-add_text.ensures is c.format.ensures.ascii
