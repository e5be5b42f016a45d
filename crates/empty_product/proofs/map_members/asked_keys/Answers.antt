use Rattle.std.proofs.Common.{◌++◌, sym, subst}
use Rattle.std.specs.Option.{option_copied}
use Rattle.empty_product.specs.Keys.{IsBehind}
use Rattle.empty_product.specs.MemberParts.{AreAskedKeys}
use Rattle.empty_product.proofs.map_members.asked_keys.Goals as goal

pub returns-in_ok-push-in-None : goal.returns-in_ok-push-in-None
returns-in_ok-push-in-None c =
    let fresh = c.in_ok-fresh-in-None.fresh in
    let behind = subst (λ ks. IsBehind ks fresh) c.as_slice.ensures.value c.in_ok-fresh-in-None.ensures in
    subst (λ n. AreAskedKeys c.args.env.now (c.args.wanted.now ++ c.args.unwanted.now) (option_copied n) c.push-in-None.new.self.items) (sym c.in-None.is)
    (c.in_ok-keys-in-None.keys.items, c.in_ok-keys-in-None.ensures, (fresh, behind, c.in_ok-push-in-None.ensures.items))
