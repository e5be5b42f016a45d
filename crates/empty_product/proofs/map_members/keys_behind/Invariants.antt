use Rattle.empty_product.specs.MemberParts.{IsRoom}
use Rattle.empty_product.proofs.map_members.keys_behind.Given as goal

abbrev pub invariant-loop-part : goal.invariant-loop-part
invariant-loop-part l = IsRoom l.keys l._part-index l.all.items
