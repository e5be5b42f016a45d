use Rattle.std.proofs.Common.{length, take}
use Rattle.type_diagrams.specs.Whole.{Extends}
use Rattle.empty_product.specs.MemberParts.{AreMembers}
use Rattle.empty_product.proofs.map_members.parts_at_keys.Given as goal

abbrev pub invariant-loop-key : goal.invariant-loop-key
invariant-loop-key g l =
    Extends (length l.context.env.now) l.fn.dia l.dia × AreMembers l.context.env.now l.dia (g.M.Member.kept l.context.m.now) l.path l.unwanted (take l.key-index l.keys) l.found
