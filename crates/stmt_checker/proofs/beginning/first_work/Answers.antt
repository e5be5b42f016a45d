use Rattle.std.proofs.Common.{refl}
use Rattle.stmt_checker.proofs.beginning.first_work.Goals as goal

pub returns : goal.returns
returns c = λ env.
    rw (c.no_site.ensures, c.nothing_done.ensures, c.in_ok-functions.ensures, c.new.ensures.items, c.new-2.ensures.items, c.new-3.ensures.items, c.new-4.ensures.items, c.new-5.ensures.items, c.new-6.ensures.items, c.new-7.ensures.items, c.new-8.ensures.items, c.new-9.ensures.items, c.new-10.ensures.items)
    refl
