use Rattle.sys_threads.proofs.logged.none_logged.Goals as goal

pub returns : goal.returns
returns c = c.in_ok-logged.ensures.items_if_clones_equal (λ y is. is)
