use Rattle.checks_cases.proofs.filters.answer.with_name.Goals as goal

pub returns : goal.returns
returns c = record { functions = c.requires.functions; typed = c.requires.typed; light = c.requires.light; filters = c.requires.filters; protocols = c.requires.protocols }
